-- Flags of the variables that kept clauses name.
use Rattle.std.proofs.Common.{◌≡◌, ◌≢◌, ◌↔◌, ◌⊎◌, ℕ, ◌+◌, ◌-◌, ◌<◌, ◌≤◌, nat_eq, Bool, true, false, List, [], ◌∷◌, ◌++◌, zero, suc, inl, inr, ⊎_elim, length, length-set, get_or, set, map, replicate, take, drop, sym, ap, ◌∙◌, subst, refl, arith, ne_eqb}
use Rattle.std.proofs.lemmas.List.{get_or-set_same, get_or-set_other, length-replicate}
use Rattle.varisat_theory.specs.promises.Membership.{◌∈◌}
use Rattle.varisat_theory.specs.promises.Literals.{Literal, Clause, variable_of, opposite}
use Rattle.varisat_theory.proofs.clauses.Members.{equal_or_not, ∈-append_cases, ∈-append_left, ∈-append_right}
use Rattle.varisat_theory.proofs.journals.Renaming.{∈-map, map-∈}
use Rattle.varisat_clause.specs.Stored.{StoredClause, IsClauseRef, AreRising, literals_at, literals_of}
use Rattle.varisat_clause.proofs.StoredClauses.{kept-at, from-literals, stored-found}
use Rattle.varisat_analysis.specs.Flags.{IsFlagged}
use Rattle.varisat_prop.specs.View.{View, WellFormed, pairs_from}
use Rattle.varisat_prop.proofs.pairs.KeptPairs.{pair-in, implied-kept}
use Rattle.varisat_theory.proofs.clauses.Values.{variable-opposite}
use Rattle.varisat_search.specs.Forgotten.{IsMentioned, FlagsMentioned, FlagsAlso, FlagsImplying}

-- one flag is set
pub one-set : (flags : List Bool) (i v : ℕ) → i < length flags → IsFlagged (set flags i true) v ↔ (IsFlagged flags v ⊎ (v ≡ i))
one-set flags i v h = (
  λ a. ⊎_elim inr (λ n. inl (sym (get_or-set_other flags i v true false n) ∙ a)) (equal_or_not v i),
  λ o. ⊎_elim
      (λ q. ap (λ w. get_or (set flags i true) w false) q ∙ get_or-set_same flags i true false h)
      (λ n. get_or-set_other flags i v true false n ∙ ⊎_elim (λ a. a) (λ q. absurd (n q)) o)
      (equal_or_not v i),
)

-- 1. Of a clause.

pub clause-none : (flags : List Bool) → FlagsAlso ([] ∷ []) flags flags
clause-none flags = record {
  count = refl;
  flagged = λ v. (inl, λ o. ⊎_elim (λ a. a) (λ (c, i, l, h, q). absurd (⊎_elim (λ e. subst (λ d. l ∈ d) e h) (λ z. z) i)) o);
}

pub clause-more : (ls : List Literal) (l i : ℕ) (old new : List Bool) → i ≡ variable_of l → i < length new → FlagsAlso (ls ∷ []) old new →
    FlagsAlso ((ls ++ l ∷ []) ∷ []) old (set new i true)
clause-more ls l i old new e h f = record {
  count = length-set new i true ∙ f.count;
  flagged = λ v. (
    λ a. ⊎_elim
        (λ b. ⊎_elim inl (λ (c, j, m, k, q). inr (ls ++ l ∷ [], inl refl, m, ∈-append_left m ls (l ∷ []) (of-one c ls m j k), q)) ((f.flagged v).0 b))
        (λ q. inr (ls ++ l ∷ [], inl refl, l, ∈-append_right l ls (l ∷ []) (inl refl), sym e ∙ sym q))
        ((one-set new i v h).0 a),
    λ o. (one-set new i v h).1 (⊎_elim
        (λ a. inl ((f.flagged v).1 (inl a)))
        (λ (c, j, m, k, q). ⊎_elim
        (λ b. inl ((f.flagged v).1 (inr (ls, inl refl, m, b, q))))
        (λ b. inr (sym q ∙ ⊎_elim (λ r. ap variable_of r) (λ z. absurd z) b ∙ sym e))
        (∈-append_cases m ls (l ∷ []) (of-one c (ls ++ l ∷ []) m j k)))
        o),
  );
}
  where
    of-one : (c d : Clause) (m : Literal) → c ∈ (d ∷ []) → m ∈ c → m ∈ d
    of-one c d m j k = ⊎_elim (λ r. subst (λ x. m ∈ x) r k) (λ z. absurd z) j

-- 2. Of clauses in turn.

-- The flags of all clauses but those at the places that are left.
pub record FlagsBut (P : List StoredClause) (left : List ℕ) (before new : List Bool) : Type 0 where
  pub count : length new ≡ length before
  pub only : (v : ℕ) → IsFlagged new v → IsFlagged before v ⊎ IsMentioned (literals_of P) v
  pub old : (v : ℕ) → IsFlagged before v → IsFlagged new v
  pub done : (p : ℕ) (l : Literal) → IsClauseRef P p → l ∈ literals_at P p → (p ∈ left) ⊎ IsFlagged new (variable_of l)
  pub places : (p : ℕ) → p ∈ left → IsClauseRef P p

pub but-all : (P : List StoredClause) (flags : List Bool) → FlagsBut P (map (λ k. k.place) P) flags flags
but-all P flags = record {
  count = refl;
  only = λ v a. inl a;
  old = λ v a. a;
  done = λ p l (k, a, f) h. inl (subst (λ x. x ∈ map (λ k. k.place) P) f (∈-map (λ (k : StoredClause). k.place) k P a));
  places = λ p h. let (k, a, e) = map-∈ (λ (k : StoredClause). k.place) p P h in (k, a, sym e);
}

-- those of the clause at the first place that is left were set, too
pub but-next : (P : List StoredClause) (p : ℕ) (left : List ℕ) (old mid new : List Bool) → FlagsBut P (p ∷ left) old mid →
    FlagsAlso (literals_at P p ∷ []) mid new → FlagsBut P left old new
but-next P p left old mid new b f = record {
  count = f.count ∙ b.count;
  only = λ v a. ⊎_elim (b.only v)
      (λ (c, i, l, h, q). inr (literals_at P p, kept-at P p (b.places p (inl refl)), l, ⊎_elim (λ e. subst (λ d. l ∈ d) e h) (λ z. absurd z) i, q))
      ((f.flagged v).0 a);
  old = λ v a. (f.flagged v).1 (inl (b.old v a));
  done = λ q l h i. ⊎_elim
      (λ j. ⊎_elim
      (λ e. inr ((f.flagged (variable_of l)).1 (inr (literals_at P p, inl refl, l, subst (λ r. l ∈ literals_at P r) e i, refl))))
      inl
      j)
      (λ a. inr ((f.flagged (variable_of l)).1 (inl a)))
      (b.done q l h i);
  places = λ q h. b.places q (inr h);
}

pub but-none : (P : List StoredClause) (old new : List Bool) → AreRising P → FlagsBut P [] old new → FlagsAlso (literals_of P) old new
but-none P old new r b = record {
  count = b.count;
  flagged = λ v. (
    b.only v,
    λ o. ⊎_elim
        (b.old v)
        (λ (c, i, l, h, q).
        let (k, a, e) = from-literals P c i in
        let at = ap (λ (x : StoredClause). x.literals) (stored-found P r k a) ∙ e in
        subst (IsFlagged new) q (⊎_elim (λ z. absurd z) (λ f. f) (b.done k.place l (k, a, refl) (subst (λ d. l ∈ d) (sym at) h))))
        o,
  );
}

-- 3. Of clauses of two literals.

-- The flags of the variables of which one of the first so many literals implies others.
pub record ImplyingBelow (size : ℕ) (B : List (List Literal)) (old new : List Bool) : Type 0 where
  pub count : length new ≡ length old
  pub flagged : (v : ℕ) → IsFlagged new v ↔ (IsFlagged old v ⊎ ((l m : Literal) × (l < size) × (m ∈ get_or B l []) × (variable_of l ≡ v)))

pub below-none : (B : List (List Literal)) (flags : List Bool) → ImplyingBelow 0 B flags flags
below-none B flags = record { count = refl; flagged = λ v. (inl, λ o. ⊎_elim (λ a. a) (λ (l, m, b, h, q). absurd (omega (arith, b))) o) }

-- the next literal implies none
pub below-empty : (size : ℕ) (B : List (List Literal)) (old new : List Bool) → get_or B size [] ≡ [] → ImplyingBelow size B old new →
    ImplyingBelow (size + 1) B old new
below-empty size B old new e f = record {
  count = f.count;
  flagged = λ v. (
    λ a. ⊎_elim inl (λ (l, m, b, h, q). inr (l, m, omega (arith, b), h, q)) ((f.flagged v).0 a),
    λ o. ⊎_elim
        (λ a. (f.flagged v).1 (inl a))
        (λ (l, m, b, h, q). ⊎_elim
        (λ r. absurd (subst (λ ms. m ∈ ms) (ap (λ k. get_or B k []) r ∙ e) h))
        (λ n. (f.flagged v).1 (inr (l, m, grind (arith, b, n), h, q)))
        (equal_or_not l size))
        o,
  );
}

-- the next literal implies some
pub below-more : (size i : ℕ) (B : List (List Literal)) (old new : List Bool) → get_or B size [] ≢ [] → i ≡ variable_of size → i < length new →
    ImplyingBelow size B old new → ImplyingBelow (size + 1) B old (set new i true)
below-more size i B old new e same h f = record {
  count = length-set new i true ∙ f.count;
  flagged = λ v. (
    λ a. ⊎_elim
        (λ b. ⊎_elim inl (λ (l, m, b, h, q). inr (l, m, omega (arith, b), h, q)) ((f.flagged v).0 b))
        (λ q. let (m, j) = some-member (get_or B size []) e in inr (size, m, omega arith, j, sym same ∙ sym q))
        ((one-set new i v h).0 a),
    λ o. (one-set new i v h).1 (⊎_elim
        (λ a. inl ((f.flagged v).1 (inl a)))
        (λ (l, m, b, h, q). ⊎_elim
        (λ r. inr (sym q ∙ ap variable_of r ∙ sym same))
        (λ n. inl ((f.flagged v).1 (inr (l, m, grind (arith, b, n), h, q))))
        (equal_or_not l size))
        o),
  );
}
  where
    some-member : (ms : List Literal) → ms ≢ [] → (m : Literal) × (m ∈ ms)
    some-member [] n = absurd (n refl)
    some-member (m ∷ ms) n = (m, inl refl)

pub below-all : (size : ℕ) (B : List (List Literal)) (old new : List Bool) → length B ≤ size → ImplyingBelow size B old new → FlagsImplying B old new
below-all size B old new a f = record {
  count = f.count;
  flagged = λ v. (
    λ b. ⊎_elim inl (λ (l, m, c, h, q). inr (l, m, h, q)) ((f.flagged v).0 b),
    λ o. (f.flagged v).1 (⊎_elim inl (λ (l, m, h, q). let b = listed-below B l m h in inr (l, m, omega (arith, a, b), h, q)) o),
  );
}
  where
    listed-below : (B : List (List Literal)) (l m : Literal) → m ∈ get_or B l [] → l < length B
    listed-below [] l m h = absurd h
    listed-below (ms ∷ B) zero m h = omega arith
    listed-below (ms ∷ B) (suc l) m h = let b = listed-below B l m h in omega (arith, b)

-- 4. Of all kept clauses.

none-flagged : (n v : ℕ) → IsFlagged (replicate n false) v → ⊥
none-flagged zero v e = let z : false ≡ true = e in cc
none-flagged (suc n) zero e = let z : false ≡ true = e in cc
none-flagged (suc n) (suc v) e = none-flagged n v e

pub all-flagged : (s : View) (none mid new : List Bool) → WellFormed s → none ≡ replicate (length s.values) false →
    FlagsAlso (literals_of s.clauses) none mid → FlagsImplying s.binary mid new → FlagsMentioned s new
all-flagged s none mid new w start f g = record {
  count = g.count ∙ f.count ∙ ap length start ∙ length-replicate (length s.values) false;
  flagged = λ v. (
    λ a. ⊎_elim
        (λ b. ⊎_elim
        (λ c. absurd (none-flagged (length s.values) v (subst (λ fs. IsFlagged fs v) start c)))
        (λ (c, i, l, h, q). (c, ∈-append_left c (literals_of s.clauses) (pairs_from 0 s.binary) i, l, h, q))
        ((f.flagged v).0 b))
        (λ (l, m, i, q). let (d, j, e) = implied-kept s w l m i in (d, j, opposite l, e.1 (opposite l) (inr (inl refl)), variable-opposite l ∙ q))
        ((g.flagged v).0 a),
    λ (c, i, l, h, q). (g.flagged v).1 (⊎_elim
        (λ j. inl ((f.flagged v).1 (inr (c, j, l, h, q))))
        (λ j.
        let (k, m, a, e) = pair-in s.binary 0 c j in
        inr (⊎_elim
        (λ r. (k, m, a, sym (variable-opposite k) ∙ ap variable_of (sym r) ∙ q))
        (λ r. (opposite m, opposite k, w.binary_back k m a, variable-opposite m ∙ ⊎_elim (λ t. ap variable_of (sym t)) (λ z. absurd z) r ∙ q))
        (subst (λ d. l ∈ d) e h)))
        (∈-append_cases c (literals_of s.clauses) (pairs_from 0 s.binary) i)),
  );
}

-- a list that was lent, of the same length as before
pub lent-back : (size : ℕ) (new old : List Bool) → length new ≡ size → take size (new ++ drop (length new) old) ≡ new
lent-back size new old e = subst (λ n. take n (new ++ drop (length new) old) ≡ new) e (first new (drop (length new) old))
  where
    first : (xs ys : List Bool) → take (length xs) (xs ++ ys) ≡ xs
    first [] ys = refl
    first (x ∷ xs) ys = ap (λ zs. x ∷ zs) (first xs ys)

pub is-empty : (ms : List Literal) → nat_eq (length ms) 0 ≡ true → ms ≡ []
is-empty [] e = refl
is-empty (m ∷ ms) e = absurd (let q : true ≡ false = sym e ∙ ne_eqb (suc (length ms)) 0 (λ z. absurd (omega (arith, z))) in cc)

pub is-not-empty : (ms : List Literal) → nat_eq (length ms) 0 ≡ false → ms ≢ []
is-not-empty ms e q = let z : true ≡ false = sym (ap (λ ns. nat_eq (length {A = Literal} ns) 0) q) ∙ e in cc

abbrev none_flags : List Bool
none_flags = []

-- a list that was empty was made longer
pub made-anew : (n m : ℕ) (old : List Bool) → old ≡ [] → m ≡ 0 → take n old ++ replicate (n - m) false ≡ replicate n false
made-anew n m old e z = ap (λ xs. take n xs ++ replicate (n - m) false) e ∙ ap (λ xs. xs ++ replicate (n - m) false) (none n)
    ∙ ap (λ k. replicate k false) (omega (arith, z))
  where
    none : (n : ℕ) → take n [] ≡ none_flags
    none zero = refl
    none (suc n) = refl
