-- The clauses that are kept after a simplification: the same as those that its lines leave, in another order.
use Rattle.std.proofs.Common.{◌≡◌, ℕ, ◌<◌, Bool, true, false, not, ◌&&◌, cond, Option, List, [], ◌∷◌, ◌++◌, length, get_or, take, map, ◌+◌, ◌⊎◌, inl, inr, ⊎_elim, refl, sym, ap, ap₂, ◌∙◌, subst, append_assoc, arith}
use Rattle.std.specs.Prelude.{nat_le}
use Rattle.std.specs.List.{filter}
use Rattle.std.proofs.lemmas.List.{take_more}
use Rattle.varisat_theory.specs.promises.Membership.{◌∈◌, ◌⊆◌, SameSet}
use Rattle.varisat_theory.specs.promises.Literals.{Literal, Clause}
use Rattle.varisat_theory.specs.promises.Held.{SameClauses}
use Rattle.varisat_theory.specs.promises.Searches.{KeptClause, Search, clauses_of}
use Rattle.varisat_theory.specs.inside.Outcomes.{Proves}
use Rattle.varisat_theory.proofs.clauses.Members.{∈-append_left, ∈-append_right, ∈-append_cases}
use Rattle.varisat_theory.proofs.clauses.Held.{same_set-self, same_set-back, same_clauses-self, same_clauses-through, same_clauses_find}
use Rattle.varisat_theory.proofs.steps.SearchFits.{same_insert, same_front, same_equal}
use Rattle.varisat_theory.proofs.steps.StepChanges.{moves_prove}
use Rattle.varisat_clause.specs.Stored.{StoredClause, literals_of}
use Rattle.varisat_prop.specs.Pairs.{with_pair}
use Rattle.varisat_prop.specs.View.{pairs_from}
use Rattle.varisat_prop.specs.Watches.{literal_in}
use Rattle.varisat_prop.proofs.pairs.PairAdded.{inserts-pair, adds-pair}
use Rattle.varisat_analysis.specs.HeaderChanges.{kept_clause}
use Rattle.varisat_search.specs.Seen.{kept_pair}
use Rattle.varisat_search.specs.Simplifications.{has_true, unassigned, shortened_to, stays_long, becomes_pair, left_long, left_pairs, with_pairs, IsPairIn}
use Rattle.varisat_search.proofs.simplifying.SimplifiedLines.{left_of, left_each}
use Rattle.varisat_search.proofs.stepping.ViewSearch.{seen_pairs}

-- 1. Clauses of two literals join others.

pub longer-pair : (B C : List (List Literal)) (c : Clause) → length C ≡ length B → IsPairIn B c → IsPairIn C c
longer-pair B C c e q = record { is = q.is; first = let h = q.first in omega (arith, h, e); second = let h = q.second in omega (arith, h, e); other = q.other }

pub joined-count : (B : List (List Literal)) (c : Clause) → IsPairIn B c → length (with_pair B (literal_in c 0) (literal_in c 1)) ≡ length B
joined-count B c q = (adds-pair B (literal_in c 0) (literal_in c 1) q.first q.second).count

pub pairs-same : (B : List (List Literal)) (cs : List Clause) → ((c : Clause) → c ∈ cs → IsPairIn B c) →
    SameClauses (cs ++ pairs_from 0 B) (pairs_from 0 (with_pairs B cs))
pairs-same B [] f = same_clauses-self (pairs_from 0 B)
pairs-same B (c ∷ cs) f =
    let q = f c (inl refl) in
    let C = with_pair B (literal_in c 0) (literal_in c 1) in
    let (p, i, same, is) = inserts-pair B (literal_in c 0) (literal_in c 1) q.first q.second q.other in
    let here : SameSet c p = subst (λ d. SameSet d p) (sym q.is) (same_set-back p (literal_in c 0 ∷ literal_in c 1 ∷ []) same) in
    let one : SameClauses (c ∷ (cs ++ (i.front ++ i.back))) ((cs ++ i.front) ++ p ∷ i.back) =
    same_insert [] (cs ++ (i.front ++ i.back)) (cs ++ i.front) i.back c p here
    (same_equal (cs ++ (i.front ++ i.back)) ((cs ++ i.front) ++ i.back) (sym (append_assoc cs i.front i.back))) in
    let two : SameClauses (c ∷ (cs ++ pairs_from 0 B)) (cs ++ pairs_from 0 C) =
    subst (λ x. SameClauses (c ∷ (cs ++ x)) (cs ++ pairs_from 0 C)) (sym i.old)
    (subst (SameClauses (c ∷ (cs ++ (i.front ++ i.back)))) (append_assoc cs i.front (p ∷ i.back) ∙ ap (λ x. cs ++ x) (sym i.new)) one) in
    same_clauses-through (c ∷ (cs ++ pairs_from 0 B)) (cs ++ pairs_from 0 C) (pairs_from 0 (with_pairs C cs)) two
    (pairs-same C cs (λ d j. longer-pair B C d (joined-count B c q) (f d (inr j))))

with-pairs-more : (B : List (List Literal)) (cs : List Clause) (c : Clause) →
    with_pairs B (cs ++ c ∷ []) ≡ with_pair (with_pairs B cs) (literal_in c 0) (literal_in c 1)
with-pairs-more B [] c = refl
with-pairs-more B (d ∷ cs) c = with-pairs-more (with_pair B (literal_in d 0) (literal_in d 1)) cs c

pub joined-on : (B C : List (List Literal)) (cs : List Clause) (c : Clause) → C ≡ with_pairs B cs →
    with_pair C (literal_in c 0) (literal_in c 1) ≡ with_pairs B (cs ++ c ∷ [])
joined-on B C cs c e = ap (λ D. with_pair D (literal_in c 0) (literal_in c 1)) e ∙ sym (with-pairs-more B cs c)

-- one more element of a list that is read
pub next-taken : (cs : List Clause) (i : ℕ) (c : Clause) → i < length cs → c ≡ get_or cs i c → take i cs ++ c ∷ [] ≡ take (i + 1) cs
next-taken cs i c h e = ap (λ d. take i cs ++ d ∷ []) e ∙ sym (take_more cs i c h)

-- 2. What the lines leave, those of three literals or more first.
module _ (values : List (Option Bool)) where
  -- a clause is satisfied, stays in the store, or becomes one of two literals
  abbrev Sorted : StoredClause → List StoredClause → Type 0
  Sorted k ks = ((left_of values k ≡ []) × (left_long values (k ∷ ks) ≡ left_long values ks) × (left_pairs values (k ∷ ks) ≡ left_pairs values ks))
      ⊎ (((left_of values k ≡ kept_clause (shortened_to (unassigned values k.literals) k) ∷ [])
      × (left_long values (k ∷ ks) ≡ shortened_to (unassigned values k.literals) k ∷ left_long values ks)
      × (left_pairs values (k ∷ ks) ≡ left_pairs values ks))
      ⊎ ((left_of values k ≡ kept_pair (unassigned values k.literals) ∷ []) × (left_long values (k ∷ ks) ≡ left_long values ks)
      × (left_pairs values (k ∷ ks) ≡ unassigned values k.literals ∷ left_pairs values ks)))

  module _ (k : StoredClause) (ks : List StoredClause) where
    abbrev cut : StoredClause → StoredClause
    cut = λ k. shortened_to (unassigned values k.literals) k

    abbrev open-literals : StoredClause → Clause
    open-literals = λ k. unassigned values k.literals

    abbrev longs : List StoredClause
    longs = filter (λ k. stays_long values k.literals) ks

    abbrev pairs : List StoredClause
    pairs = filter (λ k. becomes_pair values k.literals) ks

    abbrev here : Bool → Bool → List KeptClause
    here b d = cond b [] (cond d (kept_clause (cut k)) (kept_pair (open-literals k)) ∷ [])

    abbrev first : Bool → Bool → List StoredClause
    first b d = map cut (cond (not b && d) (k ∷ longs) longs)

    abbrev second : Bool → Bool → List Clause
    second b d = map open-literals (cond (not b && not d) (k ∷ pairs) pairs)

    sorted-if : (b d : Bool) → ((here b d ≡ []) × (first b d ≡ map cut longs) × (second b d ≡ map open-literals pairs))
        ⊎ (((here b d ≡ kept_clause (cut k) ∷ []) × (first b d ≡ cut k ∷ map cut longs) × (second b d ≡ map open-literals pairs))
        ⊎ ((here b d ≡ kept_pair (open-literals k) ∷ []) × (first b d ≡ map cut longs) × (second b d ≡ open-literals k ∷ map open-literals pairs)))
    sorted-if true d = inl (refl, refl, refl)
    sorted-if false true = inr (inl (refl, refl, refl))
    sorted-if false false = inr (inr (refl, refl, refl))

    sorted : Sorted k ks
    sorted = sorted-if (has_true values k.literals) (nat_le 3 (length (unassigned values k.literals)))

  abbrev sides : List StoredClause → List Clause
  sides ks = literals_of (left_long values ks) ++ left_pairs values ks

  each-same : (ks : List StoredClause) → SameClauses (clauses_of (left_each values ks)) (sides ks)
  each-same [] = refl
  each-same (k ∷ ks) = go (sorted k ks) (each-same ks)
    where
      put : (h : List KeptClause) (a : List StoredClause) (b : List Clause) → left_of values k ≡ h → left_long values (k ∷ ks) ≡ a →
          left_pairs values (k ∷ ks) ≡ b → SameClauses (clauses_of (h ++ left_each values ks)) (literals_of a ++ b) →
          SameClauses (clauses_of (left_of values k ++ left_each values ks)) (sides (k ∷ ks))
      put h a b e f g r =
          subst (λ x. SameClauses (clauses_of (x ++ left_each values ks)) (sides (k ∷ ks))) (sym e)
          (subst (λ x. SameClauses (clauses_of (h ++ left_each values ks)) (literals_of x ++ left_pairs values (k ∷ ks))) (sym f)
          (subst (λ x. SameClauses (clauses_of (h ++ left_each values ks)) (literals_of a ++ x)) (sym g) r))

      go : Sorted k ks → SameClauses (clauses_of (left_each values ks)) (sides ks) →
          SameClauses (clauses_of (left_of values k ++ left_each values ks)) (sides (k ∷ ks))
      go (inl (e, f, g)) r = put [] (left_long values ks) (left_pairs values ks) e f g r
      go (inr (inl (e, f, g))) r =
          put (kept_clause (shortened_to (unassigned values k.literals) k) ∷ [])
          (shortened_to (unassigned values k.literals) k ∷ left_long values ks) (left_pairs values ks) e f g
          (sides ks, ([], unassigned values k.literals, sides ks, refl, same_set-self (unassigned values k.literals), refl), r)
      go (inr (inr (e, f, g))) r =
          put (kept_pair (unassigned values k.literals) ∷ []) (left_long values ks) (unassigned values k.literals ∷ left_pairs values ks) e f g
          (same_insert [] (clauses_of (left_each values ks)) (literals_of (left_long values ks)) (left_pairs values ks)
          (unassigned values k.literals) (unassigned values k.literals) (same_set-self (unassigned values k.literals)) r)

  abbrev Known : List StoredClause → KeptClause → Type 0
  Known ks j = (j ∈ map kept_clause (left_long values ks)) ⊎ ((c : Clause) × (c ∈ left_pairs values ks) × (j ≡ kept_pair c))

  each-from : (ks : List StoredClause) (j : KeptClause) → j ∈ left_each values ks → Known ks j
  each-from [] j h = absurd h
  each-from (k ∷ ks) j h = go (sorted k ks) (each-from ks j) (∈-append_cases j (left_of values k) (left_each values ks) h)
    where
      later : (j ∈ left_each values ks → Known ks j) → (a : List StoredClause) (b : List Clause) → left_long values (k ∷ ks) ≡ a →
          left_pairs values (k ∷ ks) ≡ b → left_long values ks ⊆ a → left_pairs values ks ⊆ b → j ∈ left_each values ks → Known (k ∷ ks) j
      later r a b f g u v i =
          ⊎_elim
          (λ o. inl (subst (λ x. j ∈ map kept_clause x) (sym f) (map-⊆ (left_long values ks) a u o)))
          (λ (c, o, e). inr (c, subst (λ x. c ∈ x) (sym g) (v c o), e))
          (r i)
        where
          in-map : (k : StoredClause) (ys : List StoredClause) → k ∈ ys → kept_clause k ∈ map kept_clause ys
          in-map k [] o = absurd o
          in-map k (y ∷ ys) (inl e) = inl (ap kept_clause e)
          in-map k (y ∷ ys) (inr o) = inr (in-map k ys o)

          map-⊆ : (xs ys : List StoredClause) → xs ⊆ ys → j ∈ map kept_clause xs → j ∈ map kept_clause ys
          map-⊆ [] ys u o = absurd o
          map-⊆ (x ∷ xs) ys u (inl e) = subst (λ z. z ∈ map kept_clause ys) (sym e) (in-map x ys (u x (inl refl)))
          map-⊆ (x ∷ xs) ys u (inr o) = map-⊆ xs ys (λ z i. u z (inr i)) o

      go : Sorted k ks → (j ∈ left_each values ks → Known ks j) → (j ∈ left_of values k) ⊎ (j ∈ left_each values ks) → Known (k ∷ ks) j
      go (inl (e, f, g)) r (inl i) = absurd (subst (λ x. j ∈ x) e i)
      go (inl (e, f, g)) r (inr i) = later r (left_long values ks) (left_pairs values ks) f g (λ x o. o) (λ x o. o) i
      go (inr (inl (e, f, g))) r (inl i) = inl (subst (λ x. j ∈ map kept_clause x) (sym f) (⊎_elim (λ q. inl q) (λ z. absurd z) (subst (λ x. j ∈ x) e i)))
      go (inr (inl (e, f, g))) r (inr i) = later r (shortened_to (unassigned values k.literals) k ∷ left_long values ks) (left_pairs values ks) f g
          (λ x o. inr o) (λ x o. o) i
      go (inr (inr (e, f, g))) r (inl i) =
          inr (
            unassigned values k.literals,
            subst (λ x. unassigned values k.literals ∈ x) (sym g) (inl refl),
            ⊎_elim (λ q. q) (λ z. absurd z)
                (subst (λ x. j ∈ x) e i),
          )
      go (inr (inr (e, f, g))) r (inr i) = later r (left_long values ks) (unassigned values k.literals ∷ left_pairs values ks) f g (λ x o. o) (λ x o. inr o) i

-- 3. The search that the lines lead to is the one that is seen then.
clauses-append : (xs ys : List KeptClause) → clauses_of (xs ++ ys) ≡ clauses_of xs ++ clauses_of ys
clauses-append [] ys = refl
clauses-append (x ∷ xs) ys = ap (λ cs. x.clause ∷ cs) (clauses-append xs ys)

seen-stored : (ks : List StoredClause) → clauses_of (map kept_clause ks) ≡ literals_of ks
seen-stored [] = refl
seen-stored (k ∷ ks) = ap (λ cs. k.literals ∷ cs) (seen-stored ks)

pair-there : (cs : List Clause) (c : Clause) → c ∈ cs → kept_pair c ∈ map kept_pair cs
pair-there [] c h = absurd h
pair-there (d ∷ cs) c (inl e) = inl (ap kept_pair e)
pair-there (d ∷ cs) c (inr h) = inr (pair-there cs c h)

pair-from : (cs : List Clause) (j : KeptClause) → j ∈ map kept_pair cs → (c : Clause) × (c ∈ cs) × (j ≡ kept_pair c)
pair-from [] j h = absurd h
pair-from (d ∷ cs) j (inl e) = (d, inl refl, e)
pair-from (d ∷ cs) j (inr h) = let (c, i, e) = pair-from cs j h in (c, inr i, e)

module _ (values : List (Option Bool)) (ks : List StoredClause) (B : List (List Literal)) (pairs : (c : Clause) → c ∈ left_pairs values ks → IsPairIn B c) where
  abbrev C : List (List Literal)
  C = with_pairs B (left_pairs values ks)

  abbrev mixed : List KeptClause
  mixed = left_each values ks ++ map kept_pair (pairs_from 0 B)

  abbrev apart : List KeptClause
  apart = map kept_clause (left_long values ks) ++ map kept_pair (pairs_from 0 C)

  mixed-same : SameClauses (clauses_of mixed) (clauses_of apart)
  mixed-same =
      let L = literals_of (left_long values ks) in
      let P = left_pairs values ks in
      let Q = pairs_from 0 B in
      let a : clauses_of mixed ≡ clauses_of (left_each values ks) ++ Q = clauses-append (left_each values ks) (map kept_pair Q)
      ∙ ap (λ x. clauses_of (left_each values ks) ++ x) (seen_pairs Q) in
      let b : clauses_of apart ≡ L ++ pairs_from 0 C = clauses-append (map kept_clause (left_long values ks)) (map kept_pair (pairs_from 0 C))
      ∙ ap₂ (λ (x y : List Clause). x ++ y) (seen-stored (left_long values ks)) (seen_pairs (pairs_from 0 C)) in
      let c : SameClauses (clauses_of (left_each values ks) ++ Q) ((L ++ P) ++ Q) =
      same_front (clauses_of (left_each values ks)) (L ++ P) Q (each-same values ks) in
      let d : SameClauses (L ++ (P ++ Q)) (L ++ pairs_from 0 C) = behind L (P ++ Q) (pairs_from 0 C) (pairs-same B P pairs) in
      subst (λ x. SameClauses x (clauses_of apart)) (sym a)
      (subst (SameClauses (clauses_of (left_each values ks) ++ Q)) (sym b)
      (same_clauses-through (clauses_of (left_each values ks) ++ Q) ((L ++ P) ++ Q) (L ++ pairs_from 0 C) c
      (subst (λ x. SameClauses x (L ++ pairs_from 0 C)) (sym (append_assoc L P Q)) d)))
    where
      behind : (L X Y : List Clause) → SameClauses X Y → SameClauses (L ++ X) (L ++ Y)
      behind [] X Y h = h
      behind (l ∷ L) X Y h = (L ++ Y, ([], l, L ++ Y, refl, same_set-self l, refl), behind L X Y h)

  mixed-seen : (k : KeptClause) → k ∈ mixed → k.learned ≡ false → (j : KeptClause) × (j ∈ apart) × (j.learned ≡ false) × (j.clause ⊆ k.clause)
  mixed-seen k h e =
      let M = map kept_clause (left_long values ks) in
      let N = map kept_pair (pairs_from 0 C) in
      let pair : (c : Clause) → c ∈ (left_pairs values ks ++ pairs_from 0 B) → k ≡ kept_pair c → (j : KeptClause) × (j ∈ apart)
      × (j.learned ≡ false) × (j.clause ⊆ k.clause) = λ c i q.
      let (d, o, s) = same_clauses_find (left_pairs values ks ++ pairs_from 0 B) (pairs_from 0 C) (pairs-same B (left_pairs values ks) pairs) c i in
      (kept_pair d, ∈-append_right (kept_pair d) M N (pair-there (pairs_from 0 C) d o), refl, λ l x. subst (λ z. l ∈ z.clause) (sym q) (s.0 l x)) in
      ⊎_elim
      (λ i. ⊎_elim
      (λ o. (k, ∈-append_left k M N o, e, λ l x. x))
      (λ (c, o, q). pair c (∈-append_left c (left_pairs values ks) (pairs_from 0 B) o) q)
      (each-from values ks k i))
      (λ i. let (c, o, q) = pair-from (pairs_from 0 B) k i in pair c (∈-append_right c (left_pairs values ks) (pairs_from 0 B) o) q)
      (∈-append_cases k (left_each values ks) (map kept_pair (pairs_from 0 B)) h)

  pub mixed-prove : (s : Search) → Proves 0 (record s { kept = mixed }) (record s { kept = apart }) []
  mixed-prove s = moves_prove (record s { kept = mixed }) (record s { kept = apart }) mixed-same mixed-seen (λ l i. i) (λ l i. i) (λ l i. inl i)
