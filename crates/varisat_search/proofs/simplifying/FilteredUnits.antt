-- What a filter leaves of the clauses of a store where satisfied clauses and false literals go.
use Rattle.std.proofs.Common.{◌≡◌, ℕ, ◌<◌, ◌≤◌, ◌⊎◌, inl, inr, Bool, true, false, not, ◌&&◌, cond, Option, List, [], ◌∷◌, ◌++◌, length, get_or, map, ⊎_elim, refl, sym, ap, ap₂, ◌∙◌, subst, append_assoc, arith}
use Rattle.std.specs.Prelude.{nat_le}
use Rattle.std.specs.List.{filter}
use Rattle.std.proofs.lemmas.List.{append-nil}
use Rattle.std.proofs.lemmas.Bool.{cases_Bool, le-leb}
use Rattle.varisat_theory.specs.promises.Membership.{◌∈◌, ◌⊆◌}
use Rattle.varisat_theory.specs.promises.Literals.{Literal, Clause, opposite}
use Rattle.varisat_theory.proofs.clauses.Places.{∈-get_or}
use Rattle.varisat_theory.proofs.clauses.Members.{∈-append_left, ∈-append_right, ∈-append_cases}
use Rattle.varisat_clause.specs.Stored.{StoredClause, IsClauseRef}
use Rattle.varisat_clause.specs.Collected.{live_of}
use Rattle.varisat_clause.specs.Filters.{left_if, FiltersOne, Filters}
use Rattle.varisat_clause.specs.Filters.FiltersOne.{PassesOver, ComesTo}
use Rattle.varisat_prop.specs.Parts.{IsMadeTrue}
use Rattle.varisat_prop.specs.Simplified.{are_unassigned}
use Rattle.varisat_prop.proofs.watching.WatchesHold.{two}
use Rattle.varisat_search.specs.Simplifications.{has_true, unassigned, shortened_to, stays_long, becomes_pair, left_long, left_pairs, LeavesOpen, NotesWatches}
use Rattle.varisat_search.proofs.simplifying.UnassignedLiterals.{some-true, true-there}

-- 1. One clause.

-- it is read as d
abbrev HasTrue : List (Option Bool) → Clause → Type 0
HasTrue values d = (l : Literal) × (l ∈ d) × IsMadeTrue values l

module _ (values : List (Option Bool)) (d c : Clause) (is : d ≡ c) where
  pub satisfied-read : HasTrue values d → has_true values c ≡ true
  satisfied-read (l, i, h) = true-there values c l (subst (λ x. l ∈ x) is i) h

  pub unsatisfied-read : (HasTrue values d → ⊥) → has_true values c ≡ false
  unsatisfied-read n = ⊎_elim (λ e. let (l, i, h) = some-true values c e in absurd (n (l, subst (λ x. l ∈ x) (sym is) i, h))) (λ e. e)
      (cases_Bool (has_true values c))

-- a filter leaves no more elements
pub filter-short : (p : ℕ → Bool) (xs : List ℕ) → length (filter p xs) ≤ length xs
filter-short p [] = omega arith
filter-short p (x ∷ xs) = go (p x) (filter-short p xs)
  where
    go : (b : Bool) → length (filter p xs) ≤ length xs → length (cond b (x ∷ filter p xs) (filter p xs)) ≤ length (x ∷ xs)
    go true h = omega (arith, h)
    go false h = omega (arith, h)

-- a list of two elements
pub two-elements : (xs : List ℕ) → length xs ≡ 2 → (get_or xs 0 0 ∷ get_or xs 1 0 ∷ []) ≡ xs
two-elements [] e = absurd cc
two-elements (x ∷ []) e = absurd (omega (arith, e))
two-elements (x ∷ y ∷ []) e = refl
two-elements (x ∷ y ∷ z ∷ zs) e = absurd (omega (arith, e))

module _ (values : List (Option Bool)) (k : StoredClause) (before : List Clause) where
  long-if : (b : Bool) → stays_long values k.literals ≡ b → left_long values (k ∷ []) ≡ cond b (shortened_to (unassigned values k.literals) k ∷ []) []
  long-if b e = go (stays_long values k.literals) e
    where
      go : (a : Bool) → a ≡ b → map (λ (k : StoredClause). shortened_to (unassigned values k.literals) k) (cond a (k ∷ []) []) ≡ cond b
          (shortened_to (unassigned values k.literals) k ∷ []) []
      go true e = ap (λ (x : Bool). cond x (shortened_to (unassigned values k.literals) k ∷ []) []) e
      go false e = ap (λ (x : Bool). cond x (shortened_to (unassigned values k.literals) k ∷ []) []) e

  pairs-if : (b : Bool) → becomes_pair values k.literals ≡ b → left_pairs values (k ∷ []) ≡ cond b (unassigned values k.literals ∷ []) []
  pairs-if b e = go (becomes_pair values k.literals) e
    where
      go : (a : Bool) → a ≡ b → map (λ (k : StoredClause). unassigned values k.literals) (cond a (k ∷ []) []) ≡ cond b (unassigned values k.literals ∷ []) []
      go true e = ap (λ (x : Bool). cond x (unassigned values k.literals ∷ []) []) e
      go false e = ap (λ (x : Bool). cond x (unassigned values k.literals ∷ []) []) e

  -- it is satisfied
  pub leaves-none : (j : StoredClause) → has_true values k.literals ≡ true → LeavesOpen values k (left_if false j) before before
  leaves-none j e = record {
    long = sym (long-if false (ap (λ b. not b && nat_le 3 (length (unassigned values k.literals))) e));
    pairs = sym (append-nil before)
        ∙ ap (λ cs. before ++ cs) (sym (pairs-if false (ap (λ b. not b && not (nat_le 3 (length (unassigned values k.literals)))) e)));
  }

  -- two literals are left
  pub leaves-pair : (j : StoredClause) (after : List Clause) → has_true values k.literals ≡ false → length (unassigned values k.literals) ≡ 2 →
      after ≡ before ++ unassigned values k.literals ∷ [] → LeavesOpen values k (left_if false j) before after
  leaves-pair j after e n a = record {
    long = sym (long-if false (ap₂ (λ (b d : Bool). not b && d) e (ap (λ (m : ℕ). nat_le 3 m) n)));
    pairs = a ∙ ap (λ cs. before ++ cs) (sym (pairs-if true (ap₂ (λ (b d : Bool). not b && not d) e (ap (λ (m : ℕ). nat_le 3 m) n))));
  }

  -- three or more are left
  pub leaves-long : (j : StoredClause) → has_true values k.literals ≡ false → 3 ≤ length (unassigned values k.literals) → k.header.deleted ≡ false →
      j ≡ shortened_to (unassigned values k.literals) k → LeavesOpen values k (left_if true j) before before
  leaves-long j e n live is =
      let t = le-leb 3 (length (unassigned values k.literals)) n in
      let u = unassigned values k.literals in
      record {
        long = ap (λ (x : StoredClause). left_if true x ∷ []) is
            ∙ ap (λ (b : Bool). (record { place = k.place; header = record k.header { len = length u; deleted = b }; literals = u }) ∷ []) (sym live)
            ∙ sym (long-if true (ap₂ (λ (b d : Bool). not b && d) e t));
        pairs = sym (append-nil before) ∙ ap (λ cs. before ++ cs) (sym (pairs-if false (ap₂ (λ (b d : Bool). not b && not d) e t)));
      }

  -- a clause of which no literal goes
  pub not-shortened : k.header.len ≡ length k.literals → unassigned values k.literals ≡ k.literals → k ≡ shortened_to (unassigned values k.literals) k
  not-shortened n e =
      ap (λ (m : ℕ). record k { header = record k.header { len = m } }) n
      ∙ ap (λ (c : Clause). record { place = k.place; header = record k.header { len = length c }; literals = c }) (sym e)

-- 2. All clauses.

live-first : (j : StoredClause) (js : List StoredClause) → live_of (j ∷ js) ≡ live_of (j ∷ []) ++ live_of js
live-first j js = go j.header.deleted
  where
    go : (b : Bool) → cond b (live_of js) (j ∷ live_of js) ≡ cond b [] (j ∷ []) ++ live_of js
    go true = refl
    go false = refl

module _ (values : List (Option Bool)) where
  long-first : (k : StoredClause) (ks : List StoredClause) → left_long values (k ∷ ks) ≡ left_long values (k ∷ []) ++ left_long values ks
  long-first k ks = go (stays_long values k.literals)
    where
      go : (b : Bool) → map (λ (k : StoredClause). shortened_to (unassigned values k.literals) k)
          (cond b (k ∷ filter (λ k. stays_long values k.literals) ks) (filter (λ k. stays_long values k.literals) ks)) ≡ map
          (λ (k : StoredClause). shortened_to (unassigned values k.literals) k) (cond b (k ∷ []) []) ++ left_long values ks
      go true = refl
      go false = refl

  pairs-first : (k : StoredClause) (ks : List StoredClause) → left_pairs values (k ∷ ks) ≡ left_pairs values (k ∷ []) ++ left_pairs values ks
  pairs-first k ks = go (becomes_pair values k.literals)
    where
      go : (b : Bool) → map (λ (k : StoredClause). unassigned values k.literals)
          (cond b (k ∷ filter (λ k. becomes_pair values k.literals) ks) (filter (λ k. becomes_pair values k.literals) ks)) ≡ map
          (λ (k : StoredClause). unassigned values k.literals) (cond b (k ∷ []) []) ++ left_pairs values ks
      go true = refl
      go false = refl

-- What a filter that keeps the values leaves of all clauses.
module _ {F : Type 0} (values : F → List (Option Bool)) (pairs : F → List Clause) (Leaves : F → StoredClause → StoredClause → F → Type 0)
    (each : (f : F) (k j : StoredClause) (g : F) → Leaves f k j g → (values g ≡ values f) × LeavesOpen (values f) k j (pairs f) (pairs g)) where
  abbrev pub HasLeft : F → F → List StoredClause → List StoredClause → Type 0
  HasLeft f g ks js = (live_of js ≡ left_long (values f) (live_of ks)) × (pairs g ≡ pairs f ++ left_pairs (values f) (live_of ks))

  pub filtered-left : (f g : F) (ks js : List StoredClause) → Filters Leaves f ks js g → HasLeft f g ks js
  filtered-left f g [] [] e = (refl, ap pairs e ∙ sym (append-nil (pairs f)))
  filtered-left f g [] (j ∷ js) e = absurd e
  filtered-left f g (k ∷ ks) [] e = absurd e
  filtered-left f g (k ∷ ks) (j ∷ js) (m, one, more) = go one (filtered-left m g ks js more)
    where
      go : FiltersOne Leaves f k j m → HasLeft m g ks js → HasLeft f g (k ∷ ks) (j ∷ js)
      go (PassesOver dead e q) r =
          let (a, b) = subst (λ x. HasLeft x g ks js) q r in
          let gone : live_of (k ∷ ks) ≡ live_of ks = ap (λ (o : Bool). cond o (live_of ks) (k ∷ live_of ks)) dead in
          let also : live_of (j ∷ js) ≡ live_of js = ap (λ (x : StoredClause). live_of (x ∷ js)) e
          ∙ ap (λ (o : Bool). cond o (live_of js) (k ∷ live_of js)) dead in
          (also ∙ a ∙ ap (left_long (values f)) (sym gone), b ∙ ap (λ xs. pairs f ++ left_pairs (values f) xs) (sym gone))
      go (ComesTo live p t l) (a, b) =
          let (v, o) = each f k j m l in
          let vs = values f in
          let here : live_of (k ∷ ks) ≡ k ∷ live_of ks = ap (λ (o : Bool). cond o (live_of ks) (k ∷ live_of ks)) live in
          let c : live_of js ≡ left_long vs (live_of ks) = a ∙ ap (λ ws. left_long ws (live_of ks)) v in
          let d : pairs g ≡ pairs m ++ left_pairs vs (live_of ks) = b ∙ ap (λ ws. pairs m ++ left_pairs ws (live_of ks)) v in (
            live-first j js ∙ ap₂ (λ (xs ys : List StoredClause). xs ++ ys) o.long c ∙ sym (long-first vs k (live_of ks)) ∙ ap (left_long vs) (sym here),
            d ∙ ap (λ cs. cs ++ left_pairs vs (live_of ks)) o.pairs ∙ append_assoc (pairs f) (left_pairs vs (k ∷ [])) (left_pairs vs (live_of ks))
                ∙ ap (λ cs. pairs f ++ cs) (sym (pairs-first vs k (live_of ks))) ∙ ap (λ xs. pairs f ++ left_pairs vs xs) (sym here),
          )

-- 3. The literals whose watch lists name clauses that change.
pub notes-none : (values : List (Option Bool)) (k : StoredClause) (before : List Literal) → are_unassigned values k.literals ≡ true →
    NotesWatches values k before before
notes-none values k before e = record {
  old = λ x h. h;
  noted = λ f. absurd (let z : true ≡ false = sym e ∙ f in cc);
  only = λ x h. inl h;
}

pub notes-two : (values : List (Option Bool)) (k : StoredClause) (before after : List Literal) (x y : Literal) → 2 ≤ length k.literals →
    x ≡ opposite (get_or k.literals 0 0) → y ≡ opposite (get_or k.literals 1 0) → after ≡ (before ++ x ∷ []) ++ y ∷ [] →
    NotesWatches values k before after
notes-two values k before after x y n ex ey e = record {
  old = λ z h. subst (λ zs. z ∈ zs) (sym e) (∈-append_left z (before ++ x ∷ []) (y ∷ []) (∈-append_left z before (x ∷ []) h));
  noted = λ f. two (λ j. opposite (get_or k.literals j 0) ∈ after)
      (subst (λ z. z ∈ after) ex (subst (λ zs. x ∈ zs) (sym e)
      (∈-append_left x (before ++ x ∷ []) (y ∷ []) (∈-append_right x before (x ∷ []) (inl refl)))))
      (subst (λ z. z ∈ after) ey (subst (λ zs. y ∈ zs) (sym e) (∈-append_right y (before ++ x ∷ []) (y ∷ []) (inl refl))));
  only = λ z h. ⊎_elim
      (λ i. ⊎_elim inl (λ o. inr (⊎_elim (λ q. (get_or k.literals 0 0, ∈-get_or k.literals 0 0 (omega (arith, n)), q ∙ ex)) (λ q. absurd q) o))
      (∈-append_cases z before (x ∷ []) i))
      (λ o. inr (⊎_elim (λ q. (get_or k.literals 1 0, ∈-get_or k.literals 1 0 (omega (arith, n)), q ∙ ey)) (λ q. absurd q) o))
      (∈-append_cases z (before ++ x ∷ []) (y ∷ []) (subst (λ zs. z ∈ zs) e h));
}

module _ {F : Type 0} (values : F → List (Option Bool)) (watching : F → List Literal) (Leaves : F → StoredClause → StoredClause → F → Type 0)
    (each : (f : F) (k j : StoredClause) (g : F) → Leaves f k j g → (values g ≡ values f) × NotesWatches (values f) k (watching f) (watching g)) where
  -- what all clauses add
  pub record AreNoted (f g : F) (ks : List StoredClause) : Type 0 where
    pub old : watching f ⊆ watching g
    pub noted : (k : StoredClause) → k ∈ live_of ks → are_unassigned (values f) k.literals ≡ false → (j : ℕ) → j < 2 →
        opposite (get_or k.literals j 0) ∈ watching g
    pub only : (x : Literal) → x ∈ watching g → (x ∈ watching f) ⊎ ((k : StoredClause) × (k ∈ live_of ks) × (l : Literal) × (l ∈ k.literals) × (x ≡ opposite l))

  pub filtered-noted : (f g : F) (ks js : List StoredClause) → Filters Leaves f ks js g → AreNoted f g ks
  filtered-noted f g [] [] e = record {
    old = λ x h. subst (λ (o : F). x ∈ watching o) (sym e) h;
    noted = λ k h. absurd h;
    only = λ x h. inl (subst (λ (o : F). x ∈ watching o) e h);
  }
  filtered-noted f g [] (j ∷ js) e = absurd e
  filtered-noted f g (k ∷ ks) [] e = absurd e
  filtered-noted f g (k ∷ ks) (j ∷ js) (m, one, more) = go one (filtered-noted m g ks js more)
    where
      go : FiltersOne Leaves f k j m → AreNoted m g ks → AreNoted f g (k ∷ ks)
      go (PassesOver dead e q) r =
          let n = subst (λ (x : F). AreNoted x g ks) q r in
          let gone : live_of (k ∷ ks) ≡ live_of ks = ap (λ (o : Bool). cond o (live_of ks) (k ∷ live_of ks)) dead in
          record {
            old = n.old;
            noted = λ i h. n.noted i (subst (λ xs. i ∈ xs) gone h);
            only = λ x h. ⊎_elim inl (λ (i, o, y, z, w). inr (i, subst (λ xs. i ∈ xs) (sym gone) o, y, z, w)) (n.only x h);
          }
      go (ComesTo live p t l) r =
          let (v, o) = each f k j m l in
          let here : live_of (k ∷ ks) ≡ k ∷ live_of ks = ap (λ (o : Bool). cond o (live_of ks) (k ∷ live_of ks)) live in
          record {
            old = λ x h. r.old x (o.old x h);
            noted = λ i h e b s. ⊎_elim
                (λ q. subst (λ (y : StoredClause). opposite (get_or y.literals b 0) ∈ watching g) (sym q)
                (r.old (opposite (get_or k.literals b 0)) (o.noted (subst (λ (y : StoredClause). are_unassigned (values f) y.literals ≡ false) q e) b s)))
                (λ q. r.noted i q (subst (λ vs. are_unassigned vs i.literals ≡ false) (sym v) e) b s)
                (subst (λ xs. i ∈ xs) here h);
            only = λ x h. ⊎_elim
                (λ q. ⊎_elim inl (λ (y, i, e). inr (k, subst (λ xs. k ∈ xs) (sym here) (inl refl), y, i, e)) (o.only x q))
                (λ (i, q, y, z, w). inr (i, subst (λ xs. i ∈ xs) (sym here) (inr q), y, z, w))
                (r.only x h);
          }

-- each clause keeps its place
pub filtered-place : {F : Type 0} (Leaves : F → StoredClause → StoredClause → F → Type 0) (f g : F) (ks js : List StoredClause) → Filters Leaves f ks js g →
    (p : ℕ) → IsClauseRef ks p → IsClauseRef js p
filtered-place Leaves f g [] [] e p (k, h, q) = absurd h
filtered-place Leaves f g [] (j ∷ js) e p (k, h, q) = absurd e
filtered-place Leaves f g (k ∷ ks) [] e p h = absurd e
filtered-place Leaves f g (k ∷ ks) (j ∷ js) (m, one, more) p (i, inl e, q) = (j, inl refl, same one ∙ sym (ap (λ (y : StoredClause). y.place) e) ∙ q)
  where
    same : FiltersOne Leaves f k j m → j.place ≡ k.place
    same (PassesOver dead r s) = ap (λ (y : StoredClause). y.place) r
    same (ComesTo live r t l) = r
filtered-place Leaves f g (k ∷ ks) (j ∷ js) (m, one, more) p (i, inr h, q) =
    let (y, o, r) = filtered-place Leaves m g ks js more p (i, h, q) in (y, inr o, r)
