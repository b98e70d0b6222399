-- The lines of a simplification: they lead from the search before it to the one after it.
use Rattle.std.proofs.Common.{◌≡◌, ◌≤◌, Bool, true, false, not, cond, Option, List, [], ◌∷◌, ◌++◌, length, map, inl, inr, ⊎_elim, refl, sym, ap, ◌∙◌, subst, append_assoc}
use Rattle.std.specs.Prelude.{nat_le}
use Rattle.std.specs.List.{filter}
use Rattle.std.proofs.lemmas.Bool.{le-leb}
use Rattle.varisat_theory.specs.promises.Membership.{◌∈◌, SameSet}
use Rattle.varisat_theory.specs.promises.Literals.{Literal, Clause, opposite}
use Rattle.varisat_theory.specs.promises.Derivations.{Add, Delete}
use Rattle.varisat_theory.specs.promises.Searches.{KeptClause, Search}
use Rattle.varisat_theory.specs.inside.Outcomes.{Proves}
use Rattle.varisat_theory.proofs.clauses.Held.{same_set-self}
use Rattle.varisat_theory.proofs.steps.StepParts.{no_part, parts_join}
use Rattle.varisat_theory.proofs.steps.StepChanges.{satisfied_is_deleted, is_shortened}
use Rattle.varisat_clause.specs.Stored.{StoredClause}
use Rattle.varisat_prop.specs.Parts.{IsMadeTrue}
use Rattle.varisat_analysis.specs.HeaderChanges.{kept_clause}
use Rattle.varisat_search.specs.Seen.{kept_pair}
use Rattle.varisat_search.specs.Simplifications.{has_true, unassigned, shortened_to, lines_of_clause, lines_of_clauses}
use Rattle.varisat_prop.specs.Simplified.{are_unassigned}
use Rattle.varisat_search.proofs.simplifying.UnassignedLiterals.{some-true, left-part, left-or_false, left-all}

-- no line changes nothing
no-lines : (s : Search) (ks : List KeptClause) → s.kept ≡ ks → Proves 0 s (record s { kept = ks }) []
no-lines s ks e = subst (λ (js : List KeptClause). Proves 0 s (record s { kept = js }) []) e (no_part s)

-- 1. Clauses of two literals that are satisfied go.

abbrev pub gone : (Clause → Bool) → List Clause → List Clause
gone stays cs = filter (λ c. not (stays c)) cs

pub pairs-go : (stays : Clause → Bool) (s : Search) (front : List KeptClause) (cs : List Clause) → s.kept ≡ front ++ map kept_pair cs →
    ((c : Clause) → c ∈ cs → stays c ≡ false → (l : Literal) × (l ∈ c) × (l ∈ s.fixed)) →
    Proves 0 s (record s { kept = front ++ map kept_pair (filter stays cs) }) (map Delete (gone stays cs))
pairs-go stays s front [] e h = no-lines s (front ++ []) e
pairs-go stays s front (c ∷ cs) e h =
    go (stays c) refl
    (pairs-go stays (record s { kept = front ++ map kept_pair cs }) front cs refl (λ d i. h d (inr i)))
    (pairs-go stays s (front ++ kept_pair c ∷ []) cs (e ∙ sym (append_assoc front (kept_pair c ∷ []) (map kept_pair cs))) (λ d i. h d (inr i)))
  where
    go : (b : Bool) → stays c ≡ b → Proves 0 (record s { kept = front ++ map kept_pair cs })
        (record s { kept = front ++ map kept_pair (filter stays cs) }) (map Delete (gone stays cs)) →
        Proves 0 s (record s { kept = (front ++ kept_pair c ∷ []) ++ map kept_pair (filter stays cs) }) (map Delete (gone stays cs)) →
        Proves 0 s (record s { kept = front ++ map kept_pair (cond b (c ∷ filter stays cs) (filter stays cs)) })
        (map Delete (cond (not b) (c ∷ gone stays cs) (gone stays cs)))
    go false g p q =
        let (l, i, f) = h c (inl refl) g in
        parts_join 0 0 s (record s { kept = front ++ map kept_pair cs }) (record s { kept = front ++ map kept_pair (filter stays cs) })
        (Delete c ∷ []) (map Delete (gone stays cs))
        (satisfied_is_deleted s front (map kept_pair cs) (kept_pair c) c l e (same_set-self c) i f) p
    go true g p q = subst (λ (js : List KeptClause). Proves 0 s (record s { kept = js }) (map Delete (gone stays cs)))
        (append_assoc front (kept_pair c ∷ []) (map kept_pair (filter stays cs))) q

-- 2. The stored clauses.

-- what is true is fixed and proved
pub record HasProved (values : List (Option Bool)) (s : Search) : Type 0 where
  pub fixed : (l : Literal) → IsMadeTrue values l → l ∈ s.fixed
  pub proved : (l : Literal) → IsMadeTrue values l → l ∈ s.proved

-- what a proof sees of a clause without its false literals
abbrev pub seen_left : List (Option Bool) → StoredClause → KeptClause
seen_left values k = cond (nat_le 3 (length (unassigned values k.literals))) (kept_clause (shortened_to (unassigned values k.literals) k))
    (kept_pair (unassigned values k.literals))

-- and of one that may be satisfied
abbrev pub left_of : List (Option Bool) → StoredClause → List KeptClause
left_of values k = cond (has_true values k.literals) [] (seen_left values k ∷ [])

abbrev pub left_each : List (Option Bool) → List StoredClause → List KeptClause
left_each values [] = []
left_each values (k ∷ ks) = left_of values k ++ left_each values ks

module _ (values : List (Option Bool)) where
  seen-clause : (k : StoredClause) → (seen_left values k).clause ≡ unassigned values k.literals
  seen-clause k = go (nat_le 3 (length (unassigned values k.literals)))
    where
      go : (b : Bool) → (cond b (kept_clause (shortened_to (unassigned values k.literals) k))
          (kept_pair (unassigned values k.literals))).clause ≡ unassigned values k.literals
      go true = refl
      go false = refl

  seen-learned : (k : StoredClause) → (seen_left values k).learned ≡ true → (kept_clause k).learned ≡ true
  seen-learned k = go (nat_le 3 (length (unassigned values k.literals)))
    where
      go : (b : Bool) → (cond b (kept_clause (shortened_to (unassigned values k.literals) k))
          (kept_pair (unassigned values k.literals))).learned ≡ true → (kept_clause k).learned ≡ true
      go true e = e
      go false e = absurd (let z : false ≡ true = e in cc)

  -- one where no literal goes
  seen-same : (k : StoredClause) → 3 ≤ length k.literals → are_unassigned values k.literals ≡ true → seen_left values k ≡ kept_clause k
  seen-same k n e =
      let f = left-all values k.literals e in
      ap (λ (c : Clause). cond (nat_le 3 (length c)) (kept_clause (shortened_to c k)) (kept_pair c)) f
      ∙ ap (λ (b : Bool). cond b (kept_clause (shortened_to k.literals k)) (kept_pair k.literals)) (le-leb 3 (length k.literals) n)

  -- 3. One clause, and all.
  one-left : (s : Search) (front back : List KeptClause) (k : StoredClause) → s.kept ≡ front ++ (kept_clause k ∷ back) → HasProved values s →
      3 ≤ length k.literals → Proves 0 s (record s { kept = front ++ (left_of values k ++ back) }) (lines_of_clause values k.literals)
  one-left s front back k e m n = go (has_true values k.literals) refl (are_unassigned values k.literals) refl
    where
      go : (b : Bool) → has_true values k.literals ≡ b → (a : Bool) → are_unassigned values k.literals ≡ a →
          Proves 0 s (record s { kept = front ++ (cond b [] (seen_left values k ∷ []) ++ back) })
          (cond b (Delete k.literals ∷ []) (cond a [] (Add (unassigned values k.literals) ∷ Delete k.literals ∷ [])))
      go true t a q =
          let (l, i, h) = some-true values k.literals t in
          satisfied_is_deleted s front back (kept_clause k) k.literals l e (same_set-self k.literals) i (m.fixed l h)
      go false t false q =
          let f = seen-clause k in
          is_shortened s front back (kept_clause k) (seen_left values k) k.literals (unassigned values k.literals) e (same_set-self k.literals)
          (subst (λ (d : Clause). SameSet d (unassigned values k.literals)) (sym f) (same_set-self (unassigned values k.literals)))
          (λ l i. left-part values k.literals l (subst (λ (d : Clause). l ∈ d) f i))
          (λ l i. ⊎_elim (λ j. inl (subst (λ (d : Clause). l ∈ d) (sym f) j)) (λ h. inr (m.proved (opposite l) h)) (left-or_false values k.literals t l i))
          (seen-learned k)
      go false t true q = no-lines s (front ++ (seen_left values k ∷ back)) (e ∙ ap (λ (j : KeptClause). front ++ (j ∷ back)) (sym (seen-same k n q)))

  pub each-left : (s : Search) (front : List KeptClause) (ks : List StoredClause) (back : List KeptClause) →
      s.kept ≡ front ++ (map kept_clause ks ++ back) → HasProved values s → ((k : StoredClause) → k ∈ ks → 3 ≤ length k.literals) →
      Proves 0 s (record s { kept = front ++ (left_each values ks ++ back) }) (lines_of_clauses values ks)
  each-left s front [] back e m n = no-lines s (front ++ back) e
  each-left s front (k ∷ ks) back e m n =
      let mid = front ++ (left_of values k ++ (map kept_clause ks ++ back)) in
      let last = (front ++ left_of values k) ++ (left_each values ks ++ back) in
      let done : last ≡ front ++ ((left_of values k ++ left_each values ks) ++ back) =
      append_assoc front (left_of values k) (left_each values ks ++ back)
      ∙ ap (λ js. front ++ js) (sym (append_assoc (left_of values k) (left_each values ks) back)) in
      subst (λ (js : List KeptClause). Proves 0 s (record s { kept = js }) (lines_of_clauses values (k ∷ ks))) done
      (parts_join 0 0 s (record s { kept = mid }) (record s { kept = last }) (lines_of_clause values k.literals) (lines_of_clauses values ks)
      (one-left s front (map kept_clause ks ++ back) k e m (n k (inl refl)))
      (each-left (record s { kept = mid }) (front ++ left_of values k) ks back
      (sym (append_assoc front (left_of values k) (map kept_clause ks ++ back))) (record { fixed = m.fixed; proved = m.proved }) (λ j i. n j (inr i))))
