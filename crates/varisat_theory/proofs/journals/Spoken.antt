-- What literals lines speak of, and the literals of a search.
use Rattle.std.proofs.Common.{◌≡◌, List, [], ◌∷◌, ◌++◌, inl, inr, ⊎_elim, sym, subst, refl}
use Rattle.varisat_theory.specs.promises.Membership.{◌∈◌, ◌⊆◌}
use Rattle.varisat_theory.specs.promises.Literals.{Literal}
use Rattle.varisat_theory.specs.promises.Derivations.{Line, Add, Delete, SpeakOf}
use Rattle.varisat_theory.specs.promises.Held.{SameClauses}
use Rattle.varisat_theory.proofs.clauses.Members.{∈-append_left, ∈-append_right, ∈-append_cases}
use Rattle.varisat_theory.proofs.clauses.Held.{same_clauses_find, same_clauses-back}
use Rattle.varisat_theory.specs.promises.Searches.{KeptClause, Search, clauses_of, IsLiteralOf}
use Rattle.varisat_theory.proofs.steps.SearchFits.{clause_in, clause_from}

pub spoken_wider : (are may : Literal → Type 0) (lines : List Line) → ((l : Literal) → are l → may l) → SpeakOf are lines → SpeakOf may lines
spoken_wider are may [] w p = tt
spoken_wider are may (Add c ∷ lines) w (f, p) = (λ l h. w l (f l h), spoken_wider are may lines w p)
spoken_wider are may (Delete c ∷ lines) w (f, p) = (λ l h. w l (f l h), spoken_wider are may lines w p)

pub spoken_join : (are : Literal → Type 0) (first second : List Line) → SpeakOf are first → SpeakOf are second → SpeakOf are (first ++ second)
spoken_join are [] second p q = q
spoken_join are (Add c ∷ first) second (f, p) q = (f, spoken_join are first second p q)
spoken_join are (Delete c ∷ first) second (f, p) q = (f, spoken_join are first second p q)

-- lines from a search whose literals are others' too come after those of the others
pub spoken_after : (are may : Literal → Type 0) (first second : List Line) → ((l : Literal) → are l → may l) → SpeakOf may first →
    SpeakOf are second → SpeakOf may (first ++ second)
spoken_after are may first second w p q = spoken_join may first second p (spoken_wider are may second w q)

-- the literals of the same kept clauses
pub literals_same : (ks js : List KeptClause) (k : KeptClause) (l : Literal) → SameClauses (clauses_of ks) (clauses_of js) → k ∈ js → l ∈ k.clause →
    (j : KeptClause) × (j ∈ ks) × (l ∈ j.clause)
literals_same ks js k l s h i =
    let (c, o, q) = same_clauses_find (clauses_of js) (clauses_of ks) (same_clauses-back (clauses_of ks) (clauses_of js) s) k.clause (clause_in js k h) in
    let (j, m, e) = clause_from ks c o in
    (j, m, subst (λ d. l ∈ d) (sym e) (q.1 l i))

-- a search that keeps the same clauses and whose other literals are the first one's
pub moved_within : (s t : Search) → SameClauses (clauses_of s.kept) (clauses_of t.kept) → ((l : Literal) → l ∈ t.fixed → IsLiteralOf s l) →
    (l : Literal) → IsLiteralOf t l → IsLiteralOf s l
moved_within s t q x l (inl h) = x l h
moved_within s t q x l (inr (k, h, i)) = inr (literals_same s.kept t.kept k l q h i)

-- one clause less
pub fewer_within : (s : Search) (front back : List KeptClause) (k : KeptClause) → s.kept ≡ front ++ (k ∷ back) → (l : Literal) →
    IsLiteralOf (record s { kept = front ++ back }) l → IsLiteralOf s l
fewer_within s front back k e l (inl h) = inl h
fewer_within s front back k e l (inr (j, h, i)) =
    inr (
      j,
      subst (λ ks. j ∈ ks) (sym e) (⊎_elim (λ a. ∈-append_left j front (k ∷ back) a) (λ b. ∈-append_right j front (k ∷ back) (inr b))
          (∈-append_cases j front back h)),
      i,
    )

-- the clause at the place is kept
pub at_place : (s : Search) (front back : List KeptClause) (k : KeptClause) → s.kept ≡ front ++ (k ∷ back) → k ∈ s.kept
at_place s front back k e = subst (λ ks. k ∈ ks) (sym e) (∈-append_right k front (k ∷ back) (inl refl))

-- a part of a clause in its place
pub part_within : (s : Search) (front back : List KeptClause) (k j : KeptClause) → s.kept ≡ front ++ (k ∷ back) → j.clause ⊆ k.clause →
    (l : Literal) → IsLiteralOf (record s { kept = front ++ (j ∷ back) }) l → IsLiteralOf s l
part_within s front back k j e w l (inl h) = inl h
part_within s front back k j e w l (inr (i, h, o)) = ⊎_elim left (λ r. ⊎_elim here right r) (∈-append_cases i front (j ∷ back) h)
  where
    left : i ∈ front → IsLiteralOf s l
    left a = inr (i, subst (λ ks. i ∈ ks) (sym e) (∈-append_left i front (k ∷ back) a), o)

    here : i ≡ j → IsLiteralOf s l
    here m = inr (k, at_place s front back k e, w l (subst (λ (n : KeptClause). l ∈ n.clause) m o))

    right : i ∈ back → IsLiteralOf s l
    right b = inr (i, subst (λ ks. i ∈ ks) (sym e) (∈-append_right i front (k ∷ back) (inr b)), o)

-- one clause more, of literals that may be
pub kept_within : (s : Search) (may : Literal → Type 0) (k : KeptClause) → ((l : Literal) → IsLiteralOf s l → may l) →
    ((l : Literal) → l ∈ k.clause → may l) → (l : Literal) → IsLiteralOf (record s { kept = s.kept ++ k ∷ [] }) l → may l
kept_within s may k f g l (inl h) = f l (inl h)
kept_within s may k f g l (inr (j, h, i)) =
    ⊎_elim
    (λ a. f l (inr (j, a, i)))
    (λ r. ⊎_elim (λ e. g l (subst (λ (n : KeptClause). l ∈ n.clause) e i)) (λ z. absurd z) r)
    (∈-append_cases j s.kept (k ∷ []) h)

-- one unit more, which may be
pub unit_within : (s : Search) (may : Literal → Type 0) (u : Literal) → ((l : Literal) → IsLiteralOf s l → may l) → may u → (l : Literal) →
    IsLiteralOf (record s { fixed = s.fixed ++ u ∷ []; proved = s.proved ++ u ∷ [] }) l → may l
unit_within s may u f g l (inl h) =
    ⊎_elim (λ a. f l (inl a)) (λ r. ⊎_elim (λ e. subst may (sym e) g) (λ z. absurd z) r) (∈-append_cases l s.fixed (u ∷ []) h)
unit_within s may u f g l (inr k) = f l (inr k)
