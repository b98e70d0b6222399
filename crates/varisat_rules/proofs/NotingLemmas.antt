-- Positions that were noted for the literals of a clause.
use Rattle.std.proofs.Common.{◌≡◌, ℕ, add-one, ◌+◌, ◌/◌, ◌%◌, ◌<◌, ◌≤◌, nat_eq, List, [], ◌∷◌, ◌++◌, inl, inr, ⊎_elim, sym, ap, ◌∙◌, subst, refl, length, get_or, set, take, take_all, arith}
use Rattle.std.proofs.Math.Seq.{get_or-append_seam, take-suc}
use Rattle.std.proofs.lemmas.List.{get_or_append_left, get_or-set_same, get_or-set_other, length-set, length-append, length-take-le}
use Rattle.varisat_theory.specs.promises.Membership.{◌∈◌}
use Rattle.varisat_theory.specs.promises.Literals.{Literal, Clause, variable_of}
use Rattle.varisat_theory.proofs.clauses.Members.{∈-append_cases, equal_or_not}
use Rattle.varisat_theory.proofs.clauses.Values.{variable-literal}
use Rattle.varisat_database.specs.Names.{short_of}
use Rattle.varisat_rules.specs.inside.Noting.{StandsAt, NotesPositions}
use Rattle.varisat_rules.specs.inside.Resolving.{IsOfOthers}
use Rattle.varisat_rules.proofs.ResolveLemmas.{none_taken}

name_of : (names : List ℕ) (l : Literal) → short_of names l / 2 ≡ get_or names (l / 2) (l / 2)
name_of names l = variable-literal (get_or names (l / 2) (l / 2)) (nat_eq (l % 2) 0)

-- a short name goes by the variable
pub named_alike : (names : List ℕ) (m l : Literal) → variable_of m ≡ variable_of l → short_of names m / 2 ≡ short_of names l / 2
named_alike names m l q = name_of names m ∙ ap (λ v. get_or names v v) q ∙ sym (name_of names l)

-- a variable is in no literal of the clause if none stands at its position
pub absent_past : (names ps : List ℕ) (c : Clause) (l p : ℕ) → NotesPositions names ps c → short_of names l / 2 < length ps →
    p ≡ get_or ps (short_of names l / 2) 0 → length c ≤ p → IsOfOthers c l
absent_past names ps c l p n h e k m i q =
    let s = named_alike names m l q in
    let a = (n m i (subst (λ x. x < length ps) (sym s) h)).0 in
    let b : get_or ps (short_of names m / 2) 0 ≡ p = ap (λ x. get_or ps x 0) s ∙ sym e in
    omega (arith, a, b, k)

-- or one of another short name
pub absent_other : (names ps : List ℕ) (c : Clause) (l p o : ℕ) → NotesPositions names ps c → short_of names l / 2 < length ps →
    p ≡ get_or ps (short_of names l / 2) 0 → o ≡ get_or c p 0 → (short_of names o / 2 ≡ short_of names l / 2 → ⊥) → IsOfOthers c l
absent_other names ps c l p o n h e g d m i q =
    let s = named_alike names m l q in
    let a = (n m i (subst (λ x. x < length ps) (sym s) h)).1 in
    d (ap (λ x. short_of names x / 2) (g ∙ ap (λ j. get_or c j 0) (e ∙ sym (ap (λ x. get_or ps x 0) s))) ∙ a ∙ s)

pub noted_none : (names ps : List ℕ) (c : Clause) → NotesPositions names ps (take 0 c)
noted_none names ps c m i h = absurd (none_taken m c i)

-- one more literal, at the position behind the others
pub noted_more : (names ps qs : List ℕ) (c : Clause) (l p : ℕ) → qs ≡ set ps (short_of names l / 2) p → p ≡ length c → NotesPositions names ps c →
    NotesPositions names qs (c ++ l ∷ [])
noted_more names ps qs c l p e q n = subst (λ (zs : List ℕ). NotesPositions names zs (c ++ l ∷ [])) (sym e) go
  where
    there : get_or (c ++ l ∷ []) p 0 ≡ l
    there = subst (λ j. get_or (c ++ l ∷ []) j 0 ≡ l) (sym q) (get_or-append_seam c l [] 0)

    at : (m r : ℕ) → r ≡ p → short_of names m / 2 ≡ short_of names l / 2 → StandsAt names (c ++ l ∷ []) m r
    at m r w s =
        let a = length-append c (l ∷ []) in
        (omega (arith, a, w, q), ap (λ j. short_of names (get_or (c ++ l ∷ []) j 0) / 2) w ∙ ap (λ x. short_of names x / 2) there ∙ sym s)

    kept : (m r : ℕ) → StandsAt names c m r → StandsAt names (c ++ l ∷ []) m r
    kept m r s =
        let a = length-append c (l ∷ []) in
        let b = s.0 in
        (omega (arith, a, b), ap (λ x. short_of names x / 2) (get_or_append_left c (l ∷ []) 0 r b) ∙ s.1)

    go : NotesPositions names (set ps (short_of names l / 2) p) (c ++ l ∷ [])
    go m i h =
        let z = length-set ps (short_of names l / 2) p in
        ⊎_elim
        (λ s. at m _ (ap (λ x. get_or (set ps (short_of names l / 2) p) x 0) s ∙
        get_or-set_same ps (short_of names l / 2) p 0 (omega (arith, h, z, s))) s)
        (λ d. subst (λ r. StandsAt names (c ++ l ∷ []) m r) (sym (get_or-set_other ps (short_of names l / 2) (short_of names m / 2) p 0 d))
        (kept m _ (n m (⊎_elim (λ j. j) (λ w. ⊎_elim (λ j. absurd (d (ap (λ x. short_of names x / 2) j))) (λ j. absurd j) w)
        (∈-append_cases m c (l ∷ []) i)) (omega (arith, h, z)))))
        (equal_or_not (short_of names m / 2) (short_of names l / 2))

taken_next : (c : Clause) (k : ℕ) → k < length c → take (k + 1) c ≡ take k c ++ get_or c k 0 ∷ []
taken_next c k h = rw add-one (take-suc c k 0 h)

-- the same of the clause's first literals
pub noted_next : (names ps qs : List ℕ) (c : Clause) (k l : ℕ) → k < length c → l ≡ get_or c k 0 → qs ≡ set ps (short_of names l / 2) k →
    NotesPositions names ps (take k c) → NotesPositions names qs (take (k + 1) c)
noted_next names ps qs c k l h g e n =
    let t : take (k + 1) c ≡ take k c ++ l ∷ [] = taken_next c k h ∙ ap (λ x. take k c ++ x ∷ []) (sym g) in
    subst (λ (d : Clause). NotesPositions names qs d) (sym t) (noted_more names ps qs (take k c) l k e (sym (length-take-le k c (omega (arith, h)))) n)

pub noted_all : (names ps : List ℕ) (c : Clause) (k : ℕ) → length c ≤ k → NotesPositions names ps (take k c) → NotesPositions names ps c
noted_all names ps c k h n = subst (λ (d : Clause). NotesPositions names ps d) (take_all k c h) n
