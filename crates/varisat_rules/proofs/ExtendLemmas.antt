-- What amending values does to the literals and clauses that they make true.
use Rattle.std.proofs.Common.{◌≡◌, ℕ, suc, ◌-◌, ◌/◌, ◌%◌, ◌<◌, ◌≤◌, Bool, true, false, not, nat_eq, if◌then◌else◌, List, [], ◌∷◌, ◌++◌, ◌⊎◌, inl, inr, ⊎_elim, sym, ap, ◌∙◌, refl, length, get_or, drop, arith, get_or-set_other}
use Rattle.std.proofs.Math.Seq.{drop-cons}
use Rattle.varisat_theory.specs.promises.Membership.{◌∈◌}
use Rattle.varisat_theory.specs.promises.Literals.{Literal, Clause, Satisfies}
use Rattle.varisat_theory.proofs.clauses.Members.{∈-append_cases}
use Rattle.varisat_formula.proofs.ValueLemmas.{is-satisfied, length-true, satisfied-is}
use Rattle.varisat_formula.specs.promises.Values.{assignment_of, is_satisfied, with_true}
use Rattle.varisat_rules.specs.promises.Stacks.{amended, extended, avoids, KeepsFrozen}

pub extended_more : (stack : List Clause) (e : Clause) (vs : List Bool) → extended (stack ++ e ∷ []) vs ≡ extended stack (amended e vs)
extended_more [] e vs = refl
extended_more (c ∷ stack) e vs = ap (amended c) (extended_more stack e vs)

-- Either the clause is satisfied and nothing changes, or it isn't and its first literal becomes true.
pub amended_cases : (l : Literal) (c : Clause) (vs : List Bool) →
    (Satisfies (assignment_of vs) (l ∷ c) × (amended (l ∷ c) vs ≡ vs)) ⊎ ((Satisfies (assignment_of vs) (l ∷ c) → ⊥) × (amended (l ∷ c) vs ≡ with_true l vs))
amended_cases l c vs = go (is_satisfied (assignment_of vs) (l ∷ c)) refl
  where
    go : (b : Bool) → is_satisfied (assignment_of vs) (l ∷ c) ≡ b → (Satisfies (assignment_of vs) (l ∷ c) × (amended (l ∷ c) vs ≡ vs))
        ⊎ ((Satisfies (assignment_of vs) (l ∷ c) → ⊥) × (amended (l ∷ c) vs ≡ with_true l vs))
    go true e = inl (satisfied-is (assignment_of vs) (l ∷ c) e, ap (λ b. if b then vs else with_true l vs) e)
    go false e = inr (
      λ s. let t = is-satisfied (assignment_of vs) (l ∷ c) s in absurd (let q = sym e ∙ t in cc),
      ap (λ b. if b then vs else with_true l vs) e,
    )

pub amended_length : (c : Clause) (vs : List Bool) → length (amended c vs) ≡ length vs
amended_length [] vs = refl
amended_length (l ∷ c) vs =
    ⊎_elim (λ h. ap length h.1) (λ h. ap length h.1 ∙ length-true l vs) (amended_cases l c vs)

pub extended_length : (stack : List Clause) (vs : List Bool) → length (extended stack vs) ≡ length vs
extended_length [] vs = refl
extended_length (c ∷ stack) vs = amended_length c (extended stack vs) ∙ extended_length stack vs

amended_frozen : (frozen : List Bool) (c : Clause) (vs : List Bool) (v : ℕ) → avoids frozen c ≡ true → get_or frozen v false ≡ true →
    get_or (amended c vs) v false ≡ get_or vs v false
amended_frozen frozen [] vs v a f = refl
amended_frozen frozen (l ∷ c) vs v a f = ⊎_elim
    (λ h. ap (λ (x : List Bool). get_or x v false) h.1)
    (λ h. ap (λ (x : List Bool). get_or x v false) h.1 ∙ get_or-set_other vs (l / 2) v (nat_eq (l % 2) 0) false (λ q. apart (get_or frozen (l / 2) false) a (ap (λ i. get_or frozen i false) (sym q) ∙ f)))
    (amended_cases l c vs)
  where
    apart : (b : Bool) → not b ≡ true → b ≡ true → ⊥
    apart true a f = let x = a in cc
    apart false a f = let x = f in cc

-- values of frozen variables stay where each clause avoids them
pub keeps_frozen : (frozen : List Bool) (stack : List Clause) → ((c : Clause) → c ∈ stack → avoids frozen c ≡ true) → KeepsFrozen frozen stack
keeps_frozen frozen [] h = λ vs v f. refl
keeps_frozen frozen (c ∷ stack) h =
    let rest = keeps_frozen frozen stack (λ d b. h d (inr b)) in
    λ vs v f. amended_frozen frozen c (extended stack vs) v (h c (inl refl)) f ∙ rest vs v f

pub thawed_more : (frozen : List Bool) (stack : List Clause) (l : Literal) (e : Clause) → get_or frozen (l / 2) false ≡ false →
    ((c : Clause) → c ∈ stack → avoids frozen c ≡ true) → (c : Clause) → c ∈ (stack ++ (l ∷ e) ∷ []) → avoids frozen c ≡ true
thawed_more frozen stack l e t h c m = ⊎_elim
    (h c)
    (λ k. ⊎_elim (λ q. ap (avoids frozen) q ∙ ap not t) (λ z. absurd z) k)
    (∈-append_cases c stack ((l ∷ e) ∷ []) m)

-- one clause more of the stack, from its end
pub extended_next : (stack : List Clause) (k : ℕ) (c : Clause) (vs old new : List Bool) → 0 < k → k ≤ length stack → c ≡ get_or stack (k - 1) [] →
    vs ≡ extended (drop k stack) old → new ≡ amended c vs → new ≡ extended (drop (k - 1) stack) old
extended_next stack k c vs old new n h q e r =
    let next : suc (k - 1) ≡ k = omega (arith, n) in
    r ∙ ap (λ (x : Clause). amended x vs) q ∙ ap (λ (y : List Bool). amended (get_or stack (k - 1) []) y) e
    ∙ sym (ap (λ (s : List Clause). extended s old) (drop-cons stack (k - 1) [] (omega (arith, n, h))
    ∙ ap (λ j. get_or stack (k - 1) [] ∷ drop j stack) next))
