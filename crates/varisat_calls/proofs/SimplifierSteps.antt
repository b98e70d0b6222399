-- What the calls of a simplifier make of it, over its fields.
use Rattle.std.proofs.Common.{◌≡◌, ◌≤◌, ◌^◌, ℕ, ℤ, pos, Bool, true, false, List, [], length, map, refl, sym, ap, subst, ◌∙◌}
use Rattle.std.specs.Prelude.{Option, Some, None, is_some, IfSome, unwrap_or}
use Rattle.varisat_theory.specs.promises.Membership.{◌∈◌}
use Rattle.varisat_theory.specs.promises.Literals.{Literal, Clause}
use Rattle.varisat_theory.specs.promises.Derivations.{Line}
use Rattle.varisat_literals.specs.promises.Numbers.{literal_numbered}
use Rattle.varisat_formula.specs.promises.Formulas.{Formula, AreBelow}
use Rattle.varisat_rules.specs.promises.Stacks.{extended, KeepsFrozen}
use Rattle.varisat_simplify.specs.promises.Simplified.{IsMadeOf}
use Rattle.varisat_formula.specs.promises.Values.{model_values}
use Rattle.varisat_calls.specs.Lists.{clause_numbers, value_numbers}
use Rattle.varisat_calls.specs.Simplifiers.{SimplifiedFormula, Simplifier, made_of, given_of, AreNoLonger, SimplifiesFormula, Simplifies, Simplified, ListsClauses, Listed, NoRoom, Extends, Extended}
use Rattle.varisat_formula.proofs.ValueLemmas.{length-model}
use Rattle.varisat_rules.proofs.ExtendLemmas.{extended_length}
use Rattle.varisat_calls.proofs.Extending.{extension}

-- a simplifier by its fields
abbrev pub simplifier_of : Option (List Clause) → Formula → ℕ → List Clause → List Bool → List ℤ → Simplifier
simplifier_of stack f n cs frozen list = record { given = given_of stack f n cs; frozen = frozen; made = made_of stack f; list = list }

-- what is true of it
abbrev pub IsRight : Option (List Clause) → Formula → ℕ → List Clause → List Bool → Type 0
IsRight stack f n cs frozen = IfSome (made_of stack f) (SimplifiesFormula (given_of stack f n cs) frozen)

-- as many values are made as there are variables
pub few_values : (stack : List Clause) (n : ℕ) (ls : List Literal) (vs : List Bool) → n ≤ 2 ^ 31 → vs ≡ extended stack (model_values n ls) →
    length vs ≤ 2 ^ 31
few_values stack n ls vs h e =
    subst (λ k. k ≤ 2 ^ 31) (sym (ap length e ∙ (extended_length stack (model_values n ls) ∙ length-model n ls))) h

pub simplified-now : (old : Option (List Clause)) (f left : Formula) (n count : ℕ) (before cs : List Clause) (frozen flags : List Bool)
    (list : List ℤ) (stack : List Clause) (lines : List Line) → is_some old ≡ false → count ≡ f.var_count → cs ≡ f.clauses →
    IsMadeOf f left stack lines → flags ≡ frozen → KeepsFrozen flags stack → AreNoLonger left.clauses f.clauses → AreBelow f.var_count f.clauses → count ≤ 2 ^ 31 →
    Simplifies (simplifier_of old f n before frozen list) 0 (simplifier_of (Some stack) left count cs frozen list)
simplified-now (Some x) f left n count before cs frozen flags list stack lines none e q made same keeps short below small = absurd (cc)
simplified-now None f left n count before cs frozen flags list stack lines none e q made same keeps short below small =
    Simplified (record { left = left; stack = stack })
    (record { made = (lines, made); keeps = subst (λ fs. KeepsFrozen fs stack) same keeps; shorter = short; below = below; small = subst (λ k. k ≤ 2 ^ 31) e small })
    refl refl (λ i. simplifier_of (Some stack) left (e i) (q i) frozen list)

pub listed-now : (stack : Option (List Clause)) (f : Formula) (n : ℕ) (cs : List Clause) (frozen : List Bool) (old new : List ℤ) (number : ℕ) →
    is_some stack ≡ true → IsRight stack f n cs frozen → number ≡ 0 → new ≡ clause_numbers f.clauses →
    ListsClauses (simplifier_of stack f n cs frozen old) number (simplifier_of stack f n cs frozen new)
listed-now None f n cs frozen old new number some right z put = absurd (cc)
listed-now (Some s) f n cs frozen old new number some right z put =
    Listed (record { left = f; stack = s }) right refl z (ap (λ ls. simplifier_of (Some s) f n cs frozen ls) put)

-- there was a list, but no room for it
pub unlisted-now : (stack : Option (List Clause)) (f : Formula) (n : ℕ) (cs : List Clause) (frozen : List Bool) (old new : List ℤ) (number : ℕ) →
    is_some stack ≡ true → number ≡ 3 → ListsClauses (simplifier_of stack f n cs frozen old) number (simplifier_of stack f n cs frozen new)
unlisted-now None f n cs frozen old new number some three = absurd (cc)
unlisted-now (Some s) f n cs frozen old new number some three = NoRoom refl three refl

pub extended-now : (numbers : List ℤ) (stack : Option (List Clause)) (f : Formula) (n : ℕ) (cs : List Clause) (frozen : List Bool)
    (old new : List ℤ) (number : ℕ) (s : List Clause) (ls : List Literal) → (pos 0 ∈ numbers → ⊥) → ls ≡ map literal_numbered numbers → stack ≡ Some s →
    IsRight stack f n cs frozen → number ≡ 0 → new ≡ value_numbers (extended s (model_values n ls)) →
    Extends numbers (simplifier_of stack f n cs frozen old) number (simplifier_of stack f n cs frozen new)
extended-now numbers None f n cs frozen old new number s ls absent are is right z put = absurd (cc)
extended-now numbers (Some t) f n cs frozen old new number s ls absent are is right z put =
    let same : s ≡ t = ap (λ o. unwrap_or o []) (sym is) in
    let all = map literal_numbered numbers in
    let m : SimplifiedFormula = record { left = f; stack = t } in
    Extended m (extended t (model_values n all)) absent (extension (simplifier_of (Some t) f n cs frozen old) m all right) refl z
    (ap (λ vs. simplifier_of (Some t) f n cs frozen vs) (put ∙ (λ i. value_numbers (extended (same i) (model_values n (are i))))))
