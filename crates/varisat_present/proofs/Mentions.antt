-- Clauses that mention a variable.
use Rattle.std.proofs.Common.{◌≡◌, ℕ, zero, suc, ◌+◌, ◌<◌, [], ◌∷◌, length, take, get_or, Bool, true, false, ◌||◌, nat_eq, refl, sym, ap, ◌∙◌, arith, rules}
use Rattle.std.proofs.lemmas.Bool.{or_parts, eq-eqb}
use Rattle.varisat_theory.specs.promises.Literals.{Clause, variable_of}
use Rattle.varisat_theory.specs.promises.Held.{mentions}

or_true : (a : Bool) (b : Bool) → b ≡ true → (a || b) ≡ true
or_true true b e = refl
or_true false b e = e

not_equal : (a b : ℕ) → (a ≡ b → ⊥) → nat_eq a b ≡ false
not_equal a b h = search (rules, h)

pub mentioned : (v : ℕ) (c : Clause) (i : ℕ) → i < length c → variable_of (get_or c i 0) ≡ v → mentions v c ≡ true
mentioned v [] i h e = absurd (omega arith)
mentioned v (x ∷ c) zero h e = ap (λ t. t || mentions v c) (eq-eqb (variable_of x) v e)
mentioned v (x ∷ c) (suc i) h e = or_true (nat_eq (variable_of x) v) (mentions v c) (mentioned v c i (omega arith) e)

pub not_mentioned : (v : ℕ) (c : Clause) (i : ℕ) → i < length c → (variable_of (get_or c i 0) ≡ v → ⊥) → mentions v (take i c) ≡ false →
    mentions v (take (i + 1) c) ≡ false
not_mentioned v [] i h n e = absurd (omega arith)
not_mentioned v (x ∷ c) zero h n e = ap (λ t. t || false) (not_equal (variable_of x) v n)
not_mentioned v (x ∷ c) (suc i) h n e =
    let (a, b) = or_parts (nat_eq (variable_of x) v) (mentions v (take i c)) e in
    let rest = not_mentioned v c i (omega arith) n b in
    ap (λ k. mentions v (take k (x ∷ c))) (sym (more i)) ∙ ap (λ t. t || mentions v (take (i + 1) c)) a ∙ rest
  where
    more : (i : ℕ) → suc (i + 1) ≡ suc i + 1
    more i = omega arith
