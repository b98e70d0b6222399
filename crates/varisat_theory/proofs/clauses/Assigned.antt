-- Clauses under assignments and under known literals.
use Rattle.std.proofs.Common.{◌≡◌, true, List, [], ◌∷◌, ◌++◌, ◌⊎◌, inl, inr, ⊎_elim, sym, subst, refl}
use Rattle.varisat_theory.specs.promises.Membership.{◌∈◌, ◌⊆◌}
use Rattle.varisat_theory.specs.promises.Literals.{Literal, Clause, Assignment, opposite, value, Satisfies, SatisfiesAll, MakesTrue}
use Rattle.varisat_theory.specs.promises.Propagation.{IsFalse, LeavesOnly, HasFalse}
use Rattle.varisat_theory.proofs.clauses.Members.{∈-append_cases, ∈-append_left}
use Rattle.varisat_theory.proofs.clauses.Values.{not_both, true_or_opposite}

-- a known literal of the clause, or the clause is false
true_literal : (known : List Literal) (c : Clause) → ((l : Literal) → l ∈ c → (l ∈ known) ⊎ (opposite l ∈ known)) →
    ((l : Literal) × (l ∈ c) × (l ∈ known)) ⊎ IsFalse known c
true_literal known [] f = inr (λ m h. absurd h)
true_literal known (x ∷ c) f =
    ⊎_elim
    (λ k. inl (x, inl refl, k))
    (λ k. ⊎_elim (λ w. inl (w.0, inr w.1, w.2)) (λ w. inr (λ m h. ⊎_elim (λ e. subst (λ y. opposite y ∈ known) (sym e) k) (w m) h))
    (true_literal known c (λ l h. f l (inr h))))
    (f x (inl refl))

-- where each literal of the clauses is assigned and no clause is false, the assignment satisfies them
pub assigned_satisfies : (P : List Clause) (known : List Literal) (a : Assignment) → MakesTrue a known → (HasFalse P known → ⊥) →
    ((c : Clause) → c ∈ P → (l : Literal) → l ∈ c → (l ∈ known) ⊎ (opposite l ∈ known)) → SatisfiesAll a P
assigned_satisfies P known a t n f c h =
    ⊎_elim (λ w. (w.0, w.1, t w.0 w.2)) (λ w. absurd (n (c, h, w))) (true_literal known c (f c h))

-- where all literals of a clause but l are false, and the clause is satisfied, l is true
pub left_true : (a : Assignment) (known : List Literal) (c : Clause) (l : Literal) → MakesTrue a known → LeavesOnly known c l → Satisfies a c → value a l ≡ true
left_true a known c l t u s =
    ⊎_elim (λ e. subst (λ x. value a x ≡ true) e s.2) (λ h. absurd (not_both a s.0 s.2 (t (opposite s.0) h))) (u s.0 s.1)

-- a false clause is not satisfied
pub false_unsatisfied : (a : Assignment) (known : List Literal) (c : Clause) → MakesTrue a known → IsFalse known c → Satisfies a c → ⊥
false_unsatisfied a known c t f s = not_both a s.0 s.2 (t (opposite s.0) (f s.0 s.1))

-- one more clause
pub satisfies_more : (a : Assignment) (P : List Clause) (c : Clause) → SatisfiesAll a P → Satisfies a c → SatisfiesAll a (P ++ c ∷ [])
satisfies_more a P c s h d m =
    ⊎_elim (λ k. s d k) (λ k. ⊎_elim (λ e. subst (λ y. Satisfies a y) (sym e) h) (λ z. absurd z) k) (∈-append_cases d P (c ∷ []) m)

pub satisfies_fewer : (a : Assignment) (P Q : List Clause) → SatisfiesAll a (P ++ Q) → SatisfiesAll a P
satisfies_fewer a P Q s c h = s c (∈-append_left c P Q h)

pub same_set_satisfied : (a : Assignment) (c d : Clause) → c ⊆ d → Satisfies a c → Satisfies a d
same_set_satisfied a c d s w = (w.0, s w.0 w.1, w.2)

pub tautology_satisfied : (a : Assignment) (c : Clause) (l : Literal) → l ∈ c → opposite l ∈ c → Satisfies a c
tautology_satisfied a c l h k = ⊎_elim (λ t. (l, h, t)) (λ t. (opposite l, k, t)) (true_or_opposite a l)
