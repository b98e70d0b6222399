-- What values of variables that are a list make of literals and clauses.
use Rattle.std.proofs.Common.{◌≡◌, ℕ, zero, suc, ◌/◌, ◌%◌, ◌<◌, Bool, true, false, ◌||◌, nat_eq, List, [], ◌∷◌, inl, inr, ⊎_elim, refl, sym, ap, ◌∙◌, subst, length, replicate, length-set, get_or-set_same, get_or-set_other}
use Rattle.std.proofs.lemmas.Bool.{cases_lt}
use Rattle.std.proofs.lemmas.List.{set_past}
use Rattle.varisat_theory.specs.promises.Membership.{◌∈◌}
use Rattle.varisat_theory.specs.promises.Literals.{Literal, Clause, Assignment, opposite, value, Satisfies}
use Rattle.varisat_theory.proofs.clauses.Members.{equal_or_not}
use Rattle.varisat_theory.proofs.clauses.Values.{either_true, same_or_opposite, value_by}
use Rattle.varisat_formula.specs.promises.Values.{assignment_of, is_satisfied, with_true, with_all_true, model_values}

-- 1. How many values there are.
pub length-true : (l : Literal) (vs : List Bool) → length (with_true l vs) ≡ length vs
length-true l vs = length-set vs (l / 2) (nat_eq (l % 2) 0)

length-all-true : (ls : List Literal) (vs : List Bool) → length (with_all_true ls vs) ≡ length vs
length-all-true [] vs = refl
length-all-true (l ∷ ls) vs = length-all-true ls (with_true l vs) ∙ length-true l vs

length-copies : (n : ℕ) → length (replicate n false) ≡ n
length-copies zero = refl
length-copies (suc n) = ap suc (length-copies n)

pub length-model : (n : ℕ) (ls : List Literal) → length (model_values n ls) ≡ n
length-model n ls = length-all-true ls (replicate n false) ∙ length-copies n

-- 2. A literal that is made true.
pub made-true : (vs : List Bool) (l : Literal) → l / 2 < length vs → value (assignment_of (with_true l vs)) l ≡ true
made-true vs l h =
    value_by (assignment_of (with_true l vs)) l (nat_eq (l % 2) 0) (get_or-set_same vs (l / 2) (nat_eq (l % 2) 0) false h)
    ∙ either_true (nat_eq (l % 2) 0)

value-same : (a b : Assignment) (l : Literal) → a (l / 2) ≡ b (l / 2) → value a l ≡ value b l
value-same a b l e = value_by a l (b (l / 2)) e ∙ sym (value_by b l (b (l / 2)) refl)

-- what is true stays so, but for the opposite
pub stays-true : (vs : List Bool) (l m : Literal) → l / 2 < length vs → (m ≡ opposite l → ⊥) → value (assignment_of vs) m ≡ true →
    value (assignment_of (with_true l vs)) m ≡ true
stays-true vs l m h n t =
    ⊎_elim
    (λ e. ⊎_elim
    (λ q. subst (λ x. value (assignment_of (with_true l vs)) x ≡ true) (sym q) (made-true vs l h))
    (λ q. absurd (n q))
    (same_or_opposite m l e))
    (λ d. value-same (assignment_of (with_true l vs)) (assignment_of vs) m (get_or-set_other vs (l / 2) (m / 2) (nat_eq (l % 2) 0) false d) ∙ t)
    (equal_or_not (m / 2) (l / 2))

-- so it does where the literal has no value, which is passed over
stays : (vs : List Bool) (l m : Literal) → (m ≡ opposite l → ⊥) → value (assignment_of vs) m ≡ true →
    value (assignment_of (with_true l vs)) m ≡ true
stays vs l m n t = ⊎_elim
    (λ h. stays-true vs l m h n t)
    (λ h. subst (λ ws. value (assignment_of ws) m ≡ true) (sym (set_past vs (l / 2) (nat_eq (l % 2) 0) h)) t)
    (cases_lt (l / 2) (length vs))

-- 3. All literals of a list.
all-stay : (ls : List Literal) (vs : List Bool) (m : Literal) → ((l : Literal) → l ∈ ls → m ≡ opposite l → ⊥) →
    value (assignment_of vs) m ≡ true → value (assignment_of (with_all_true ls vs)) m ≡ true
all-stay [] vs m n t = t
all-stay (l ∷ ls) vs m n t = all-stay ls (with_true l vs) m (λ k h. n k (inr h)) (stays vs l m (n l (inl refl)) t)

all-true : (ls : List Literal) (vs : List Bool) (m : Literal) → ((l : Literal) → l ∈ ls → m ≡ opposite l → ⊥) → m ∈ ls →
    m / 2 < length vs → value (assignment_of (with_all_true ls vs)) m ≡ true
all-true [] vs m n i h = absurd i
all-true (l ∷ ls) vs m n (inl e) h =
    all-stay ls (with_true l vs) m (λ k j. n k (inr j))
    (subst (λ k. value (assignment_of (with_true k vs)) m ≡ true) e (made-true vs m h))
all-true (l ∷ ls) vs m n (inr i) h =
    all-true ls (with_true l vs) m (λ k j. n k (inr j)) i (subst (λ k. m / 2 < k) (sym (length-true l vs)) h)

-- each literal of the list is true by its values, where no opposite is in it
pub model-true : (n : ℕ) (ls : List Literal) (m : Literal) → ((l : Literal) → l ∈ ls → m ≡ opposite l → ⊥) → m ∈ ls → m / 2 < n →
    value (assignment_of (model_values n ls)) m ≡ true
model-true n ls m apart i h = all-true ls (replicate n false) m apart i (subst (λ k. m / 2 < k) (sym (length-copies n)) h)

-- 4. Clauses with a true literal, as a test.
pub is-satisfied : (a : Assignment) (c : Clause) → Satisfies a c → is_satisfied a c ≡ true
is-satisfied a [] s = absurd s.1
is-satisfied a (l ∷ c) s =
    ⊎_elim
    (λ e. ap (λ x. x || is_satisfied a c) (subst (λ x. value a x ≡ true) e s.2))
    (λ i. ap (λ x. value a l || x) (is-satisfied a c (s.0, i, s.2)) ∙ or-true (value a l))
    s.1
  where
    or-true : (b : Bool) → b || true ≡ true
    or-true true = refl
    or-true false = refl

pub satisfied-is : (a : Assignment) (c : Clause) → is_satisfied a c ≡ true → Satisfies a c
satisfied-is a [] e = let z : false ≡ true = e in cc
satisfied-is a (l ∷ c) e = go (λ g. satisfied-is a c g) (value a l) refl
  where
    go : (is_satisfied a c ≡ true → Satisfies a c) → (b : Bool) → value a l ≡ b → Satisfies a (l ∷ c)
    go rest true f = (l, inl refl, f)
    go rest false f = let s = rest (sym (ap (λ x. x || is_satisfied a c) f) ∙ e) in (s.0, inr s.1, s.2)
