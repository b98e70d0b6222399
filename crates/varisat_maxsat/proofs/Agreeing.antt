-- Assignments that agree below a count, and sums of lists that are appended.
use Rattle.std.proofs.Common.{◌≡◌, ◌≢◌, ℕ, ◌+◌, ◌*◌, ◌/◌, ◌%◌, ◌<◌, ◌≤◌, Bool, not, ◌||◌, nat_eq, if◌then◌else◌, List, [], ◌∷◌, ◌++◌, inl, inr, ⊎_elim, refl, sym, ap, ◌∙◌, subst, eq-eqb, ne_eqb, zero-add, arith}
use Rattle.varisat_theory.specs.promises.Membership.{◌∈◌}
use Rattle.varisat_theory.specs.promises.Literals.{Literal, Clause, Assignment, variable_of, opposite, value, Satisfies, SatisfiesAll}
use Rattle.varisat_theory.proofs.clauses.Members.{∈-append_cases}
use Rattle.varisat_formula.specs.promises.Values.{is_satisfied}
use Rattle.varisat_maxsat.specs.promises.Problems.{Soft, cost}
use Rattle.varisat_maxsat.specs.inside.Charges.{charged, weighed, AgreeBelow, LiteralsAreBelow, ChargesAreBelow, ClausesAreBelow, SoftAreBelow}
use Rattle.varisat_maxsat.specs.declared.charge.Charge.{Charge}

pub value-agree : (n : ℕ) (a b : Assignment) (l : Literal) → AgreeBelow n a b → variable_of l < n → value b l ≡ value a l
unfolding value
value-agree n a b l f h = ap (λ x. if nat_eq (l % 2) 0 then x else not x) (f (l / 2) h)

pub satisfied-agree : (n : ℕ) (a b : Assignment) (c : Clause) → AgreeBelow n a b → LiteralsAreBelow n c → is_satisfied b c ≡ is_satisfied a c
satisfied-agree n a b [] f h = refl
satisfied-agree n a b (l ∷ c) f h =
    let e = value-agree n a b l f (h l (inl refl)) in
    let g = satisfied-agree n a b c f (λ k i. h k (inr i)) in
    ap (λ x. x || is_satisfied b c) e ∙ ap (λ x. value a l || x) g

pub cost-agree : (n : ℕ) (a b : Assignment) (S : List Soft) → AgreeBelow n a b → SoftAreBelow n S → cost b S ≡ cost a S
cost-agree n a b [] f h = refl
cost-agree n a b (s ∷ S) f h =
    let e = satisfied-agree n a b s.clause f (h s (inl refl)) in
    let g = cost-agree n a b S f (λ k i. h k (inr i)) in
    ap (λ x. (if x then 0 else s.weight) + cost b S) e ∙ ap (λ x. (if is_satisfied a s.clause then 0 else s.weight) + x) g

pub charged-agree : (n : ℕ) (a b : Assignment) (cs : List Charge) → AgreeBelow n a b → ChargesAreBelow n cs → charged b cs ≡ charged a cs
charged-agree n a b [] f h = refl
charged-agree n a b (c ∷ cs) f h =
    let e = value-agree n a b c.literal f (h c (inl refl)) in
    let g = charged-agree n a b cs f (λ k i. h k (inr i)) in
    ap (λ x. (if x then c.weight else 0) + charged b cs) e ∙ ap (λ x. (if value a c.literal then c.weight else 0) + x) g

pub weighed-agree : (n : ℕ) (a b : Assignment) (w : ℕ) (ls : List Literal) → AgreeBelow n a b → LiteralsAreBelow n ls → weighed b w ls ≡ weighed a w ls
weighed-agree n a b w [] f h = refl
weighed-agree n a b w (l ∷ ls) f h =
    let e = value-agree n a b l f (h l (inl refl)) in
    let g = weighed-agree n a b w ls f (λ k i. h k (inr i)) in
    ap (λ x. (if x then w else 0) + weighed b w ls) e ∙ ap (λ x. (if value a l then w else 0) + x) g

pub satisfies-agree : (n : ℕ) (a b : Assignment) (c : Clause) → AgreeBelow n a b → LiteralsAreBelow n c → Satisfies a c → Satisfies b c
satisfies-agree n a b c f h s = (s.0, s.1, value-agree n a b s.0 f (h s.0 s.1) ∙ s.2)

pub all-agree : (n : ℕ) (a b : Assignment) (P : List Clause) → AgreeBelow n a b → ClausesAreBelow n P → SatisfiesAll a P → SatisfiesAll b P
all-agree n a b P f h s c i = satisfies-agree n a b c f (h c i) (s c i)

-- sums over lists that are appended
pub charged-append : (a : Assignment) (xs ys : List Charge) → charged a (xs ++ ys) ≡ charged a xs + charged a ys
charged-append a [] ys = sym (zero-add (charged a ys))
charged-append a (x ∷ xs) ys = let g = charged-append a xs ys in omega arith

pub weighed-append : (a : Assignment) (w : ℕ) (xs ys : List Literal) → weighed a w (xs ++ ys) ≡ weighed a w xs + weighed a w ys
weighed-append a w [] ys = sym (zero-add (weighed a w ys))
weighed-append a w (x ∷ xs) ys = let g = weighed-append a w xs ys in omega arith

pub cost-append : (a : Assignment) (xs ys : List Soft) → cost a (xs ++ ys) ≡ cost a xs + cost a ys
cost-append a [] ys = sym (zero-add (cost a ys))
cost-append a (x ∷ xs) ys = let g = cost-append a xs ys in omega arith

-- below a count in lists that are appended
pub below-append : {X : Type 0} (f : X → List Literal) (n : ℕ) (xs : List X) (y : X) → ((x : X) → x ∈ xs → LiteralsAreBelow n (f x)) → LiteralsAreBelow n (f y) →
    (x : X) → x ∈ (xs ++ y ∷ []) → LiteralsAreBelow n (f x)
below-append f n xs y h k x i =
    ⊎_elim (λ j. h x j) (λ j. ⊎_elim (λ e. subst (λ z. LiteralsAreBelow n (f z)) (sym e) k) (λ z. absurd z) j) (∈-append_cases x xs (y ∷ []) i)

pub below-more : (n m : ℕ) (ls : List Literal) → n ≤ m → LiteralsAreBelow n ls → LiteralsAreBelow m ls
below-more n m ls h f l i = let k = f l i in omega arith

-- the assignment with another value at one variable
abbrev pub put : ℕ → Bool → Assignment → Assignment
put n p a v = if nat_eq v n then p else a v

pub put-there : (n : ℕ) (p : Bool) (a : Assignment) → put n p a n ≡ p
put-there n p a = ap (λ x. if x then p else a n) (eq-eqb n n refl)

pub put-agrees : (n : ℕ) (p : Bool) (a : Assignment) → AgreeBelow n a (put n p a)
put-agrees n p a v h = let k : v ≢ n = omega arith in ap (λ x. if x then p else a v) (ne_eqb v n k)

pub agree-less : (n m : ℕ) (a b : Assignment) → n ≤ m → AgreeBelow m a b → AgreeBelow n a b
agree-less n m a b h f v k = f v (omega arith)

pub agree-then : (n : ℕ) (a b d : Assignment) → AgreeBelow n a b → AgreeBelow n b d → AgreeBelow n a d
agree-then n a b d f g v h = g v h ∙ f v h

pub positive-below : (n m : ℕ) → n < m → variable_of (2 * n) < m
positive-below n m h = omega arith

pub opposite-variable : (l : Literal) → variable_of (opposite l) ≡ variable_of l
unfolding opposite
opposite-variable l = omega arith
