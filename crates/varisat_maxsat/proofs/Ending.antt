-- Where nothing is charged in a model the bound is the least cost, and where a core names no charge nothing satisfies the problem.
use Rattle.std.proofs.Common.{◌≡◌, ℕ, ◌*◌, ◌/◌, ◌%◌, ◌<◌, ◌≤◌, Bool, true, false, not, if◌then◌else◌, List, [], ◌∷◌, ◌⊎◌, inl, inr, ⊎_elim, take, refl, sym, ap, ◌∙◌, subst, arith}
use Rattle.std.proofs.lemmas.List.{get_or-take, length-take-le}
use Rattle.varisat_theory.specs.promises.Membership.{◌∈◌, ◌⊆◌}
use Rattle.varisat_theory.specs.promises.Literals.{Literal, Clause, Assignment, variable_of, opposite, value, SatisfiesAll, MakesTrue, IsSatisfiable}
use Rattle.varisat_theory.proofs.clauses.Values.{value-opposite, not_both, parity}
use Rattle.varisat_theory.proofs.journals.Renaming.{value_twice}
use Rattle.varisat_formula.specs.promises.Values.{assignment_of}
use Rattle.varisat_maxsat.specs.promises.Problems.{Soft, cost, IsSolution, IsOptimum}
use Rattle.varisat_maxsat.specs.inside.Charges.{charged, AgreeBelow, ClausesAreBelow, Reduces, AreAssumed, AreValues}
use Rattle.varisat_maxsat.specs.declared.charge.Charge.{Charge}
use Rattle.varisat_maxsat.proofs.Agreeing.{cost-agree, all-agree, opposite-variable}

-- no charge is due
pub charged-none : (a : Assignment) (cs : List Charge) → ((c : Charge) → c ∈ cs → value a c.literal ≡ false) → charged a cs ≡ 0
charged-none a [] f = refl
charged-none a (c ∷ cs) f =
    let e = ap (λ z. if z then c.weight else 0) (f c (inl refl)) in
    let g = charged-none a cs (λ d i. f d (inr i)) in omega arith

pub unsatisfiable : {H : List Clause} {S : List Soft} {n m k : ℕ} {P : List Clause} {cs : List Charge} → Reduces H S n m P cs [] 0 k →
    ((a : Assignment) → SatisfiesAll a P → ⊥) → IsSatisfiable H → ⊥
unsatisfiable r f (a, h) = let (b, o, s, e) = r.lower a h in f b s

-- the values read from a model make its literals true
even : (l : Literal) → l % 2 ≡ 0 → l ≡ 2 * (l / 2)
even l h = omega arith

odd : (l : Literal) → l % 2 ≡ 1 → l ≡ opposite (2 * (l / 2))
unfolding opposite
odd l h = omega arith

literal-cases : (l : Literal) → (l ≡ 2 * (l / 2)) ⊎ (l ≡ opposite (2 * (l / 2)))
literal-cases l = ⊎_elim (λ h. inl (even l h)) (λ h. inr (odd l h)) (parity l)

pub values-true : {m : ℕ} {model : List Literal} {vs : List Bool} (a : Assignment) → MakesTrue a model → AreValues m model vs →
    (l : Literal) → l ∈ model → variable_of l < m → value (assignment_of vs) l ≡ true
values-true {m} {model} {vs} a t r l i h =
    ⊎_elim
    (λ e. subst (λ z. value (assignment_of vs) z ≡ true) (sym e)
    (value_twice (assignment_of vs) (l / 2) ∙ (r.read (l / 2) h).1 (subst (λ z. z ∈ model) e i)))
    (λ e. subst (λ z. value (assignment_of vs) z ≡ true) (sym e) (value-opposite (assignment_of vs) (2 * (l / 2)) ∙
    ap not (value_twice (assignment_of vs) (l / 2) ∙ is-false (assignment_of vs (l / 2))
    (λ g. not_both a (2 * (l / 2)) (t (2 * (l / 2)) ((r.read (l / 2) h).0 g)) (subst (λ z. value a z ≡ true) e (t l i))))))
    (literal-cases l)
  where
    is-false : (b : Bool) → (b ≡ true → ⊥) → b ≡ false
    is-false true f = absurd (f refl)
    is-false false f = refl

-- the first values
taken-agree : (n : ℕ) (vs : List Bool) → AgreeBelow n (assignment_of vs) (assignment_of (take n vs))
taken-agree n vs v h = get_or-take n vs v false h

satisfied-by : (m : ℕ) (P : List Clause) (model : List Literal) (vs : List Bool) → ClausesAreBelow m P → (a : Assignment) → MakesTrue a model →
    ((c : Clause) → c ∈ P → (l : Literal) × (l ∈ c) × (l ∈ model)) → AreValues m model vs → SatisfiesAll (assignment_of vs) P
satisfied-by m P model vs below a t each vals c i = let (l, j, g) = each c i in (l, j, values-true a t vals l g (below c i l j))

pub solution-of : (H : List Clause) (n m : ℕ) (P : List Clause) (model : List Literal) (vs : List Bool) (S : List Soft) → n ≤ m → ClausesAreBelow n H →
    ClausesAreBelow m P → ((a : Assignment) → SatisfiesAll a P → SatisfiesAll a H) → (a : Assignment) → MakesTrue a model →
    ((c : Clause) → c ∈ P → (l : Literal) × (l ∈ c) × (l ∈ model)) → AreValues m model vs →
    IsSolution (record { variables = n; hard = H; soft = S }) (cost (assignment_of (take n vs)) S) (take n vs)
solution-of H n m P model vs S named hard_below below upper a t each vals = record {
  each = let e = vals.each in length-take-le n vs (omega arith);
  satisfied = all-agree n (assignment_of vs) (assignment_of (take n vs)) H (taken-agree n vs) hard_below (upper (assignment_of vs) (satisfied-by m P model vs below a t each vals));
  costs = refl;
}

pub solution : {H : List Clause} {S : List Soft} {n m k : ℕ} {P : List Clause} {cs : List Charge} {model : List Literal} {vs : List Bool} →
    Reduces H S n m P cs [] 0 k → (a : Assignment) → MakesTrue a model → ((c : Clause) → c ∈ P → (l : Literal) × (l ∈ c) × (l ∈ model)) → AreValues m model vs →
    IsSolution (record { variables = n; hard = H; soft = S }) (cost (assignment_of (take n vs)) S) (take n vs)
solution {H} {S} {n} {m} {k} {P} {cs} {model} {vs} r a t each vals =
    solution-of H n m P model vs S r.named r.hard_below r.clauses_below (λ b s. (r.upper b s).0) a t each vals

pub optimum : {H : List Clause} {S : List Soft} {n m k : ℕ} {P : List Clause} {cs : List Charge} {assumed model : List Literal} {vs : List Bool} →
    Reduces H S n m P cs [] 0 k → AreAssumed 0 cs assumed → (a : Assignment) → MakesTrue a model →
    ((c : Clause) → c ∈ P → (l : Literal) × (l ∈ c) × (l ∈ model)) → assumed ⊆ model → AreValues m model vs →
    IsOptimum (record { variables = n; hard = H; soft = S }) k (take n vs)
optimum {H} {S} {n} {m} {k} {P} {cs} {assumed} {model} {vs} r q a t each sub vals = record {
  solution = record {
    each = found.each;
    satisfied = found.satisfied;
    costs = let e = cost-agree n whole short S (taken-agree n vs) r.soft_below in let f = no_more in let g = least short found.satisfied in omega arith;
  };
  least = least;
}
  where
    whole : Assignment
    whole = assignment_of vs

    short : Assignment
    short = assignment_of (take n vs)

    found : IsSolution (record { variables = n; hard = H; soft = S }) (cost short S) (take n vs)
    found = solution r a t each vals

    uncharged : (c : Charge) → c ∈ cs → value whole c.literal ≡ false
    uncharged c i =
        let g = values-true a t vals (opposite c.literal) (sub (opposite c.literal) (q.all c i (omega arith)))
        (let e = opposite-variable c.literal in let h = r.charges_below c i in omega arith) in
        turn (value whole c.literal) (sym (value-opposite whole c.literal) ∙ g)
      where
        turn : (b : Bool) → not b ≡ true → b ≡ false
        turn true e = sym e
        turn false e = refl

    no_more : cost whole S ≤ k
    no_more = let e = (r.upper whole (satisfied-by m P model vs r.clauses_below a t each vals)).1 in let g = charged-none whole cs uncharged in omega arith

    least : (b : Assignment) → SatisfiesAll b H → k ≤ cost b S
    least b h = let (d, o, s, e) = r.lower b h in omega arith
