-- A problem that is brought down takes one more clause.
use Rattle.std.proofs.Common.{◌≡◌, ℕ, ◌+◌, ◌*◌, ◌<◌, ◌≤◌, Bool, true, false, not, ◌||◌, if◌then◌else◌, List, [], ◌∷◌, ◌++◌, ◌⊎◌, inl, inr, ⊎_elim, refl, sym, ap, ◌∙◌, subst, arith}
use Rattle.varisat_theory.specs.promises.Literals.{Literal, Clause, Assignment, variable_of, opposite, value, Satisfies, SatisfiesAll}
use Rattle.varisat_theory.proofs.clauses.Members.{∈-append_left, ∈-append_right, ∈-append_cases}
use Rattle.varisat_theory.proofs.clauses.Values.{value-opposite}
use Rattle.varisat_theory.proofs.clauses.Assigned.{satisfies_more, satisfies_fewer}
use Rattle.varisat_theory.proofs.journals.Renaming.{value_twice}
use Rattle.varisat_formula.specs.promises.Values.{is_satisfied}
use Rattle.varisat_maxsat.specs.promises.Problems.{Soft, cost}
use Rattle.varisat_maxsat.specs.inside.Charges.{charged, AgreeBelow, LiteralsAreBelow, ChargesAreBelow, ClausesAreBelow, Reduces}
use Rattle.varisat_maxsat.specs.declared.charge.Charge.{Charge}
use Rattle.varisat_formula.proofs.ValueLemmas.{is-satisfied, satisfied-is}
use Rattle.varisat_maxsat.proofs.Agreeing.{satisfied-agree, charged-agree, satisfies-agree, all-agree, charged-append, cost-append, below-append, below-more, put, put-there, put-agrees, agree-less, agree-then, positive-below, opposite-variable}

-- the last of the clauses
pub last-satisfied : (a : Assignment) (P : List Clause) (c : Clause) → SatisfiesAll a (P ++ c ∷ []) → Satisfies a c
last-satisfied a P c s = s c (∈-append_right c P (c ∷ []) (inl refl))

pub charge-below : (m : ℕ) (cs : List Charge) (c : Charge) → ChargesAreBelow m cs → variable_of c.literal < m → ChargesAreBelow m (cs ++ c ∷ [])
charge-below m cs c h k d i =
    ⊎_elim (λ j. h d j) (λ j. ⊎_elim (λ e. subst (λ (x : Charge). variable_of x.literal < m) (sym e) k) (λ z. absurd z) j) (∈-append_cases d cs (c ∷ []) i)

pub charges-more : (n m : ℕ) (cs : List Charge) → n ≤ m → ChargesAreBelow n cs → ChargesAreBelow m cs
charges-more n m cs h f c i = let k = f c i in omega arith

pub clauses-more : (n m : ℕ) (P : List Clause) → n ≤ m → ClausesAreBelow n P → ClausesAreBelow m P
clauses-more n m P h f c i = below-more n m c h (f c i)

-- no clause at all
pub nothing-added : (n : ℕ) → Reduces [] [] n n [] [] [] 0 0
nothing-added n = record {
  named = omega arith;
  hard_below = λ c i. absurd i;
  soft_below = λ s i. absurd i;
  clauses_below = λ c i. absurd i;
  charges_below = λ c i. absurd i;
  pending_below = λ l i. absurd i;
  lower = λ a h. (a, (λ v k. refl), h, omega arith);
  upper = λ a h. (h, omega arith);
}

pub hard-added : {H : List Clause} {S : List Soft} {n m k : ℕ} {P : List Clause} {cs : List Charge} (c : Clause) → LiteralsAreBelow n c →
    Reduces H S n m P cs [] 0 k → Reduces (H ++ c ∷ []) S n m (P ++ c ∷ []) cs [] 0 k
hard-added {H} {S} {n} {m} {k} {P} {cs} c b r = record {
  named = r.named;
  hard_below = below-append (λ x. x) n H c r.hard_below b;
  soft_below = r.soft_below;
  clauses_below = below-append (λ x. x) m P c r.clauses_below (below-more n m c r.named b);
  charges_below = r.charges_below;
  pending_below = r.pending_below;
  lower = λ a h.
      let (d, f, s, e) = r.lower a (satisfies_fewer a H (c ∷ []) h) in
      (d, f, satisfies_more d P c s (satisfies-agree n a d c f b (last-satisfied a H c h)), e);
  upper = λ a h.
      let (s, e) = r.upper a (satisfies_fewer a P (c ∷ []) h) in
      (satisfies_more a H c s (last-satisfied a P c h), e);
}

-- a clause that costs nothing
pub weightless-soft-added : {H : List Clause} {S : List Soft} {n m k : ℕ} {P : List Clause} {cs : List Charge} (s : Soft) → LiteralsAreBelow n s.clause → s.weight ≡ 0 →
    Reduces H S n m P cs [] 0 k → Reduces H (S ++ s ∷ []) n m P cs [] 0 k
weightless-soft-added {H} {S} {n} {m} {k} {P} {cs} s b z r = record {
  named = r.named;
  hard_below = r.hard_below;
  soft_below = below-append (λ (x : Soft). x.clause) n S s r.soft_below b;
  clauses_below = r.clauses_below;
  charges_below = r.charges_below;
  pending_below = r.pending_below;
  lower = λ a h. let (d, f, t, e) = r.lower a h in let g = same a in (d, f, t, omega arith);
  upper = λ a h. let (t, e) = r.upper a h in let g = same a in (t, omega arith);
}
  where
    none : (x : Bool) → (if x then 0 else s.weight) ≡ 0
    none true = refl
    none false = z

    same : (a : Assignment) → cost a (S ++ s ∷ []) ≡ cost a S
    same a = let e = cost-append a S (s ∷ []) in let f = none (is_satisfied a s.clause) in omega arith

-- a soft clause of one literal: its opposite is charged
pub soft-literal-added : {H : List Clause} {S : List Soft} {n m k : ℕ} {P : List Clause} {cs : List Charge} (l : Literal) (w : ℕ) → LiteralsAreBelow n (l ∷ []) →
    Reduces H S n m P cs [] 0 k →
    Reduces H (S ++ record { weight = w; clause = l ∷ [] } ∷ []) n m P (cs ++ record { literal = opposite l; weight = w } ∷ []) [] 0 k
soft-literal-added {H} {S} {n} {m} {k} {P} {cs} l w b r = record {
  named = r.named;
  hard_below = r.hard_below;
  soft_below = below-append (λ (x : Soft). x.clause) n S (record { weight = w; clause = l ∷ [] }) r.soft_below b;
  clauses_below = r.clauses_below;
  charges_below = charge-below m cs (record { literal = opposite l; weight = w }) r.charges_below
      (let e = opposite-variable l in let h = b l (inl refl) in let g = r.named in omega arith);
  pending_below = r.pending_below;
  lower = λ a h.
      let (d, f, t, e) = r.lower a h in
      let u = value-agrees a d f in
      let g = cost-more a in
      let i = charged-more d in
      let j = ap (λ x. if not x then w else 0) u in
      (d, f, t, omega arith);
  upper = λ a h.
      let (t, e) = r.upper a h in
      let g = cost-more a in
      let i = charged-more a in
      (t, omega arith);
}
  where
    value-agrees : (a d : Assignment) → AgreeBelow n a d → value d l ≡ value a l
    value-agrees a d f = or-false (value d l) (value a l) (satisfied-agree n a d (l ∷ []) f b)
      where
        or-false : (x y : Bool) → (x || false) ≡ (y || false) → x ≡ y
        or-false true true e = refl
        or-false true false e = e
        or-false false true e = e
        or-false false false e = refl

    turned : (x : Bool) → (if x || false then 0 else w) ≡ (if not x then w else 0)
    turned true = refl
    turned false = refl

    cost-more : (a : Assignment) → cost a (S ++ record { weight = w; clause = l ∷ [] } ∷ []) ≡ cost a S + (if not (value a l) then w else 0)
    cost-more a = let e = cost-append a S (record { weight = w; clause = l ∷ [] } ∷ []) in let f = turned (value a l) in omega arith

    charged-more : (a : Assignment) →
        charged a (cs ++ record { literal = opposite l; weight = w } ∷ []) ≡ charged a cs + (if not (value a l) then w else 0)
    charged-more a =
        let e = charged-append a cs (record { literal = opposite l; weight = w } ∷ []) in
        let f = ap (λ x. if x then w else 0) (value-opposite a l) in omega arith

-- a soft clause: a new literal is true where it is not satisfied, and is charged
pub soft-clause-added : {H : List Clause} {S : List Soft} {n m k : ℕ} {P : List Clause} {cs : List Charge} (c : Clause) (w : ℕ) → LiteralsAreBelow n c →
    Reduces H S n m P cs [] 0 k →
    Reduces H (S ++ record { weight = w; clause = c } ∷ []) n (m + 1) (P ++ (c ++ (2 * m) ∷ []) ∷ [])
    (cs ++ record { literal = 2 * m; weight = w } ∷ []) [] 0 k
soft-clause-added {H} {S} {n} {m} {k} {P} {cs} c w b r = record {
  named = let e = r.named in omega arith;
  hard_below = r.hard_below;
  soft_below = below-append (λ (x : Soft). x.clause) n S (record { weight = w; clause = c }) r.soft_below b;
  clauses_below = below-append (λ x. x) (m + 1) P (c ++ (2 * m) ∷ []) (clauses-more m (m + 1) P (omega arith) r.clauses_below) longer-below;
  charges_below = charge-below (m + 1) cs (record { literal = 2 * m; weight = w }) (charges-more m (m + 1) cs (omega arith) r.charges_below)
      (positive-below m (m + 1) (omega arith));
  pending_below = λ l i. absurd i;
  lower = λ a h.
      let (d, f, t, e) = r.lower a h in
      let p = not (is_satisfied a c) in
      let x = put m p d in
      let o : AgreeBelow m d x = put-agrees m p d in
      let v : value x (2 * m) ≡ p = value_twice x m ∙ put-there m p d in
      let y : AgreeBelow n a x = agree-then n a d x f (agree-less n m d x r.named o) in
      let g = cost-more a in
      let i = charged-more x in
      let j = charged-agree m d x cs o r.charges_below in
      let q = ap (λ z. if z then w else 0) v in (
        x,
        y,
        satisfies_more x P (c ++ (2 * m) ∷ []) (all-agree m d x P o r.clauses_below t) (longer x (is_satisfied a c) v (satisfied-agree n a x c y b)),
        omega arith,
      );
  upper = λ a h.
      let (t, e) = r.upper a (satisfies_fewer a P ((c ++ (2 * m) ∷ []) ∷ []) h) in
      let g = cost-more a in
      let i = charged-more a in
      let j = at-most a (last-satisfied a P (c ++ (2 * m) ∷ []) h) in
      (t, omega arith);
}
  where
    longer-below : LiteralsAreBelow (m + 1) (c ++ (2 * m) ∷ [])
    longer-below l i =
        ⊎_elim (λ j. below-more n (m + 1) c (let e = r.named in omega arith) b l j)
        (λ j. ⊎_elim (λ e. subst (λ x. variable_of x < m + 1) (sym e) (positive-below m (m + 1) (omega arith))) (λ z. absurd z) j)
        (∈-append_cases l c ((2 * m) ∷ []) i)

    turned : (x : Bool) → (if x then 0 else w) ≡ (if not x then w else 0)
    turned true = refl
    turned false = refl

    cost-more : (a : Assignment) → cost a (S ++ record { weight = w; clause = c } ∷ []) ≡ cost a S + (if not (is_satisfied a c) then w else 0)
    cost-more a = let e = cost-append a S (record { weight = w; clause = c } ∷ []) in let f = turned (is_satisfied a c) in omega arith

    charged-more : (a : Assignment) → charged a (cs ++ record { literal = 2 * m; weight = w } ∷ []) ≡ charged a cs + (if value a (2 * m) then w else 0)
    charged-more a = let e = charged-append a cs (record { literal = 2 * m; weight = w } ∷ []) in omega arith

    longer : (x : Assignment) (p : Bool) → value x (2 * m) ≡ not p → is_satisfied x c ≡ p → Satisfies x (c ++ (2 * m) ∷ [])
    longer x true v s = let t = satisfied-is x c s in (t.0, ∈-append_left t.0 c ((2 * m) ∷ []) t.1, t.2)
    longer x false v s = (2 * m, ∈-append_right (2 * m) c ((2 * m) ∷ []) (inl refl), v)

    decide : (p q : Bool) → (p ≡ true) ⊎ (q ≡ true) → (if not p then w else 0) ≤ (if q then w else 0)
    decide true q h = omega arith
    decide false true h = omega arith
    decide false false h = ⊎_elim (λ z. absurd cc) (λ z. absurd cc) h

    at-most : (a : Assignment) → Satisfies a (c ++ (2 * m) ∷ []) → (if not (is_satisfied a c) then w else 0) ≤ (if value a (2 * m) then w else 0)
    at-most a s = decide (is_satisfied a c) (value a (2 * m))
        (⊎_elim (λ j. inl (is-satisfied a c (s.0, j, s.2)))
        (λ j. ⊎_elim (λ e. inr (subst (λ x. value a x ≡ true) e s.2)) (λ z. absurd z) j) (∈-append_cases s.0 c ((2 * m) ∷ []) s.1))
