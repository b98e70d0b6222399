-- Two pending literals are joined: one new literal is true where either is, and one where both are.
use Rattle.std.proofs.Common.{◌≡◌, ℕ, ◌+◌, ◌*◌, ◌<◌, ◌≤◌, Bool, true, false, not, ◌||◌, ◌&&◌, if◌then◌else◌, List, [], ◌∷◌, ◌++◌, inl, inr, ⊎_elim, refl, sym, ap, ◌∙◌, subst, arith}
use Rattle.varisat_theory.specs.promises.Literals.{Literal, Clause, Assignment, variable_of, opposite, value, Satisfies, SatisfiesAll}
use Rattle.varisat_theory.proofs.clauses.Members.{∈-append_left, ∈-append_right, ∈-append_cases}
use Rattle.varisat_theory.proofs.clauses.Values.{value-opposite, not_both}
use Rattle.varisat_theory.proofs.clauses.Assigned.{satisfies_more, satisfies_fewer}
use Rattle.varisat_theory.proofs.journals.Renaming.{value_twice}
use Rattle.varisat_maxsat.specs.promises.Problems.{Soft}
use Rattle.varisat_maxsat.specs.inside.Charges.{charged, weighed, AgreeBelow, LiteralsAreBelow, Reduces, IsPending}
use Rattle.varisat_maxsat.specs.declared.charge.Charge.{Charge}
use Rattle.varisat_maxsat.proofs.Agreeing.{value-agree, charged-agree, weighed-agree, all-agree, charged-append, weighed-append, below-append, put, put-there, put-agrees, agree-less, agree-then, opposite-variable}
use Rattle.varisat_maxsat.proofs.Adding.{last-satisfied, charge-below, charges-more, clauses-more}

or-true : (b : Bool) → b || true ≡ true
or-true true = refl
or-true false = refl

opposite-true : (a : Assignment) (l : Literal) → value a l ≡ false → value a (opposite l) ≡ true
opposite-true a l e = value-opposite a l ∙ ap not e

-- the clauses of a gate are satisfied
first-clause : (a : Assignment) (x y d : Literal) → value a d ≡ (value a x || value a y) → Satisfies a (opposite x ∷ d ∷ [])
first-clause a x y d v = go (value a x) refl
  where
    go : (b : Bool) → value a x ≡ b → Satisfies a (opposite x ∷ d ∷ [])
    go true e = (d, inr (inl refl), v ∙ ap (λ z. z || value a y) e)
    go false e = (opposite x, inl refl, opposite-true a x e)

second-clause : (a : Assignment) (x y d : Literal) → value a d ≡ (value a x || value a y) → Satisfies a (opposite y ∷ d ∷ [])
second-clause a x y d v = go (value a y) refl
  where
    go : (b : Bool) → value a y ≡ b → Satisfies a (opposite y ∷ d ∷ [])
    go true e = (d, inr (inl refl), v ∙ ap (λ z. value a x || z) e ∙ or-true (value a x))
    go false e = (opposite y, inl refl, opposite-true a y e)

both-clause : (a : Assignment) (x y d : Literal) → value a d ≡ (value a x && value a y) → Satisfies a (opposite x ∷ opposite y ∷ d ∷ [])
both-clause a x y d v = go (value a x) (value a y) refl refl
  where
    go : (b c : Bool) → value a x ≡ b → value a y ≡ c → Satisfies a (opposite x ∷ opposite y ∷ d ∷ [])
    go false c e f = (opposite x, inl refl, opposite-true a x e)
    go true false e f = (opposite y, inr (inl refl), opposite-true a y f)
    go true true e f = (d, inr (inr (inl refl)), v ∙ ap (λ z. z && value a y) e ∙ f)

-- what they say
either-true : (a : Assignment) (x d : Literal) → Satisfies a (opposite x ∷ d ∷ []) → value a x ≡ true → value a d ≡ true
either-true a x d (l, inl e, v) h = absurd (not_both a x h (subst (λ z. value a z ≡ true) e v))
either-true a x d (l, inr (inl e), v) h = subst (λ z. value a z ≡ true) e v
either-true a x d (l, inr (inr z), v) h = absurd z

both-true : (a : Assignment) (x y d : Literal) → Satisfies a (opposite x ∷ opposite y ∷ d ∷ []) → value a x ≡ true → value a y ≡ true → value a d ≡ true
both-true a x y d (l, inl e, v) h k = absurd (not_both a x h (subst (λ z. value a z ≡ true) e v))
both-true a x y d (l, inr i, v) h k = either-true a y d (l, i, v) k

-- sums of the two
pair-sum : (p q : Bool) (w : ℕ) → (if p || q then w else 0) + (if p && q then w else 0) ≡ (if p then w else 0) + (if q then w else 0)
pair-sum true true w = refl
pair-sum true false w = refl
pair-sum false true w = omega arith
pair-sum false false w = refl

as-true : (p : Bool) (w : ℕ) → p ≡ true → (if p then w else 0) ≡ w
as-true p w e = ap (λ z. if z then w else 0) e

pair-less : (p q d b : Bool) (w : ℕ) → (p ≡ true → d ≡ true) → (q ≡ true → d ≡ true) → (p ≡ true → q ≡ true → b ≡ true) →
    (if p then w else 0) + (if q then w else 0) ≤ (if d then w else 0) + (if b then w else 0)
pair-less true true d b w f g h = let e = as-true d w (f refl) in let i = as-true b w (h refl refl) in omega arith
pair-less true false d b w f g h = let e = as-true d w (f refl) in omega arith
pair-less false true d b w f g h = let e = as-true d w (g refl) in omega arith
pair-less false false d b w f g h = omega arith

-- the clauses with those of a gate
abbrev pub gate : Literal → Literal → ℕ → List Clause → List Clause
gate x y m P = ((P ++ (opposite x ∷ (2 * m) ∷ []) ∷ []) ++ (opposite y ∷ (2 * m) ∷ []) ∷ []) ++ (opposite x ∷ opposite y ∷ (2 * (m + 1)) ∷ []) ∷ []

pub joined : {H : List Clause} {S : List Soft} {n m k w : ℕ} {P : List Clause} {cs : List Charge} (x y : Literal) (rest : List Literal) →
    Reduces H S n m P cs (x ∷ y ∷ rest) w k →
    Reduces H S n (m + 1 + 1) (gate x y m P) (cs ++ record { literal = 2 * (m + 1); weight = w } ∷ []) (rest ++ (2 * m) ∷ []) w k
joined {H} {S} {n} {m} {k} {w} {P} {cs} x y rest r = record {
  named = let e = r.named in omega arith;
  hard_below = r.hard_below;
  soft_below = r.soft_below;
  clauses_below =
      below-append (λ z. z) (m + 1 + 1) ((P ++ (opposite x ∷ (2 * m) ∷ []) ∷ []) ++ (opposite y ∷ (2 * m) ∷ []) ∷ []) (opposite x ∷ opposite y ∷ (2 * (m + 1)) ∷ [])
      (below-append (λ z. z) (m + 1 + 1) (P ++ (opposite x ∷ (2 * m) ∷ []) ∷ []) (opposite y ∷ (2 * m) ∷ [])
      (below-append (λ z. z) (m + 1 + 1) P (opposite x ∷ (2 * m) ∷ []) (clauses-more m (m + 1 + 1) P (omega arith) r.clauses_below)
      (two (opposite x) (2 * m) opposite-x either))
      (two (opposite y) (2 * m) opposite-y either))
      (three (opposite x) (opposite y) (2 * (m + 1)) opposite-x opposite-y both);
  charges_below = charge-below (m + 1 + 1) cs (record { literal = 2 * (m + 1); weight = w }) (charges-more m (m + 1 + 1) cs (omega arith) r.charges_below) both;
  pending_below = λ l i.
      ⊎_elim (λ j. let h = r.pending_below l (inr (inr j)) in omega arith)
      (λ j. ⊎_elim (λ e. subst (λ z. variable_of z < m + 1 + 1) (sym e) either) (λ z. absurd z) j) (∈-append_cases l rest ((2 * m) ∷ []) i);
  lower = λ a h.
      let (b, f, s, e) = r.lower a h in
      let (c, o, g, i) = extended b s in
      let j = i in
      (c, agree-then n a b c f (agree-less n m b c r.named o), g, omega arith);
  upper = λ a h.
      let h2 = satisfies_fewer a ((P ++ (opposite x ∷ (2 * m) ∷ []) ∷ []) ++ (opposite y ∷ (2 * m) ∷ []) ∷ []) ((opposite x ∷ opposite y ∷ (2 * (m + 1)) ∷ []) ∷ []) h in
      let h1 = satisfies_fewer a (P ++ (opposite x ∷ (2 * m) ∷ []) ∷ []) ((opposite y ∷ (2 * m) ∷ []) ∷ []) h2 in
      let h0 = satisfies_fewer a P ((opposite x ∷ (2 * m) ∷ []) ∷ []) h1 in
      let (t, e) = r.upper a h0 in
      let i = pair-less (value a x) (value a y) (value a (2 * m)) (value a (2 * (m + 1))) w
      (either-true a x (2 * m) (last-satisfied a P (opposite x ∷ (2 * m) ∷ []) h1))
      (either-true a y (2 * m) (last-satisfied a (P ++ (opposite x ∷ (2 * m) ∷ []) ∷ []) (opposite y ∷ (2 * m) ∷ []) h2))
      (both-true a x y (2 * (m + 1)) (last-satisfied a ((P ++ (opposite x ∷ (2 * m) ∷ []) ∷ []) ++ (opposite y ∷ (2 * m) ∷ []) ∷ [])
      (opposite x ∷ opposite y ∷ (2 * (m + 1)) ∷ []) h)) in
      let g = more-charged a in
      let j = more-weighed a in
      (t, omega arith);
}
  where
    either : variable_of (2 * m) < m + 1 + 1
    either = omega arith

    both : variable_of (2 * (m + 1)) < m + 1 + 1
    both = omega arith

    opposite-x : variable_of (opposite x) < m + 1 + 1
    opposite-x = let e = opposite-variable x in let h = r.pending_below x (inl refl) in omega arith

    opposite-y : variable_of (opposite y) < m + 1 + 1
    opposite-y = let e = opposite-variable y in let h = r.pending_below y (inr (inl refl)) in omega arith

    at : (d l : Literal) → variable_of d < m + 1 + 1 → l ≡ d → variable_of l < m + 1 + 1
    at d l h e = subst (λ z. variable_of z < m + 1 + 1) (sym e) h

    two : (d e : Literal) → variable_of d < m + 1 + 1 → variable_of e < m + 1 + 1 → LiteralsAreBelow (m + 1 + 1) (d ∷ e ∷ [])
    two d e h i l (inl f) = at d l h f
    two d e h i l (inr (inl f)) = at e l i f
    two d e h i l (inr (inr z)) = absurd z

    three : (c d e : Literal) → variable_of c < m + 1 + 1 → variable_of d < m + 1 + 1 → variable_of e < m + 1 + 1 → LiteralsAreBelow (m + 1 + 1) (c ∷ d ∷ e ∷ [])
    three c d e g h i l (inl f) = at c l g f
    three c d e g h i l (inr f) = two d e h i l f

    more-charged : (a : Assignment) →
        charged a (cs ++ record { literal = 2 * (m + 1); weight = w } ∷ []) ≡ charged a cs + (if value a (2 * (m + 1)) then w else 0)
    more-charged a = let e = charged-append a cs (record { literal = 2 * (m + 1); weight = w } ∷ []) in omega arith

    more-weighed : (a : Assignment) → weighed a w (rest ++ (2 * m) ∷ []) ≡ weighed a w rest + (if value a (2 * m) then w else 0)
    more-weighed a = let e = weighed-append a w rest ((2 * m) ∷ []) in omega arith

    extended : (b : Assignment) → SatisfiesAll b P → (c : Assignment) × AgreeBelow m b c × SatisfiesAll c (gate x y m P)
        × (charged c (cs ++ record { literal = 2 * (m + 1); weight = w } ∷ []) + weighed c w (rest ++ (2 * m) ∷ [])
        ≡ charged b cs + ((if value b x then w else 0) + ((if value b y then w else 0) + weighed b w rest)))
    extended b s =
        let px = value b x in
        let py = value b y in
        let c1 = put m (px || py) b in
        let c = put (m + 1) (px && py) c1 in
        let o1 : AgreeBelow (m + 1) c1 c = put-agrees (m + 1) (px && py) c1 in
        let o : AgreeBelow m b c = agree-then m b c1 c (put-agrees m (px || py) b) (agree-less m (m + 1) c1 c (omega arith) o1) in
        let vx : value c x ≡ value b x = value-agree m b c x o (r.pending_below x (inl refl)) in
        let vy : value c y ≡ value b y = value-agree m b c y o (r.pending_below y (inr (inl refl))) in
        let vd : value c (2 * m) ≡ (px || py) = value_twice c m ∙ o1 m (omega arith) ∙ put-there m (px || py) b in
        let ve : value c (2 * (m + 1)) ≡ (px && py) = value_twice c (m + 1) ∙ put-there (m + 1) (px && py) c1 in
        let wd : value c (2 * m) ≡ (value c x || value c y) = vd ∙ ap (λ z. z || py) (sym vx) ∙ ap (λ z. value c x || z) (sym vy) in
        let we : value c (2 * (m + 1)) ≡ (value c x && value c y) = ve ∙ ap (λ z. z && py) (sym vx) ∙ ap (λ z. value c x && z) (sym vy) in
        let g = more-charged c in
        let h = more-weighed c in
        let i = charged-agree m b c cs o r.charges_below in
        let j = weighed-agree m b c w rest o (λ l q. r.pending_below l (inr (inr q))) in
        let p = pair-sum (value b x) (value b y) w in
        let t = ap (λ z. if z then w else 0) vd in
        let u = ap (λ z. if z then w else 0) ve in (
          c,
          o,
          satisfies_more c ((P ++ (opposite x ∷ (2 * m) ∷ []) ∷ []) ++ (opposite y ∷ (2 * m) ∷ []) ∷ []) (opposite x ∷ opposite y ∷ (2 * (m + 1)) ∷ [])
              (satisfies_more c (P ++ (opposite x ∷ (2 * m) ∷ []) ∷ []) (opposite y ∷ (2 * m) ∷ [])
              (satisfies_more c P (opposite x ∷ (2 * m) ∷ []) (all-agree m b c P o r.clauses_below s) (first-clause c x y (2 * m) wd))
              (second-clause c x y (2 * m) wd))
              (both-clause c x y (2 * (m + 1)) we),
          omega arith,
        )

-- one is still true of those that are pending
pub joined-pending : (x y : Literal) (m : ℕ) (P : List Clause) (rest : List Literal) → IsPending P (x ∷ y ∷ rest) →
    IsPending (gate x y m P) (rest ++ (2 * m) ∷ [])
joined-pending x y m P rest f a h = go (f a h0)
  where
    h2 : SatisfiesAll a ((P ++ (opposite x ∷ (2 * m) ∷ []) ∷ []) ++ (opposite y ∷ (2 * m) ∷ []) ∷ [])
    h2 = satisfies_fewer a ((P ++ (opposite x ∷ (2 * m) ∷ []) ∷ []) ++ (opposite y ∷ (2 * m) ∷ []) ∷ []) ((opposite x ∷ opposite y ∷ (2 * (m + 1)) ∷ []) ∷ []) h

    h1 : SatisfiesAll a (P ++ (opposite x ∷ (2 * m) ∷ []) ∷ [])
    h1 = satisfies_fewer a (P ++ (opposite x ∷ (2 * m) ∷ []) ∷ []) ((opposite y ∷ (2 * m) ∷ []) ∷ []) h2

    h0 : SatisfiesAll a P
    h0 = satisfies_fewer a P ((opposite x ∷ (2 * m) ∷ []) ∷ []) h1

    new : value a (2 * m) ≡ true → Satisfies a (rest ++ (2 * m) ∷ [])
    new e = (2 * m, ∈-append_right (2 * m) rest ((2 * m) ∷ []) (inl refl), e)

    go : Satisfies a (x ∷ y ∷ rest) → Satisfies a (rest ++ (2 * m) ∷ [])
    go (l, inl e, v) = new (either-true a x (2 * m) (last-satisfied a P (opposite x ∷ (2 * m) ∷ []) h1) (subst (λ z. value a z ≡ true) e v))
    go (l, inr (inl e), v) =
        new (either-true a y (2 * m) (last-satisfied a (P ++ (opposite x ∷ (2 * m) ∷ []) ∷ []) (opposite y ∷ (2 * m) ∷ []) h2) (subst (λ z. value a z ≡ true) e v))
    go (l, inr (inr i), v) = (l, ∈-append_left l rest ((2 * m) ∷ []) i, v)

-- the last one is true, so its weight is due
pub settled : {H : List Clause} {S : List Soft} {n m k w : ℕ} {P : List Clause} {cs : List Charge} (x : Literal) → IsPending P (x ∷ []) →
    Reduces H S n m P cs (x ∷ []) w k → Reduces H S n m (P ++ (x ∷ []) ∷ []) cs [] 0 (k + w)
settled {H} {S} {n} {m} {k} {w} {P} {cs} x f r = record {
  named = r.named;
  hard_below = r.hard_below;
  soft_below = r.soft_below;
  clauses_below = below-append (λ z. z) m P (x ∷ []) r.clauses_below r.pending_below;
  charges_below = r.charges_below;
  pending_below = λ l i. absurd i;
  lower = λ a h.
      let (b, o, s, e) = r.lower a h in
      let t = f b s in
      let i = as-true (value b x) w (is-true b t) in
      (b, o, satisfies_more b P (x ∷ []) s t, omega arith);
  upper = λ a h.
      let (t, e) = r.upper a (satisfies_fewer a P ((x ∷ []) ∷ []) h) in
      let i = as-true (value a x) w (is-true a (last-satisfied a P (x ∷ []) h)) in
      (t, omega arith);
}
  where
    is-true : (a : Assignment) → Satisfies a (x ∷ []) → value a x ≡ true
    is-true a (l, inl e, v) = subst (λ z. value a z ≡ true) e v
    is-true a (l, inr z, v) = absurd z
