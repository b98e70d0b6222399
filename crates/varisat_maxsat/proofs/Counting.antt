-- Counters of charges, and what is asked for below a ceiling.
use Rattle.std.proofs.Common.{◌≡◌, ℕ, zero, suc, ◌+◌, ◌*◌, ◌<◌, ◌≤◌, Bool, true, false, not, nat_le, if◌then◌else◌, List, [], ◌∷◌, ◌++◌, ◌⊎◌, inl, inr, ⊎_elim, take, length, get_or, refl, sym, ap, ◌∙◌, subst, arith}
use Rattle.std.proofs.lemmas.Bool.{le-leb, leb-true}
use Rattle.varisat_theory.specs.promises.Membership.{◌∈◌}
use Rattle.varisat_theory.specs.promises.Literals.{Literal, Clause, Assignment, variable_of, opposite, value, Satisfies, SatisfiesAll}
use Rattle.varisat_theory.proofs.clauses.Values.{value-opposite}
use Rattle.varisat_theory.proofs.clauses.Assigned.{satisfies_more, satisfies_fewer}
use Rattle.varisat_theory.proofs.journals.Renaming.{value_twice}
use Rattle.varisat_maxsat.specs.promises.Problems.{Soft, cost}
use Rattle.varisat_maxsat.specs.inside.Charges.{charged, due, AgreeBelow, LiteralsAreBelow, ChargesAreBelow, Counts, CountersAreBelow, Divides, Exchanges, Reduces, ReducesBelow}
use Rattle.varisat_maxsat.specs.declared.charge.Charge.{Charge}
use Rattle.varisat_maxsat.specs.declared.counter.Counter.{Counter}
use Rattle.varisat_maxsat.proofs.Agreeing.{value-agree, charged-agree, all-agree, charged-append, below-append, put, put-there, put-agrees, agree-less, agree-then, opposite-variable}
use Rattle.varisat_maxsat.proofs.Adding.{clauses-more, charges-more}
use Rattle.varisat_maxsat.proofs.Taking.{take-item, item-∈, last-cases}

-- the first charges
pub taken-∈ : {X : Type 0} (xs : List X) (i : ℕ) (x : X) → x ∈ take i xs → x ∈ xs
taken-∈ [] zero x h = h
taken-∈ [] (suc i) x h = h
taken-∈ (y ∷ xs) zero x h = absurd h
taken-∈ (y ∷ xs) (suc i) x h = ⊎_elim inl (λ j. inr (taken-∈ xs i x j)) h

charged-fewer : (a : Assignment) (cs : List Charge) (i j : ℕ) → i ≤ j → charged a (take i cs) ≤ charged a (take j cs)
charged-fewer a [] zero zero h = omega arith
charged-fewer a [] zero (suc j) h = omega arith
charged-fewer a [] (suc i) zero h = absurd (omega arith)
charged-fewer a [] (suc i) (suc j) h = omega arith
charged-fewer a (c ∷ cs) zero zero h = omega arith
charged-fewer a (c ∷ cs) zero (suc j) h = omega arith
charged-fewer a (c ∷ cs) (suc i) zero h = absurd (omega arith)
charged-fewer a (c ∷ cs) (suc i) (suc j) h = let k = charged-fewer a cs i j (omega arith) in omega arith

charged-taken : (a : Assignment) (cs : List Charge) (i : ℕ) → charged a (take i cs) ≤ charged a cs
charged-taken a [] zero = omega arith
charged-taken a [] (suc i) = omega arith
charged-taken a (c ∷ cs) zero = omega arith
charged-taken a (c ∷ cs) (suc i) = let k = charged-taken a cs i in omega arith

charged-next : (a : Assignment) (cs : List Charge) (i : ℕ) (c : Charge) → i < length cs → c ≡ get_or cs i c →
    charged a (take (i + 1) cs) ≡ charged a (take i cs) + due a c.literal c.weight
charged-next a cs i c h e =
    let f = ap (charged a) (take-item cs i c h e) in
    let g = charged-append a (take i cs) (c ∷ []) in
    omega arith

taken-agree : (m : ℕ) (a b : Assignment) (cs : List Charge) (i : ℕ) → AgreeBelow m a b → ChargesAreBelow m cs → charged b (take i cs) ≡ charged a (take i cs)
taken-agree m a b cs i f h = charged-agree m a b (take i cs) f (λ c j. h c (taken-∈ cs i c j))

-- a counter still counts where the variables below are the same
counts-agree : (m : ℕ) (a b : Assignment) (cs : List Charge) (k : Counter) → AgreeBelow m a b → ChargesAreBelow m cs → variable_of k.literal < m →
    Counts a cs k → Counts b cs k
counts-agree m a b cs k f h v c =
    let e = value-agree m a b k.literal f v in
    let i = taken-agree m a b cs k.first f h in
    let j = taken-agree m a b cs k.end f h in
    (λ t. let z = c.0 (sym e ∙ t) in omega arith, λ t. e ∙ c.1 (omega arith))

counter-below : (m : ℕ) (ks : List Counter) (k : Counter) → CountersAreBelow m ks → variable_of k.literal < m → CountersAreBelow m (ks ++ k ∷ [])
counter-below m ks k h v d i = ⊎_elim (λ j. h d j) (λ e. subst (λ (x : Counter). variable_of x.literal < m) (sym e) v) (last-cases d ks k i)

counters-more : (n m : ℕ) (ks : List Counter) → n ≤ m → CountersAreBelow n ks → CountersAreBelow m ks
counters-more n m ks h f k i = let v = f k i in omega arith

-- counting begins
pub counting-begins : {H : List Clause} {S : List Soft} {n m k : ℕ} {P : List Clause} {cs : List Charge} (parts rest : List Charge) (ceiling : ℕ) →
    Divides cs [] parts rest → Reduces H S n m P cs [] 0 k → ReducesBelow H S n m P parts [] k ceiling
counting-begins {H} {S} {n} {m} {k} {P} {cs} parts rest ceiling d r = record {
  named = r.named;
  hard_below = r.hard_below;
  clauses_below = r.clauses_below;
  charges_below = d.below m r.charges_below (λ c i. absurd i);
  counters_below = λ c i. absurd i;
  lower = λ a h u. let (b, f, s, e) = r.lower a h in let g = d.same b in (b, f, s, omega arith, λ c i. absurd i);
  upper = λ a h. (r.upper a h).0;
}

-- a new counter
pub counter-made : {H : List Clause} {S : List Soft} {n m k u : ℕ} {P : List Clause} {cs : List Charge} {ks : List Counter} (at f e : ℕ) →
    ReducesBelow H S n m P cs ks k u →
    ReducesBelow H S n (m + 1) P cs (ks ++ record { literal = 2 * m; at_least = at; first = f; end = e } ∷ []) k u
counter-made {H} {S} {n} {m} {k} {u} {P} {cs} {ks} at f e r = record {
  named = let h = r.named in omega arith;
  hard_below = r.hard_below;
  clauses_below = clauses-more m (m + 1) P (omega arith) r.clauses_below;
  charges_below = charges-more m (m + 1) cs (omega arith) r.charges_below;
  counters_below = counter-below (m + 1) ks new (counters-more m (m + 1) ks (omega arith) r.counters_below) (omega arith);
  lower = λ a h l.
      let (b, g, s, z, c) = r.lower a h l in
      let d = put m (reached b) b in
      let o : AgreeBelow m b d = put-agrees m (reached b) b in
      let i = charged-agree m b d cs o r.charges_below in (
        d,
        agree-then n a b d g (agree-less n m b d r.named o),
        all-agree m b d P o r.clauses_below s,
        omega arith,
        λ x j. ⊎_elim (λ q. counts-agree m b d cs x o r.charges_below (r.counters_below x q) (c x q))
            (λ q. subst (Counts d cs) (sym q) (new-counts b d o (value_twice d m ∙ put-there m (reached b) b))) (last-cases x ks new j),
      );
  upper = r.upper;
}
  where
    new : Counter
    new = record { literal = 2 * m; at_least = at; first = f; end = e }

    reached : Assignment → Bool
    reached b = nat_le (at + charged b (take f cs)) (charged b (take e cs))

    new-counts : (b d : Assignment) → AgreeBelow m b d → value d (2 * m) ≡ reached b → Counts d cs new
    new-counts b d o v =
        let i = taken-agree m b d cs f o r.charges_below in
        let j = taken-agree m b d cs e o r.charges_below in (
          λ t. let z = leb-true (at + charged b (take f cs)) (charged b (take e cs)) (sym v ∙ t) in omega arith,
          λ t. v ∙ le-leb (at + charged b (take f cs)) (charged b (take e cs)) (omega arith),
        )

-- a charge counts itself
pub charge-counted : {H : List Clause} {S : List Soft} {n m k u : ℕ} {P : List Clause} {cs : List Charge} {ks : List Counter} (c : Charge) (i : ℕ) →
    i < length cs → c ≡ get_or cs i c → 0 < c.weight → ReducesBelow H S n m P cs ks k u →
    ReducesBelow H S n m P cs (ks ++ record { literal = c.literal; at_least = c.weight; first = i; end = i + 1 } ∷ []) k u
charge-counted {H} {S} {n} {m} {k} {u} {P} {cs} {ks} c i h e w r = record {
  named = r.named;
  hard_below = r.hard_below;
  clauses_below = r.clauses_below;
  charges_below = r.charges_below;
  counters_below = counter-below m ks new r.counters_below (r.charges_below c (item-∈ cs i c h e));
  lower = λ a g l.
      let (b, f, s, z, q) = r.lower a g l in
      (b, f, s, z, λ x j. ⊎_elim (λ y. q x y) (λ y. subst (Counts b cs) (sym y) (counts b (value b c.literal) refl)) (last-cases x ks new j));
  upper = r.upper;
}
  where
    new : Counter
    new = record { literal = c.literal; at_least = c.weight; first = i; end = i + 1 }

    counts : (b : Assignment) (v : Bool) → value b c.literal ≡ v → Counts b cs new
    counts b true v =
        let f = charged-next b cs i c h e in
        let g = ap (λ x. if x then c.weight else 0) v in
        (λ t. omega arith, λ t. v)
    counts b false v =
        let f = charged-next b cs i c h e in
        let g = ap (λ x. if x then c.weight else 0) v in
        (λ t. let z : true ≡ false = sym t ∙ v in absurd cc, λ t. absurd (omega arith))

-- a clause that follows from what counters count
pub counted-clause : {H : List Clause} {S : List Soft} {n m k u : ℕ} {P : List Clause} {cs : List Charge} {ks : List Counter} (d : Clause) → LiteralsAreBelow m d →
    ((b : Assignment) → k + charged b cs < u → ((x : Counter) → x ∈ ks → Counts b cs x) → Satisfies b d) → ReducesBelow H S n m P cs ks k u →
    ReducesBelow H S n m (P ++ d ∷ []) cs ks k u
counted-clause {H} {S} {n} {m} {k} {u} {P} {cs} {ks} d below holds r = record {
  named = r.named;
  hard_below = r.hard_below;
  clauses_below = below-append (λ z. z) m P d r.clauses_below below;
  charges_below = r.charges_below;
  counters_below = r.counters_below;
  lower = λ a h l.
      let (b, f, s, z, q) = r.lower a h l in
      (b, f, satisfies_more b P d s (holds b (omega arith) q), z, q);
  upper = λ a h. r.upper a (satisfies_fewer a P (d ∷ []) h);
}

opposite-true : (a : Assignment) (l : Literal) → value a l ≡ false → value a (opposite l) ≡ true
opposite-true a l e = value-opposite a l ∙ ap not e

opposite-below : (m : ℕ) (l : Literal) → variable_of l < m → variable_of (opposite l) < m
opposite-below m l h = let e = opposite-variable l in omega arith

-- the clause of a rule, and of a counter that is past the ceiling
within-holds : (b : Assignment) (cs : List Charge) (x y : Counter) → y.first ≤ x.first → x.end ≤ y.end → y.at_least ≤ x.at_least → Counts b cs x → Counts b cs y →
    Satisfies b (opposite x.literal ∷ y.literal ∷ [])
within-holds b cs x y f e l p q = go (value b x.literal) refl
  where
    go : (v : Bool) → value b x.literal ≡ v → Satisfies b (opposite x.literal ∷ y.literal ∷ [])
    go false v = (opposite x.literal, inl refl, opposite-true b x.literal v)
    go true v =
        let c = p.0 v in
        let i = charged-fewer b cs y.first x.first f in
        let j = charged-fewer b cs x.end y.end e in
        (y.literal, inr (inl refl), q.1 (omega arith))

adds-holds : (b : Assignment) (cs : List Charge) (x y z : Counter) → z.first ≡ x.first → x.end ≡ y.first → y.end ≡ z.end → z.at_least ≤ x.at_least + y.at_least →
    Counts b cs x → Counts b cs y → Counts b cs z → Satisfies b (opposite x.literal ∷ opposite y.literal ∷ z.literal ∷ [])
adds-holds b cs x y z f g e l p q r = go (value b x.literal) (value b y.literal) refl refl
  where
    go : (v w : Bool) → value b x.literal ≡ v → value b y.literal ≡ w → Satisfies b (opposite x.literal ∷ opposite y.literal ∷ z.literal ∷ [])
    go false w v u = (opposite x.literal, inl refl, opposite-true b x.literal v)
    go true false v u = (opposite y.literal, inr (inl refl), opposite-true b y.literal u)
    go true true v u =
        let c = p.0 v in
        let d = q.0 u in
        let i = ap (λ n. charged b (take n cs)) f in
        let j = ap (λ n. charged b (take n cs)) g in
        let h = ap (λ n. charged b (take n cs)) e in
        (z.literal, inr (inr (inl refl)), r.1 (omega arith))

past-holds : (b : Assignment) (cs : List Charge) (x : Counter) (k u : ℕ) → k + charged b cs < u → u ≤ k + x.at_least → Counts b cs x →
    Satisfies b (opposite x.literal ∷ [])
past-holds b cs x k u h l p = go (value b x.literal) refl
  where
    go : (v : Bool) → value b x.literal ≡ v → Satisfies b (opposite x.literal ∷ [])
    go false v = (opposite x.literal, inl refl, opposite-true b x.literal v)
    go true v = let c = p.0 v in let i = charged-taken b cs x.end in absurd (omega arith)

one-below : (m : ℕ) (x : Literal) → variable_of x < m → LiteralsAreBelow m (x ∷ [])
one-below m x h l (inl e) = subst (λ z. variable_of z < m) (sym e) h
one-below m x h l (inr z) = absurd z

more-below : (m : ℕ) (x : Literal) (c : Clause) → variable_of x < m → LiteralsAreBelow m c → LiteralsAreBelow m (x ∷ c)
more-below m x c h k l (inl e) = subst (λ z. variable_of z < m) (sym e) h
more-below m x c h k l (inr i) = k l i

pub within-given : {H : List Clause} {S : List Soft} {n m k u : ℕ} {P : List Clause} {cs : List Charge} {ks : List Counter} (x y : Counter) → x ∈ ks → y ∈ ks →
    y.first ≤ x.first → x.end ≤ y.end → y.at_least ≤ x.at_least → ReducesBelow H S n m P cs ks k u →
    ReducesBelow H S n m (P ++ (opposite x.literal ∷ y.literal ∷ []) ∷ []) cs ks k u
within-given {H} {S} {n} {m} {k} {u} {P} {cs} {ks} x y i j f e l r =
    counted-clause (opposite x.literal ∷ y.literal ∷ [])
    (more-below m (opposite x.literal) (y.literal ∷ []) (opposite-below m x.literal (r.counters_below x i)) (one-below m y.literal (r.counters_below y j)))
    (λ b h q. within-holds b cs x y f e l (q x i) (q y j)) r

pub adds-given : {H : List Clause} {S : List Soft} {n m k u : ℕ} {P : List Clause} {cs : List Charge} {ks : List Counter} (x y z : Counter) → x ∈ ks → y ∈ ks → z ∈ ks →
    z.first ≡ x.first → x.end ≡ y.first → y.end ≡ z.end → z.at_least ≤ x.at_least + y.at_least → ReducesBelow H S n m P cs ks k u →
    ReducesBelow H S n m (P ++ (opposite x.literal ∷ opposite y.literal ∷ z.literal ∷ []) ∷ []) cs ks k u
adds-given {H} {S} {n} {m} {k} {u} {P} {cs} {ks} x y z i j o f g e l r =
    counted-clause (opposite x.literal ∷ opposite y.literal ∷ z.literal ∷ [])
    (more-below m (opposite x.literal) (opposite y.literal ∷ z.literal ∷ []) (opposite-below m x.literal (r.counters_below x i))
    (more-below m (opposite y.literal) (z.literal ∷ []) (opposite-below m y.literal (r.counters_below y j)) (one-below m z.literal (r.counters_below z o))))
    (λ b h q. adds-holds b cs x y z f g e l (q x i) (q y j) (q z o)) r

pub past-given : {H : List Clause} {S : List Soft} {n m k u : ℕ} {P : List Clause} {cs : List Charge} {ks : List Counter} (x : Counter) → x ∈ ks →
    u ≤ k + x.at_least → ReducesBelow H S n m P cs ks k u → ReducesBelow H S n m (P ++ (opposite x.literal ∷ []) ∷ []) cs ks k u
past-given {H} {S} {n} {m} {k} {u} {P} {cs} {ks} x i l r =
    counted-clause (opposite x.literal ∷ []) (one-below m (opposite x.literal) (opposite-below m x.literal (r.counters_below x i)))
    (λ b h q. past-holds b cs x k u h l (q x i)) r

-- the ceiling falls
pub ceiling-lower : {H : List Clause} {S : List Soft} {n m k u : ℕ} {P : List Clause} {cs : List Charge} {ks : List Counter} (v : ℕ) → v ≤ u →
    ReducesBelow H S n m P cs ks k u → ReducesBelow H S n m P cs ks k v
ceiling-lower {H} {S} {n} {m} {k} {u} {P} {cs} {ks} v l r = record {
  named = r.named;
  hard_below = r.hard_below;
  clauses_below = r.clauses_below;
  charges_below = r.charges_below;
  counters_below = r.counters_below;
  lower = λ a h g. r.lower a h (omega arith);
  upper = r.upper;
}

-- nothing costs less than the ceiling
below-or : (x u : ℕ) → (u ≤ x) ⊎ (x < u)
below-or x u = grind arith

pub none-below : {H : List Clause} {S : List Soft} {n m k u : ℕ} {P : List Clause} {cs : List Charge} {ks : List Counter} → ReducesBelow H S n m P cs ks k u →
    ((a : Assignment) → SatisfiesAll a P → ⊥) → (a : Assignment) → SatisfiesAll a H → u ≤ cost a S
none-below {H} {S} {n} {m} {k} {u} {P} {cs} {ks} r none a h =
    ⊎_elim (λ l. l) (λ l. let (b, f, s, z, q) = r.lower a h l in absurd (none b s)) (below-or (cost a S) u)

-- the same where the bound meets the ceiling
pub bound-meets : {H : List Clause} {S : List Soft} {n m k u : ℕ} {P : List Clause} {cs : List Charge} {ks : List Counter} → u ≤ k →
    ReducesBelow H S n m P cs ks k u → (a : Assignment) → SatisfiesAll a H → u ≤ cost a S
bound-meets {H} {S} {n} {m} {k} {u} {P} {cs} {ks} l r a h =
    ⊎_elim (λ g. g) (λ g. let (b, f, s, z, q) = r.lower a h g in absurd (omega arith)) (below-or (cost a S) u)

-- charges in place of others
pub exchanged : {H : List Clause} {S : List Soft} {n m k : ℕ} {P : List Clause} {cs : List Charge} (j : ℕ) (ds : List Charge) → Exchanges cs j ds →
    Reduces H S n m P cs [] 0 k → Reduces H S n m P ds [] 0 (k + j)
exchanged {H} {S} {n} {m} {k} {P} {cs} j ds x r = record {
  named = r.named;
  hard_below = r.hard_below;
  soft_below = r.soft_below;
  clauses_below = r.clauses_below;
  charges_below = x.below m r.charges_below;
  pending_below = r.pending_below;
  lower = λ a h. let (b, f, s, e) = r.lower a h in let g = x.same b in (b, f, s, omega arith);
  upper = λ a h. let (s, e) = r.upper a h in let g = x.same a in (s, omega arith);
}
