-- How a problem that is brought down moves on.
use Rattle.std.proofs.Common.{◌≡◌, ℕ, ◌+◌, ◌*◌, ◌^◌, ◌<◌, ◌≤◌, ⊎_elim, max, Bool, true, false, if◌then◌else◌, List, [], ◌∷◌, ◌++◌, map, take, drop, length, get_or, append_assoc, refl, sym, ap, ◌∙◌, subst, arith}
use Rattle.std.proofs.lemmas.Bool.{cases_lt}
use Rattle.std.specs.Prelude.{Option, IfSome}
use Rattle.std.proofs.lemmas.List.{take_more, length-take-le, length-append}
use Rattle.varisat_formula.specs.promises.Formulas.{Formula, AreBelow, with_one_more, variables_of}
use Rattle.varisat_formula.proofs.FormulaBuffers.{below_more}
use Rattle.varisat_theory.specs.promises.Membership.{◌∈◌}
use Rattle.varisat_theory.specs.promises.Literals.{Literal, Clause, Assignment, opposite, MakesTrue, IsSatisfiable}
use Rattle.varisat_client.specs.promises.Pasts.{ClientPast, empty_client_past, count}
use Rattle.varisat_client.specs.inside.Clients.{Client, RepresentsPast}
use Rattle.varisat_formula.specs.promises.Values.{is_satisfied}
use Rattle.varisat_maxsat.specs.promises.Problems.{Problem, Soft, with_hard, with_soft, paired, problem_of, cost, IsOptimum, CostsAtLeast}
use Rattle.varisat_maxsat.specs.inside.Charges.{LiteralsAreBelow, Reduces, IsSplit, TakesWeight, AreValues, IsPending}
use Rattle.varisat_maxsat.specs.inside.Reductions.{IsReady, FindsModel, FindsCore, Reduction, ReducesTo, ReducesToWith, ReducesToAfter}
use Rattle.varisat_maxsat.specs.declared.charge.Charge.{Charge}
use Rattle.varisat_maxsat.proofs.Adding.{nothing-added, hard-added, weightless-soft-added, soft-literal-added, soft-clause-added}
use Rattle.varisat_maxsat.proofs.Taking.{core-charge, core-pending, core-taken}
use Rattle.varisat_maxsat.proofs.Joining.{gate, joined, joined-pending, settled}
use Rattle.varisat_maxsat.proofs.Ending.{unsatisfiable, optimum}
use Rattle.varisat_maxsat.proofs.Agreeing.{cost-append}

-- a clause is given
abbrev pub Gives : Clause → Client → Client → Type 0
Gives c g h = (q : ClientPast) → IsReady g q → IsReady h (record (count c q) { clauses = q.clauses ++ c ∷ [] })

pub stands-first : (n : ℕ) (r : Reduction) → RepresentsPast r.client empty_client_past → r.variables ≡ n → r.named ≡ n → r.charges ≡ [] → r.bound ≡ 0 →
    ReducesTo (record { variables = n; hard = []; soft = [] }) r
stands-first n r st v m cs k = record {
  past = empty_client_past;
  ready = record { stands = st; refusal = refl; clause = refl; assumptions = refl };
  variables = v;
  reduces = subst (λ x. Reduces [] [] n x [] r.charges [] 0 r.bound) (sym m) (subst (λ x. Reduces [] [] n n [] x [] 0 r.bound) (sym cs)
      (subst (λ x. Reduces [] [] n n [] [] [] 0 x) (sym k) (nothing-added n)));
}

pub stands-hard : (p : Problem) (r s : Reduction) (c : Clause) → LiteralsAreBelow r.variables c → Gives c r.client s.client → s ≡ record r { client = s.client } →
    ReducesTo p r → ReducesTo (with_hard c p) s
stands-hard p r s c b gives e st = subst (ReducesTo (with_hard c p)) (sym e) (record {
  past = record (count c st.past) { clauses = st.past.clauses ++ c ∷ [] };
  ready = gives st.past st.ready;
  variables = st.variables;
  reduces = hard-added c (subst (λ n. LiteralsAreBelow n c) st.variables b) st.reduces;
})

pub stands-nothing : (p : Problem) (r : Reduction) (c : Clause) (w : ℕ) → w ≡ 0 → LiteralsAreBelow r.variables c → ReducesTo p r → ReducesTo (with_soft w c p) r
stands-nothing p r c w z b st = record {
  past = st.past;
  ready = st.ready;
  variables = st.variables;
  reduces = weightless-soft-added (record { weight = w; clause = c }) (subst (λ n. LiteralsAreBelow n c) st.variables b) z st.reduces;
}

pub stands-literal : (p : Problem) (r s : Reduction) (c : Clause) (l : Literal) (w : ℕ) → c ≡ l ∷ [] → LiteralsAreBelow r.variables c →
    s ≡ record r { charges = r.charges ++ record { literal = opposite l; weight = w } ∷ [] } → ReducesTo p r → ReducesTo (with_soft w c p) s
stands-literal p r s c l w f b e st = subst (ReducesTo (with_soft w c p)) (sym e) (subst (λ d. ReducesTo (with_soft w d p) (record r { charges = r.charges ++ record { literal = opposite l; weight = w } ∷ [] })) (sym f) (record {
  past = st.past;
  ready = st.ready;
  variables = st.variables;
  reduces = soft-literal-added l w (subst (λ d. LiteralsAreBelow p.variables d) f (subst (λ n. LiteralsAreBelow n c) st.variables b)) st.reduces;
}))

pub stands-clause : (p : Problem) (r s : Reduction) (c : Clause) (w : ℕ) → LiteralsAreBelow r.variables c → Gives (c ++ (2 * r.named) ∷ []) r.client s.client →
    s ≡ record r { client = s.client; named = r.named + 1; charges = r.charges ++ record { literal = 2 * r.named; weight = w } ∷ [] } →
    ReducesTo p r → ReducesTo (with_soft w c p) s
stands-clause p r s c w b gives e st = subst (ReducesTo (with_soft w c p)) (sym e) (record {
  past = record (count (c ++ (2 * r.named) ∷ []) st.past) { clauses = st.past.clauses ++ (c ++ (2 * r.named) ∷ []) ∷ [] };
  ready = gives st.past st.ready;
  variables = st.variables;
  reduces = soft-clause-added c w (subst (λ n. LiteralsAreBelow n c) st.variables b) st.reduces;
})

-- a core that names no charge
pub core-empty : (p : Problem) (r : Reduction) (t : ℕ) (kept failed : List Charge) → failed ≡ [] →
    ((q : ClientPast) → IsReady r.client q → IsSplit q.core r.charges kept failed) → ReducesToAfter false t p r → IsSatisfiable p.hard → ⊥
core-empty p r t kept failed e split st =
    let f : FindsCore t r.charges st.clauses r.client = st.finds in
    unsatisfiable st.reduces
    (λ a h. let (c, i, v) = core-charge st.clauses f.assumed f.past.core f.failed f.from (split f.past f.ready) a h in subst (λ xs. c ∈ xs) e i)

-- one that does
pub core-relaxes : (p : Problem) (r s : Reduction) (t w : ℕ) (kept failed after : List Charge) (pending : List Literal) →
    ((q : ClientPast) → IsReady r.client q → IsSplit q.core r.charges kept failed) → TakesWeight w failed kept after pending →
    s ≡ record r { charges = after } → ReducesToAfter false t p r → ReducesToWith p pending w s
core-relaxes p r s t w kept failed after pending split takes e st =
    let f : FindsCore t r.charges st.clauses r.client = st.finds in
    subst (ReducesToWith p pending w) (sym e) (record {
      past = f.past;
      ready = f.ready;
      variables = st.variables;
      reduces = subst (λ P. Reduces p.hard p.soft p.variables r.named P after pending w r.bound) (sym f.clauses)
          (core-taken st.reduces (split f.past f.ready) takes);
      one_true = subst (λ P. IsPending P pending) (sym f.clauses)
          (core-pending st.clauses takes (core-charge st.clauses f.assumed f.past.core f.failed f.from (split f.past f.ready)));
    })

-- two that are pending are joined
pub stands-joined : (p : Problem) (r s : Reduction) (x y : Literal) (rest : List Literal) (w : ℕ) (g h : Client) →
    Gives (opposite x ∷ (2 * r.named) ∷ []) r.client g → Gives (opposite y ∷ (2 * r.named) ∷ []) g h →
    Gives (opposite x ∷ opposite y ∷ (2 * (r.named + 1)) ∷ []) h s.client →
    s ≡ record r { client = s.client; named = r.named + 1 + 1; charges = r.charges ++ record { literal = 2 * (r.named + 1); weight = w } ∷ [] } →
    ReducesToWith p (x ∷ y ∷ rest) w r → ReducesToWith p (rest ++ (2 * r.named) ∷ []) w s
stands-joined p r s x y rest w g h first second third e st = subst (ReducesToWith p (rest ++ (2 * r.named) ∷ []) w) (sym e) (record {
  past = record (count (opposite x ∷ opposite y ∷ (2 * (r.named + 1)) ∷ []) (count (opposite y ∷ (2 * r.named) ∷ [])
      (count (opposite x ∷ (2 * r.named) ∷ []) st.past))) { clauses = gate x y r.named st.past.clauses };
  ready = third _ (second _ (first st.past st.ready));
  variables = st.variables;
  reduces = joined x y rest st.reduces;
  one_true = joined-pending x y r.named st.past.clauses rest st.one_true;
})

-- the last one is settled
pub stands-settled : (p : Problem) (r s : Reduction) (x : Literal) (w k : ℕ) → Gives (x ∷ []) r.client s.client → k ≡ r.bound + w →
    s ≡ record r { client = s.client; bound = k } → ReducesToWith p (x ∷ []) w r → ReducesTo p s
stands-settled p r s x w k gives f e st = subst (ReducesTo p) (sym e) (record {
  past = record (count (x ∷ []) st.past) { clauses = st.past.clauses ++ (x ∷ []) ∷ [] };
  ready = gives st.past st.ready;
  variables = st.variables;
  reduces = subst (λ n. Reduces p.hard p.soft p.variables r.named (st.past.clauses ++ (x ∷ []) ∷ []) r.charges [] 0 n) (sym f) (settled x st.one_true st.reduces);
})

-- none is pending
-- the weight of the last one that is pending is due
pub pending-costs : (p : Problem) (r : Reduction) (x : Literal) (w : ℕ) → 2 ^ 64 ≤ r.bound + w → ReducesToWith p (x ∷ []) w r → CostsAtLeast (2 ^ 64) p
pending-costs p r x w h st = λ a s. let (b, o, t, e) = (settled x st.one_true st.reduces).lower a s in omega arith

pub stands-none : (p : Problem) (r : Reduction) (w : ℕ) → ReducesToWith p [] w r → ReducesTo p r
stands-none p r w st = record {
  past = st.past;
  ready = st.ready;
  variables = st.variables;
  reduces = record {
    named = st.reduces.named;
    hard_below = st.reduces.hard_below;
    soft_below = st.reduces.soft_below;
    clauses_below = st.reduces.clauses_below;
    charges_below = st.reduces.charges_below;
    pending_below = st.reduces.pending_below;
    lower = st.reduces.lower;
    upper = st.reduces.upper;
  };
}

-- no charge is due in the model
pub stands-optimal : (p : Problem) (r : Reduction) (n : ℕ) (vs short : List Bool) →
    ((q : ClientPast) → IsReady r.client q → (a : Assignment) → MakesTrue a q.model → AreValues n q.model vs) → n ≡ r.named → short ≡ take r.variables vs →
    ReducesToAfter true 0 p r → IsOptimum p r.bound short
stands-optimal p r n vs short values m e st =
    let f : FindsModel 0 r.charges st.clauses r.client = st.finds in
    let (a, makes, all, assumes) = f.found.satisfied in
    let v : AreValues r.named f.past.model vs = subst (λ x. AreValues x f.past.model vs) m (values f.past f.ready a makes) in
    subst (IsOptimum p r.bound) (ap (λ x. take x vs) (sym st.variables) ∙ sym e)
    (optimum st.reduces f.from a makes f.found.each f.found.assumed_too v)

-- The same, as the code's steps have them.
pub one-item : (xs : List ℕ) (v : ℕ) → 1 ≤ length xs → length xs < 2 → v ≡ get_or xs 0 v → xs ≡ v ∷ []
one-item [] v h k e = absurd (omega arith)
one-item (x ∷ []) v h k e = ap (λ y. y ∷ []) (sym e)
one-item (x ∷ y ∷ xs) v h k e = absurd (omega arith)

charge-put : (cs after : List Charge) (k l : Literal) (w : ℕ) → after ≡ cs ++ record { literal = k; weight = w } ∷ [] → k ≡ l →
    after ≡ cs ++ record { literal = l; weight = w } ∷ []
charge-put cs after k l w e f = e ∙ ap (λ (x : Literal). cs ++ record { literal = x; weight = w } ∷ []) f

pub hard-step : (p : Problem) (r : Reduction) (h : Client) (c : Clause) → LiteralsAreBelow r.variables c → Gives c r.client h → ReducesTo p r →
    ReducesTo (with_hard c p) (record r { client = h })
hard-step p r h c b gives st = stands-hard p r (record r { client = h }) c b gives refl st

pub literal-step : (p : Problem) (r : Reduction) (after : List Charge) (c : Clause) (k l : Literal) (w : ℕ) → c ≡ l ∷ [] → LiteralsAreBelow r.variables c →
    after ≡ r.charges ++ record { literal = k; weight = w } ∷ [] → k ≡ opposite l → ReducesTo p r → ReducesTo (with_soft w c p) (record r { charges = after })
literal-step p r after c k l w f b e o st =
    stands-literal p r (record r { charges = after }) c l w f b (ap (λ x. record r { charges = x }) (charge-put r.charges after k (opposite l) w e o)) st

pub clause-step : (p : Problem) (r u : Reduction) (h : Client) (after : List Charge) (c longer : Clause) (k : Literal) (w : ℕ) → LiteralsAreBelow r.variables c →
    u ≡ record r { named = r.named + 1 } → Gives longer u.client h → longer ≡ c ++ k ∷ [] → k ≡ 2 * r.named →
    after ≡ u.charges ++ record { literal = k; weight = w } ∷ [] → ReducesTo p r → ReducesTo (with_soft w c p) (record u { client = h; charges = after })
clause-step p r u h after c longer k w b e gives f o a st =
    stands-clause p r (record u { client = h; charges = after }) c w b
    (subst (λ d. Gives d r.client h) (f ∙ ap (λ x. c ++ x ∷ []) o) (subst (λ x. Gives longer x h) (ap (λ (x : Reduction). x.client) e) gives))
    (ap (λ (x : Reduction). record x { client = h; charges = after }) e ∙ ap (λ x. record r { client = h; named = r.named + 1; charges = x })
    (charge-put r.charges after k (2 * r.named) w (a ∙ ap (λ (x : Reduction). x.charges ++ record { literal = k; weight = w } ∷ []) e) o)) st

pub join-step : (p : Problem) (r v u : Reduction) (g h i : Client) (after : List Charge) (x y nx ny mx my either both : Literal) (rest : List Literal) (w : ℕ) →
    v ≡ record r { named = r.named + 1 } → u ≡ record v { named = v.named + 1 } → either ≡ 2 * r.named → both ≡ 2 * v.named →
    nx ≡ opposite x → ny ≡ opposite y → mx ≡ opposite x → my ≡ opposite y →
    Gives (nx ∷ either ∷ []) u.client g → Gives (ny ∷ either ∷ []) g h → Gives (mx ∷ my ∷ both ∷ []) h i →
    after ≡ u.charges ++ record { literal = both; weight = w } ∷ [] → ReducesToWith p (x ∷ y ∷ rest) w r →
    ReducesToWith p (rest ++ either ∷ []) w (record u { client = i; charges = after })
join-step p r v u g h i after x y nx ny mx my either both rest w e f ei bo a b c d g1 g2 g3 q st =
    subst (λ l. ReducesToWith p (rest ++ l ∷ []) w (record u { client = i; charges = after })) (sym ei)
    (stands-joined p r (record u { client = i; charges = after }) x y rest w g h
    (subst (λ k. Gives (opposite x ∷ k ∷ []) r.client g) ei
    (subst (λ k. Gives (k ∷ either ∷ []) r.client g) a (subst (λ k. Gives (nx ∷ either ∷ []) k g) (ap (λ (z : Reduction). z.client) whole) g1)))
    (subst (λ k. Gives (opposite y ∷ k ∷ []) g h) ei (subst (λ k. Gives (k ∷ either ∷ []) g h) b g2))
    (subst (λ k. Gives (opposite x ∷ opposite y ∷ k ∷ []) h i) last
    (subst (λ k. Gives (opposite x ∷ k ∷ both ∷ []) h i) d (subst (λ k. Gives (k ∷ my ∷ both ∷ []) h i) c g3)))
    (ap (λ (z : Reduction). record z { client = i; charges = after }) whole ∙ ap (λ z. record r { client = i; named = r.named + 1 + 1; charges = z })
    (charge-put r.charges after both (2 * (r.named + 1)) w (q ∙ ap (λ (z : Reduction). z.charges ++ record { literal = both; weight = w } ∷ []) whole) last)) st)
  where
    whole : u ≡ record r { named = r.named + 1 + 1 }
    whole = f ∙ ap (λ (z : Reduction). record z { named = z.named + 1 }) e

    last : both ≡ 2 * (r.named + 1)
    last = bo ∙ ap (λ (z : Reduction). 2 * z.named) e

pub join_pending-step : (p : Problem) (r : Reduction) (h : Client) (x : Literal) (w k : ℕ) → Gives (x ∷ []) r.client h → k ≡ r.bound + w →
    ReducesToWith p (x ∷ []) w r → ReducesTo p (record r { client = h; bound = k })
join_pending-step p r h x w k gives f st = stands-settled p r (record r { client = h; bound = k }) x w k gives f refl st

pub relax-step : (p : Problem) (r : Reduction) (t w : ℕ) (kept failed after : List Charge) (pending : List Literal) →
    ((q : ClientPast) → IsReady r.client q → IsSplit q.core r.charges kept failed) → TakesWeight w failed kept after pending →
    ReducesToAfter false t p r → ReducesToWith p pending w (record r { charges = after })
relax-step p r t w kept failed after pending split takes st = core-relaxes p r (record r { charges = after }) t w kept failed after pending split takes refl st

-- what a queue gives that has nothing more
pub empty-by : (xs ys : List ℕ) → xs ≡ ys → ys ≡ drop 1 xs → xs ≡ []
empty-by [] ys e f = refl
empty-by (x ∷ xs) ys e f = let g : length (x ∷ xs) ≡ length xs = ap length (e ∙ f) in absurd (omega arith)

pub with-pending : (p : Problem) (r : Reduction) (w : ℕ) (xs ys : List Literal) → xs ≡ ys → ReducesToWith p xs w r → ReducesToWith p ys w r
with-pending p r w xs ys e st = subst (λ x. ReducesToWith p x w r) e st

-- a search is forgotten
pub stands-still : (p : Problem) (r : Reduction) (b : Bool) (t : ℕ) → ReducesToAfter b t p r → ReducesTo p r
stands-still p r true t st =
    let f : FindsModel t r.charges st.clauses r.client = st.finds in
    record {
      past = f.past;
      ready = f.ready;
      variables = st.variables;
      reduces = subst (λ P. Reduces p.hard p.soft p.variables r.named P r.charges [] 0 r.bound) (sym f.clauses) st.reduces;
    }
stands-still p r false t st =
    let f : FindsCore t r.charges st.clauses r.client = st.finds in
    record {
      past = f.past;
      ready = f.ready;
      variables = st.variables;
      reduces = subst (λ P. Reduces p.hard p.soft p.variables r.named P r.charges [] 0 r.bound) (sym f.clauses) st.reduces;
    }

-- what holds of the best solution so far
pub best-moves : {X : Type 0} (P : X → Type 0) (o q : Option X) → q ≡ o → IfSome o P → IfSome q P
best-moves P o q e h = subst (λ x. IfSome x P) (sym e) h

-- clauses with their weights
pub paired-append : (ws : List ℕ) (cs : List Clause) (w : ℕ) (c : Clause) → length ws ≡ length cs →
    paired (ws ++ w ∷ []) (cs ++ c ∷ []) ≡ paired ws cs ++ record { weight = w; clause = c } ∷ []
paired-append [] [] w c e = refl
paired-append [] (d ∷ cs) w c e = absurd (omega arith)
paired-append (v ∷ ws) [] w c e = absurd (omega arith)
paired-append (v ∷ ws) (d ∷ cs) w c e = ap (λ x. record { weight = v; clause = d } ∷ x) (paired-append ws cs w c (omega arith))

pub paired-next : (ws : List ℕ) (i : ℕ) (cs : List Clause) (c : Clause) → i < length ws → i ≡ length cs →
    paired (take (i + 1) ws) (cs ++ c ∷ []) ≡ paired (take i ws) cs ++ record { weight = get_or ws i 0; clause = c } ∷ []
paired-next ws i cs c h e =
    ap (λ x. paired x (cs ++ c ∷ [])) (take_more ws i 0 h)
    ∙ paired-append (take i ws) cs (get_or ws i 0) c (length-take-le i ws (let l = h in omega arith) ∙ e)

-- a weight more of what is not satisfied
pub cost-next : (a : Assignment) (ws : List ℕ) (i : ℕ) (cs ds : List Clause) (c : Clause) (k m s : ℕ) → i < length ws → i ≡ length cs → ds ≡ cs ++ c ∷ [] →
    s ≡ cost a (paired (take i ws) cs) → m ≡ (if is_satisfied a c then 0 else get_or ws i 0) → k ≡ s + m → k ≡ cost a (paired (take (i + 1) ws) ds)
cost-next a ws i cs ds c k m s h e f g o q =
    subst (λ x. k ≡ cost a (paired (take (i + 1) ws) x)) (sym f) (subst (λ x. k ≡ cost a x) (sym (paired-next ws i cs c h e))
    (let z = cost-append a (paired (take i ws) cs) (record { weight = get_or ws i 0; clause = c } ∷ []) in omega arith))

-- with one clause more it is at most the cost of all
pub cost-reaches : (a : Assignment) (ws : List ℕ) (cs ds : List Clause) (c : Clause) → length ws ≡ length (cs ++ c ∷ ds) →
    cost a (paired (take (length cs) ws) cs) + (if is_satisfied a c then 0 else get_or ws (length cs) 0) ≤ cost a (paired ws (cs ++ c ∷ ds))
cost-reaches a [] cs ds c l = absurd (let k = length-append cs (c ∷ ds) in omega arith)
cost-reaches a (w ∷ ws) [] ds c l = omega arith
cost-reaches a (w ∷ ws) (d ∷ cs) ds c l = let h = cost-reaches a ws cs ds c (omega arith) in omega arith

pub cost-past : (a : Assignment) (ws : List ℕ) (i : ℕ) (cs ds all : List Clause) (c : Clause) (m s : ℕ) → i ≡ length cs → cs ++ (c ∷ ds) ≡ all →
    length ws ≡ length all → s ≡ cost a (paired (take i ws) cs) → m ≡ (if is_satisfied a c then 0 else get_or ws i 0) → (s + m < 2 ^ 64 → ⊥) →
    2 ^ 64 ≤ cost a (paired ws all)
cost-past a ws i cs ds all c m s e f g o q n =
    subst (λ x. 2 ^ 64 ≤ cost a (paired ws x)) f
    (let h = cost-reaches a ws cs ds c (g ∙ ap length (sym f)) in
    let before = o ∙ ap (λ j. cost a (paired (take j ws) cs)) e in
    let more = q ∙ ap (λ j. if is_satisfied a c then 0 else get_or ws j 0) e in
    ⊎_elim (λ b. absurd (n b)) (λ b. omega arith) (cases_lt (s + m) (2 ^ 64)))

pub soft-next : (p : Problem) (r : Reduction) (ws : List ℕ) (i : ℕ) (cs ds : List Clause) (c : Clause) → i < length ws → i ≡ length cs → ds ≡ cs ++ c ∷ [] →
    ReducesTo (with_soft (get_or ws i 0) c (record p { soft = p.soft ++ paired (take i ws) cs })) r →
    ReducesTo (record p { soft = p.soft ++ paired (take (i + 1) ws) ds }) r
soft-next p r ws i cs ds c h e f st =
    subst (λ x. ReducesTo (record p { soft = x }) r)
    (append_assoc p.soft (paired (take i ws) cs) (record { weight = get_or ws i 0; clause = c } ∷ []) ∙ ap (λ x. p.soft ++ x) (sym (paired-next ws i cs c h e))
    ∙ ap (λ x. p.soft ++ paired (take (i + 1) ws) x) (sym f)) st

pub hard-next : (p : Problem) (r : Reduction) (cs ds : List Clause) (c : Clause) → ds ≡ cs ++ c ∷ [] → ReducesTo (with_hard c (record p { hard = p.hard ++ cs })) r →
    ReducesTo (record p { hard = p.hard ++ ds }) r
hard-next p r cs ds c f st =
    subst (λ x. ReducesTo (record p { hard = x }) r) (append_assoc p.hard cs (c ∷ []) ∙ ap (λ x. p.hard ++ x) (sym f)) st

-- the next clause has a weight
pub clause-room : (i : ℕ) (ws : List ℕ) (cs ds all : List Clause) (c : Clause) → i ≡ length cs → cs ++ (c ∷ ds) ≡ all → length ws ≡ length all → i < length ws
clause-room i ws cs ds all c e f g = let h = ap length f in let k = length-append cs (c ∷ ds) in omega arith

max-more : (a b c : ℕ) → max a (max b c) ≡ max (max a b) c
max-more a b c = omega arith

pub soft-put : (h f g : Formula) (ws vs : List ℕ) (w : ℕ) (c : Clause) → length ws ≡ length f.clauses → g ≡ with_one_more f c → vs ≡ ws ++ w ∷ [] →
    problem_of (max h.var_count g.var_count) h.clauses (paired vs g.clauses)
    ≡ problem_of (max (max h.var_count f.var_count) (variables_of c)) h.clauses (paired ws f.clauses ++ record { weight = w; clause = c } ∷ [])
soft-put h f g ws vs w c l e k =
    ap (λ (x : Formula). problem_of (max h.var_count x.var_count) h.clauses (paired vs x.clauses)) e
    ∙ ap (λ x. problem_of (max h.var_count (max f.var_count (variables_of c))) h.clauses (paired x (f.clauses ++ c ∷ []))) k
    ∙ ap (λ n. problem_of n h.clauses (paired (ws ++ w ∷ []) (f.clauses ++ c ∷ []))) (max-more h.var_count f.var_count (variables_of c))
    ∙ ap (λ s. problem_of (max (max h.var_count f.var_count) (variables_of c)) h.clauses s) (paired-append ws f.clauses w c l)

-- the clauses' variables are below a higher count, too
pub clauses-rise : (n m : ℕ) (P : List Clause) → n ≤ m → AreBelow n P → AreBelow m P
clauses-rise n m [] e h = tt
clauses-rise n m (c ∷ cs) e (b, h) = (below_more n m c e b, clauses-rise n m cs e h)

pub paired-clauses : (ws : List ℕ) (cs : List Clause) → length ws ≡ length cs → map (λ (s : Soft). s.clause) (paired ws cs) ≡ cs
paired-clauses [] [] e = refl
paired-clauses [] (c ∷ cs) e = absurd cc
paired-clauses (w ∷ ws) [] e = absurd cc
paired-clauses (w ∷ ws) (c ∷ cs) e = ap (λ xs. c ∷ xs) (paired-clauses ws cs (omega (arith, e)))
