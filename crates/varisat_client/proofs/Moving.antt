-- How the calls of a client move what it stands for.
use Rattle.std.proofs.Common.{◌≡◌, ◌≢◌, ◌↔◌, ◌⊎◌, inl, inr, ⊎_elim, ◌<◌, ◌≤◌, ◌+◌, ◌/◌, max, ℕ, zero, suc, ℤ, pos, negsuc, Bool, true, false, IsTrue, Option, Some, None, List, [], ◌∷◌, ◌++◌, map, append-nil, append_assoc, sym, ap, ◌∙◌, subst, refl, Ok, Err, arith}
use Rattle.std.proofs.lemmas.Bool.{cases_lt}
use Rattle.std.specs.Prelude.{is_some}
use Rattle.std.specs.Option.{unwrap_or}
use Rattle.varisat_theory.specs.promises.Membership.{◌∈◌}
use Rattle.varisat_theory.specs.promises.Literals.{Literal, Clause, variable_of}
use Rattle.varisat_theory.proofs.clauses.Members.{∈-append_left, ∈-append_right, ∈-append_cases}
use Rattle.varisat_theory.proofs.journals.Renaming.{∈-map, map-∈}
use Rattle.varisat_formula.specs.promises.Formulas.{variables_of}
use Rattle.varisat_literals.specs.promises.Numbers.{variable_limit}
use Rattle.varisat_solver.proofs.calls.Counted.{join-more, join-has, join-only}
use Rattle.varisat_solver.specs.promises.ClauseCalls.{AddsFormula}
use Rattle.varisat_incremental.specs.Reconstructions.{HasTaken, KeepsValues}
use Rattle.varisat_incremental.specs.Batches.{Batches, no_batches, HasBegun, Closed, TakesPart, TakesAll}
use Rattle.varisat_incremental.proofs.BatchLemmas.{closed-taken}
use Rattle.varisat_client.proofs.Giving.{gives-all, model-of-all}
use Rattle.varisat_theory.proofs.bounds.CallBounds.{few_none}
use Rattle.varisat_literals.specs.promises.Numbers.{literal_numbered}
use Rattle.varisat_names.specs.promises.Settings.{update_of, first_bad}
use Rattle.varisat_names.proofs.Maps.{is_none-none}
use Rattle.varisat_names.specs.declared.config.SolverConfigUpdate.{SolverConfigUpdate}
use Rattle.varisat_names.specs.declared.config.ConfigField.TheVariants.{MaxSteps}
use Rattle.varisat_solver.specs.promises.States.{State, join_counted}
use Rattle.varisat.proofs.NameLaws.{none-in-order}
use Rattle.varisat_solver.specs.promises.Calls.{IsPastLimit, Assumes, Solves, Configures, by_state}
use Rattle.varisat_solver.specs.declared.solver.SolverError.{SolverError}
use Rattle.varisat_solver.specs.declared.solver.SolverError.TheVariants as error
use Rattle.varisat_solver.specs.promises.Summaries.{Summary, HasFullStore}
use Rattle.varisat_solver.specs.inside.Representations.{Represents}
use Rattle.varisat_client.specs.declared.client.SearchEnd.{SearchEnd}
use Rattle.varisat_client.specs.declared.client.SearchEnd.TheVariants as end
use Rattle.varisat_client.specs.declared.refusal.Refusal.{Refusal}
use Rattle.varisat_client.specs.declared.refusal.Refusal.TheVariants.{OutOfMemory, VariableLimit, ClauseStoreFull}
use Rattle.varisat_client.specs.inside.Refusals.{refusal_for}
use Rattle.varisat_client.specs.inside.LiteralSets.{Has}
use Rattle.varisat_client.specs.promises.Pasts.{ClientPast, empty_client_past, refuse, count, Again, Memory, Limit, Full, AddsNumber, AssumesNumber, Begins, LimitsSteps, Prepares, IsSearchEnd, IsFoundModel, ReturnsFailed}
use Rattle.varisat_client.specs.promises.Pasts as past
use Rattle.varisat_client.specs.inside.Clients.{first_state, Client, IsSetOfModel, IsSetOfCore, MadeFewSince, CountsUpTo, HasGiven, IsSettled, HoldsPast, RepresentsPast, Moves, GivesPending, model_of_all, KeepsModel, KeepsCore}
use Rattle.varisat_client.specs.inside.Clients as client
use Rattle.varisat_client.proofs.Fitting as fitting
use Rattle.varisat_client.proofs.Refusing.{none-past-limit, is-full, list-refused, list-stored, search-refused, never-refused}

-- 1. A new client.

-- what a client represents that refused no call
stands-free : (g : Client) (p : ClientPast) → g.refusal ≡ p.refusal → p.refusal ≡ None → HoldsPast g p → RepresentsPast g p
stands-free g p e free k = record { refusal = e; full = λ f. absurd (let z : None ≡ Some ClauseStoreFull = sym free ∙ f in cc); holds = λ _. k }

-- nothing was given yet
pub is-new : (g : Client) → g.refusal ≡ None → Represents g.solver first_state → g.pending ≡ [] → g.batches ≡ no_batches → g.is_changed ≡ false →
    g.var_count ≡ 0 → g.clause ≡ [] → g.assumptions ≡ [] → g.assumed ≡ [] → IsSetOfModel [] g → IsSetOfCore [] g → RepresentsPast g empty_client_past
is-new g r s pending none unchanged no_vars c a b m k = stands-free g empty_client_past r refl (record {
  state = first_state;
  stands = s;
  gave = record {
    taken = [];
    given = [];
    known = [];
    whole = sym pending;
    reduced = subst (HasBegun [] []) (sym none) (Closed refl (record {
      keeps = λ _ h. h;
      implied = λ _ h. h;
      extends = λ _ _ h. h;
      changes = λ _ _ _. refl;
      frozen = λ _ i. absurd i;
      named = λ _ _ i. absurd i;
      saved = λ _ _ i. absurd i;
    }));
    fits = record {
      valid = refl;
      proof = refl;
      count = 0;
      order = none-in-order;
      in_range = omega arith;
      same = λ _. refl;
      fewer = λ _ i. i;
      refuted = λ u. absurd cc;
      assumed = refl;
      named = λ _ _ i. absurd i;
      assumed_named = λ _ i. absurd i;
      steps = refl;
      limit = refl;
    };
    among = record {
      within = λ i m. m;
      once = tt;
      up_to_counted = λ u h. let z : u < 0 = h in absurd (omega (arith, z));
      in_use = λ _ _ i. absurd i;
    };
    within = λ _ i. i;
  };
  settled = record {
    fresh = λ _. refl;
    made = λ _. record { same = refl; few = few_none 0 };
    all = λ _. pending;
    closed = λ _. record { none_open = ap (λ (b : Batches). b.open_batch) none; none_ended = ap (λ (b : Batches). b.ended) none };
    keeps = λ _ _ _ i. absurd i;
  };
  counts = record {
    named = λ _ _ i. absurd i;
    assumed = λ _ i. absurd i;
    below = λ _ i. absurd i;
    up_to = λ u h. absurd (omega (arith, h, no_vars));
    small = omega (arith, no_vars);
  };
  clause = c;
  assumptions = a;
  assumed = b;
  model = m;
  core = k;
})

-- how many variables there are with those of a list
over-max : (u m n : ℕ) → u < max m n → (u < m) ⊎ (u < n)
over-max u m n h = grind arith

highest-in : (u : ℕ) (c : Clause) → u < variables_of c → (l : Literal) × (l ∈ c) × (u ≤ variable_of l)
highest-in u [] h = absurd (omega (arith, h))
highest-in u (l ∷ c) h =
    ⊎_elim (λ k. (l, inl refl, omega (arith, k))) (λ k. let (m, i, e) = highest-in u c k in (m, inr i, e)) (over-max u (l / 2 + 1) (variables_of c) h)

in-highest : (c : Clause) (l : Literal) → l ∈ c → variable_of l < variables_of c
in-highest [] l h = absurd h
in-highest (m ∷ c) l (inl e) = let q = ap variable_of e in omega (arith, q)
in-highest (m ∷ c) l (inr h) = let q = in-highest c l h in omega (arith, q)

past-count : (c : Clause) (m n : ℕ) → n ≡ max m (variables_of c) → m ≤ variable_limit → variable_limit < n → IsPastLimit c
past-count c m n e small h = highest-in variable_limit c (omega (arith, e, small, h))

within-count : (c : Clause) (m n : ℕ) → n ≡ max m (variables_of c) → n ≤ variable_limit → IsPastLimit c → ⊥
within-count c m n e small (l, i, h) = let q = in-highest c l i in omega (arith, e, small, h, q)

count-small : (c : Clause) (m n : ℕ) → n ≡ max m (variables_of c) → m ≤ variable_limit → (IsPastLimit c → ⊥) → n ≤ variable_limit
count-small c m n e small none =
    ⊎_elim (λ (h : variable_limit < n). absurd (none (past-count c m n e small h))) (λ h. h) (cases_lt variable_limit n)

counts-more : (m n : ℕ) (P Q : List Clause) (A B : List Literal) (counted : List ℕ) (d : List Literal) → n ≡ max m (variables_of d) → n ≤ variable_limit →
    ((c : Clause) (l : Literal) → c ∈ Q → l ∈ c → ((e : Clause) × (e ∈ P) × (l ∈ e)) ⊎ (l ∈ d)) → ((l : Literal) → l ∈ B → (l ∈ A) ⊎ (l ∈ d)) →
    CountsUpTo m P A counted → CountsUpTo n Q B (join_counted counted (map variable_of d))
counts-more m n P Q A B counted d e small clauses list k =
    let ls = map variable_of d in
    record {
      named = λ c l i j. ⊎_elim (λ (x, y, z). join-more ls counted (variable_of l) (k.named x l y z)) (λ y. join-has ls counted (variable_of l) (∈-map variable_of l d y))
          (clauses c l i j);
      assumed = λ l i. ⊎_elim (λ y. join-more ls counted (variable_of l) (k.assumed l y)) (λ y. join-has ls counted (variable_of l) (∈-map variable_of l d y)) (list l i);
      below = λ u i. ⊎_elim
          (λ y. let b = k.below u y in omega (arith, b, e))
          (λ y. let (l, x, q) = map-∈ variable_of u d y in let b = in-highest d l x in omega (arith, b, q, e))
          (join-only ls counted u i);
      up_to = λ u h. ⊎_elim
          (λ y. let (v, i, g) = k.up_to u y in (v, join-more ls counted v i, g))
          (λ y. let (l, i, g) = highest-in u d y in (variable_of l, join-has ls counted (variable_of l) (∈-map variable_of l d i), g))
          (over-max u m (variables_of d) (subst (λ x. u < x) e h));
      small = small;
    }

settled-after : (b : Bool) (pending : List Clause) (r : Batches) (A : List Literal) (since later : ℕ) (s t : State) → b ≡ false → MadeFewSince t later →
    IsSettled b pending r A since s → IsSettled b pending r A later t
settled-after b pending r A since later s t e made k = record {
  fresh = λ x. absurd (let z : true ≡ false = sym x ∙ e in cc);
  made = λ _. made;
  all = k.all;
  closed = k.closed;
  keeps = k.keeps;
}

-- 2. Refusals.

-- no call was refused
pub not-refused : (g : Client) (p : ClientPast) → RepresentsPast g p → is_some g.refusal ≡ false → p.refusal ≡ None
not-refused g p st e = is_none-none p.refusal (ap is_some (sym st.refusal) ∙ e)

-- one was
pub was-refused : (g : Client) (p : ClientPast) → RepresentsPast g p → is_some g.refusal ≡ true → p.refusal ≢ None
was-refused g p st e n = let z : true ≡ false = sym e ∙ ap is_some (st.refusal ∙ n) in cc

-- each call is refused once one was
pub stays-refused : (R : ClientPast → ClientPast → Type 0) (g : Client) → is_some g.refusal ≡ true → ((p : ClientPast) → p.refusal ≢ None → R p p) → Moves R g g
stays-refused R g e f p st = (p, f p (was-refused g p st e), st)

-- the first call that is refused
refused-now : (R : ClientPast → ClientPast → Type 0) (g h : Client) (why : Refusal) → is_some g.refusal ≡ false → h.refusal ≡ Some why →
    ((p : ClientPast) → RepresentsPast g p → p.refusal ≡ None → R p (refuse why p) × (why ≡ ClauseStoreFull → HasFullStore h.solver)) → Moves R g h
refused-now R g h why e f r p st =
    let (moves, full) = r p st (not-refused g p st e) in (
      refuse why p,
      moves,
      record {
        refusal = f;
        full = λ q. full (ap (λ (o : Option Refusal). unwrap_or o why) q);
        holds = λ q. absurd (let z : Some why ≡ None = q in cc);
      },
    )

-- memory ran out
pub runs-out : (R : ClientPast → ClientPast → Type 0) (g h : Client) → is_some g.refusal ≡ false → h.refusal ≡ Some OutOfMemory →
    ((p : ClientPast) → p.refusal ≡ None → R p (refuse OutOfMemory p)) → Moves R g h
runs-out R g h e f r = refused-now R g h OutOfMemory e f (λ p st free. (r p free, (λ z. absurd cc)))

-- so it did for a number
pub put-refused : (n : ℤ) (g h : Client) → n ≢ pos 0 → is_some g.refusal ≡ false → h.refusal ≡ Some OutOfMemory → Moves (AddsNumber n) g h
put-refused n g h z e f = runs-out (AddsNumber n) g h e f (λ p free. past.PutRefused z (Memory free none-past-limit refl))

-- also for one that is assumed
pub assumption-refused : (n : ℤ) (g h : Client) → n ≢ pos 0 → is_some g.refusal ≡ false → h.refusal ≡ Some OutOfMemory → Moves (AssumesNumber n) g h
assumption-refused n g h z e f = runs-out (AssumesNumber n) g h e f (λ p free. past.Refused z (Memory free none-past-limit refl))

-- a number after a refusal
pub add-stays : (n : ℤ) (g : Client) → is_some g.refusal ≡ true → Moves (AddsNumber n) g g
add-stays n g e = stays-refused (AddsNumber n) g e (λ p r. at n p r)
  where
    at : (n : ℤ) (p : ClientPast) → p.refusal ≢ None → AddsNumber n p p
    at (pos zero) p r = past.EndRefused refl (Again r refl)
    at (pos (suc k)) p r = past.PutRefused (λ z. cc) (Again r refl)
    at (negsuc k) p r = past.PutRefused (λ z. cc) (Again r refl)

-- a clause of a variable past the limit
pub end-past : (g h : Client) (n : ℕ) → g.refusal ≡ None → n ≡ max g.var_count (variables_of g.clause) → variable_limit < n → h.refusal ≡ Some VariableLimit →
    Moves (AddsNumber (pos 0)) g h
end-past g h n free e over why = refused-now (AddsNumber (pos 0)) g h VariableLimit (ap is_some free) why (λ p st r.
    let k = st.holds r in (
      past.EndRefused refl (Limit r (subst IsPastLimit k.clause (past-count g.clause g.var_count n e k.counts.small over)) refl),
      (λ z. absurd cc),
    ))

-- memory ran out at one of none
pub end-out : (g h : Client) (n : ℕ) → g.refusal ≡ None → n ≡ max g.var_count (variables_of g.clause) → n ≤ variable_limit → h.refusal ≡ Some OutOfMemory →
    Moves (AddsNumber (pos 0)) g h
end-out g h n free e small why = refused-now (AddsNumber (pos 0)) g h OutOfMemory (ap is_some free) why (λ p st r.
    let k = st.holds r in (
      past.EndRefused refl (Memory r (λ x. within-count g.clause g.var_count n e small (subst IsPastLimit (sym k.clause) x)) refl),
      (λ z. absurd cc),
    ))

-- assumptions that are not
pub begin-refused : (g h : Client) (d : List Literal) (e : SolverError) → is_some g.refusal ≡ false → d ≡ g.assumptions →
    ((s : State) → Represents g.solver s → (t : State) × Assumes s d (Err e) t × Represents h.solver t) → h.refusal ≡ Some (refusal_for e) → Moves Begins g h
begin-refused g h d e free own call why = refused-now Begins g h (refusal_for e) free why (λ p st r.
    let k = st.holds r in
    let (t, assumes, stands) = call k.state k.stands in (
      past.Refused (list-refused e k.state t k.gave.given p.assumed p.steps p.limit d p.assumptions p assumes (own ∙ k.assumptions) k.gave.fits r),
      (λ q. absurd (list-stored e k.state t d assumes q)),
    ))

-- a search
pub search-fails : (g h : Client) (e : SolverError) → is_some g.refusal ≡ false →
    ((s : State) → Represents g.solver s → (t : State) × Solves by_state s (Err e) t × Represents h.solver t) →
    (e ≡ error.ClauseStoreFull → HasFullStore h.solver) → h.refusal ≡ Some (refusal_for e) → Moves (IsSearchEnd end.Refused) g h
search-fails g h e free call full why = refused-now (IsSearchEnd end.Refused) g h (refusal_for e) free why (λ p st r.
    let k = st.holds r in
    let (t, solves, stands) = call k.state k.stands in
    (past.Refused refl (search-refused e k.state t p solves r), (λ q. full (is-full e q))))

-- 3. Numbers.

-- a literal is put behind the clause
pub put-literal : (n : ℤ) (g h : Client) → n ≢ pos 0 → is_some g.refusal ≡ false → h.clause ≡ g.clause ++ literal_numbered n ∷ [] →
    h ≡ record g { clause = h.clause } → Moves (AddsNumber n) g h
put-literal n g h z e put q p st =
    let r = not-refused g p st e in
    let k = st.holds r in
    let to : ClientPast = record p { clause = p.clause ++ literal_numbered n ∷ [] } in (
      to,
      past.Put z r refl,
      stands-free h to (ap (λ (x : Client). x.refusal) q ∙ st.refusal) r (record {
        state = k.state;
        stands = subst (λ (x : Client). Represents x.solver k.state) (sym q) k.stands;
        gave = subst (λ (x : Client). HasGiven x.pending x.batches p.clauses p.assumed p.steps p.limit p.counted k.state) (sym q) k.gave;
        settled = subst (λ (x : Client). IsSettled x.is_changed x.pending x.batches p.assumed p.since k.state) (sym q) k.settled;
        counts = subst (λ (x : Client). CountsUpTo x.var_count p.clauses p.assumed p.counted) (sym q) k.counts;
        clause = put ∙ ap (λ (ls : List Literal). ls ++ literal_numbered n ∷ []) k.clause;
        assumptions = ap (λ (x : Client). x.assumptions) q ∙ k.assumptions;
        assumed = ap (λ (x : Client). x.assumed) q ∙ k.assumed;
        model = subst (IsSetOfModel p.model) (sym q) k.model;
        core = subst (IsSetOfCore p.core) (sym q) k.core;
      }),
    )

-- or behind the assumptions
pub put-assumption : (n : ℤ) (g h : Client) → n ≢ pos 0 → is_some g.refusal ≡ false → h.assumptions ≡ g.assumptions ++ literal_numbered n ∷ [] →
    h ≡ record g { assumptions = h.assumptions } → Moves (AssumesNumber n) g h
put-assumption n g h z e put q p st =
    let r = not-refused g p st e in
    let k = st.holds r in
    let to : ClientPast = record p { assumptions = p.assumptions ++ literal_numbered n ∷ [] } in (
      to,
      past.Put z r refl,
      stands-free h to (ap (λ (x : Client). x.refusal) q ∙ st.refusal) r (record {
        state = k.state;
        stands = subst (λ (x : Client). Represents x.solver k.state) (sym q) k.stands;
        gave = subst (λ (x : Client). HasGiven x.pending x.batches p.clauses p.assumed p.steps p.limit p.counted k.state) (sym q) k.gave;
        settled = subst (λ (x : Client). IsSettled x.is_changed x.pending x.batches p.assumed p.since k.state) (sym q) k.settled;
        counts = subst (λ (x : Client). CountsUpTo x.var_count p.clauses p.assumed p.counted) (sym q) k.counts;
        clause = ap (λ (x : Client). x.clause) q ∙ k.clause;
        assumed = ap (λ (x : Client). x.assumed) q ∙ k.assumed;
        assumptions = put ∙ ap (λ (ls : List Literal). ls ++ literal_numbered n ∷ []) k.assumptions;
        model = subst (IsSetOfModel p.model) (sym q) k.model;
        core = subst (IsSetOfCore p.core) (sym q) k.core;
      }),
    )

-- 0 among the assumptions
pub put-nothing : (n : ℤ) (g : Client) → n ≡ pos 0 → Moves (AssumesNumber n) g g
put-nothing n g e p st = (p, past.Nothing e refl, st)

-- 4. What the solver is given.

-- the clause ends
pub ends-clause : (g h : Client) (n : ℕ) → g.refusal ≡ None → n ≡ max g.var_count (variables_of g.clause) → n ≤ variable_limit →
    h.pending ≡ g.pending ++ g.clause ∷ [] → h.clause ≡ [] → h ≡ record g { pending = h.pending; is_changed = true; var_count = n; clause = h.clause } →
    Moves (AddsNumber (pos 0)) g h
ends-clause g h n free e small more none q p st =
    let r = sym st.refusal ∙ free in
    let k = st.holds r in
    let ls = map variable_of p.clause in
    let to : ClientPast = record (count p.clause p) { clauses = p.clauses ++ p.clause ∷ []; clause = [] } in
    let next : Client = record g { pending = h.pending; is_changed = true; var_count = n; clause = h.clause } in (
      to,
      past.Ended refl r (λ x y. within-count g.clause g.var_count n e small (subst IsPastLimit (sym k.clause) x)) refl,
      subst (λ (x : Client). RepresentsPast x to) (sym q) (stands-free next to st.refusal r (record {
        state = k.state;
        stands = k.stands;
        gave = record {
          taken = k.gave.taken;
          given = k.gave.given;
          known = k.gave.known;
          whole = ap (λ (X : List Clause). X ++ p.clause ∷ []) k.gave.whole ∙ append_assoc k.gave.taken g.pending (p.clause ∷ [])
              ∙ ap (λ (c : Clause). k.gave.taken ++ (g.pending ++ c ∷ [])) (sym k.clause) ∙ ap (λ (X : List Clause). k.gave.taken ++ X) (sym more);
          reduced = k.gave.reduced;
          fits = k.gave.fits;
          among = k.gave.among;
          within = λ u i. join-more ls p.counted u (k.gave.within u i);
        };
        settled = record {
          fresh = λ _. refl;
          made = λ z. absurd (let y : true ≡ false = z in cc);
          all = λ z. absurd (let y : true ≡ false = z in cc);
          closed = λ z. absurd (let y : true ≡ false = z in cc);
          keeps = λ z. absurd (let y : true ≡ false = z in cc);
        };
        counts = counts-more g.var_count n p.clauses (p.clauses ++ p.clause ∷ []) p.assumed p.assumed p.counted p.clause
            (e ∙ ap (λ (c : Clause). max g.var_count (variables_of c)) k.clause) small
            (λ c l i j. ⊎_elim (λ x. inl (c, x, j)) (λ x. ⊎_elim (λ y. inr (subst (λ (d : Clause). l ∈ d) y j)) (λ z. absurd z) x)
            (∈-append_cases c p.clauses (p.clause ∷ []) i)) (λ l i. inl i) k.counts;
        clause = none;
        assumptions = k.assumptions;
        assumed = k.assumed;
        model = k.model;
        core = k.core;
      })),
    )

-- a search begins
pub begins-search : (g h : Client) (d : List Literal) (n : ℕ) → is_some g.refusal ≡ false → d ≡ g.assumptions →
    ((s : State) → Represents g.solver s → (t : State) × Assumes s d (Ok tt) t × Represents h.solver t) → n ≡ max g.var_count (variables_of g.assumptions) →
    h.assumed ≡ g.assumptions → h.assumptions ≡ [] →
    h ≡ record g { solver = h.solver; var_count = n; assumed = h.assumed; assumptions = h.assumptions; is_changed = true } → Moves Begins g h
begins-search g h d n e own call m now none q p st =
    let r = not-refused g p st e in
    let k = st.holds r in
    let (t, assumes, stands) = call k.state k.stands in
    let ls = map variable_of p.assumptions in
    let to : ClientPast = record (count p.assumptions p) { assumed = p.assumptions; assumptions = [] } in
    let within : IsPastLimit p.assumptions → ⊥ = fitting.begun-within k.state t d p.assumptions assumes (own ∙ k.assumptions) in
    let next : Client = record g { solver = h.solver; var_count = n; assumed = h.assumed; assumptions = h.assumptions; is_changed = true } in
    let size : n ≡ max g.var_count (variables_of p.assumptions) = m ∙ ap (λ (c : List Literal). max g.var_count (variables_of c)) k.assumptions in (
      to,
      past.Begun r within refl,
      subst (λ (y : Client). RepresentsPast y to) (sym q) (stands-free next to st.refusal r (record {
        state = t;
        stands = stands;
        gave = record {
          taken = k.gave.taken;
          given = k.gave.given;
          known = join_counted k.gave.known ls;
          whole = k.gave.whole;
          reduced = k.gave.reduced;
          fits = fitting.begun k.state t k.gave.given p.assumed p.steps p.limit d p.assumptions assumes (own ∙ k.assumptions) k.gave.fits;
          among = fitting.counts-begun k.state t k.gave.given p.assumed p.steps p.limit k.gave.known d p.assumptions assumes (own ∙ k.assumptions) k.gave.fits k.gave.among;
          within = λ u i. ⊎_elim (λ j. join-more ls p.counted u (k.gave.within u j)) (λ j. join-has ls p.counted u j) (join-only ls k.gave.known u i);
        };
        settled = record {
          fresh = λ _. refl;
          made = λ z. absurd (let y : true ≡ false = z in cc);
          all = λ z. absurd (let y : true ≡ false = z in cc);
          closed = λ z. absurd (let y : true ≡ false = z in cc);
          keeps = λ z. absurd (let y : true ≡ false = z in cc);
        };
        counts = counts-more g.var_count n p.clauses p.clauses p.assumed p.assumptions p.counted p.assumptions size
            (count-small p.assumptions g.var_count n size k.counts.small within)
            (λ c l i j. inl (c, i, j)) (λ l i. inr i) k.counts;
        clause = k.clause;
        assumptions = none;
        assumed = now ∙ k.assumptions;
        model = k.model;
        core = k.core;
      })),
    )

-- so many steps in one call
pub limits-steps : (steps : ℕ) (u : SolverConfigUpdate) (g h : Client) → is_some g.refusal ≡ false → u ≡ update_of MaxSteps steps →
    ((s : State) → Represents g.solver s → (t : State) × Configures s u (Ok tt) t × Represents h.solver t) → h ≡ record g { solver = h.solver } →
    Moves (LimitsSteps steps) g h
limits-steps steps u g h e given call q p st =
    let r = not-refused g p st e in
    let k = st.holds r in
    let (t, configures, stands) = call k.state k.stands in
    let to : ClientPast = record p { limit = steps; since = 0 } in
    let next : Client = record g { solver = h.solver } in (
      to,
      past.Limited r refl,
      subst (λ (x : Client). RepresentsPast x to) (sym q) (stands-free next to st.refusal r (record {
        state = t;
        stands = stands;
        gave = record {
          taken = k.gave.taken;
          given = k.gave.given;
          known = k.gave.known;
          whole = k.gave.whole;
          reduced = k.gave.reduced;
          fits = fitting.limited k.state t k.gave.given p.assumed p.steps p.limit steps u configures (ap (λ (v : SolverConfigUpdate). v.max_steps) given) k.gave.fits;
          among = fitting.counts-limited k.state t k.gave.known u configures k.gave.among;
          within = k.gave.within;
        };
        settled = record {
          fresh = λ _. refl;
          made = λ _. fitting.since-limited k.state t u configures;
          all = k.settled.all;
          closed = k.settled.closed;
          keeps = k.settled.keeps;
        };
        counts = k.counts;
        clause = k.clause;
        assumptions = k.assumptions;
        assumed = k.assumed;
        model = k.model;
        core = k.core;
      })),
    )

-- which is never refused
pub limit-refused : (steps : ℕ) (u : SolverConfigUpdate) (g h : Client) (after : Summary) (e : SolverError) → is_some g.refusal ≡ false →
    u ≡ update_of MaxSteps steps → ((s : State) → Represents g.solver s → (t : State) × Configures s u (Err e) t × Represents after t) →
    Moves (LimitsSteps steps) g h
limit-refused steps u g h after e free given call p st =
    let k = st.holds (not-refused g p st free) in
    let (t, configures, stands) = call k.state k.stands in
    absurd (never-refused e k.state t u configures k.gave.fits.valid (ap first_bad given))

-- 5. What is pending.

pub gives-pending : (g h : Client) (x : Summary) (r : Batches) (G : List Clause) → g.is_changed ≡ true → TakesAll g.pending g.assumed G g.batches r →
    ((s : State) → Represents g.solver s → (t : State) × AddsFormula s G (Ok tt) t × Represents x t) →
    h.pending ≡ [] → h ≡ record g { solver = x; pending = h.pending; batches = r; is_changed = false } → (p : ClientPast) → HoldsPast g p → HoldsPast h p
gives-pending g h x r G changed takes call none q p k =
    let (t, adds, stands) = call k.state k.stands in
    let (taken, closed, keeps) = takes k.gave.taken k.gave.given k.gave.reduced in
    let all : p.clauses ≡ k.gave.taken ++ g.pending = k.gave.whole in
    let gives = gives-all G k.state t k.gave.given p.assumed p.steps p.limit k.gave.known p.counted adds k.gave.fits k.gave.among k.gave.within
    (λ c l i j. let (m, (d, y, z), o) = taken.named c l (∈-append_right c k.gave.given G i) j in
    subst (λ v. v ∈ p.counted) o (k.counts.named d m (subst (λ (X : List Clause). d ∈ X) (sym all) y) z)) in
    subst (λ (y : Client). HoldsPast y p) (sym q) (record {
      state = t;
      stands = stands;
      gave = record {
        taken = k.gave.taken ++ g.pending;
        given = k.gave.given ++ G;
        known = gives.known;
        whole = all ∙ sym (append-nil (k.gave.taken ++ g.pending)) ∙ ap (λ (X : List Clause). (k.gave.taken ++ g.pending) ++ X) (sym none);
        reduced = Closed closed.none_open (subst (λ (Y : List Clause). HasTaken (k.gave.taken ++ g.pending) Y r.reconstruction) (sym (ap (λ (Y : List Clause). (k.gave.given ++ G) ++ Y) closed.none_ended ∙ append-nil (k.gave.given ++ G))) taken);
        fits = gives.fits;
        among = gives.among;
        within = gives.within;
      };
      settled = record {
        fresh = λ _. k.settled.fresh changed;
        made = λ _. subst (MadeFewSince t) (sym (k.settled.fresh changed)) gives.since;
        all = λ _. none;
        closed = λ _. closed;
        keeps = λ _. subst (λ (A : List Literal). KeepsValues A r.reconstruction.stack) k.assumed keeps;
      };
      counts = k.counts;
      clause = k.clause;
      assumptions = k.assumptions;
      assumed = k.assumed;
      model = k.model;
      core = k.core;
    })

-- or a part of it is simplified
pub prepares : (g h : Client) (b : Batches) → is_some g.refusal ≡ false → g.is_changed ≡ true → TakesPart g.pending h.pending g.batches b →
    h ≡ record g { pending = h.pending; batches = b } → Moves Prepares g h
prepares g h b e changed takes q p st =
    let r = not-refused g p st e in
    let k = st.holds r in
    let (more, same, begun) = takes k.gave.taken k.gave.given k.gave.reduced in
    let next : Client = record g { pending = h.pending; batches = b } in (
      p,
      past.Prepared refl,
      subst (λ (x : Client). RepresentsPast x p) (sym q) (stands-free next p st.refusal r (record {
        state = k.state;
        stands = k.stands;
        gave = record {
          taken = more;
          given = k.gave.given;
          known = k.gave.known;
          whole = k.gave.whole ∙ same;
          reduced = begun;
          fits = k.gave.fits;
          among = k.gave.among;
          within = k.gave.within;
        };
        settled = record {
          fresh = k.settled.fresh;
          made = λ z. absurd (let y : true ≡ false = sym changed ∙ z in cc);
          all = λ z. absurd (let y : true ≡ false = sym changed ∙ z in cc);
          closed = λ z. absurd (let y : true ≡ false = sym changed ∙ z in cc);
          keeps = λ z. absurd (let y : true ≡ false = sym changed ∙ z in cc);
        };
        counts = k.counts;
        clause = k.clause;
        assumptions = k.assumptions;
        assumed = k.assumed;
        model = k.model;
        core = k.core;
      })),
    )

-- for which memory ran out
pub prepare-refused : (g h : Client) → is_some g.refusal ≡ false → h.refusal ≡ Some OutOfMemory → Moves Prepares g h
prepare-refused g h e f = runs-out Prepares g h e f (λ p free. past.Refused (Memory free none-past-limit refl))

-- nothing is to be simplified
pub prepares-nothing : (g : Client) → Moves Prepares g g
prepares-nothing g p st = (p, past.Prepared refl, st)

-- where it could not be given, the search is refused
pub search-stops : (g h : Client) → is_some g.refusal ≡ false → GivesPending g h → is_some h.refusal ≡ true → Moves (IsSearchEnd end.Refused) g h
search-stops g h free (client.Given none still keeps) some = absurd (let z : false ≡ true = sym (ap is_some none) ∙ some in cc)
search-stops g h free (client.OutOfRoom why e (inl o)) some =
    runs-out (IsSearchEnd end.Refused) g h free (e ∙ ap Some o) (λ p r. past.Refused refl (Memory r none-past-limit refl))
search-stops g h free (client.OutOfRoom why e (inr o)) some =
    refused-now (IsSearchEnd end.Refused) g h ClauseStoreFull free (e ∙ ap Some o.0) (λ p st r. (past.Refused refl (Full r none-past-limit refl refl), (λ _. o.1)))

-- else it goes on
pub search-goes : (r : SearchEnd) (g m h : Client) → is_some g.refusal ≡ false → GivesPending g m → is_some m.refusal ≡ false →
    (m.refusal ≡ None → m.is_changed ≡ false → Moves (IsSearchEnd r) m h) → Moves (IsSearchEnd r) g h
search-goes r g m h free (client.Given none still keeps) some moves = λ p st.
    let f = not-refused g p st free in moves none still p (stands-free m p (none ∙ sym f) f (keeps p (st.holds f)))
search-goes r g m h free (client.OutOfRoom why e o) some moves = absurd (let z : true ≡ false = sym (ap is_some e) ∙ some in cc)

-- 6. Searches.

-- a search that found a model
pub finds-model : (r : SearchEnd) (g m h : Client) → is_some g.refusal ≡ false → g.is_changed ≡ false → m ≡ record g { solver = m.solver } →
    ((s : State) → Represents g.solver s → (t : State) × Solves by_state s (Ok true) t × Represents m.solver t) → KeepsModel r m h → Moves (IsSearchEnd r) g h
finds-model r g m h e still q call (client.Refused x) = runs-out (IsSearchEnd r) g h e x.refusal (λ p free. past.Refused x.answer (Memory free none-past-limit refl))
finds-model r g m h e still q call (client.Kept list found tells set o) = λ p st.
    let free = not-refused g p st e in
    let k = st.holds free in
    let (t, solves, stands) = call k.state k.stands in
    let fits = fitting.decided k.state t true k.gave.given p.assumed p.steps p.limit solves k.gave.fits in
    let among = fitting.counts-decided k.state t true k.gave.known solves k.gave.among in
    let all : List Literal = model_of_all g list in
    let same : p.clauses ≡ k.gave.taken = k.gave.whole ∙ ap (λ (X : List Clause). k.gave.taken ++ X) (k.settled.all still) ∙ append-nil k.gave.taken in
    let to : ClientPast = record p { model = all; steps = t.ledger.steps; since = t.ledger.since } in
    let next : Client = record g { solver = m.solver; model = h.model } in
    let own : h ≡ next = o ∙ ap (λ (x : Client). record x { model = h.model }) q in (
      to,
      past.Satisfiable found free
          (subst (λ (P : List Clause). IsFoundModel P p.assumed p.counted all) (sym same)
          (model-of-all k.gave.taken k.gave.given p.assumed k.gave.known p.counted g.var_count list g.batches.reconstruction
          (closed-taken k.gave.taken k.gave.given g.batches (k.settled.closed still) k.gave.reduced) (k.settled.keeps still)
          (fitting.is-model t k.gave.given p.assumed t.ledger.steps p.limit k.gave.known list fits among (tells t stands)) k.gave.within
          (λ c l i j. k.counts.named c l (subst (λ (P : List Clause). c ∈ P) (sym same) i) j) k.counts.assumed k.counts.below k.counts.up_to))
          (fitting.decided-few p to k.gave.known k.gave.within k.state t true solves k.gave.among (k.settled.made still) k.gave.fits.steps k.gave.fits.limit refl refl) refl,
      subst (λ (x : Client). RepresentsPast x to) (sym own) (stands-free next to st.refusal free (record {
        state = t;
        stands = stands;
        gave = record {
          taken = k.gave.taken;
          given = k.gave.given;
          known = k.gave.known;
          whole = k.gave.whole;
          reduced = k.gave.reduced;
          fits = fits;
          among = among;
          within = k.gave.within;
        };
        settled = settled-after g.is_changed g.pending g.batches p.assumed p.since t.ledger.since k.state t still
            (fitting.since-decided k.state t true p.since solves (k.settled.made still)) k.settled;
        counts = k.counts;
        clause = k.clause;
        assumptions = k.assumptions;
        assumed = k.assumed;
        model = subst (λ (x : Client). IsSetOfModel (model_of_all x list) next) q (subst (λ (x : Client). IsSetOfModel (model_of_all m list) x) own set);
        core = k.core;
      })),
    )

-- a search that found that there is none
pub finds-core : (r : SearchEnd) (g m h : Client) → is_some g.refusal ≡ false → g.is_changed ≡ false → m ≡ record g { solver = m.solver } →
    ((s : State) → Represents g.solver s → (t : State) × Solves by_state s (Ok false) t × Represents m.solver t) → KeepsCore r m h → Moves (IsSearchEnd r) g h
finds-core r g m h e still q call (client.Refused x) = runs-out (IsSearchEnd r) g h e x.refusal (λ p free. past.Refused x.answer (Memory free none-past-limit refl))
finds-core r g m h e still q call (client.Kept core found tells set o) = λ p st.
    let free = not-refused g p st e in
    let k = st.holds free in
    let (t, solves, stands) = call k.state k.stands in
    let fits = fitting.decided k.state t false k.gave.given p.assumed p.steps p.limit solves k.gave.fits in
    let (named, fails) = tells t stands in
    let (part, none) = fitting.is-core t k.gave.given p.assumed t.ledger.steps p.limit core fits named fails in
    let to : ClientPast = record p { core = core; steps = t.ledger.steps; since = t.ledger.since } in
    let next : Client = record g { solver = m.solver; core = h.core } in
    let own : h ≡ next = o ∙ ap (λ (x : Client). record x { core = h.core }) q in (
      to,
      past.Unsatisfiable found free
          (part, (λ (a, all, makes). none (a, (closed-taken k.gave.taken k.gave.given g.batches (k.settled.closed still) k.gave.reduced).keeps a (λ c i. all c (subst (λ (P : List Clause). c ∈ P) (sym k.gave.whole) (∈-append_left c k.gave.taken g.pending i))), makes)))
          (fitting.decided-few p to k.gave.known k.gave.within k.state t false solves k.gave.among (k.settled.made still) k.gave.fits.steps k.gave.fits.limit refl refl) refl,
      subst (λ (x : Client). RepresentsPast x to) (sym own) (stands-free next to st.refusal free (record {
        state = t;
        stands = stands;
        gave = record {
          taken = k.gave.taken;
          given = k.gave.given;
          known = k.gave.known;
          whole = k.gave.whole;
          reduced = k.gave.reduced;
          fits = fits;
          among = fitting.counts-decided k.state t false k.gave.known solves k.gave.among;
          within = k.gave.within;
        };
        settled = settled-after g.is_changed g.pending g.batches p.assumed p.since t.ledger.since k.state t still
            (fitting.since-decided k.state t false p.since solves (k.settled.made still)) k.settled;
        counts = k.counts;
        clause = k.clause;
        assumptions = k.assumptions;
        assumed = k.assumed;
        model = k.model;
        core = subst (IsSetOfCore core) own set;
      })),
    )

-- a search whose steps are spent
pub spends-steps : (g h : Client) → is_some g.refusal ≡ false → g.is_changed ≡ false → h ≡ record g { solver = h.solver } →
    ((s : State) → Represents g.solver s → (t : State) × Solves by_state s (Err error.Interrupted) t × Represents h.solver t) →
    Moves (IsSearchEnd end.Interrupted) g h
spends-steps g h e still q call p st =
    let free = not-refused g p st e in
    let k = st.holds free in
    let (t, solves, stands) = call k.state k.stands in
    let to : ClientPast = record p { steps = t.ledger.steps; since = t.ledger.since } in
    let next : Client = record g { solver = h.solver } in (
      to,
      past.Interrupted refl free (fitting.all-spent k.state t k.gave.given p.assumed p.steps p.limit solves k.gave.fits)
          (fitting.spent-few p to k.gave.known k.gave.within k.state t solves k.gave.among (k.settled.made still) k.gave.fits.steps k.gave.fits.limit refl refl) refl,
      subst (λ (x : Client). RepresentsPast x to) (sym q) (stands-free next to st.refusal free (record {
        state = t;
        stands = stands;
        gave = record {
          taken = k.gave.taken;
          given = k.gave.given;
          known = k.gave.known;
          whole = k.gave.whole;
          reduced = k.gave.reduced;
          fits = fitting.interrupted k.state t k.gave.given p.assumed p.steps p.limit solves k.gave.fits;
          among = fitting.counts-spent k.state t k.gave.known solves k.gave.among;
          within = k.gave.within;
        };
        settled = settled-after g.is_changed g.pending g.batches p.assumed p.since t.ledger.since k.state t still
            (fitting.since-spent k.state t solves) k.settled;
        counts = k.counts;
        clause = k.clause;
        assumptions = k.assumptions;
        assumed = k.assumed;
        model = k.model;
        core = k.core;
      })),
    )

-- 7. What is asked of the last model and the last core.

-- whether a literal is in the model
pub in-model : (g : Client) (p : ClientPast) (l k : Literal) → RepresentsPast g p → is_some g.refusal ≡ false → l ≡ k → Has g.model l ↔ (k ∈ p.model)
in-model g p l k st e q = subst (λ x. Has g.model l ↔ (x ∈ p.model)) q ((st.holds (not-refused g p st e)).model l)

-- or in the core
pub tells-failed : (n : ℤ) (b : Bool) (g : Client) (p : ClientPast) (l : Literal) → n ≢ pos 0 → RepresentsPast g p → is_some g.refusal ≡ false →
    l ≡ literal_numbered n →
    IsTrue b ↔ Has g.core l → ReturnsFailed n b p
tells-failed n true g p l z st e q (f, h) =
    let r = not-refused g p st e in past.Failed refl r z (subst (λ x. x ∈ p.core) q (((st.holds r).core l).0 (f refl)))
tells-failed n false g p l z st e q (f, h) =
    let r = not-refused g p st e in
    past.Unfailed refl (λ i. let y : false ≡ true = h (((st.holds r).core l).1 (subst (λ x. x ∈ p.core) (sym q) i)) in cc)
