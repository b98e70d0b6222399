-- Variables that left the search with their values come back.
use Rattle.std.proofs.Common.{◌≡◌, ◌≢◌, ℕ, Bool, false, Some, None, List, [], ◌∷◌, ◌++◌, ◌⊎◌, inl, inr, ⊎_elim, sym, ap, ◌∙◌, subst, refl, map, length, arith}
use Rattle.std.proofs.lemmas.List.{map-append}
use Rattle.varisat_theory.specs.promises.Membership.{◌∈◌, ◌⊆◌, SameSet}
use Rattle.varisat_theory.specs.promises.Literals.{Literal, Clause, variable_of, literal_of, IsUnit, SatisfiesAll, Assignment}
use Rattle.varisat_theory.specs.promises.Held.{SameClauses, without}
use Rattle.varisat_theory.specs.promises.Renaming.{rename}
use Rattle.varisat_theory.specs.promises.Searches.{Search, KeptClause, IsDischarged, Covers, IsLiteralOf}
use Rattle.varisat_theory.specs.inside.Outcomes.{Loads, SearchOutcome}
use Rattle.varisat_theory.proofs.clauses.Members.{equal_or_not, ∈-append_left, ∈-append_cases}
use Rattle.varisat_theory.proofs.clauses.Assigned.{satisfies_more}
use Rattle.varisat_theory.proofs.clauses.Held.{takes_out_member, same_clauses-through}
use Rattle.varisat_theory.proofs.journals.HeldRetirements.{without_less}
use Rattle.varisat_theory.proofs.journals.StepCovers.{still_covered}
use Rattle.varisat_literals.specs.promises.Numbers.{polarity_of}
use Rattle.varisat_prop.proofs.trails.LiteralValues.{same-literal, polarity-literal}
use Rattle.varisat_theory.proofs.clauses.Values.{variable-literal}
use Rattle.varisat_names.specs.promises.Maps.{updated, chain}
use Rattle.varisat_names.proofs.Maps.{updated-all, chain-some, chain-through}
use Rattle.varisat_solver.specs.promises.States.{State, Verdict, Unknown, Sat, Unsat, UnsatUnderAssumptions}
use Rattle.varisat_tracer.specs.promises.Carried.{carry}
use Rattle.varisat_solver.specs.inside.Carried.{is_forced}
use Rattle.varisat_solver.specs.inside.Spaces.{Spaces, Carrying, translation, SharesHeld, SearchHolds, without_core, Links, SpacesFit}
use Rattle.varisat_solver.proofs.calls.SpacesAgree.{AreLong, take_solver, settled-more}
use Rattle.varisat_solver.proofs.calls.Carried.{carry-at, carry-sign, value-true}
use Rattle.varisat_tracer.specs.inside.RenamedEntries.{carry-opposites}
use Rattle.varisat_solver.proofs.steps.SearchLinks.{answers-covers, fixed-alone, fixed-on, relinked}
use Rattle.varisat_solver.proofs.accepting.AcceptSolverVariables.{to-new, to-other, stays, fits-apart, settled-on, in-both, taken-with, taken, solvers-few}
use Rattle.varisat_solver.proofs.entries.ReachedHeld.{only, left-in, same-apart, inside-apart, live-apart, in-use-lives, taken-behind}
use Rattle.varisat_prop.specs.View.{View}
use Rattle.varisat_search.specs.declared.context.Context.{Context}
use Rattle.varisat_search.specs.declared.state.SatState.{SatState}
use Rattle.varisat_search.specs.declared.state.SolverState.{SolverState}
use Rattle.varisat_search.specs.AssumptionParts.{AssumptionParts, assumed_state}
use Rattle.varisat_search.specs.Seen.{search_of, outcome_of}
use Rattle.varisat_search.specs.Steps.{reopened_state}
use Rattle.varisat_names.specs.promises.VarMap.{at}
use Rattle.varisat_names.specs.promises.VarData.{data_at}
use Rattle.varisat_names.specs.promises.Variables.{Tables, IsTaken}
use Rattle.varisat_solver.specs.promises.Calls.{VerdictAfter, Refuted, Reopened, reopened_verdict, assumed_verdict, with_verdict}
use Rattle.varisat_solver.specs.promises.Summaries.{Summary}
use Rattle.varisat_solver.specs.inside.Representations.{spaces, spaces_of, IsValidSolver}
use Rattle.varisat_solver.proofs.accepting.AcceptClause.{outcome-alike}
use Rattle.varisat_solver.proofs.accepting.NewNames.{linked}
use Rattle.varisat_search.proofs.variables.TakenSolvers.{taken-full}
use Rattle.varisat_solver.proofs.steps.SolveVerdict.{forgotten, spaces-same}
use Rattle.varisat_theory.specs.inside.Outcomes as outcome
use Rattle.varisat_theory.proofs.clauses.Sound.{takes_less}
use Rattle.varisat_search.specs.declared.state.SatState.TheVariants as verdict

-- A variable of which the value is kept comes back to the search, with its unit clause.

-- A unit clause that is the literal alone, as a set, is of the literal's variable.
unit-of : (j i : ℕ) (b : Bool) (c : Clause) (m : Literal) → IsUnit (literal_of j b) c → SameSet c (m ∷ []) → variable_of m ≡ i → j ≡ i
unit-of j i b c m u s e =
    sym (variable-literal j b) ∙ ap variable_of (⊎_elim (λ q. q) (λ z. absurd z) (s.0 (literal_of j b) u.0)) ∙ e

module _ (w : Carrying) (p : Spaces) (s : State) (x i v : ℕ) (b : Bool) (t : Search) (k : Links w p s) (is : w.identity x ≡ Some i)
    (spoken : i ∈ s.counted) (unsolved : p.solver_from_global x ≡ None) (free : p.global_from_solver v ≡ None) (unit : (p.kept x).unit ≡ Some b)
    (unknown : without_core p.outcome ≡ outcome.Unknown) (long : AreLong t)
    (in-use : (l : Literal) → IsLiteralOf t l → (y : ℕ) × (updated p.global_from_solver v (Some x) (variable_of l) ≡ Some y))
    (loads : Loads p.search t (literal_of v b ∷ []) outcome.Unknown []) where
  h : SearchHolds s.clauses (translation w p s.logged) p.search outcome.Unknown
  h = subst (SearchHolds s.clauses (translation w p s.logged) p.search) unknown k.holds

  forced : w.forced i ≡ Some b
  forced = k.units.unit x i is ∙ unit

  -- the unit's literal, and how it is carried
  at-v : chain (updated p.global_from_solver v (Some x)) w.identity (variable_of (literal_of v b)) ≡ Some i
  at-v = ap (chain (updated p.global_from_solver v (Some x)) w.identity) (variable-literal v b) ∙ to-new w p s x i v k is spoken unsolved free

  carried : carry (chain (updated p.global_from_solver v (Some x)) w.identity) (literal_of v b) ≡ literal_of i b
  carried = same-literal (carry (chain (updated p.global_from_solver v (Some x)) w.identity) (literal_of v b)) (literal_of i b)
      (carry-at (chain (updated p.global_from_solver v (Some x)) w.identity) (literal_of v b) i at-v ∙ sym (variable-literal i b))
      (carry-sign (chain (updated p.global_from_solver v (Some x)) w.identity) (literal_of v b) ∙ polarity-literal v b ∙ sym (polarity-literal i b))

  covers : outcome.Unknown ≢ outcome.Unsat → (Q : List Clause) → Covers Q p.search → Covers Q t
  covers n Q g c j = answers-covers (Q ++ (literal_of v b ∷ []) ∷ []) t outcome.Unknown n (loads.answers Q g) c
      (∈-append_left c Q ((literal_of v b ∷ []) ∷ []) j)

  -- the unit is fixed
  now-fixed : literal_of v b ∈ t.fixed
  now-fixed = fixed-alone t (literal_of v b) long (loads.answers [] (λ c z. absurd z) (literal_of v b ∷ []) (inl refl))

  -- no solver variable stood for the identity
  none-there : (u : ℕ) → chain p.global_from_solver w.identity u ≢ Some i
  none-there u e =
      let (y, f, g) = chain-through p.global_from_solver w.identity u i e in
      let q : Some y ≡ Some x = sym (k.identities.one_to_one.there y i g) ∙ k.identities.one_to_one.there x i is in
      let z : None ≡ Some u = sym unsolved ∙ ap p.solver_from_global (let o : x ≡ y = cc in o) ∙ k.solvers.one_to_one.back y u f in
      cc

  -- The unit clause comes back from what was forgotten.
  back : SharesHeld (translation w p s.logged) p.search.fixed h.held →
      SharesHeld (translation w (take_solver x v p) s.logged) t.fixed (without v h.held ++ (literal_of v b ∷ []) ∷ [])
  back q =
      let f = carry (chain p.global_from_solver w.identity) in
      let g = carry (chain (updated p.global_from_solver v (Some x)) w.identity) in
      let old = rename f (only v h.held) in
      let d = map g (literal_of v b ∷ []) in
      let (c, m, u) = q.units i b x forced (k.identities.one_to_one.there x i is) none-there in
      let alone : SameSet c d = ((λ y j. inl (u.1 y j ∙ sym carried)), (λ y. elim [ inl e ↦ subst (λ z. z ∈ c) (sym (e ∙ carried)) u.0 | inr z ↦ absurd z ])) in
      let (R, out) = takes_out_member (q.forgotten ++ old) c d (∈-append_left c q.forgotten old m) alone in
      let apart = same-apart (translation w p s.logged) (translation w (take_solver x v p) s.logged) v h.held (to-other w p s x i v k is spoken unsolved free) q in
      let A = rename g (without v h.held) in
      record {
        held = q.held;
        led = q.led;
        forgotten = R;
        same = subst (λ y. SameClauses q.held (R ++ y)) (sym (map-append (map g) (without v h.held) ((literal_of v b ∷ []) ∷ [])))
            (same_clauses-through q.held ((q.forgotten ++ old) ++ A) (R ++ (A ++ d ∷ [])) apart (taken-behind (q.forgotten ++ old) A R d out));
        inside = λ y l h' j. ⊎_elim
            (λ a. inside-apart (translation w p s.logged) (translation w (take_solver x v p) s.logged) v h.held
            (to-other w p s x i v k is spoken unsolved free) q y l a j)
            (λ a. ⊎_elim (λ e. ⊎_elim (λ o.
            (i, subst (λ z. chain (updated p.global_from_solver v (Some x)) w.identity (variable_of z) ≡ Some i) (sym o) at-v)) (λ z. absurd z)
            (subst (λ z. l ∈ z) e j)) (λ z. absurd z) a)
            (∈-append_cases y (without v h.held) ((literal_of v b ∷ []) ∷ []) h');
        units = λ j y z e l n.
            let (c', m', u') = q.units j y z e l (λ z a. n z (stays w p s x i v k is spoken unsolved free z j a)) in
            let stays-there = left-in (q.forgotten ++ old) d R c' out (∈-append_left c' q.forgotten old m') in (
              c',
              ⊎_elim (λ a. a) (λ a. let same = unit-of j i y c' (g (literal_of v b)) u' a (ap variable_of carried ∙ variable-literal i b) in
                  absurd (n v (to-new w p s x i v k is spoken unsolved free ∙ ap Some (sym same)))) stays-there,
              u',
            );
        live = λ y l a j. live-apart (translation w p s.logged) v h.held (in-use-lives w p s k) q y l (takes_less (q.forgotten ++ old) d R out y a) j;
        settled = λ y a. settled-more (translation w (take_solver x v p) s.logged) p.search.fixed t.fixed
            (fixed-on s.clauses (translation w p s.logged) p.search t outcome.Unknown h long covers (λ e. let z : outcome.Unknown ≡ outcome.Unsat = e in cc))
            y
            (settled-on w p s x i v k is spoken unsolved free h.held h.holds q.forgotten q.settled y (takes_less (q.forgotten ++ old) d R out y a));
      }

  -- the search after the lines, if it needs any
  begun : List Clause
  begun = without v h.held ++ (literal_of v b ∷ []) ∷ []

  now : (l : Literal) → IsLiteralOf t l → (j : ℕ) × (chain (updated p.global_from_solver v (Some x)) w.identity (variable_of l) ≡ Some j)
  now l a = let (y, e) = in-use l a in let z = lives y (variable_of l) e in
      (z.0, chain-some (updated p.global_from_solver v (Some x)) w.identity (variable_of l) y e ∙ z.1)
    where
      lives : (y u : ℕ) → updated p.global_from_solver v (Some x) u ≡ Some y → (j : ℕ) × (w.identity y ≡ Some j)
      lives y u = updated-all (λ u o. o ≡ Some y → (j : ℕ) × (w.identity y ≡ Some j)) p.global_from_solver v (Some x)
          (λ e. (i, (let q : x ≡ y = cc in ap w.identity (sym q) ∙ is)))
          u
          (λ n e. let z = k.solvers.live u y e in (z.0, z.1))

  holds-on : SearchHolds s.clauses (translation w (take_solver x v p) s.logged) t outcome.Unknown
  holds-on =
      let (after, d, o) = loads.holds (without v h.held) (fits-apart w p s x i v k is spoken unsolved free h.held h.holds) in
      record {
        held = after;
        holds = o;
        within = now;
        implied = λ a a' m g. subst (SatisfiesAll a') d
            (satisfies_more a' (without v h.held) (literal_of v b ∷ [])
            (λ c e. h.implied a a' m (λ u j y. g u j (stays w p s x i v k is spoken unsolved free u j y)) c (without_less v h.held c e)) (
              literal_of v b,
              inl refl,
              value-true a' (literal_of v b)
                  (g (variable_of (literal_of v b)) i at-v ∙ h.known a m i b forced ∙ sym (polarity-literal v b)),
            ));
        known = h.known;
        fixed = λ n l j e f. ⊎_elim
            (λ q.
            let y : Some j ≡ Some i = sym e ∙ ap (chain (updated p.global_from_solver v (Some x)) w.identity) q
            ∙ to-new w p s x i v k is spoken unsolved free in
            let z : Some b ≡ Some (polarity_of l) = sym forced ∙ ap w.forced (let o : i ≡ j = cc in o) ∙ f in
            subst (λ m. m ∈ t.fixed) (same-literal (literal_of v b) l (variable-literal v b ∙ sym q)
            (polarity-literal v b ∙ (let o : b ≡ polarity_of l = cc in o))) now-fixed)
            (λ q. fixed-on s.clauses (translation w p s.logged) p.search t outcome.Unknown h long covers n l
            (h.fixed n l j (sym (to-other w p s x i v k is spoken unsolved free (variable_of l) q) ∙ e) f))
            (equal_or_not (variable_of l) v);
        covered = λ n c a.
            still_covered t (carry (chain (updated p.global_from_solver v (Some x)) w.identity)) (is_forced w.forced)
            (carry-opposites (chain (updated p.global_from_solver v (Some x)) w.identity)) p.search
            (λ d g. covers n (d ∷ []) (λ x. elim [
              | inl e ↦ subst (λ y. IsDischarged p.search y ⊎ ((k : KeptClause) × (k ∈ p.search.kept) × (k.learned ≡ false) × (k.clause ⊆ y)))
                  (sym e) g
              | inr z ↦ absurd z
            ]) d (inl refl))
            c (in-both w p s x i v k is spoken unsolved free c (h.covered n c a));
        logged = subst (SharesHeld (translation w (take_solver x v p) s.logged) t.fixed) d (back h.logged);
      }

  pub resurrected : Links w (record (take_solver x v p) { search = t }) s
  resurrected = taken-with w p s x i v k is spoken unsolved free t
      (subst (SearchHolds s.clauses (translation w (take_solver x v p) s.logged) t) (sym unknown) holds-on)

-- 1. What the solver represents.

-- What bringing back a variable did. Under Unsat its unit clause is not loaded.
pub record Returns (g : Summary) (new : Tables) (x v : ℕ) (b : Bool) (t : View) (parts : AssumptionParts) : Type 0 where
  pub no_model : g.sat_state ≢ verdict.Sat
  pub is_taken : IsTaken g.tables new x v
  pub live : (data_at g.tables.kept x).deleted ≡ false
  pub unit : (data_at g.tables.kept x).unit ≡ Some b
  pub was_left : at g.tables.solvers.forward x ≡ None
  pub count_before : length g.search.values ≡ length g.tables.solvers.backward
  pub count : length t.values ≡ length new.solvers.backward
  pub unsat : g.sat_state ≡ verdict.Unsat → search_of t ≡ search_of g.search
  pub loads : g.sat_state ≢ verdict.Unsat → Loads (search_of g.search) (search_of t) (literal_of v b ∷ []) outcome.Unknown []
  pub long : AreLong (search_of t)
  pub in_use : (l : Literal) → IsLiteralOf (search_of t) l → (y : ℕ) × (at new.solvers.backward (variable_of l) ≡ Some y)
  pub parts_stay : parts ≡ record g.assumed { levels = parts.levels }

pub no-model : (s : View) (core : List Literal) (sat : SatState) → sat ≢ verdict.Sat → (a : Assignment) → outcome_of s core sat ≡ outcome.Sat a → ⊥
no-model s core verdict.Unknown n a e = cc
no-model s core verdict.Sat n a e = n refl
no-model s core verdict.Unsat n a e = cc
no-model s core verdict.UnsatUnderAssumptions n a e = cc

-- whether the clauses are known to be unsatisfiable
unsat-or : (s : View) (core : List Literal) (sat : SatState) → sat ≢ verdict.Sat → (sat ≡ verdict.Unsat) × (outcome_of s core sat ≡ outcome.Unsat)
    ⊎ ((sat ≢ verdict.Unsat) × (without_core (outcome_of s core sat) ≡ outcome.Unknown))
unsat-or s core verdict.Unknown n = inr (λ e. cc, refl)
unsat-or s core verdict.Sat n = absurd (n refl)
unsat-or s core verdict.Unsat n = inl (refl, refl)
unsat-or s core verdict.UnsatUnderAssumptions n = inr (λ e. cc, refl)

module _ (g : Summary) (s : State) (new : Tables) (x v : ℕ) (b : Bool) (t : View) (parts : AssumptionParts) (r : Returns g new x v b t parts) where
  -- The variable took its solver variable and the search is t.
  moved : Spaces
  moved = record (take_solver x v (spaces g)) { search = search_of t }

  -- with as many variables
  counted-on : (w : Carrying) → Links w moved s → Links w (record moved { var_count = length t.values }) s
  unfolding moved
  counted-on w k =
      relinked w moved (record moved { var_count = length t.values }) s s k (record {
        solvers = k.solvers;
        holds = k.holds;
        assumptions = k.assumptions;
        working = k.working;
        verdict = k.verdict;
        core = k.core;
        right = k.right;
        few = ⊎_elim
            (λ same. let n = k.few in omega (arith, n, r.count, r.count_before, same))
            (λ full. let n = solvers-few w moved s (length new.solvers.backward) k
            (λ u h e. full u h (r.is_taken.solvers.backward.at_each u ∙ e)) in omega (arith, n, r.count))
            (taken-full g.tables new x v r.is_taken);
        logged = k.logged;
        checked = k.checked;
      })

  logged : SpacesFit (record moved { var_count = length t.values }) s → SpacesFit (spaces_of new g.checker t parts g.sat_state) s
  unfolding moved
  logged = spaces-same (record moved { var_count = length t.values }) (spaces_of new g.checker t parts g.sat_state) s (record {
    maps = record {
      global_from_user = λ u. ap (λ m. at m.forward u) r.is_taken.users;
      user_from_global = λ y. ap (λ m. at m.backward y) r.is_taken.users;
      watermark = ap (λ m. length m.forward) r.is_taken.users;
      globals = let c = ap (λ m. length m) r.is_taken.kept in omega (arith, c);
      solver_from_global = r.is_taken.solvers.forward.at_each;
      global_from_solver = r.is_taken.solvers.backward.at_each;
      kept = λ y. ap (λ m. data_at m y) r.is_taken.kept;
      model = λ a e y. absurd (no-model g.search g.assumed.failed_core g.sat_state r.no_model a e);
    };
    assumptions = ap (λ (a : AssumptionParts). a.user) r.parts_stay;
    core = ap (λ (a : AssumptionParts). a.user_core) r.parts_stay;
    working = ap (λ (a : AssumptionParts). a.working) r.parts_stay;
    search = refl;
    checker = refl;
    outcome = ap (λ (a : AssumptionParts). outcome_of t a.failed_core g.sat_state) r.parts_stay
        ∙ outcome-alike g.search t g.assumed.failed_core g.sat_state (no-model g.search g.assumed.failed_core g.sat_state r.no_model);
    var_count = refl;
  })

  pub returned : SpacesFit (spaces g) s → SpacesFit (spaces_of new g.checker t parts g.sat_state) s
  unfolding moved
  returned (w, k) =
      let (i, is) = linked w (spaces g) s x k r.live in
      let forced : w.forced i ≡ Some b = k.units.unit x i is ∙ r.unit in
      let known = k.units.is_counted i b forced in
      logged (
        w,
        counted-on w (⊎_elim
            (λ (a, e). subst (λ y. Links w (record (take_solver x v (spaces g)) { search = y }) s) (sym (r.unsat a))
            (taken w (spaces g) s x i v k is known r.was_left r.is_taken.least.0 (inr e)))
            (λ (a, e). resurrected w (spaces g) s x i v b (search_of t) k is known r.was_left r.is_taken.least.0 r.unit e r.long
            (λ l h. let (y, q) = r.in_use l h in (y, sym (r.is_taken.solvers.backward.at_each (variable_of l)) ∙ q))
            (r.loads a))
            (unsat-or g.search g.assumed.failed_core g.sat_state r.no_model)),
      )

-- 2. What a valid solver keeps.

-- the verdict makes no difference
pub kept-verdict : {A : Type 0} (m : Tables) (c d : Context A) → d ≡ record c { solver_state = d.solver_state } → IsValidSolver m c → IsValidSolver m d
kept-verdict m c d e k = subst (IsValidSolver m) (sym e)
    (record {
      bounded = k.bounded;
      ready =
          record {
            well = k.ready.well;
            settled = k.ready.settled;
            propagated = k.ready.propagated;
            tracks = k.ready.tracks;
            analysis =
                k.ready.analysis;
            flags = k.ready.flags;
            decidable = k.ready.decidable;
            assumed = k.ready.assumed;
            assumable = k.ready.assumable;
          };
      count = k.count;
      decidable = k.decidable;
      assumed = k.assumed;
      marked = k.marked;
      working = k.working;
    })

-- 3. A verdict that is taken back.

reopened-same : (sat : SatState) → sat ≢ verdict.Sat → reopened_state sat ≡ sat
reopened-same verdict.Unknown n = refl
reopened-same verdict.Sat n = absurd (n refl)
reopened-same verdict.Unsat n = refl
reopened-same verdict.UnsatUnderAssumptions n = refl

-- where there is no model the verdict stays as a clause is loaded
pub state-back : (a b : SolverState) → a.sat_state ≢ verdict.Sat → (b ≡ a)
    ⊎ (b ≡ record a { sat_state = reopened_state a.sat_state; formula_is_empty = false }) → b ≡ record a { formula_is_empty = b.formula_is_empty }
state-back a b n (inl e) = e ∙ ap (λ f. record a { formula_is_empty = f }) (sym (ap (λ (x : SolverState). x.formula_is_empty) e))
state-back a b n (inr e) =
    e ∙ ap (λ y. record a { sat_state = y; formula_is_empty = false }) (reopened-same a.sat_state n)
    ∙ ap (λ f. record a { formula_is_empty = f }) (sym (ap (λ (x : SolverState). x.formula_is_empty) e))

pub parts-back : (a b : AssumptionParts) → (b ≡ a) ⊎ (b ≡ record a { levels = 0 }) → b ≡ record a { levels = b.levels }
parts-back a b (inl e) = e ∙ ap (λ n. record a { levels = n }) (sym (ap (λ (x : AssumptionParts). x.levels) e))
parts-back a b (inr e) = e ∙ ap (λ n. record a { levels = n }) (sym (ap (λ (x : AssumptionParts). x.levels) e))

pub reopened-spaces : (g : Summary) (s : State) → SpacesFit (spaces g) s →
    SpacesFit (spaces (record g { sat_state = reopened_state g.sat_state })) (with_verdict (reopened_verdict s.verdict) s)
reopened-spaces g s (w, k) = (w, go g.sat_state s.verdict k)
  where
    go : (sat : SatState) (v : Verdict) → Links w (spaces (record g { sat_state = sat })) (with_verdict v s) →
        Links w (spaces (record g { sat_state = reopened_state sat })) (with_verdict (reopened_verdict v) s)
    go verdict.Unknown Unknown k = k
    go verdict.Sat (Sat a) k = forgotten w (spaces (record g { sat_state = verdict.Sat })) (with_verdict (Sat a) s) k (λ e. let z : Sat a ≡ Unsat = e in cc)
    go verdict.Unsat Unsat k = k
    go verdict.UnsatUnderAssumptions (UnsatUnderAssumptions core) k = k
    go sat v k = absurd k.verdict

reopened-again : (v : Verdict) → reopened_verdict (reopened_verdict v) ≡ reopened_verdict v
reopened-again Unknown = refl
reopened-again (Sat a) = refl
reopened-again Unsat = refl
reopened-again (UnsatUnderAssumptions core) = refl

pub verdict-after : (P : List Clause) (c : Clause) (v x : Verdict) → VerdictAfter P c (reopened_verdict v) x → VerdictAfter P c v x
verdict-after P c v x (Refuted e n) = Refuted e n
verdict-after P c v x (Reopened e n) = Reopened (e ∙ reopened-again v) n

pub assumed-again : (v : Verdict) → assumed_verdict (assumed_verdict v) ≡ assumed_verdict v
assumed-again Unknown = refl
assumed-again (Sat a) = refl
assumed-again Unsat = refl
assumed-again (UnsatUnderAssumptions core) = refl

-- a search that is not at Unsat isn't there after that
pub reopened-not : (sat : SatState) → sat ≢ verdict.Unsat → reopened_state sat ≢ verdict.Unsat
reopened-not verdict.Unknown n e = cc
reopened-not verdict.Sat n e = cc
reopened-not verdict.Unsat n e = n refl
reopened-not verdict.UnsatUnderAssumptions n e = cc

-- there is no model then
pub no-model-reopened : (sat : SatState) → reopened_state sat ≡ verdict.Sat → ⊥
no-model-reopened verdict.Unknown e = cc
no-model-reopened verdict.Sat e = cc
no-model-reopened verdict.Unsat e = cc
no-model-reopened verdict.UnsatUnderAssumptions e = cc

-- nor is there a model once other literals are assumed
pub no-model-assumed : (sat : SatState) → assumed_state sat ≡ verdict.Sat → ⊥
no-model-assumed verdict.Unknown e = cc
no-model-assumed verdict.Sat e = cc
no-model-assumed verdict.Unsat e = cc
no-model-assumed verdict.UnsatUnderAssumptions e = cc
