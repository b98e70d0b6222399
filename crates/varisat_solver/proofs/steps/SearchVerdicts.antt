-- A conflict step of a solver, and its core over names.
use Rattle.std.proofs.Common.{◌≡◌, ◌≢◌, ℕ, true, false, Some, None, List, [], ◌∷◌, ◌++◌, ◌⊎◌, inl, inr, map, subst, refl, length, ap, ◌∙◌, sym}
use Rattle.varisat_theory.specs.promises.Literals.{Literal, Clause, Assignment, IsSatisfiableWith, IsFailedCore}
use Rattle.varisat_theory.proofs.clauses.Members.{∈-append_left}
use Rattle.varisat_theory.proofs.clauses.Sound.{core_stays, not_both_answers}
use Rattle.varisat_solver.specs.promises.States.{State, Verdict, Unknown, Sat, Unsat, UnsatUnderAssumptions, IsRight, HasRightVerdict}
use Rattle.varisat_solver.specs.promises.Names.{through_names}
use Rattle.varisat_solver.specs.promises.Models.{core_of, IsReturnedCore}
use Rattle.varisat_solver.specs.promises.Calls.{answer_of, reopened_verdict, assumed_verdict}
use Rattle.varisat_theory.specs.promises.Membership.{◌∈◌}
use Rattle.varisat_theory.specs.promises.Derivations.{Line}
use Rattle.varisat_theory.specs.inside.Outcomes.{Steps}
use Rattle.varisat_steps.specs.Traces.{TakesStep}
use Rattle.varisat_names.specs.promises.Maps.{chain}
use Rattle.varisat_names.specs.promises.VarMap.{at}
use Rattle.varisat_names.specs.promises.Variables.{Tables}
use Rattle.varisat_tracer.specs.inside.Tracing.{TracerState, TakesGlobally}
use Rattle.varisat_schedule.specs.Plans.{Plan}
use Rattle.varisat_search.specs.declared.context.Context.{Context}
use Rattle.varisat_search.specs.declared.state.SatState.{SatState}
use Rattle.varisat_search.specs.AssumptionParts.{AssumptionParts, KeepsAssumptions}
use Rattle.varisat_search.specs.Contexts.{view, IsReady}
use Rattle.varisat_search.specs.Decisions.{SameDecidable}
use Rattle.varisat_search.specs.Progress.{outcome_at, RaisesRank, MakesStep}
use Rattle.varisat_search.specs.Seen.{search_of, outcome_of}
use Rattle.varisat_search.specs.RootSimplified.{FixesByLearning, LearnsAlone}
use Rattle.varisat_search.proofs.stepping.ReadyAfter.{ready-with}
use Rattle.varisat_tracer.specs.promises.Carried.{carry}
use Rattle.varisat_solver.specs.inside.Searches.{MakesNamedStep}
use Rattle.varisat_solver.specs.inside.Representations.{IsValidSolver}
use Rattle.varisat_solver.proofs.modes.VariableMoves.{same-in-use}
use Rattle.varisat_search.specs.declared.state.SatState.TheVariants as verdict

-- What a verdict answers, and what is left of it under another clause or other assumptions.

pub is-unsat-or-not : (v : Verdict) → (v ≡ Unsat) ⊎ (v ≢ Unsat)
is-unsat-or-not Unknown = inr (λ e. cc)
is-unsat-or-not (Sat a) = inr (λ e. cc)
is-unsat-or-not Unsat = inl refl
is-unsat-or-not (UnsatUnderAssumptions core) = inr (λ e. cc)

pub is-unknown-or-not : (v : Verdict) → (v ≡ Unknown) ⊎ (v ≢ Unknown)
is-unknown-or-not Unknown = inl refl
is-unknown-or-not (Sat a) = inr (λ e. cc)
is-unknown-or-not Unsat = inr (λ e. cc)
is-unknown-or-not (UnsatUnderAssumptions core) = inr (λ e. cc)

-- true is found with an assignment
pub answer-sat : (v : Verdict) → answer_of v ≡ Some true → (a : Assignment) × (v ≡ Sat a)
answer-sat Unknown e = absurd cc
answer-sat (Sat a) e = (a, refl)
answer-sat Unsat e = absurd (let z : false ≡ true = cc in cc)
answer-sat (UnsatUnderAssumptions core) e = absurd (let z : false ≡ true = cc in cc)

-- false is right for the clauses and assumptions
pub right-false : (P : List Clause) (A : List Literal) (C : List ℕ) (v : Verdict) → answer_of v ≡ Some false → IsRight P A C v → IsSatisfiableWith P A → ⊥
right-false P A C Unknown q r = absurd cc
right-false P A C (Sat a) q r = absurd (let z : true ≡ false = cc in cc)
right-false P A C Unsat q r = λ (a, m, n). r (a, m)
right-false P A C (UnsatUnderAssumptions core) q r = λ w. not_both_answers P A core w r

-- and has a core
pub right-core : (P : List Clause) (A : List Literal) (C : List ℕ) (v : Verdict) → answer_of v ≡ Some false → IsRight P A C v →
    (core : List Literal) × (core_of v ≡ Some core) × IsFailedCore P A core
right-core P A C Unknown q r = absurd cc
right-core P A C (Sat a) q r = absurd (let z : true ≡ false = cc in cc)
right-core P A C Unsat q r = ([], refl, ((λ l h. absurd h), λ (a, m, n). r (a, m)))
right-core P A C (UnsatUnderAssumptions core) q r = (core, refl, r)

-- a core that is logged is a failed one
pub logged-fails : (s : State) (core : List Literal) → HasRightVerdict s → IsReturnedCore s (Some core) →
    IsFailedCore s.clauses s.assumptions (map (through_names s.naming) core)
logged-fails s core r (named, e) = go s.verdict r e
  where
    go : (v : Verdict) → IsRight s.clauses s.assumptions s.counted v → core_of v ≡ Some (map (through_names s.naming) core) →
        IsFailedCore s.clauses s.assumptions (map (through_names s.naming) core)
    go Unknown r e = absurd cc
    go (Sat a) r e = absurd cc
    go Unsat r e = let z : [] ≡ map (through_names s.naming) core = cc in
        subst (IsFailedCore s.clauses s.assumptions) z ((λ l h. absurd h), λ (a, m, n). r (a, m))
    go (UnsatUnderAssumptions d) r e = let z : d ≡ map (through_names s.naming) core = cc in subst (IsFailedCore s.clauses s.assumptions) z r

pub core-answer : (v : Verdict) (core : List Literal) → core_of v ≡ Some core → answer_of v ≡ Some false
core-answer Unknown core e = absurd cc
core-answer (Sat a) core e = absurd cc
core-answer Unsat core e = refl
core-answer (UnsatUnderAssumptions d) core e = refl

pub no-core : (v : Verdict) → core_of v ≡ None → answer_of v ≡ Some false → ⊥
no-core Unknown e f = cc
no-core (Sat a) e f = let z : true ≡ false = cc in cc
no-core Unsat e f = cc
no-core (UnsatUnderAssumptions core) e f = cc

-- under one more clause

pub reopened-not-unsat : (v : Verdict) → v ≢ Unsat → reopened_verdict v ≢ Unsat
reopened-not-unsat Unknown n = n
reopened-not-unsat (Sat a) n = λ e. cc
reopened-not-unsat Unsat n = n
reopened-not-unsat (UnsatUnderAssumptions core) n = n

pub reopened-not-true : (v : Verdict) → answer_of (reopened_verdict v) ≡ Some true → ⊥
reopened-not-true Unknown e = cc
reopened-not-true (Sat a) e = cc
reopened-not-true Unsat e = let z : false ≡ true = cc in cc
reopened-not-true (UnsatUnderAssumptions core) e = let z : false ≡ true = cc in cc

pub reopened-false : (v : Verdict) → answer_of v ≡ Some false → answer_of (reopened_verdict v) ≡ Some false
reopened-false Unknown e = e
reopened-false (Sat a) e = absurd (let z : true ≡ false = cc in cc)
reopened-false Unsat e = e
reopened-false (UnsatUnderAssumptions core) e = e

pub reopened-core : (v : Verdict) (core : List Literal) → reopened_verdict v ≡ UnsatUnderAssumptions core → v ≡ UnsatUnderAssumptions core
reopened-core Unknown core e = e
reopened-core (Sat a) core e = absurd cc
reopened-core Unsat core e = e
reopened-core (UnsatUnderAssumptions d) core e = e

pub right-reopened : (P : List Clause) (c : Clause) (A : List Literal) (C D : List ℕ) (v : Verdict) → v ≢ Unsat → IsRight P A C v →
    IsRight (P ++ c ∷ []) A D (reopened_verdict v)
right-reopened P c A C D Unknown n r = tt
right-reopened P c A C D (Sat a) n r = tt
right-reopened P c A C D Unsat n r = absurd (n refl)
right-reopened P c A C D (UnsatUnderAssumptions core) n r = core_stays P (P ++ c ∷ []) A core (λ x h. ∈-append_left x P (c ∷ []) h) r

-- under other assumptions

pub assumed-unsat : (v : Verdict) → assumed_verdict v ≡ Unsat → v ≡ Unsat
assumed-unsat Unknown e = absurd cc
assumed-unsat (Sat a) e = absurd cc
assumed-unsat Unsat e = refl
assumed-unsat (UnsatUnderAssumptions core) e = absurd cc

pub assumed-not-true : (v : Verdict) → answer_of (assumed_verdict v) ≡ Some true → ⊥
assumed-not-true Unknown e = cc
assumed-not-true (Sat a) e = cc
assumed-not-true Unsat e = let z : false ≡ true = cc in cc
assumed-not-true (UnsatUnderAssumptions core) e = cc

pub assumed-no-core : (v : Verdict) (core : List Literal) → assumed_verdict v ≡ UnsatUnderAssumptions core → ⊥
assumed-no-core Unknown core e = cc
assumed-no-core (Sat a) core e = cc
assumed-no-core Unsat core e = cc
assumed-no-core (UnsatUnderAssumptions d) core e = cc

pub right-assumed : (P : List Clause) (A B : List Literal) (C D : List ℕ) (v : Verdict) → IsRight P A C v → IsRight P B D (assumed_verdict v)
right-assumed P A B C D Unknown r = tt
right-assumed P A B C D (Sat a) r = tt
right-assumed P A B C D Unsat r = r
right-assumed P A B C D (UnsatUnderAssumptions core) r = tt

-- a core over names makes no difference to the search
pub ready-named : {A : Type 0} (c : Context A) (core : List Literal) → IsReady c →
    IsReady (record c { assumptions = record c.assumptions { user_core = core } })
ready-named c core r =
    let parts : AssumptionParts = record c.assumptions { user_core = core } in
    ready-with c (record c { assumptions = parts }) r refl refl refl r.propagated r.decidable
    (record { reached = r.assumed.reached; listed = r.assumed.listed; decided = r.assumed.decided; first = r.assumed.first; in_range = r.assumed.in_range })
    r.assumable

-- nor does the schedule
pub ready-counted : {A : Type 0} (c : Context A) (plan : Plan) → IsReady c → IsReady (record c { schedule = plan })
ready-counted c plan r = ready-with c (record c { schedule = plan }) r refl refl refl r.propagated r.decidable r.assumed r.assumable

module _ {A : Type 0} (p q : TracerState) (x y : Context A) {are : List Line → Type 0}
    (m : MakesStep (λ lines. are lines × LearnsAlone lines x y × TakesStep TakesGlobally p lines (outcome_at y) q) x y) (fixes : FixesByLearning x y) where
  -- where no core was found the step says it all
  pub named-plainly : (y.solver_state.sat_state ≡ verdict.UnsatUnderAssumptions → ⊥) → MakesNamedStep p q x y
  named-plainly plain =
      let (lines, steps, (i, learns, takes)) = m.goes.steps in
      record {
        ready = m.goes.ready;
        count = m.goes.keeps.count;
        decidable = m.goes.keeps.decidable;
        state = m.goes.state;
        rises = m.goes.rises;
        fixes = fixes;
        tables = takes.tables;
        parts = y.assumptions;
        steps = (lines, steps, learns, takes);
        assumes = m.assumes;
        rest = refl;
        core = λ e. absurd (plain e);
      }

  -- a core that was found is kept over names
  pub named-also : (z : Context A) → z ≡ record y { assumptions = record y.assumptions { user_core = z.assumptions.user_core } } →
      z.assumptions.user_core ≡ map (carry (chain (at q.tables.solvers.backward) (at q.tables.users.backward))) y.assumptions.failed_core →
      MakesNamedStep p q x z
  named-also z same named =
      let (lines, steps, (i, learns, takes)) = m.goes.steps in
      record {
        ready = subst (λ (c : Context A). IsReady c) (sym same) (ready-named y z.assumptions.user_core m.goes.ready);
        count = ap (λ (c : Context A). length c.assignment.current) same ∙ m.goes.keeps.count;
        decidable = subst (λ (c : Context A). SameDecidable (view x) x.vsids (view c) c.vsids) (sym same) m.goes.keeps.decidable;
        state = ap (λ (c : Context A). c.solver_state) same ∙ m.goes.state
            ∙ ap (λ (v : SatState). record x.solver_state { sat_state = v }) (sym (ap (λ (c : Context A). c.solver_state.sat_state) same));
        rises = λ u. subst (λ (c : Context A). RaisesRank x c) (sym same) (m.goes.rises (sym (ap (λ (c : Context A). c.solver_state.sat_state) same) ∙ u));
        fixes = subst (λ (c : Context A). FixesByLearning x c) (sym same) (record { keeps = fixes.keeps; refutes = fixes.refutes });
        tables = takes.tables;
        parts = y.assumptions;
        steps = subst (λ (c : Context A). (ls : List Line) × Steps (search_of (view x)) (search_of (view c))
            (outcome_of (view c) y.assumptions.failed_core c.solver_state.sat_state) ls × LearnsAlone ls x c
            × TakesStep TakesGlobally p ls (outcome_of (view c) y.assumptions.failed_core c.solver_state.sat_state) q) (sym same)
            (lines, steps, learns, takes);
        assumes = subst (λ (c : Context A). KeepsAssumptions (search_of (view x))
            (outcome_of (view c) y.assumptions.failed_core c.solver_state.sat_state) x.assumptions y.assumptions) (sym same) m.assumes;
        rest = ap (λ (c : Context A). c.assumptions) same;
        core = λ _. named ∙ ap (λ (t : Tables). map (carry (chain (at t.solvers.backward) (at t.users.backward))) y.assumptions.failed_core) takes.tables;
      }

-- and where the schedule is another
pub named-counted : {A : Type 0} (p q : TracerState) (x y : Context A) (plan : Plan) → MakesNamedStep p q x y →
    MakesNamedStep p q x (record y { schedule = plan })
named-counted p q x y plan f = record {
  ready = ready-counted y plan f.ready;
  count = f.count;
  decidable = f.decidable;
  state = f.state;
  rises = f.rises;
  fixes = record { keeps = f.fixes.keeps; refutes = f.fixes.refutes };
  tables = f.tables;
  parts = f.parts;
  steps = f.steps;
  assumes = f.assumes;
  rest = f.rest;
  core = f.core;
}

-- the solver keeps what it did
kept-still : {A : Type 0} (p q : TracerState) (x y : Context A) → IsValidSolver p.tables x → MakesNamedStep p q x y → IsValidSolver p.tables y
kept-still p q x y k f = record {
  bounded = k.bounded;
  ready = f.ready;
  count = f.count ∙ k.count;
  decidable = same-in-use p.tables (view x) x.vsids (view y) y.vsids k.decidable f.decidable;
  assumed = λ l h. k.assumed l (subst (λ ls. l ∈ ls) (ap (λ (z : AssumptionParts). z.user) f.rest ∙ f.assumes.user) h);
  marked = λ l z h e. k.marked l z (subst (λ ls. l ∈ ls) (ap (λ (z : AssumptionParts). z.user) f.rest ∙ f.assumes.user) h) e;
  working = λ l h. k.working l (f.assumes.part l (subst (λ ls. l ∈ ls) (ap (λ (z : AssumptionParts). z.working) f.rest) h));
}

pub kept-named : {A : Type 0} (p q : TracerState) (x y : Context A) → IsValidSolver p.tables x → MakesNamedStep p q x y → IsValidSolver q.tables y
kept-named p q x y k f = subst (λ (t : Tables). IsValidSolver t y) (sym f.tables) (kept-still p q x y k f)

-- so it does where the search went on with the same assumptions
pub kept-on : {A : Type 0} (t : Tables) (x y : Context A) → IsValidSolver t x → IsReady y → length y.assignment.current ≡ length x.assignment.current →
    SameDecidable (view x) x.vsids (view y) y.vsids → y.assumptions ≡ x.assumptions → IsValidSolver t y
kept-on t x y k ready count decidable same = record {
  bounded = k.bounded;
  ready = ready;
  count = count ∙ k.count;
  decidable = same-in-use t (view x) x.vsids (view y) y.vsids k.decidable decidable;
  assumed = λ l h. k.assumed l (subst (λ (z : AssumptionParts). l ∈ z.user) same h);
  marked = λ l z h e. k.marked l z (subst (λ (a : AssumptionParts). l ∈ a.user) same h) e;
  working = λ l h. k.working l (subst (λ (z : AssumptionParts). l ∈ z.working) same h);
}

-- and where a step is counted
pub kept-counted : {A : Type 0} (t : Tables) (x : Context A) (plan : Plan) → IsValidSolver t x → IsValidSolver t (record x { schedule = plan })
kept-counted t x plan k = record {
  bounded = k.bounded;
  ready = ready-counted x plan k.ready;
  count = k.count;
  decidable = k.decidable;
  assumed = k.assumed;
  marked = k.marked;
  working = k.working;
}
