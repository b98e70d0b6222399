use Rattle.varisat_search.specs.declared.error.StepError.TheVariants as step
use Rattle.varisat_search.specs.declared.error.StepError.{StepError}
use Rattle.varisat_search.specs.declared.context.Context.{Context}
use Rattle.varisat_search.specs.StepErrors.{step_faults}
use Rattle.varisat_steps.proofs.Broken.{passed-on}
-- What each part did to the maps and to the search.
use Rattle.std.proofs.Common.{◌≡◌, ◌≢◌, ◌≤◌, arith, ◌++◌, ◌∷◌, [], List, false, sym, ap, ap₂, ◌∙◌, subst, refl, length, map}
use Rattle.std.specs.Option.{IsSome}
use Rattle.varisat_theory.specs.promises.Membership.{◌∈◌}
use Rattle.varisat_theory.specs.promises.Literals.{variable_of}
use Rattle.varisat_theory.specs.inside.Outcomes.{Loads}
use Rattle.varisat_names.specs.promises.Maps.{chain}
use Rattle.varisat_names.specs.promises.VarMap.{at}
use Rattle.varisat_names.specs.promises.VarBiMap.{BiMap}
use Rattle.varisat_names.specs.declared.variables.data.VarData.{VarData}
use Rattle.varisat_names.specs.promises.Variables.{Tables}
use Rattle.varisat_theory.specs.promises.Literals.{Literal, Clause}
use Rattle.varisat_theory.specs.promises.Journals.{Accepts, written}
use Rattle.varisat_tracer.specs.promises.Carried.{carry, logged_as}
use Rattle.varisat_tracer.specs.inside.Tracing.{TracerState, tracer_state, global_literal, CanLog, BreaksProof}
use Rattle.varisat_tracer.specs.inside.TracerLaws.{takes-more, relies-after}
use Rattle.varisat_solver.proofs.entries.LoggedProofs.{AreLoggedAs, proof-logged}
use Rattle.varisat_tracer.proofs.Logging.{relies-alike, logs-on, breaks-proof, proof-unbroken, proof-breaks-on}
use Rattle.varisat_search.specs.declared.state.SatState.TheVariants as verdict
use Rattle.varisat_search.specs.declared.state.SolverState.{SolverState}
use Rattle.varisat_search.specs.AssumptionParts.{AssumptionParts}
use Rattle.varisat_search.specs.Contexts.{view}
use Rattle.varisat_search.specs.Loading.{loaded_outcome}
use Rattle.varisat_search.specs.Seen.{search_of}
use Rattle.varisat_solver.specs.promises.Names.{name_all, through_names}
use Rattle.varisat_solver.specs.promises.Calls.{with_naming, append_clause, reopened_verdict, with_verdict}
use Rattle.varisat_solver.specs.promises.Journals.{with_entries}
use Rattle.varisat_proof.specs.promises.Proving.{IsCheckedIf}
use Rattle.varisat_solver.specs.promises.States.{State, with_variables}
use Rattle.varisat_solver.specs.inside.Accepted.{FailsClause, RepresentsOnceAccepted}
use Rattle.varisat_solver.specs.inside.Searches.{LogsSome}
use Rattle.varisat_solver.specs.inside.Spaces.{SpacesFit, FitWithNew}
use Rattle.varisat_solver.specs.inside.Representations.{spaces_of, spaces_with, IsValidSolver}
use Rattle.varisat_solver.proofs.calls.SettingsCalls.{summary_in}
use Rattle.varisat_solver.proofs.leaving.DetachedValues.{reopened-not, no-model-reopened, reopened-spaces, verdict-after}
use Rattle.varisat_solver.proofs.accepting.SolversInTurn.{with_names, HaveSolvers, have-solvers-then, has-variables, can-have-room, over-leads, over-carried, all-named, literals-within, literals-decidable}
use Rattle.varisat_solver.proofs.modes.TableMarks.{marks-bounded, joined-same, assumed-joined}
use Rattle.varisat_solver.proofs.entries.CheckedHeld.{relied-open}
use Rattle.varisat_solver.proofs.accepting.AcceptClause.{clause-accepted, few-made}
use Rattle.varisat_solver.proofs.steps.SolverSteps.{some-through}
use Rattle.varisat_solver.proofs.modes.VariableMoves.{same-in-use, tables-in-use}
use Rattle.varisat_search.proofs.variables.SolverVariables.{in-use-all}
use Rattle.varisat_solver.proofs.accept.accept_user_clause.Given.{Over}
use Rattle.varisat_solver.proofs.accept.accept_user_clause.Goals.{In_ok-solver_from_user_lits, In_ok-log_clause, In_ok-load_clause}
use Rattle.varisat_solver.proofs.accept.accept_user_clause.Goals as goal

pub solver_from_user_lits-requires-clause-variables : goal.solver_from_user_lits-requires-clause-variables
solver_from_user_lits-requires-clause-variables g c = has-variables c.args.tracer.now.tables c.args.ctx.now c.reopen.new.self c.requires.can.valid

pub solver_from_user_lits-requires-clause-room : goal.solver_from_user_lits-requires-clause-room
solver_from_user_lits-requires-clause-room g c = can-have-room c.args.clause.now c.args.tracer.now.tables c.requires.names

-- the names have solver variables
have : (g : Over) (c : In_ok-solver_from_user_lits g) → HaveSolvers {A = g.row.A.Denot} c.args.clause.now
    (record { tables = c.args.tracer.now.tables; context = record c.args.ctx.now { solver_state = c.reopen.new.self } })
    (record { tables = c.solver_from_user_lits.new.variables; context = c.solver_from_user_lits.new.ctx })
have g c =
    have-solvers-then c.args.clause.now c.args.tracer.now.tables c.args.ctx.now c.reopen.new.self
    (record { tables = c.solver_from_user_lits.new.variables; context = c.solver_from_user_lits.new.ctx })
    (λ e. no-model-reopened c.args.ctx.now.solver_state.sat_state (ap (λ (x : SolverState). x.sat_state) (sym c.reopen.ensures) ∙ e))
    c.prove_linked.ensures c.requires.can.valid (c.in_ok-solver_from_user_lits.ensures {u = tt}).in_turn

pub mark_joined-requires : goal.mark_joined-requires
mark_joined-requires g c =
    let here = (goal.at.mark_joined-requires g c).In_ok-solver_from_user_lits in
    all-named c.args.clause.now c.solver_from_user_lits.new.solver_lits.items (have g here).kept (c.in_ok-solver_from_user_lits.ensures {u = tt}).literals

pub load_clause-requires-clause-in_range : goal.load_clause-requires-clause-in_range
load_clause-requires-clause-in_range g c l h =
    let here = (goal.at.load_clause-requires-clause-in_range g c).In_ok-solver_from_user_lits in
    literals-within c.args.clause.now c.solver_from_user_lits.new.solver_lits.items (have g here).kept
    (c.in_ok-solver_from_user_lits.ensures {u = tt}).literals c.prove_linked-2.ensures l (subst (λ ls. l ∈ ls) c.as_slice-lits.ensures.value h)

pub load_clause-requires-clause-decidable : goal.load_clause-requires-clause-decidable
load_clause-requires-clause-decidable g c l h =
    let here = (goal.at.load_clause-requires-clause-decidable g c).In_ok-solver_from_user_lits in
    literals-decidable c.args.clause.now c.solver_from_user_lits.new.solver_lits.items (have g here).kept
    (c.in_ok-solver_from_user_lits.ensures {u = tt}).literals c.prove_linked-2.ensures l (subst (λ ls. l ∈ ls) c.as_slice-lits.ensures.value h)

-- the proof can log for the search once the clause was
can-log : (g : Over) (c : In_ok-log_clause g) → CanLog c.log_clause.new.tracer.proof
can-log g c = logs-on (record { tables = c.mark_joined.new.variables; proof = c.args.tracer.now.proof }) (tracer_state c.log_clause.new.tracer) _
    (c.in_ok-log_clause.ensures {u = tt}).logged c.requires.can.logs

-- the verdict is not Unsat when the clause is loaded
opened : (g : Over) (c : In_ok-solver_from_user_lits g) → c.solver_from_user_lits.new.ctx.solver_state.sat_state ≢ verdict.Unsat
opened g c e =
    reopened-not c.args.ctx.now.solver_state.sat_state c.requires.can.undecided
    (ap (λ (x : SolverState). x.sat_state) (sym c.reopen.ensures) ∙ ap (λ (x : SolverState). x.sat_state) (sym (have g c).verdict.state) ∙ e)

-- the solver represents the state once the names have solver variables
all-named-in : (g : Over) (c : In_ok-solver_from_user_lits g) (s : State) →
    SpacesFit (spaces_with c.args.tracer.now.tables c.args.tracer.now.proof.checker c.args.ctx.now) s →
    FitWithNew (spaces_with c.solver_from_user_lits.new.variables c.args.tracer.now.proof.checker c.solver_from_user_lits.new.ctx) s
    (with_names c.args.clause.now (with_verdict (reopened_verdict s.verdict) s))
all-named-in g c s f =
    let old = c.args.ctx.now in
    let checker = c.args.tracer.now.proof.checker in
    let first = summary_in c.args.tracer.now.tables checker old s.ledger in
    let begins = subst (λ y. SpacesFit (spaces_of c.args.tracer.now.tables checker (view old) old.assumptions y)
    (with_verdict (reopened_verdict s.verdict) s)) (sym (ap (λ (x : SolverState). x.sat_state) c.reopen.ensures)) (reopened-spaces first s f) in
    (have g c).represents checker (with_verdict (reopened_verdict s.verdict) s) begins

-- what was accepted before and the clause that was logged may be held then
pub load_clause-requires-clause-holds : goal.load_clause-requires-clause-holds
load_clause-requires-clause-holds g c n =
    let here = (goal.at.load_clause-requires-clause-holds g c).In_ok-solver_from_user_lits in
    let mid = c.solver_from_user_lits.new.ctx in
    let m = c.solver_from_user_lits.new.variables in
    let p = c.args.tracer.now.proof in
    let lits = c.as_slice-lits.result.now in
    let (s, f) = c.requires.can.represents in
    let (variables, keep, named) = all-named-in g here s f in
    let (held, relies, fits) = relied-open m p (view mid) mid.assumptions mid.solver_state.sat_state (opened g here) c.requires.can.logs
    (_, named) in
    let before : TracerState = record { tables = c.mark_joined.new.variables; proof = p } in (
      held,
      relies-after before (tracer_state c.log_clause.new.tracer) (Accepts lits ∷ []) held (held ++ lits ∷ [])
          (c.in_ok-log_clause.ensures {u = tt}).logged (relies-alike m c.mark_joined.new.variables p held c.mark_joined.ensures.solvers relies)
          (held ++ lits ∷ [], refl, refl),
      fits,
    )

-- names and variables stay as the clause is logged and loaded
same-tables : (g : Over) (c : In_ok-load_clause g) → c.load_clause.new.proof.tables ≡ c.mark_joined.new.variables
same-tables g c =
    let here = (goal.at.returns-clause-accepted g c).In_ok-solver_from_user_lits in
    ((c.in_ok-load_clause.ensures {u = tt}).loads (opened g here)).lines.written.tables ∙ (c.in_ok-log_clause.ensures {u = tt}).logged.tables

-- the verdict may change, and that there is a clause
new-state : (g : Over) (c : In_ok-load_clause g) → c.load_clause.new.ctx.solver_state ≡ record c.args.ctx.now.solver_state
    { sat_state = c.load_clause.new.ctx.solver_state.sat_state; formula_is_empty = false }
new-state g c =
    let here = (goal.at.returns-clause-accepted g c).In_ok-solver_from_user_lits in
    let sat = c.load_clause.new.ctx.solver_state.sat_state in
    ((c.in_ok-load_clause.ensures {u = tt}).loads (opened g here)).state
    ∙ ap (λ (x : SolverState). record x { sat_state = sat; formula_is_empty = false })
    ((have g here).verdict.state ∙ ap
    (λ (x : SolverState). record x { formula_is_empty = c.solver_from_user_lits.new.ctx.solver_state.formula_is_empty }) c.reopen.ensures)

-- the solver keeps what it did
kept : (g : Over) (c : In_ok-load_clause g) → IsValidSolver c.load_clause.new.proof.tables c.load_clause.new.ctx
kept g c =
    let here = (goal.at.returns-clause-accepted g c).In_ok-solver_from_user_lits in
    let k = (have g here).kept in
    let taken = c.solver_from_user_lits.new.variables in
    let mid = c.solver_from_user_lits.new.ctx in
    let new = c.load_clause.new.ctx in
    let joined = c.mark_joined.new.variables in
    let mark = c.mark_joined.ensures in
    let marks = joined-same c.args.clause.now taken joined mark in
    let long = ap (λ (m : BiMap). length m.backward) mark.solvers in
    let r = c.in_ok-load_clause.ensures {u = tt} in
    let parts = (r.loads (opened g here)).assumptions in
    let user = ap (λ (x : AssumptionParts). x.user) parts in
    subst (λ (t : Tables). IsValidSolver t new) (sym (same-tables g c)) (record {
      bounded = marks-bounded taken joined k.bounded marks;
      ready = r.ready;
      count = r.keeps.count ∙ k.count ∙ sym long;
      decidable = tables-in-use taken joined (view new) new.vsids mark.solvers
          (same-in-use taken (view mid) mid.vsids (view new) new.vsids k.decidable r.keeps.decidable);
      assumed = λ l h. subst (λ (m : BiMap). IsSome (at m.forward (variable_of l))) (sym mark.users) (k.assumed l (subst (λ ls. l ∈ ls) user h));
      marked = λ l z h f. ap (λ (d : VarData). d.assumed) (mark.rest z)
          ∙ k.marked l z (subst (λ ls. l ∈ ls) user h) (ap (λ (m : BiMap). at m.forward (variable_of l)) (sym mark.users) ∙ f);
      working = λ l h. assumed-joined c.args.clause.now taken joined (variable_of l) mark
          (k.working l (subst (λ ls. l ∈ ls) (ap (λ (x : AssumptionParts). x.working) parts) h));
    })

goes-on-logging : (g : Over) (c : In_ok-load_clause g) → CanLog c.load_clause.new.proof.proof
goes-on-logging g c =
    let here = goal.at.returns-clause-accepted g c in
    logs-on (tracer_state c.log_clause.new.tracer) (tracer_state c.load_clause.new.proof) _
    ((c.in_ok-load_clause.ensures {u = tt}).loads (opened g here.In_ok-solver_from_user_lits)).lines.written (can-log g here.In_ok-log_clause)

logged-some : (g : Over) (c : In_ok-load_clause g) → LogsSome c.args.tracer.now.proof c.load_clause.new.proof.proof
logged-some g c =
    let here = goal.at.returns-clause-accepted g c in
    some-through c.args.tracer.now.proof c.log_clause.new.tracer.proof c.load_clause.new.proof.proof (_, (c.in_ok-log_clause.ensures {u = tt}).logged.logged)
    (_, ((c.in_ok-load_clause.ensures {u = tt}).loads (opened g here.In_ok-solver_from_user_lits)).lines.written.logged)

-- and it represents the states to which the clause was added
represented : (g : Over) (c : In_ok-load_clause g) → RepresentsOnceAccepted c.args.clause.now (tracer_state c.args.tracer.now) c.args.ctx.now
    (tracer_state c.load_clause.new.proof) c.load_clause.new.ctx
represented g c s f =
    let here = (goal.at.returns-clause-accepted g c).In_ok-solver_from_user_lits in
    let all = have g here in
    let r = c.in_ok-load_clause.ensures {u = tt} in
    let over = (c.in_ok-solver_from_user_lits.ensures {u = tt}).literals in
    let old = c.args.ctx.now in
    let mid = c.solver_from_user_lits.new.ctx in
    let new = c.load_clause.new.ctx in
    let m = c.solver_from_user_lits.new.variables in
    let joined = c.mark_joined.new.variables in
    let list = c.args.clause.now in
    let to = chain (at m.users.forward) (at m.solvers.forward) in
    let carried = ap₂ (λ (x y : BiMap). map (carry (chain (at x.forward) (at y.forward))) list) (sym c.mark_joined.ensures.users)
    (sym c.mark_joined.ensures.solvers) in
    let items = c.as_slice-lits.ensures.value ∙ over-carried to list c.solver_from_user_lits.new.solver_lits.items over ∙ carried in
    let n = with_naming (name_all list s.naming) s in
    let lines = (r.loads (opened g here)).lines.lines in
    let before : TracerState = record { tables = joined; proof = c.args.tracer.now.proof } in
    let after = tracer_state c.load_clause.new.proof in
    let taken = takes-more before (tracer_state c.log_clause.new.tracer) after (Accepts c.as_slice-lits.result.now ∷ []) (written lines)
    (c.in_ok-log_clause.ensures {u = tt}).logged (r.loads (opened g here)).lines.written in
    let (variables, keep, named) = all-named-in g here s f in
    let n2 = with_variables variables (with_verdict (reopened_verdict s.verdict) n) in
    let (x, logged, v, more, logged-as, k) =
    clause-accepted (summary_in m c.args.tracer.now.proof.checker mid s.ledger) n2 list joined
    (view new) new.assumptions new.solver_state.sat_state after.proof.checker
    (record {
      not_unsat = opened g here;
      all = over-leads to list c.solver_from_user_lits.new.solver_lits.items over;
      are_joined = c.mark_joined.ensures;
      same_count = r.keeps.count;
      well_before = all.kept.ready.well;
      well_new = r.ready.well;
      in_use = in-use-all m (view new) new.vsids (same-in-use m (view mid) mid.vsids (view new) new.vsids all.kept.decidable r.keeps.decidable)
          r.ready.decidable r.ready.well;
      lines = (r.loads (opened g here)).lines.lines;
      loads = subst (λ xs. Loads (search_of (view mid)) (search_of (view new)) xs (loaded_outcome new.solver_state.sat_state)
          (r.loads (opened g here)).lines.lines) items (r.loads (opened g here)).lines.loads;
      verdict = r.verdict;
      parts_stay = (r.loads (opened g here)).assumptions;
    })
    (subst (λ es. IsCheckedIf before.proof.checker es after.proof.checker)
    (ap (λ (b : BiMap). logged_as (carry (at b.backward)) (Accepts c.as_slice-lits.result.now ∷ written lines)) c.mark_joined.ensures.solvers
    ∙ ap (λ (ls : List Literal). logged_as (global_literal m) (Accepts ls ∷ written lines)) items)
    taken.logged.checked)
    named in (
      x,
      logged,
      variables,
      verdict-after s.clauses (map (through_names n.naming) list) s.verdict x v,
      more,
      keep,
      proof-logged before after
          (Accepts c.as_slice-lits.result.now ∷ written lines) variables s.logged logged taken
          (subst (λ (b : BiMap). AreLoggedAs variables s.logged logged
          (logged_as (carry (at b.backward)) (Accepts c.as_slice-lits.result.now ∷ written lines))) (sym c.mark_joined.ensures.solvers)
          (subst (λ (ls : List Literal). AreLoggedAs variables s.logged logged (logged_as (global_literal m) (Accepts ls ∷ written lines))) (sym items)
          logged-as)),
      subst
          (λ (t : Tables). SpacesFit (spaces_of t after.proof.checker (view new) new.assumptions new.solver_state.sat_state)
          (with_variables variables (with_entries logged (append_clause (map (through_names n.naming) list) x n)))) (sym (same-tables g c)) k,
    )

pub returns-clause-accepted : goal.returns-clause-accepted
returns-clause-accepted g c =
    record { kept = kept g c; logs = goes-on-logging g c; logged = logged-some g c; state = new-state g c; represents = represented g c }

-- it failed as it was out of memory or its target failed, so that the store was not full
unfilled : {A : Type 0} (d : Clause) (p : TracerState) (x : Context A) (q : TracerState) (y : Context A) (e : StepError) → e ≢ step.Full →
    BreaksProof p.proof (step_faults e) q.proof → FailsClause d p x q y e
unfilled d p x q y e apart b = record { broken = b; full = λ f. absurd (apart f); size = λ f. absurd (apart f) }

pub returns-in_err-solver_from_user_lits-clause-fails : goal.returns-in_err-solver_from_user_lits-clause-fails
returns-in_err-solver_from_user_lits-clause-fails g c =
    let p = tracer_state c.args.tracer.now in
    let q : TracerState = record { tables = c.solver_from_user_lits.new.variables; proof = p.proof } in
    let x = c.args.ctx.now in
    let y = c.solver_from_user_lits.new.ctx in
    passed-on c.from_residual.result step.Memory (λ e. FailsClause c.args.clause.now p x q y e) c.from_residual.ensures
    (unfilled c.args.clause.now p x q y step.Memory (λ e. cc) (proof-unbroken p.proof))

pub returns-in_err-log_clause-clause-fails : goal.returns-in_err-log_clause-clause-fails
returns-in_err-log_clause-clause-fails g c =
    let e = c.in_err-log_clause.field-0.0 in
    let p = tracer_state c.args.tracer.now in
    let q = tracer_state c.log_clause.new.tracer in
    let x = c.args.ctx.now in
    let y = c.solver_from_user_lits.new.ctx in
    passed-on c.from_residual-in_err-log_clause.result e (λ e. FailsClause c.args.clause.now p x q y e) c.from_residual-in_err-log_clause.ensures
    (unfilled c.args.clause.now p x q y e (c.in_err-log_clause.ensures {u = tt}).unstored (c.in_err-log_clause.ensures {u = tt}).broken)

-- the clause is over no more variables than identities that were made with its names
pub returns-in_err-load_clause-clause-fails : goal.returns-in_err-load_clause-clause-fails
returns-in_err-load_clause-clause-fails g c =
    let here = goal.at.returns-in_err-load_clause-clause-fails g c in
    let e = c.in_err-load_clause.field-0.0 in
    let p = tracer_state c.args.tracer.now in
    let q = tracer_state c.log_clause.new.tracer in
    let r = tracer_state c.load_clause.new.proof in
    let x = c.args.ctx.now in
    let y = c.load_clause.new.ctx in
    let failed = c.in_err-load_clause.ensures {u = tt} in
    let fails : FailsClause c.args.clause.now p x r y e = record {
      broken = proof-breaks-on p.proof q.proof r.proof _ (step_faults e) (c.in_ok-log_clause.ensures {u = tt}).logged.logged
          (breaks-proof q r (step_faults e) failed.broken);
      full = λ f. (failed.ends.full f).0;
      size = λ f s fit.
          let same = (failed.ends.full f).1 in
          let (variables, keep, (w, k)) = all-named-in g here.In_ok-solver_from_user_lits s fit in
          let few = few-made w _ _ k in
          omega (arith, same, few);
    } in
    passed-on c.from_residual-in_err-load_clause.result e (λ z. FailsClause c.args.clause.now p x r y z) c.from_residual-in_err-load_clause.ensures fails
