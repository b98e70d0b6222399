-- What each part did to the maps, the marks and the search.
use Rattle.std.proofs.Common.{◌≡◌, ◌≢◌, true, false, refl, sym, ap, ap₂, ◌∙◌, subst, length, map, ◌++◌, ◌∷◌, []}
use Rattle.varisat_theory.specs.promises.Membership.{◌∈◌}
use Rattle.varisat_theory.specs.promises.Literals.{variable_of}
use Rattle.varisat_names.specs.promises.Maps.{chain}
use Rattle.varisat_names.specs.promises.VarMap.{at}
use Rattle.varisat_names.specs.promises.VarBiMap.{BiMap}
use Rattle.varisat_names.specs.promises.Variables.{Tables}
use Rattle.varisat_tracer.specs.inside.Tracing.{TracerState, tracer_state, global_literal, BreaksProof, CanLog}
use Rattle.varisat_tracer.proofs.Logging.{logs-on, proof-unbroken}
use Rattle.varisat_steps.proofs.Broken.{passed-on}
use Rattle.varisat_search.specs.declared.error.StepError.{StepError}
use Rattle.varisat_search.specs.declared.error.StepError.TheVariants as step
use Rattle.varisat_search.specs.StepErrors.{step_faults}
use Rattle.varisat_tracer.specs.promises.Carried.{carry}
use Rattle.varisat_solver.proofs.entries.CheckedHeld.{checked-assumed}
use Rattle.varisat_solver.proofs.entries.LoggedProofs.{proof-logged}
use Rattle.varisat_search.specs.declared.state.SolverState.{SolverState}
use Rattle.varisat_search.specs.AssumptionParts.{AssumptionParts, newly_assumed, assumed_state}
use Rattle.varisat_search.specs.Contexts.{view}
use Rattle.varisat_solver.specs.inside.Accepted.{KeepsValidity, RepresentsOnceAssumed}
use Rattle.varisat_solver.specs.inside.Accepting.{HasNames, AreMarked}
use Rattle.varisat_solver.specs.promises.Names.{name_all, through_names}
use Rattle.varisat_solver.specs.promises.Calls.{with_naming, assumed_verdict, with_assumptions, with_verdict}
use Rattle.varisat_theory.specs.promises.Journals.{Assumes}
use Rattle.varisat_solver.specs.promises.Journals.{with_entries}
use Rattle.varisat_solver.specs.inside.Spaces.{SpacesFit}
use Rattle.varisat_solver.specs.promises.States.{with_variables}
use Rattle.varisat_solver.specs.inside.Representations.{spaces_of, IsValidSolver}
use Rattle.varisat_solver.proofs.accepting.AssumeList.{Assuming, forgets, list-logged, list-assumed}
use Rattle.varisat_solver.proofs.calls.SettingsCalls.{summary_in}
use Rattle.varisat_solver.proofs.leaving.DetachedValues.{no-model-assumed, assumed-again}
use Rattle.varisat_solver.proofs.accepting.SolversInTurn.{HaveSolvers, have-solvers-then, has-variables, can-have-room, over-leads, over-carried, all-named, literals-within, literals-decidable}
use Rattle.varisat_solver.proofs.modes.VariableMoves.{same-in-use, tables-in-use}
use Rattle.varisat_solver.proofs.modes.TableMarks.{names-marked, marked-same, assumed-listed}
use Rattle.varisat_solver.proofs.accept.assume_list.Given.{Over}
use Rattle.varisat_solver.proofs.accept.assume_list.Goals.{In_ok-solver_from_user_lits, In_ok-log_assumptions}
use Rattle.varisat_solver.proofs.accept.assume_list.Goals as goal

pub solver_from_user_lits-requires-clause-variables : goal.solver_from_user_lits-requires-clause-variables
solver_from_user_lits-requires-clause-variables g c = has-variables c.args.tracer.now.tables c.args.ctx.now c.assume.new.self c.requires.valid

pub solver_from_user_lits-requires-clause-room : goal.solver_from_user_lits-requires-clause-room
solver_from_user_lits-requires-clause-room g c = can-have-room c.args.list.now c.args.tracer.now.tables c.requires.names

-- the names have solver variables
have : (g : Over) (c : In_ok-solver_from_user_lits g) → HaveSolvers {A = g.row.A.Denot} c.args.list.now
    (record { tables = c.args.tracer.now.tables; context = record c.args.ctx.now { solver_state = c.assume.new.self } })
    (record { tables = c.solver_from_user_lits.new.variables; context = c.solver_from_user_lits.new.ctx })
have g c =
    have-solvers-then c.args.list.now c.args.tracer.now.tables c.args.ctx.now c.assume.new.self
    (record { tables = c.solver_from_user_lits.new.variables; context = c.solver_from_user_lits.new.ctx })
    (λ e. no-model-assumed c.args.ctx.now.solver_state.sat_state (ap (λ (x : SolverState). x.sat_state) (sym c.assume.ensures) ∙ e))
    c.prove_linked.ensures c.requires.valid (c.in_ok-solver_from_user_lits.ensures {u = tt}).in_turn

pub mark_assumed-requires : goal.mark_assumed-requires
mark_assumed-requires g c =
    let here = (goal.at.mark_assumed-requires g c).In_ok-solver_from_user_lits in
    let k = (have g here).kept in
    record { bounded = k.bounded; named = λ l h. k.assumed l (subst (λ ls. l ∈ ls) c.user_assumptions.ensures h) }

-- the names of the list are in use
in-use : (g : Over) (c : In_ok-solver_from_user_lits g) → HasNames c.args.list.now c.solver_from_user_lits.new.variables
in-use g c = all-named c.args.list.now c.solver_from_user_lits.new.solver_lits.items (have g c).kept (c.in_ok-solver_from_user_lits.ensures {u = tt}).literals

pub mark_assumed-requires-2 : goal.mark_assumed-requires-2
mark_assumed-requires-2 g c =
    let here = (goal.at.mark_assumed-requires-2 g c).In_ok-solver_from_user_lits in
    let a = marked-same c.user_assumptions.result.now false c.solver_from_user_lits.new.variables c.mark_assumed.new.variables c.mark_assumed.ensures in
    names-marked c.args.list.now c.solver_from_user_lits.new.variables c.mark_assumed.new.variables (in-use g here) a

pub set_assumptions-requires-clause-in_range : goal.set_assumptions-requires-clause-in_range
set_assumptions-requires-clause-in_range g c l h =
    let here = (goal.at.set_assumptions-requires-clause-in_range g c).In_ok-solver_from_user_lits in
    literals-within c.args.list.now c.solver_from_user_lits.new.solver_lits.items (have g here).kept
    (c.in_ok-solver_from_user_lits.ensures {u = tt}).literals c.prove_linked-2.ensures l (subst (λ ls. l ∈ ls) c.as_slice-lits.ensures.value h)

pub set_assumptions-requires-clause-decidable : goal.set_assumptions-requires-clause-decidable
set_assumptions-requires-clause-decidable g c l h =
    let here = (goal.at.set_assumptions-requires-clause-decidable g c).In_ok-solver_from_user_lits in
    literals-decidable c.args.list.now c.solver_from_user_lits.new.solver_lits.items (have g here).kept
    (c.in_ok-solver_from_user_lits.ensures {u = tt}).literals c.prove_linked-2.ensures l (subst (λ ls. l ∈ ls) c.as_slice-lits.ensures.value h)

-- the verdict may change, and whether there is a clause
new-state : (g : Over) (c : In_ok-log_assumptions g) → KeepsValidity c.args.ctx.now.solver_state c.set_assumptions.new.ctx.solver_state
new-state g c =
    let here = (goal.at.returns-clause-assumed g c).In_ok-solver_from_user_lits in
    let new = c.set_assumptions.new.ctx.solver_state in
    (c.in_ok-set_assumptions.ensures {u = tt}).state
    ∙ ap (λ (x : SolverState). record x { sat_state = assumed_state x.sat_state })
    ((have g here).verdict.state ∙ ap
    (λ (x : SolverState). record x { formula_is_empty = c.solver_from_user_lits.new.ctx.solver_state.formula_is_empty }) c.assume.ensures)
    ∙ ap₂ (λ a b. record c.args.ctx.now.solver_state { sat_state = a; formula_is_empty = b })
    (let e = ap (λ (x : SolverState). assumed_state x.sat_state)
    ((have g here).verdict.state ∙ ap
    (λ (x : SolverState). record x { formula_is_empty = c.solver_from_user_lits.new.ctx.solver_state.formula_is_empty })
    c.assume.ensures) in sym e ∙ sym (ap (λ (x : SolverState). x.sat_state) (c.in_ok-set_assumptions.ensures {u = tt}).state))
    (sym (ap (λ (x : SolverState). x.formula_is_empty) (c.in_ok-set_assumptions.ensures {u = tt}).state))

-- the solver keeps what it did
kept : (g : Over) (c : In_ok-log_assumptions g) → IsValidSolver c.log_assumptions.new.tracer.tables c.set_assumptions.new.ctx
kept g c =
    let here = (goal.at.returns-clause-assumed g c).In_ok-solver_from_user_lits in
    let k = (have g here).kept in
    let over = (c.in_ok-solver_from_user_lits.ensures {u = tt}).literals in
    let list = c.args.list.now in
    let taken = c.solver_from_user_lits.new.variables in
    let cleared = c.mark_assumed.new.variables in
    let marked = c.mark_assumed-2.new.variables in
    let to = chain (at taken.users.forward) (at taken.solvers.forward) in
    let x = names-marked list taken cleared (in-use g here) (marked-same c.user_assumptions.result.now false taken cleared c.mark_assumed.ensures) in
    let y = names-marked list cleared marked x (marked-same list true cleared marked c.mark_assumed-2.ensures) in
    let long = ap (λ (m : BiMap). length m.backward) (c.mark_assumed-2.ensures.solvers ∙ c.mark_assumed.ensures.solvers) in
    let r = c.in_ok-set_assumptions.ensures {u = tt} in
    let literals = c.as_slice-lits.ensures.value ∙ over-carried to list c.solver_from_user_lits.new.solver_lits.items over in
    let mid = c.solver_from_user_lits.new.ctx in
    let new = c.set_assumptions.new.ctx in
    subst (λ (t : Tables). IsValidSolver t new) (sym (c.in_ok-log_assumptions.ensures {u = tt}).logged.tables) (record {
      bounded = y.bounded;
      ready = r.ready;
      count = r.keeps.variables.count ∙ k.count ∙ sym long;
      decidable = tables-in-use taken marked (view new) new.vsids (c.mark_assumed-2.ensures.solvers ∙ c.mark_assumed.ensures.solvers)
          (same-in-use taken (view mid) mid.vsids (view new) new.vsids k.decidable r.keeps.variables.decidable);
      assumed = λ l h. y.named l (subst (λ ls. l ∈ ls) (ap (λ (z : AssumptionParts). z.user) r.assumed) h);
      marked = λ l z h f. c.mark_assumed-2.ensures.marked l z (subst (λ ls. l ∈ ls) (ap (λ (z : AssumptionParts). z.user) r.assumed) h)
          (ap (λ (m : BiMap). at m.forward (variable_of l)) (sym c.mark_assumed-2.ensures.users) ∙ f);
      working = λ l h. assumed-listed list taken cleared marked c.user_assumptions.result.now c.prove_linked-2.ensures
          (over-leads to list c.solver_from_user_lits.new.solver_lits.items over) c.mark_assumed.ensures c.mark_assumed-2.ensures l
          (subst (λ ls. l ∈ ls) (ap (λ (z : AssumptionParts). z.working) r.assumed ∙ literals) h);
    })

goes-on-logging : (g : Over) (c : In_ok-log_assumptions g) → CanLog c.log_assumptions.new.tracer.proof
goes-on-logging g c =
    logs-on (record { tables = c.mark_assumed-2.new.variables; proof = c.args.tracer.now.proof }) (tracer_state c.log_assumptions.new.tracer) _
    (c.in_ok-log_assumptions.ensures {u = tt}).logged c.requires.logs

-- and it represents the states in which the list is assumed
represented : (g : Over) (c : In_ok-log_assumptions g) → RepresentsOnceAssumed c.args.list.now (tracer_state c.args.tracer.now) c.args.ctx.now
    (tracer_state c.log_assumptions.new.tracer) c.set_assumptions.new.ctx
represented g c s f =
    let here = (goal.at.returns-clause-assumed g c).In_ok-solver_from_user_lits in
    let all = have g here in
    let over = (c.in_ok-solver_from_user_lits.ensures {u = tt}).literals in
    let r = c.in_ok-set_assumptions.ensures {u = tt} in
    let old = c.args.ctx.now in
    let checker = c.args.tracer.now.proof.checker in
    let mid = c.solver_from_user_lits.new.ctx in
    let new = c.set_assumptions.new.ctx in
    let m = c.solver_from_user_lits.new.variables in
    let marked = c.mark_assumed-2.new.variables in
    let list = c.args.list.now in
    let to = chain (at m.users.forward) (at m.solvers.forward) in
    let items = c.as_slice-lits.ensures.value ∙ over-carried to list c.solver_from_user_lits.new.solver_lits.items over in
    let before : TracerState = record { tables = marked; proof = c.args.tracer.now.proof } in
    let after = tracer_state c.log_assumptions.new.tracer in
    let taken = (c.in_ok-log_assumptions.ensures {u = tt}).logged in
    let first = summary_in c.args.tracer.now.tables checker old s.ledger in
    let (w, k) = f in
    let begins = subst (λ y. SpacesFit (spaces_of c.args.tracer.now.tables checker (view old) old.assumptions y)
    (with_verdict (assumed_verdict s.verdict) s)) (sym (ap (λ (x : SolverState). x.sat_state) c.assume.ensures))
    (w, forgets w first s old.solver_state.sat_state s.verdict k) in
    let n = with_naming (name_all list s.naming) s in
    let carried = map (through_names n.naming) list in
    let logged = s.logged ++ Assumes carried ∷ [] in
    let (variables, keep, named) = all.represents checker (with_verdict (assumed_verdict s.verdict) s) begins in
    let n2 = with_variables variables (with_verdict (assumed_verdict s.verdict) n) in
    let second = summary_in m checker mid s.ledger in
    let assuming : Assuming second list c.mark_assumed.new.variables marked (view new) new.assumptions new.solver_state.sat_state = record {
      all = over-leads to list c.solver_from_user_lits.new.solver_lits.items over;
      are_cleared = subst (λ ls. AreMarked ls false m c.mark_assumed.new.variables) c.user_assumptions.ensures c.mark_assumed.ensures;
      are_marked = c.mark_assumed-2.ensures;
      seen = r.seen;
      same_count = r.keeps.variables.count;
      parts_are = r.assumed ∙ ap (λ ls. newly_assumed list ls) items;
      verdict = ap (λ (x : SolverState). x.sat_state) r.state;
    } in
    let fits = subst (λ v. SpacesFit (spaces_of marked checker (view new) new.assumptions new.solver_state.sat_state)
    (with_variables variables (with_verdict v (with_entries logged (with_assumptions carried n))))) (assumed-again s.verdict)
    (list-assumed second n2 list c.mark_assumed.new.variables marked (view new) new.assumptions new.solver_state.sat_state assuming named) in
    let same-solvers = c.mark_assumed-2.ensures.solvers ∙ c.mark_assumed.ensures.solvers in
    let same : map (carry variables) carried ≡ map (global_literal marked) c.as_slice-lits.result.now =
    list-logged second n2 list c.mark_assumed.new.variables marked (view new) new.assumptions new.solver_state.sat_state assuming named
    ∙ ap (map (global_literal m)) (sym items)
    ∙ ap (λ (b : BiMap). map (carry (at b.backward)) c.as_slice-lits.result.now) (sym same-solvers) in (
      variables,
      keep,
      proof-logged before after (Assumes c.as_slice-lits.result.now ∷ []) variables s.logged logged taken (record {
        entries = Assumes carried ∷ [];
        joined = refl;
        stays = tt;
        same = ap (λ ls. Assumes ls ∷ []) same;
      }),
      subst (λ (t : Tables). SpacesFit (spaces_of t after.proof.checker (view new) new.assumptions new.solver_state.sat_state)
          (with_variables variables (with_entries logged (with_assumptions carried n)))) (sym taken.tables)
          (subst (λ x. SpacesFit (spaces_of marked x (view new) new.assumptions new.solver_state.sat_state)
          (with_variables variables (with_entries logged (with_assumptions carried n))))
          (sym (checked-assumed checker after.proof.checker (map (global_literal marked) c.as_slice-lits.result.now) taken.logged.checked)) fits),
    )

pub returns-clause-assumed : goal.returns-clause-assumed
returns-clause-assumed g c =
    record {
      kept = kept g c;
      logs = goes-on-logging g c;
      logged = (_, (c.in_ok-log_assumptions.ensures {u = tt}).logged.logged);
      state = new-state g c;
      represents = represented g c;
    }

pub returns-in_err-solver_from_user_lits-clause-broken : goal.returns-in_err-solver_from_user_lits-clause-broken
returns-in_err-solver_from_user_lits-clause-broken g c =
    let p = c.args.tracer.now.proof in
    passed-on c.from_residual.result step.Memory (λ z. BreaksProof p (step_faults z) p) c.from_residual.ensures (proof-unbroken p)

pub returns-in_err-set_assumptions-clause-broken : goal.returns-in_err-set_assumptions-clause-broken
returns-in_err-set_assumptions-clause-broken g c =
    let p = c.args.tracer.now.proof in
    passed-on c.from_residual-in_err-set_assumptions.result step.Memory (λ z. BreaksProof p (step_faults z) p)
    c.from_residual-in_err-set_assumptions.ensures (proof-unbroken p)

pub returns-in_err-log_assumptions-clause-broken : goal.returns-in_err-log_assumptions-clause-broken
returns-in_err-log_assumptions-clause-broken g c =
    passed-on c.from_residual-in_err-log_assumptions.result c.in_err-log_assumptions.field-0.0
    (λ z. BreaksProof c.args.tracer.now.proof (step_faults z) c.log_assumptions.new.tracer.proof)
    c.from_residual-in_err-log_assumptions.ensures (c.in_err-log_assumptions.ensures {u = tt}).broken

-- memory ran out, and the store was not asked for room
memory-not-full : (e : StepError) → e ≡ step.Memory → e ≢ step.Full
memory-not-full e m f = let z : step.Memory ≡ step.Full = sym m ∙ f in cc

pub returns-in_err-solver_from_user_lits-clause-unstored : goal.returns-in_err-solver_from_user_lits-clause-unstored
returns-in_err-solver_from_user_lits-clause-unstored g c =
    passed-on c.from_residual.result step.Memory (λ z. z ≢ step.Full) c.from_residual.ensures (memory-not-full step.Memory refl)

pub returns-in_err-set_assumptions-clause-unstored : goal.returns-in_err-set_assumptions-clause-unstored
returns-in_err-set_assumptions-clause-unstored g c =
    passed-on c.from_residual-in_err-set_assumptions.result step.Memory (λ z. z ≢ step.Full) c.from_residual-in_err-set_assumptions.ensures
    (memory-not-full step.Memory refl)

pub returns-in_err-log_assumptions-clause-unstored : goal.returns-in_err-log_assumptions-clause-unstored
returns-in_err-log_assumptions-clause-unstored g c =
    passed-on c.from_residual-in_err-log_assumptions.result c.in_err-log_assumptions.field-0.0 (λ z. z ≢ step.Full)
    c.from_residual-in_err-log_assumptions.ensures (c.in_err-log_assumptions.ensures {u = tt}).unstored

-- The list is assumed before the target is asked; up to there memory alone can run out.

pub returns-in_err-solver_from_user_lits-clause-last : goal.returns-in_err-solver_from_user_lits-clause-last
returns-in_err-solver_from_user_lits-clause-last g c =
    passed-on c.from_residual.result step.Memory (λ z. z ≢ step.Memory → c.solver_from_user_lits.new.ctx.assumptions.user ≡ c.args.list.now)
    c.from_residual.ensures (λ n. absurd (n refl))

pub returns-in_err-set_assumptions-clause-last : goal.returns-in_err-set_assumptions-clause-last
returns-in_err-set_assumptions-clause-last g c =
    passed-on c.from_residual-in_err-set_assumptions.result step.Memory
    (λ z. z ≢ step.Memory → c.set_assumptions.new.ctx.assumptions.user ≡ c.args.list.now)
    c.from_residual-in_err-set_assumptions.ensures (λ n. absurd (n refl))

pub returns-in_err-log_assumptions-clause-last : goal.returns-in_err-log_assumptions-clause-last
returns-in_err-log_assumptions-clause-last g c =
    passed-on c.from_residual-in_err-log_assumptions.result c.in_err-log_assumptions.field-0.0
    (λ z. z ≢ step.Memory → c.set_assumptions.new.ctx.assumptions.user ≡ c.args.list.now)
    c.from_residual-in_err-log_assumptions.ensures
    (λ _. ap (λ (x : AssumptionParts). x.user) (c.in_ok-set_assumptions.ensures {u = tt}).assumed)
