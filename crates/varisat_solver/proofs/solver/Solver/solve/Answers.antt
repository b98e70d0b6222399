-- The proof is marked and flushed behind the steps, or can't be flushed.
use Rattle.std.proofs.Common.{◌≡◌, ◌∙◌, true, not, sym, ap, subst}
use Rattle.varisat_solver.specs.promises.Detaching.{DetachesInTime, GoesOnDetaching}
use Rattle.varisat_solver.specs.declared.solver.SolverError.TheVariants.{ClauseStoreFull}
use Rattle.varisat_solver.proofs.entries.Targets.{writes-marked, ends-writing, fails-writing, ends-not-full, still-full, same-error, ends-badly-invalid}
use Rattle.varisat_solver.specs.promises.Calls.{Solves, by_state}
use Rattle.varisat_solver.specs.promises.ProofCalls.{with_proof}
use Rattle.varisat_solver.specs.promises.Summaries.{Summary}
use Rattle.varisat_solver.specs.inside.Representations.{Represents}
use Rattle.varisat_solver.proofs.accepting.Additions.{logged-error}
use Rattle.varisat_solver.proofs.steps.SearchRounds.{solve-ends, solve-fails, represents-before}
use Rattle.varisat_solver.proofs.solver.Solver.solve.Goals as goal

pub returns-in_err-end_search-clause-call : goal.returns-in_err-end_search-clause-call
returns-in_err-end_search-clause-call g c s st =
    let (t, k, w) = c.seek-found.ensures.call s (subst (λ (x : Summary). Represents x s) (sym c.begin_search.ensures) st) in
    let valid = subst (λ (x : Summary). x.ledger.valid ≡ true) c.self.view_is (ap not c.if-self.false) in
    let (u, f, z) =
    solve-fails c.seek-found.new.self c.end_search.new.self s t c.seek-found.result c.in_err-end_search.field-0.0 k w valid c.in_err-end_search.ensures
    in (u, subst (λ r. Solves by_state s r u) (sym (logged-error c.from_residual.result c.in_err-end_search.field-0.0 c.from_residual.ensures)) f, z)

pub returns-clause-call : goal.returns-clause-call
returns-clause-call g c s st =
    let (t, k, w) = c.seek-found.ensures.call s (subst (λ (x : Summary). Represents x s) (sym c.begin_search.ensures) st) in
    let valid = subst (λ (x : Summary). x.ledger.valid ≡ true) c.self.view_is (ap not c.if-self.false) in
    solve-ends c.seek-found.new.self c.end_search.new.self s t c.seek-found.result k w valid c.in_ok-end_search.ensures

pub returns-clause-model : goal.returns-clause-model
returns-clause-model g c e s st =
    let valid = subst (λ (x : Summary). x.ledger.valid ≡ true) c.self.view_is (ap not c.if-self.false) in
    let (proof, q) = represents-before c.seek-found.new.self s valid (subst (λ (x : Summary). Represents x s) c.in_ok-end_search.ensures st) in
    c.seek-found.ensures.model e (with_proof proof s) q

pub returns-clause-core : goal.returns-clause-core
returns-clause-core g c e s st =
    let valid = subst (λ (x : Summary). x.ledger.valid ≡ true) c.self.view_is (ap not c.if-self.false) in
    let (proof, q) = represents-before c.seek-found.new.self s valid (subst (λ (x : Summary). Represents x s) c.in_ok-end_search.ensures st) in
    c.seek-found.ensures.core e (with_proof proof s) q

pub returns-then-self-clause-target : goal.returns-then-self-clause-target
returns-then-self-clause-target g c =
    writes-marked c.args.self.now.opened c.seek-found.new.self.opened c.seek-found.result
    (rw c.begin_search.ensures at c.seek-found.ensures.target)

pub returns-in_err-end_search-clause-target : goal.returns-in_err-end_search-clause-target
returns-in_err-end_search-clause-target g c =
    let e = c.in_err-end_search.field-0.0 in
    let valid = subst (λ (x : Summary). x.ledger.valid ≡ true) c.self.view_is (ap not c.if-self.false) in
    let refused = logged-error c.from_residual.result e c.from_residual.ensures in
    rw refused (fails-writing c.args.self.now.opened c.seek-found.new.self c.end_search.new.self e
    (rw c.begin_search.ensures at (c.seek-found.ensures.whole valid)) c.in_err-end_search.ensures)

pub returns-clause-target : goal.returns-clause-target
returns-clause-target g c =
    ends-writing c.args.self.now.opened c.seek-found.new.self c.end_search.new.self c.seek-found.result
    (rw c.begin_search.ensures at c.seek-found.ensures.target) c.in_ok-end_search.ensures

pub returns-in_err-end_search-clause-full : goal.returns-in_err-end_search-clause-full
returns-in_err-end_search-clause-full g c f =
    let e = c.in_err-end_search.field-0.0 in
    absurd (ends-not-full c.seek-found.new.self c.end_search.new.self e c.in_err-end_search.ensures
    (same-error e ClauseStoreFull (sym (logged-error c.from_residual.result e c.from_residual.ensures) ∙ f)))

pub returns-clause-full : goal.returns-clause-full
returns-clause-full g c f = still-full c.seek-found.new.self c.end_search.new.self c.in_ok-end_search.ensures (c.seek-found.ensures.full f)

pub returns-in_err-end_search-clause-leaves : goal.returns-in_err-end_search-clause-leaves
returns-in_err-end_search-clause-leaves g c h v n =
    absurd (ends-badly-invalid c.seek-found.new.self c.end_search.new.self c.in_err-end_search.field-0.0 c.in_err-end_search.ensures v)

pub returns-clause-leaves : goal.returns-clause-leaves
returns-clause-leaves g c h v n =
    let valid = subst (λ (x : Summary). x.ledger.valid ≡ true) c.self.view_is (ap not c.if-self.false) in
    let e = c.in_ok-end_search.ensures in
    let leaves = subst (λ (x : Summary). GoesOnDetaching x c.seek-found.new.self) c.begin_search.ensures c.seek-found.ensures.leaves in
    subst (λ (x : Summary). DetachesInTime x.tables x.search) (sym e) (leaves h valid (λ u. n (ap (λ (x : Summary). x.sat_state) e ∙ u)))
