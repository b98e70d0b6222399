-- The calls of a new solver, each from the state that the one before leads to.
use Rattle.std.proofs.Common.{sym, ap, ◌∙◌, subst}
use Rattle.varisat_solver.specs.promises.States.{Ledger}
use Rattle.varisat_solver.specs.inside.Representations.{Represents}
use Rattle.varisat_solver.specs.promises.Calls.{with_max_steps}
use Rattle.varisat.specs.promises.Decided.{allowed_steps, concluded}
use Rattle.varisat.specs.promises.Proven.{prepared}
use Rattle.varisat_steps.proofs.Broken.{passed-on}
use Rattle.varisat.proofs.ProgramProves.{finds-valid}
use Rattle.varisat_solver.proofs.entries.LoggedJournals.{proof-of}
use Rattle.varisat_solve.proofs.LimitedSteps.{adds-within}
use Rattle.varisat_solve.specs.promises.Solving.{FailsOver, AsAdded, AsClosed}
use Rattle.varisat_solve.proofs.DecidedBehind.{concluded-of, fails-reported}
use Rattle.varisat_solve.proofs.deciding.decide_in.Goals as goal

pub returns-in_err-add_formula-clause-fails : goal.returns-in_err-add_formula-clause-fails
returns-in_err-add_formula-clause-fails g c =
    let taken = g.W.ProofTarget.taken in
    let o = c.args.options in
    let s = prepared taken o.format o.check c.args.max_steps.now c.args.target.now in
    let x = subst (λ t. Represents c.prepare.new.solver (prepared taken o.format o.check c.args.max_steps.now t)) c.take.ensures.value c.prepare.ensures in
    let (t, a, y) = (c.in_err-add_formula.ensures {u = tt}).call s x in
    passed-on c.from_residual.result c.in_err-add_formula.field-0.0 (λ e. FailsOver taken s _ e) c.from_residual.ensures (AsAdded t a)

pub returns-in_err-report-clause-fails : goal.returns-in_err-report-clause-fails
returns-in_err-report-clause-fails g c =
    let taken = g.W.ProofTarget.taken in
    let o = c.args.options in
    let last = c.find_within.new.max_steps in
    let x = subst (λ t. Represents c.prepare.new.solver (prepared taken o.format o.check c.args.max_steps.now t)) c.take.ensures.value c.prepare.ensures in
    let (t, a, y) = (c.in_ok-add_formula.ensures {u = tt}).call (prepared taken o.format o.check c.args.max_steps.now c.args.target.now) x in
    let (u, f, z) = (c.in_err-report.ensures {u = tt}).found t y in
    let b = adds-within taken o.format o.check c.args.max_steps.now last c.args.target.now _ t a in
    passed-on c.from_residual-in_err-report.result c.in_err-report.field-0.0
    (λ e. FailsOver taken (prepared taken o.format o.check last c.args.target.now) _ e) c.from_residual-in_err-report.ensures
    (fails-reported g.row.A.Denot taken _ _ (with_max_steps (allowed_steps last) t) u c.in_err-report.field-0.0 b f)

pub returns-in_err-back-clause-fails : goal.returns-in_err-back-clause-fails
returns-in_err-back-clause-fails g c =
    let taken = g.W.ProofTarget.taken in
    let o = c.args.options in
    let last = c.find_within.new.max_steps in
    let x = subst (λ t. Represents c.prepare.new.solver (prepared taken o.format o.check c.args.max_steps.now t)) c.take.ensures.value c.prepare.ensures in
    let (t, a, y) = (c.in_ok-add_formula.ensures {u = tt}).call (prepared taken o.format o.check c.args.max_steps.now c.args.target.now) x in
    let (u, f, z) = (c.in_ok-report.ensures {u = tt}).found t y in
    let b = adds-within taken o.format o.check c.args.max_steps.now last c.args.target.now _ t a in
    let (back, v, d) = c.in_err-back.ensures.fails u z in
    passed-on c.from_residual-in_err-back.result c.in_err-back.field-0.0
    (λ e. FailsOver taken (prepared taken o.format o.check last c.args.target.now) _ e) c.from_residual-in_err-back.ensures
    (AsClosed (with_max_steps (allowed_steps last) t) u v (concluded c.in_ok-report.report) back b f d)

pub returns-clause-decided : goal.returns-clause-decided
returns-clause-decided g c =
    let taken = g.W.ProofTarget.taken in
    let o = c.args.options in
    let last = c.find_within.new.max_steps in
    let x = subst (λ t. Represents c.prepare.new.solver (prepared taken o.format o.check c.args.max_steps.now t)) c.take.ensures.value c.prepare.ensures in
    let (t, a, y) = (c.in_ok-add_formula.ensures {u = tt}).call (prepared taken o.format o.check c.args.max_steps.now c.args.target.now) x in
    let (u, f, z) = (c.in_ok-report.ensures {u = tt}).found t y in
    let b = adds-within taken o.format o.check c.args.max_steps.now last c.args.target.now _ t a in
    let report = concluded c.in_ok-report.report in
    let limited = with_max_steps (allowed_steps last) t in
    let valid = finds-valid limited u report f in
    let ok = ap (λ (l : Ledger). l.valid) (sym z.ledger) ∙ valid in
    concluded-of taken o.format o.check last _ c.args.target.now c.in_ok-back.back limited u report _ c.requires.low c.requires.few b f
    (proof-of _ u z ok) z.same c.in_ok-back.ensures.handed

pub returns-clause-searched : goal.returns-clause-searched
returns-clause-searched g c =
    let taken = g.W.ProofTarget.taken in
    let o = c.args.options in
    let last = c.find_within.new.max_steps in
    let x = subst (λ t. Represents c.prepare.new.solver (prepared taken o.format o.check c.args.max_steps.now t)) c.take.ensures.value c.prepare.ensures in
    let (t, a, y) = (c.in_ok-add_formula.ensures {u = tt}).call (prepared taken o.format o.check c.args.max_steps.now c.args.target.now) x in
    let (u, f, z) = (c.in_ok-report.ensures {u = tt}).found t y in
    (with_max_steps (allowed_steps last) t, u, adds-within taken o.format o.check c.args.max_steps.now last c.args.target.now _ t a, f)
