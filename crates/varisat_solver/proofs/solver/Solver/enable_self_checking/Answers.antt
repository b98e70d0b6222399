use Rattle.std.proofs.Common.{◌∙◌, not, refl, ap, sym, subst}
use Rattle.std.specs.Option.{IsSome}
use Rattle.varisat_solver.specs.promises.States.{Ledger}
use Rattle.varisat_solver.specs.promises.Summaries.{Summary}
use Rattle.varisat_solver.specs.promises.Calls.{count_anew}
use Rattle.varisat_solver.specs.promises.ProofCalls.{EnablesChecking}
use Rattle.varisat_solver.proofs.calls.CallStates.{represents-valid}
use Rattle.varisat_solver.proofs.calls.SettingsCalls.{begun-or-on, some-there, logs-checking, some-checking, with_checking, represents-checking}
use Rattle.varisat_solver.proofs.calls.ChangeEnds.{represents-invalid, invalid-logged}
use Rattle.varisat_solver.proofs.solver.Solver.enable_self_checking.Goals as goal

pub invariant_of-self : goal.invariant_of-self
invariant_of-self g c v =
    let k = c.self.invariant v in
    let p = c.self.inside.tracer.proof in
    let q = c.begin_checking.new.self in
    let (e, runs) = begun-or-on p q c.begin_checking.ensures.begun c.begin_checking.ensures.stays in
    record {
      kept = k.kept;
      logs = logs-checking p q e k.logs;
      represents = some-checking c.self.inside.tracer.tables p q c.self.inside.ctx c.self.inside.started e c.if-is_late.false k.represents;
      counts = k.counts;
    }

pub returns-clause-call : goal.returns-clause-call
returns-clause-call g c s st =
    let q = rw (← c.self.view_is) at st in
    let ok = ap not c.in_ok-ensure_valid.ensures in
    let fresh = ap (λ (l : Ledger). l.started) q.ledger ∙ c.if-is_late.false in
    let (e, runs) = begun-or-on c.self.inside.tracer.proof c.begin_checking.new.self c.begin_checking.ensures.begun c.begin_checking.ensures.stays in (
      count_anew (with_checking s),
      (represents-valid _ s q ok, fresh, refl),
      c.begin_count.ensures.call (with_checking s) (represents-checking c.self.inside.tracer.tables c.self.inside.tracer.proof
          c.begin_checking.new.self c.self.inside.started c.self.inside.changed_at c.self.inside.ctx s e
          (some-there c.begin_checking.new.self.checker runs) fresh q),
    )

pub returns-clause-runs : goal.returns-clause-runs
returns-clause-runs g c h =
    let runs = (begun-or-on c.self.inside.tracer.proof c.begin_checking.new.self c.begin_checking.ensures.begun c.begin_checking.ensures.stays).1 in
    subst (λ (x : Summary). IsSome x.checker) (sym c.begin_count.ensures.frame) runs

pub returns-in_err-ensure_valid-clause-call : goal.returns-in_err-ensure_valid-clause-call
returns-in_err-ensure_valid-clause-call g c s st =
    let q = rw (← c.self.view_is) at st in
    let refused = invalid-logged c.from_residual.result c.in_err-ensure_valid.field-0.0 c.from_residual.ensures c.in_err-ensure_valid.ensures.0 in
    (s, subst (λ r. EnablesChecking s r s) (sym refused) (represents-invalid _ s q (ap not c.in_err-ensure_valid.ensures.1), refl), st)
