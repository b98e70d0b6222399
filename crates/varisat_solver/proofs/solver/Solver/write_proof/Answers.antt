use Rattle.std.proofs.Common.{◌∙◌, Some, Err, not, refl, sym, ap, subst}
use Rattle.varisat_proof.specs.promises.Proving.{ProofParts}
use Rattle.varisat_tracer.specs.inside.Tracing.{CanLog}
use Rattle.varisat_solver.specs.promises.OpenProofs.{first_proof}
use Rattle.varisat_solver.specs.promises.States.{Ledger}
use Rattle.varisat_solver.specs.inside.Representations.{spaces_with, RepresentsSome}
use Rattle.varisat_solver.specs.promises.Calls.{count_anew}
use Rattle.varisat_solver.specs.promises.ProofCalls.{with_proof, OpensProof}
use Rattle.varisat_solver.proofs.calls.ChangeEnds.{represents-invalid}
use Rattle.varisat_solver.proofs.calls.CallStates.{represents-valid}
use Rattle.varisat_solver.proofs.entries.OpenProofs.{first-same, first-written, none-there}
use Rattle.varisat_solver.proofs.calls.SettingsCalls.{represents-with-proof}
use Rattle.varisat_solver.proofs.entries.LoggedJournals.{left-alone}
use Rattle.varisat_solver.proofs.solver.Solver.write_proof.Goals as goal

pub invariant_of-self : goal.invariant_of-self
invariant_of-self g c v =
    let k = c.self.invariant v in
    record {
      kept = k.kept;
      logs = subst CanLog (sym c.write_proof.ensures) (record { room = c.requires; usable = k.logs.usable });
      represents = subst (λ (p : ProofParts). RepresentsSome (spaces_with c.self.inside.tracer.tables p.checker c.self.inside.ctx)
          c.self.inside.started) (sym c.write_proof.ensures) k.represents;
      counts = k.counts;
    }

pub returns : goal.returns
returns g c s st =
    let q = rw (← c.self.view_is) at st in
    let ok = ap not c.in-Ok.ensures in
    let closed = sym c.is_open.ensures ∙ c.if-is_open.false in
    let first = first_proof c.args.format (g.W.ProofTarget.taken c.args.target) in
    let fresh = ap (λ (l : Ledger). l.started) q.ledger ∙ c.if-self.false in (
      count_anew (with_proof (Some first) s),
      (represents-valid _ s q ok, none-there _ s.proof q.same closed, fresh, refl),
      c.begin_count.ensures.call (with_proof (Some first) s) (represents-with-proof c.self.inside.tracer.tables c.self.inside.tracer.proof
          c.write_proof.new.self c.self.inside.started c.self.inside.changed_at c.self.inside.ctx s (Some first)
          (ap (λ (p : ProofParts). p.checker) c.write_proof.ensures)
          (ap (λ (p : ProofParts). p.opened) c.write_proof.ensures ∙ first-same c.args.format (g.W.ProofTarget.taken c.args.target))
          (λ _. first-written s.variables c.args.format (g.W.ProofTarget.taken c.args.target) s.logged (left-alone _ s q ok fresh))
          (λ _. (q.flags ok).assumptions fresh) q),
    )

pub returns-in-Err : goal.returns-in-Err
returns-in-Err g c s st =
    let q = rw (← c.self.view_is) at st in
    let invalid = represents-invalid _ s q (ap not c.in-Err.ensures.1) in (
      s,
      subst (λ e. OpensProof g.W.ProofTarget.taken c.args.target c.args.format s (Err (e, c.args.target)) s) (sym c.in-Err.ensures.0)
          (refl, (invalid, refl)),
      st,
    )
