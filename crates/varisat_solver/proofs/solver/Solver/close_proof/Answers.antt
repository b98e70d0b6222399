use Rattle.std.proofs.Common.{◌≡◌, ◌∙◌, length, None, Ok, Err, true, false, not, refl, sym, ap, subst}
use Rattle.std.specs.declared.io.Error.{Error}
use Rattle.varisat_proof.specs.promises.Proving.{ProofParts, is_there, IsClosed}
use Rattle.varisat_tracer.specs.inside.Tracing.{tracer_state, CanLog}
use Rattle.varisat_solver.specs.promises.OpenProofs.{opened_state}
use Rattle.varisat_solver.specs.declared.solver.SolverError.{SolverError}
use Rattle.varisat_solver.specs.declared.solver.SolverError.TheVariants.{ProofIoError}
use Rattle.varisat_solver.specs.promises.States.{Ledger}
use Rattle.varisat_solver.specs.promises.Summaries.{Summary}
use Rattle.varisat_solver.specs.inside.Representations.{spaces_with, RepresentsSome}
use Rattle.varisat_solver.specs.promises.Calls.{count_anew}
use Rattle.varisat_solver.specs.promises.ProofCalls.{with_proof, ClosesProof}
use Rattle.varisat_solver.proofs.calls.CallStates.{represents-valid, broken, broken-invalid}
use Rattle.varisat_solver.proofs.calls.ChangeEnds.{represents-broken}
use Rattle.varisat_solver.proofs.entries.OpenProofs.{closed-back, closed-fails}
use Rattle.varisat_solver.proofs.calls.SettingsCalls.{represents-with-proof}
use Rattle.varisat_solver.proofs.entries.LoggedJournals.{proof-of}
use Rattle.varisat_solver.proofs.solver.Solver.close_proof.Goals as goal

pub close_proof-requires : goal.close_proof-requires
close_proof-requires g c = (c.self.invariant c.if-self.false).logs.room

pub invariant_of-self-in-Ok : goal.invariant_of-self-in-Ok
invariant_of-self-in-Ok g c v =
    let k = c.self.invariant v in
    record {
      kept = k.kept;
      logs = subst CanLog (sym c.close_proof.ensures.closed) (record { room = tt; usable = k.logs.usable });
      represents = subst (λ (p : ProofParts). RepresentsSome (spaces_with c.self.inside.tracer.tables p.checker c.self.inside.ctx)
          c.self.inside.started) (sym c.close_proof.ensures.closed) k.represents;
      counts = k.counts;
    }

pub returns-in-Ok-clause-call : goal.returns-in-Ok-clause-call
returns-in-Ok-clause-call g c s st =
    let q = rw (← c.self.view_is) at st in
    let ok = ap not c.if-self.false in (
      count_anew (with_proof None s),
      (
        closed-back Error SolverError g.W.ProofTarget.taken (opened_state s.proof) c.in-Ok.target
            (subst (λ o. IsClosed {E = Error} g.W.ProofTarget.taken o (Ok c.in-Ok.target)) q.same c.in-Ok.ensures.taken),
        (λ _. proof-of _ s q ok),
        refl,
      ),
      c.begin_count-in-Ok.ensures.call (with_proof None s) (represents-with-proof c.self.inside.tracer.tables c.self.inside.tracer.proof
          c.close_proof.new.proof c.self.inside.started c.self.inside.changed_at c.self.inside.ctx s None
          (ap (λ (p : ProofParts). p.checker) c.close_proof.ensures.closed)
          (ap (λ (p : ProofParts). p.opened) c.close_proof.ensures.closed) (λ _. tt) (λ (p, e, b). absurd cc) q),
    )

pub returns-in-Ok-clause-closed : goal.returns-in-Ok-clause-closed
returns-in-Ok-clause-closed g c =
    ap (λ (x : Summary). x.opened) c.begin_count-in-Ok.ensures.frame ∙ ap (λ (p : ProofParts). p.opened) c.close_proof.ensures.closed

pub returns-in-Ok-clause-handed : goal.returns-in-Ok-clause-handed
returns-in-Ok-clause-handed g c = rw (← c.self.view_is) (closed-back Error SolverError g.W.ProofTarget.taken _ c.in-Ok.target c.in-Ok.ensures.taken)

pub returns-in-Err-clause-handed : goal.returns-in-Err-clause-handed
returns-in-Err-clause-handed g c =
    rw (← c.self.view_is) (closed-fails g.W.ProofTarget.taken _ c.in-Err.cause c.invalidate.result c.in-Err.target c.in-Err.ensures.taken)

pub returns-in-Err-clause-call : goal.returns-in-Err-clause-call
returns-in-Err-clause-call g c s st =
    let q = rw (← c.self.view_is) at st in
    let ok = ap not c.if-self.false in
    let inside = c.self.inside in
    let words = length inside.ctx.clause_alloc.words in
    let none = c.close_proof.ensures.closed in
    let closed = subst (λ o. IsClosed g.W.ProofTarget.taken o (Err (c.in-Err.cause, c.in-Err.target))) q.same c.in-Err.ensures.taken in (
      broken None words s,
      subst (λ e. ClosesProof g.W.ProofTarget.taken s (Err (e, c.in-Err.target)) (broken None words s)) (sym c.invalidate.ensures.logged) (
        closed-fails g.W.ProofTarget.taken (opened_state s.proof) c.in-Err.cause
            (ProofIoError c.in-Err.cause) c.in-Err.target closed,
        proof-of _ s q ok,
        broken-invalid 0 (with_proof None s) None words (represents-valid _ s q ok) (refl, refl),
      ),
      represents-broken (tracer_state inside.tracer) (record { tables = inside.tracer.tables; proof = c.close_proof.new.proof }) inside.started
          inside.changed_at inside.changed_at inside.ctx inside.ctx c.invalidate.new.ctx s None q c.invalidate.ensures.invalid refl refl refl
          (ap (λ (p : ProofParts). is_there p.checker) none) (ap (λ (p : ProofParts). p.opened) none),
    )

-- The solver is invalid: the target comes back as it is.
pub returns-then-self-clause-call : goal.returns-then-self-clause-call
returns-then-self-clause-call g c s st =
    let q = rw (← c.self.view_is) at st in (
      count_anew (with_proof None s),
      (
        closed-back (Unit {0}) SolverError g.W.ProofTarget.taken (opened_state s.proof) c.take_target-target.result
            (subst (λ o. IsClosed {E = Unit {0}} g.W.ProofTarget.taken o (Ok c.take_target-target.result)) q.same c.take_target-target.ensures.taken),
        (λ v. absurd (let z : false ≡ true = ap not (sym c.if-self.true) ∙ ap (λ (l : Ledger). l.valid) (sym q.ledger) ∙ v in cc)),
        refl,
      ),
      c.begin_count.ensures.call (with_proof None s) (represents-with-proof c.self.inside.tracer.tables c.self.inside.tracer.proof
          c.take_target-target.new.proof c.self.inside.started c.self.inside.changed_at c.self.inside.ctx s None
          (ap (λ (p : ProofParts). p.checker) c.take_target-target.ensures.closed)
          (ap (λ (p : ProofParts). p.opened) c.take_target-target.ensures.closed)
          (λ v. absurd (let z : false ≡ true = ap not (sym c.if-self.true) ∙ v in cc)) (λ (p, e, b). absurd cc) q),
    )

pub returns-then-self-clause-closed : goal.returns-then-self-clause-closed
returns-then-self-clause-closed g c =
    ap (λ (x : Summary). x.opened) c.begin_count.ensures.frame ∙ ap (λ (p : ProofParts). p.opened) c.take_target-target.ensures.closed
