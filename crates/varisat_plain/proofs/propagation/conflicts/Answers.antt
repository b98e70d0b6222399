use Rattle.std.proofs.Common.{◌≡◌, ℕ, ◌+◌, List, length, take, sym, ap, ◌∙◌, subst, arith}
use Rattle.varisat_theory.specs.promises.Membership.{◌∈◌}
use Rattle.varisat_plain.specs.promises.Checking.{clause_lists}
use Rattle.varisat_theory.specs.promises.Propagation.{Clash}
use Rattle.varisat_plain.proofs.Scans.{answers_true, answers_false, refused, granted, list_in, list_at, lists_short}
use Rattle.varisat_plain.proofs.PropagationRounds.{reaches_false, reaches_end, round_pass, round_write, quiet_known, quiet_open, leaves_along, all_complete}
use Rattle.varisat_plain.proofs.propagation.conflicts.Goals as goal
use Rattle.varisat_plain.proofs.propagation.conflicts.Goals.{in-Leaves+then-not-holds+in_ok-push-in-Leaves, in-Leaves+else-not-holds, in-Open}

pub returns-then-has_clash : goal.returns-then-has_clash
returns-then-has_clash c =
    answers_true _ (let w = granted _ c.has_clash.result c.if-has_clash.true c.has_clash.ensures in Clash w.0 w.1 w.2)

pub returns-in-False : goal.returns-in-False
returns-in-False c =
    answers_true _ (reaches_false _ c.args.base.now c.loop-clause.known.items c.deref.result.now c.deref-in-loop-clause.result.now
    c.deref.ensures.value c.loop-clause.invariant.reaches
    (list_in c.args.clauses.now c.loop-clause.clause-index c.clause-item.result c.deref-in-loop-clause.result.now c.loop-clause-test.true
    c.clause-item.is c.deref-in-loop-clause.ensures.value) c.in-False.ensures)

pub loop-clause-preserved : goal.loop-clause-preserved
loop-clause-preserved c =
    let there = list_in c.args.clauses.now c.loop-clause.clause-index c.clause-item.result c.deref-in-loop-clause.result.now c.loop-clause-test.true
    c.clause-item.is c.deref-in-loop-clause.ensures.value in
    let at = list_at c.args.clauses.now c.loop-clause.clause-index c.clause-item.result c.deref-in-loop-clause.result.now c.loop-clause-test.true
    c.clause-item.is c.deref-in-loop-clause.ensures.value in
    elim c.match-status_of.branch [
      | in-Leaves+then-not-holds+in_ok-push-in-Leaves w ↦ round_write
          (clause_lists c.args.clauses.now) c.args.base.now c.rounds.known.items c.loop-clause.known.items c.match-status_of.known.items
          (take c.loop-clause.clause-index (clause_lists c.args.clauses.now))
          (take (c.loop-clause.clause-index + 1) (clause_lists c.args.clauses.now)) c.deref-in-loop-clause.result.now w.in-Leaves.l there
          (λ h. refused _ w.holds.result w.if-not-holds.true w.holds.ensures
          (subst (λ (k : List ℕ). w.in-Leaves.l ∈ k) (sym w.deref-in-Leaves.ensures.value) h))
          (ap (λ v. v.items) w.known-is ∙ w.in_ok-push-in-Leaves.ensures.items) c.loop-clause.invariant
          (leaves_along c.loop-clause.known.items c.deref.result.now c.deref-in-loop-clause.result.now w.in-Leaves.l
          c.deref.ensures.value w.in-Leaves.ensures)
      | in-Leaves+else-not-holds w ↦ round_pass (clause_lists c.args.clauses.now) c.args.base.now c.rounds.known.items c.loop-clause.known.items
          c.match-status_of.known.items c.loop-clause.clause-index c.deref-in-loop-clause.result.now at
          (ap (λ v. v.items) w.known-is) c.loop-clause.invariant
          (quiet_known c.loop-clause.known.items c.deref.result.now c.deref-in-loop-clause.result.now w.in-Leaves.l c.deref.ensures.value
          (subst (λ (k : List ℕ). w.in-Leaves.l ∈ k) w.deref-in-Leaves.ensures.value
          (granted _ w.holds.result w.if-not-holds.false w.holds.ensures)) w.in-Leaves.ensures)
      | in-Open w ↦ round_pass (clause_lists c.args.clauses.now) c.args.base.now c.rounds.known.items c.loop-clause.known.items
          c.match-status_of.known.items c.loop-clause.clause-index c.deref-in-loop-clause.result.now at
          (ap (λ v. v.items) w.known-is) c.loop-clause.invariant
          (quiet_open c.loop-clause.known.items c.deref.result.now c.deref-in-loop-clause.result.now c.deref.ensures.value w.in-Open.ensures)
    ]

pub returns-then-len-before : goal.returns-then-len-before
returns-then-len-before c =
    let same : length c.loop-clause.known.items ≡ length c.rounds.known.items = omega arith in
    answers_false _ (reaches_end (clause_lists c.args.clauses.now) c.args.base.now c.loop-clause.known.items c.loop-clause.invariant.reaches
    (all_complete (clause_lists c.args.clauses.now) c.loop-clause.known.items c.loop-clause.clause-index
    (lists_short c.args.clauses.now c.loop-clause.clause-index c.loop-clause-test.false) (c.loop-clause.invariant.quiet same)))
