use Rattle.std.proofs.Common.{get_or, Some, subst, sym, ap, ◌∙◌}
use Rattle.varisat_theory.specs.promises.Literals.{opposite}
use Rattle.varisat_theory.specs.promises.Membership.{◌∈◌}
use Rattle.varisat_theory.proofs.clauses.Places.{∈-get_or}
use Rattle.varisat_plain.proofs.Scans.{refused, granted}
use Rattle.varisat_plain.proofs.ClauseStatuses.{Seen, seen_first, seen_again, seen_false, seen_end_none, seen_end_some}
use Rattle.std.proofs.lemmas.List.{get_or_read}
use Rattle.varisat_present.proofs.clause.status_of.Goals as goal
use Rattle.varisat_present.proofs.clause.status_of.Goals.{then-not-is_false+in-None, then-not-is_false+in-Some+else-m-code, else-not-is_false}

pub returns-then-m-code : goal.returns-then-m-code
returns-then-m-code g c =
    let s : Seen c.args.known.now c.args.clause.now c.loop-l.l-index (Some c.in-Some.m) = rw c.in-Some.is at c.loop-l.invariant in
    let e = get_or_read c.args.clause.now c.loop-l.l-index c.l-item.result c.loop-l-test.true c.l-item.is 0 in (
      c.in-Some.m,
      get_or c.args.clause.now c.loop-l.l-index 0,
      s.0,
      ∈-get_or c.args.clause.now c.loop-l.l-index 0 c.loop-l-test.true,
      (λ q. c.if-m-code.true (q ∙ sym (c.code-code.ensures.code ∙ e))),
      s.1,
      subst (λ x. opposite x ∈ c.args.known.now → ⊥) e
          (refused _ c.is_false.result c.if-not-is_false.true c.is_false.ensures),
    )

pub loop-l-preserved : goal.loop-l-preserved
loop-l-preserved g c =
    let e = get_or_read c.args.clause.now c.loop-l.l-index c.l-item.result c.loop-l-test.true c.l-item.is 0 in
    elim c.if-not-is_false.branch [
      | then-not-is_false+in-None w ↦ seen_first c.args.known.now c.args.clause.now c.loop-l.l-index _ _ w.in-None.is
          (w.left-is ∙ ap Some (w.code-code.ensures.code ∙ e)) c.loop-l-test.true c.loop-l.invariant
          (subst (λ x. opposite x ∈ c.args.known.now → ⊥) e (refused _ c.is_false.result w.if-not-is_false.true c.is_false.ensures))
      | then-not-is_false+in-Some+else-m-code w ↦ seen_again c.args.known.now c.args.clause.now c.loop-l.l-index w.in-Some.m _ _ w.in-Some.is w.left-is
          c.loop-l.invariant (w.if-m-code.false ∙ w.code-code.ensures.code ∙ e)
      | else-not-is_false w ↦ seen_false c.args.known.now c.args.clause.now c.loop-l.l-index _ _ w.left-is c.loop-l.invariant
          (subst (λ x. opposite x ∈ c.args.known.now) e (granted _ c.is_false.result w.if-not-is_false.false c.is_false.ensures))
    ]

pub returns-in-None-left : goal.returns-in-None-left
returns-in-None-left g c = seen_end_none c.args.known.now c.args.clause.now c.loop-l.l-index _ c.in-None-left.is c.loop-l-test.false c.loop-l.invariant

pub returns-in-Some-left : goal.returns-in-Some-left
returns-in-Some-left g c = seen_end_some c.args.known.now c.args.clause.now c.loop-l.l-index _ c.in-Some-left.l c.in-Some-left.is c.loop-l-test.false
    c.loop-l.invariant
