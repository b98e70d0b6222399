use Rattle.std.proofs.Common.{get_or}
use Rattle.varisat_theory.proofs.clauses.Places.{∈-get_or}
use Rattle.varisat_plain.proofs.Scans.{answers_true, answers_false, refused, granted, part_more, part_all}
use Rattle.varisat_plain.proofs.checker.is_part.Goals as goal

pub returns-then-not-holds : goal.returns-then-not-holds
returns-then-not-holds c =
    answers_false _ (λ s. refused _ c.holds.result c.if-not-holds.true c.holds.ensures
    (s (get_or c.args.part.now c.loop-l.l-index 0) (∈-get_or c.args.part.now c.loop-l.l-index 0 c.loop-l-test.true)))

pub loop-l-preserved : goal.loop-l-preserved
loop-l-preserved c =
    part_more c.args.part.now c.args.clause.now c.loop-l.l-index c.loop-l.invariant (granted _ c.holds.result c.if-not-holds.false c.holds.ensures)

pub returns : goal.returns
returns c = answers_true _ (part_all c.args.part.now c.args.clause.now c.loop-l.l-index c.loop-l-test.false c.loop-l.invariant)
