use Rattle.std.proofs.Common.{subst}
use Rattle.varisat_theory.specs.promises.Membership.{◌∈◌}
use Rattle.std.proofs.lemmas.List.{get_or_read}
use Rattle.varisat_present.proofs.Elements.{element_in}
use Rattle.varisat_plain.proofs.Scans.{answers_true, answers_false, refused, granted, part_more, part_all}
use Rattle.varisat_present.proofs.clause.is_part.Goals as goal

pub returns-then-not-holds : goal.returns-then-not-holds
returns-then-not-holds c =
    answers_false _ (λ s. refused _ c.holds.result c.if-not-holds.true c.holds.ensures
    (s c.l-item.result (element_in c.args.part.now c.loop-l.l-index c.l-item.result c.loop-l-test.true c.l-item.is)))

pub loop-l-preserved : goal.loop-l-preserved
loop-l-preserved c =
    part_more c.args.part.now c.args.clause.now c.loop-l.l-index c.loop-l.invariant
    (subst (λ x. x ∈ c.args.clause.now) (get_or_read c.args.part.now c.loop-l.l-index c.l-item.result c.loop-l-test.true c.l-item.is 0)
    (granted _ c.holds.result c.if-not-holds.false c.holds.ensures))

pub returns : goal.returns
returns c = answers_true _ (part_all c.args.part.now c.args.clause.now c.loop-l.l-index c.loop-l-test.false c.loop-l.invariant)
