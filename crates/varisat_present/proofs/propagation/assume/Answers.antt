use Rattle.std.proofs.Common.{subst, take}
use Rattle.varisat_theory.specs.promises.Membership.{◌∈◌}
use Rattle.varisat_plain.proofs.Scans.{refused, granted}
use Rattle.std.proofs.lemmas.List.{get_or_read}
use Rattle.varisat_present.proofs.Elements.{element_in}
use Rattle.varisat_present.proofs.KnownGrowth.{assumed_start, assumed_known, assumed_more, assumes_clash, assumes_all}
use Rattle.varisat_present.proofs.propagation.assume.Goals as goal

pub loop-l-init : goal.loop-l-init
loop-l-init g c = assumed_start c.args.known.now c.args.base.now c.requires

pub returns-then-is_false : goal.returns-then-is_false
returns-then-is_false g c =
    assumes_clash c.args.known.now c.args.base.now (take c.loop-l.l-index c.args.base.now) c.loop-l.known c.l-item.result
    (element_in c.args.base.now c.loop-l.l-index c.l-item.result c.loop-l-test.true c.l-item.is)
    (granted _ c.is_false.result c.if-is_false.true c.is_false.ensures) c.loop-l.invariant

pub loop-l-preserved-then-holds : goal.loop-l-preserved-then-holds
loop-l-preserved-then-holds g c =
    assumed_known c.args.known.now c.args.base.now c.loop-l.known c.loop-l.l-index
    (subst (λ x. x ∈ c.loop-l.known) (get_or_read c.args.base.now c.loop-l.l-index c.l-item.result c.loop-l-test.true c.l-item.is 0)
    (granted _ c.holds.result c.if-holds.true c.holds.ensures)) c.loop-l.invariant

pub loop-l-preserved : goal.loop-l-preserved
loop-l-preserved g c =
    assumed_more c.args.known.now c.args.base.now c.loop-l.known c.push.new.self c.loop-l.l-index c.l-item.result
    (get_or_read c.args.base.now c.loop-l.l-index c.l-item.result c.loop-l-test.true c.l-item.is 0)
    (element_in c.args.base.now c.loop-l.l-index c.l-item.result c.loop-l-test.true c.l-item.is)
    (refused _ c.is_false.result c.if-is_false.false c.is_false.ensures) c.in_ok-push.ensures c.loop-l.invariant

pub returns : goal.returns
returns g c = assumes_all c.args.known.now c.args.base.now c.loop-l.known c.loop-l.l-index c.loop-l-test.false c.loop-l.invariant
