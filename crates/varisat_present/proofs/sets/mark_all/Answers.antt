use Rattle.std.proofs.Common.{subst}
use Rattle.varisat_theory.specs.promises.Membership.{◌∈◌}
use Rattle.varisat_plain.proofs.Scans.{granted}
use Rattle.std.proofs.lemmas.List.{get_or_read}
use Rattle.varisat_present.proofs.Elements.{element_in}
use Rattle.varisat_present.proofs.MarkedLists.{none_marked, marked_before, marked_now, all_marked}
use Rattle.varisat_present.proofs.sets.mark_all.Goals as goal

pub loop-l-init : goal.loop-l-init
loop-l-init g c = none_marked c.args.literals.now c.args.marks.now c.requires

pub loop-l-preserved-then-holds : goal.loop-l-preserved-then-holds
loop-l-preserved-then-holds g c =
    marked_before c.loop-l.l-index c.args.literals.now c.loop-l.marks
    (subst (λ x. x ∈ c.loop-l.marks) (get_or_read c.args.literals.now c.loop-l.l-index c.l-item.result c.loop-l-test.true c.l-item.is 0)
    (granted _ c.holds.result c.if-holds.true c.holds.ensures)) c.loop-l.invariant

pub loop-l-preserved : goal.loop-l-preserved
loop-l-preserved g c =
    marked_now c.loop-l.l-index c.args.literals.now c.loop-l.marks c.push.new.self c.l-item.result
    (get_or_read c.args.literals.now c.loop-l.l-index c.l-item.result c.loop-l-test.true c.l-item.is 0)
    (element_in c.args.literals.now c.loop-l.l-index c.l-item.result c.loop-l-test.true c.l-item.is)
    c.in_ok-push.ensures c.loop-l.invariant

pub returns : goal.returns
returns g c = all_marked c.loop-l.l-index c.args.literals.now c.loop-l.marks c.loop-l-test.false c.loop-l.invariant
