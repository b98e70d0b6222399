use Rattle.std.proofs.Common.{sym, ◌∙◌}
use Rattle.varisat_database.proofs.ListLemmas.{item_at}
use Rattle.varisat_rules.proofs.ResolveLemmas.{granted}
use Rattle.varisat_rules.proofs.DeriveLemmas.{read_more, read_first, read_false, read_one}
use Rattle.varisat_rules.proofs.derive.read.Goals as goal
use Rattle.varisat_rules.proofs.derive.read.Goals.{then-not-holds+else-is_some, else-not-holds}

pub loop-lit-preserved : goal.loop-lit-preserved
loop-lit-preserved c =
    let at = item_at c.args.clause.now c.loop-lit.lit-index c.lit-item.result c.loop-lit-test.true c.lit-item.is in
    elim c.if-not-holds.branch [
      | then-not-holds+else-is_some w ↦ read_first c.args.clause.now c.args.falses.now c.loop-lit.lit-index c.lit-item.result c.loop-lit.left
          c.if-not-holds.left w.left-is (sym w.is_some.ensures ∙ w.if-is_some.false) c.loop-lit-test.true at c.loop-lit.invariant
      | else-not-holds w ↦ read_more c.args.clause.now c.args.falses.now c.loop-lit.lit-index c.lit-item.result c.loop-lit.left c.if-not-holds.left
          w.left-is at (granted _ c.holds.result w.if-not-holds.false c.holds.ensures) c.loop-lit.invariant
    ]

pub returns-in-None : goal.returns-in-None
returns-in-None c =
    read_false c.args.clause.now c.args.falses.now c.loop-lit.lit-index c.loop-lit.left c.in-None.is c.loop-lit-test.false c.loop-lit.invariant

pub returns-in-Some : goal.returns-in-Some
returns-in-Some c =
    read_one c.args.clause.now c.args.falses.now c.loop-lit.lit-index c.in-Some.lit c.loop-lit.left c.in-Some.is c.loop-lit-test.false
    c.loop-lit.invariant
