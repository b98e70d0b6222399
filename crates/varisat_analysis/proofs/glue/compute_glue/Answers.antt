use Rattle.std.proofs.Common.{◌∙◌, arith}
use Rattle.varisat_analysis.specs.Bumps.{level_in}
use Rattle.varisat_analysis.proofs.CountedLevels.{counts-clear}
use Rattle.varisat_analysis.proofs.glue.compute_glue.Goals as goal

pub clear_levels-requires-clause-room : goal.clear_levels-requires-clause-room
clear_levels-requires-clause-room g c l i =
    let r = c.requires.room l i in
    let n = c.flag_levels-count.auto.flags in
    omega (arith, r, n)

pub returns-clause-flags : goal.returns-clause-flags
returns-clause-flags g c =
    counts-clear (level_in c.args.impl_graph.now.nodes.items) c.args.lits.now c.args.flags.now c.flag_levels-count.new.flags c.clear_levels.new.flags
    (c.clear_levels.auto.flags ∙ c.flag_levels-count.auto.flags) c.requires.clear c.flag_levels-count.ensures.only c.clear_levels.ensures.gone
    c.clear_levels.ensures.fewer
