use Rattle.std.proofs.Common.{arith}
use Rattle.varisat_names.proofs.Tables.{live-inside}
use Rattle.varisat_solver.proofs.usage.retire_if_unused.Goals as goal

pub retire_var_if_unused-requires : goal.retire_var_if_unused-requires
retire_var_if_unused-requires g c =
    let here = live-inside c.args.tracer.now.tables.kept c.args.global c.requires.live in
    let count = c.in_ok-delete_global_if_unused.ensures.deleted.kept.count in
    omega (arith, here, count)
