use Rattle.std.proofs.Common.{nat_lt, refl}
use Rattle.varisat_solver.specs.inside.Accepting.{naming_of}
use Rattle.varisat_solver.proofs.accepting.NamesComing.{limit-decides}
use Rattle.varisat_solver.proofs.name_checks.passes_limit.Goals as goal

pub returns : goal.returns
returns g c = limit-decides (nat_lt c.max_count.result c.args.watermark) c.args._clause.now (naming_of c.args._variables.now) c.max_count.result
    c.args.watermark refl c.max_count.ensures c.requires.watermark c.requires.bounded.users
