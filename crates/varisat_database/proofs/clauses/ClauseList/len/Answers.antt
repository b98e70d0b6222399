use Rattle.std.proofs.Common.{arith}
use Rattle.varisat_database.proofs.CutLemmas.{cut_length}
use Rattle.varisat_database.proofs.clauses.ClauseList.len.Goals as goal

pub returns : goal.returns
returns g c =
    rw (← c.self.view_is) (let d = c.self.inside.ends.ok.0 in let e = cut_length 0 c.self.inside.ends.items c.self.inside.literals.items in omega (arith, d, e))
