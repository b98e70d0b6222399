use Rattle.varisat_theory.proofs.clauses.Growth.{covered_by_more, covered_by_part}
use Rattle.varisat_theory.proofs.clauses.Held.{same_clauses_cover}
use Rattle.varisat_theory.proofs.laws.growth.more_covers.Goals as goal

pub returns : goal.returns
returns c = (covered_by_more, covered_by_part, same_clauses_cover)
