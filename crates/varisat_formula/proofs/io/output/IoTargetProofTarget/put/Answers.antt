use Rattle.std.proofs.lemmas.Grind.{common_steps}
use Rattle.std.proofs.Common.{arith}
use Rattle.varisat_formula.proofs.io.output.IoTargetProofTarget.put.Goals as goal

pub returns-in-Ok-clause-writes : goal.returns-in-Ok-clause-writes
returns-in-Ok-clause-writes g c = rw (← c.self.view_is) (c.write_bytes-done.result.0, c.then-self-inside.ensures, c.write_bytes-done.ensures.grows)

pub returns-in-Err-clause-writes : goal.returns-in-Err-clause-writes
returns-in-Err-clause-writes g c = rw (← c.self.view_is) (c.write_bytes-done.result.0, c.then-self-inside.ensures, c.write_bytes-done.ensures.grows)

pub returns-in-Err-clause-begun : goal.returns-in-Err-clause-begun
returns-in-Err-clause-begun g c = rw (← c.self.view_is) (c.write_bytes-done.result.0, c.then-self-inside.ensures)

pub returns-in-Ok-clause-whole : goal.returns-in-Ok-clause-whole
returns-in-Ok-clause-whole g c = grind (arith, common_steps)
