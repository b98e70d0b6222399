use Rattle.varisat_formula.proofs.io.MemoryTargetProofTarget.put.Goals as goal

pub returns-in-Ok-clause-whole : goal.returns-in-Ok-clause-whole
returns-in-Ok-clause-whole g c = rw (← c.self.view_is) c.in-Ok.ensures.items
