use Rattle.std.proofs.Common.{◌+◌, ◌-◌, ◌/◌, arith}
use Rattle.varisat_theory.proofs.clauses.Padded.{resized}
use Rattle.varisat_names.proofs.variables.number_set.NumberSet.reach.Goals as goal

pub returns-in_ok-resize-clause-same : goal.returns-in_ok-resize-clause-same
returns-in_ok-resize-clause-same g c =
    rw (← c.self.view_is) (resized 0 c.self.inside.words.items c.resize.new.self.items (c.args.number / 64 + 1)
    (c.args.number / 64 + 1 - c.self.inside.words.len) (omega arith) (c.in_ok-resize.ensures {u = tt}).items)
