use Rattle.std.proofs.Common.{arith}
use Rattle.varisat_theory.proofs.clauses.Padded.{resized}
use Rattle.varisat_rat.proofs.firsts.reach.Goals as goal

pub returns-in_ok-resize-clause-same : goal.returns-in_ok-resize-clause-same
returns-in_ok-resize-clause-same g c =
    resized _ c.args.firsts.now.items c.resize.new.self.items _ _ (omega (arith, c.if-code-len.true, c.len.ensures)) (c.in_ok-resize.ensures {u = tt}).items
