use Rattle.std.proofs.Common.{false, arith}
use Rattle.varisat_theory.proofs.clauses.Padded.{resized}
use Rattle.varisat_present.proofs.known.reach.Goals as goal

pub returns-in_ok-resize-clause-same : goal.returns-in_ok-resize-clause-same
returns-in_ok-resize-clause-same g c =
    resized false c.args.marks.now.items c.resize.new.self.items _ _ (omega (arith, c.if-code-len.true, c.len.ensures)) (c.in_ok-resize.ensures {u = tt}).items
