use Rattle.varisat_proof.proofs.CheckedLines.{state_is, absent_status}
use Rattle.std.proofs.Common.{refl}
use Rattle.varisat_proof.specs.promises.Marked.{state_of}
use Rattle.varisat_proof.proofs.checker.check.Checker.take_strict_line.Goals as goal

pub returns-then-not-delete_line-clause-status : goal.returns-then-not-delete_line-clause-status
returns-then-not-delete_line-clause-status g c =
    absent_status (state_of c.args.self.now.clauses c.args.builder.now) (state_of c.delete_line.new.self.clauses c.args.builder.now) c.args.kind
    c.args.clause.now c.in-Deletes.is (c.delete_line.ensures.absent c.if-not-delete_line.true)
    (state_is _ _ _ _ (c.delete_line.ensures.stays c.if-not-delete_line.true) refl)
