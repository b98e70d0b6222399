use Rattle.std.proofs.Common.{refl}
use Rattle.varisat_proof.proofs.CheckedSteps.{checker_is}
use Rattle.varisat_proof.proofs.checker.check.Checker.check_deleted.Goals as goal

pub returns-then-not-delete_line : goal.returns-then-not-delete_line
returns-then-not-delete_line g c = (
  (c.args.clause.now, refl, c.delete_line.ensures.absent c.if-not-delete_line.true),
  refl,
  checker_is c.delete_line.new.self c.args.self.now
      (c.delete_line.ensures.stays c.if-not-delete_line.true) c.delete_line.ensures.spent,
)
