use Rattle.std.proofs.Common.{ap, subst}
use Rattle.varisat_plain.specs.promises.Checking.{IsAbsent}
use Rattle.varisat_proof.proofs.checker.check.Checker.delete_line.Goals as goal

pub returns-clause-absent : goal.returns-clause-absent
returns-clause-absent g c = λ e. subst (λ x. IsAbsent x c.args.clause.now) (ap (λ h. h.clauses) c.self.view_is) (c.take_out.ensures.absent e)
