use Rattle.varisat_proof.proofs.DratCheck.{deletion_line}
use Rattle.varisat_proof.proofs.checker.drat.take_deleted.Goals as goal

pub returns : goal.returns
returns g c = λ n.
    deletion_line c.args.clauses.now c.take_out_spare.new.self c.args.clause.now c.in_ok-deletion.deletion (c.in_ok-deletion.ensures.told n)
