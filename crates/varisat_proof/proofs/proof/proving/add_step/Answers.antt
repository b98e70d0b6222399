use Rattle.varisat_steps.specs.Traces.{entries_of}
use Rattle.varisat_proof.specs.promises.Proving.{ProofParts}
use Rattle.varisat_proof.proofs.LoggedSteps.{tells-ok, tells-spent}
use Rattle.varisat_proof.proofs.proof.proving.add_step.Goals as goal
use Rattle.varisat_proof.proofs.proof.proving.add_step.Goals.{in-Ok, in-Err}

pub returns : goal.returns
returns g c =
    let old : ProofParts = record { opened = c.proof.inside.open; checker = c.proof.inside.checker } in
    let new : ProofParts = record { opened = c.write_step_if.new.opened; checker = c.check_step_if.new.checker } in
    elim c.match-check_step_if.branch [
      | in-Ok w ↦ tells-ok c.args.proof.now old new (entries_of c.args.step.now) c.match-check_step_if.result c.proof.view_is w.result-is
          c.in_ok-write_step_if.ensures w.in-Ok.ensures.taken
      | in-Err w ↦ tells-spent c.args.proof.now old new (entries_of c.args.step.now) c.match-check_step_if.result c.proof.view_is w.result-is
          c.in_ok-write_step_if.ensures w.in-Err.ensures.spent
    ]
