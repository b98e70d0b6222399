use Rattle.std.proofs.Common.{subst}
use Rattle.varisat_calls.specs.Checks.{ReturnsCheck}
use Rattle.varisat_calls.proofs.checks.check_texts.Goals as goal

pub returns-clause-returns : goal.returns-clause-returns
returns-clause-returns g c =
    subst (λ f. ReturnsCheck f c.args.text.now c.args.proof.now c.check_with-returned.result.number c.check_with-returned.result.place)
    c.in-Some.ensures c.check_with-returned.ensures.returns
