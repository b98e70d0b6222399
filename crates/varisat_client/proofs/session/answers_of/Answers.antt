use Rattle.std.proofs.Common.{refl}
use Rattle.varisat.proofs.Histories.{of-ok}
use Rattle.varisat_client.specs.promises.Pasts.{empty_client_past}
use Rattle.varisat_client.specs.promises.Given.{none_given}
use Rattle.varisat_client.proofs.Given.{are-decided}
use Rattle.varisat_client.proofs.session.answers_of.Goals as goal

pub returns-clause-truth : goal.returns-clause-truth
returns-clause-truth g c = of-ok c.run-answers.result _ _
    (λ answers h. let (q, r, w) = h empty_client_past c.new_in-client.ensures in (q, r)) c.run-answers.ensures.run

pub returns-clause-decided : goal.returns-clause-decided
returns-clause-decided g c = of-ok c.run-answers.result _ _
    (λ answers h. let (q, r, w) = h empty_client_past c.new_in-client.ensures in are-decided empty_client_past q none_given c.args.calls.items answers.items r (λ _. refl))
    c.run-answers.ensures.run
