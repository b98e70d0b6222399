use Rattle.std.proofs.Common.{rules, w32, refl, sym, subst}
use Rattle.std.proofs.Math.Facts.{to_z-of_z}
use mir.Val.{SFits}
use Rattle.varisat_client.specs.promises.Pasts.{ClientPast, AddsNumber, AssumesNumber, ReturnsValue, ReturnsFailed}
use Rattle.varisat_client.specs.inside.Clients.{RepresentsPast}
use Rattle.varisat_client.proofs.session.make_call.Goals as goal

pub returns-in-Add : goal.returns-in-Add
returns-in-Add g c p st = let f : SFits w32 c.in-Add.number = search rules in
    rw c.in-Add.is (subst (λ n. (q : ClientPast) × AddsNumber n p q × RepresentsPast c.add.new.self q) (to_z-of_z f) (c.add.ensures p st))

pub returns-in-Assume : goal.returns-in-Assume
returns-in-Assume g c p st = let f : SFits w32 c.in-Assume.number = search rules in
    rw c.in-Assume.is (subst (λ n. (q : ClientPast) × AssumesNumber n p q × RepresentsPast c.assume.new.self q) (to_z-of_z f) (c.assume.ensures p st))

pub returns-in-Begin : goal.returns-in-Begin
returns-in-Begin g c p st = rw c.in-Begin.is (c.begin.ensures p st)

pub returns-in-Prepare : goal.returns-in-Prepare
returns-in-Prepare g c p st = rw c.in-Prepare.is (c.prepare.ensures p st)

pub returns-in-Search : goal.returns-in-Search
returns-in-Search g c p st = rw c.in-Search.is (c.search.ensures p st)

pub returns-in-LimitSteps : goal.returns-in-LimitSteps
returns-in-LimitSteps g c p st = rw c.in-LimitSteps.is (c.limit_steps.ensures p st)

pub returns-in-Value : goal.returns-in-Value
returns-in-Value g c p st =
    let f : SFits w32 c.in-Value.number = search rules in
    let r : SFits w32 c.value.result = search rules in
    rw c.in-Value.is (
      p,
      (
        subst (λ m. ReturnsValue c.in-Value.number m p) (sym (to_z-of_z r)) (subst (λ n. ReturnsValue n c.value.result p) (to_z-of_z f) (c.value.ensures p st)),
        refl,
      ),
      st,
    )

pub returns-in-HasFailed : goal.returns-in-HasFailed
returns-in-HasFailed g c p st = let f : SFits w32 c.in-HasFailed.number = search rules in
    rw c.in-HasFailed.is (p, (subst (λ n. ReturnsFailed n c.has_failed.result p) (to_z-of_z f) (c.has_failed.ensures p st), refl), st)

pub returns-in-Refusal : goal.returns-in-Refusal
returns-in-Refusal g c p st = rw c.in-Refusal.is (p, (c.refusal.ensures p st, refl), st)

pub returns-in-Steps : goal.returns-in-Steps
returns-in-Steps g c p st = rw c.in-Steps.is (p, (c.steps.ensures p st, refl), st)
