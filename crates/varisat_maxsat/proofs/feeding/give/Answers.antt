use Rattle.std.proofs.Common.{rules, w32, subst}
use Rattle.std.proofs.Math.Facts.{to_z-of_z}
use Rattle.std.proofs.lemmas.List.{take_all}
use mir.Val.{SFits}
use Rattle.varisat_client.specs.promises.Pasts.{ClientPast, AddsNumber}
use Rattle.varisat_client.specs.inside.Clients.{RepresentsPast}
use Rattle.varisat_maxsat.proofs.Given.{gives-none, gives-next, gives-all}
use Rattle.varisat_maxsat.proofs.feeding.give.Goals as goal

pub loop-literal-init : goal.loop-literal-init
loop-literal-init g c = gives-none c.args.client.now

pub loop-literal-preserved : goal.loop-literal-preserved
loop-literal-preserved g c = let f : SFits w32 c.in_ok-number_of.field-0 = search rules in
    gives-next _ _ _ _ _ _ _ c.loop-literal-test.true c.literal-item.is c.in_ok-number_of.ensures.lit c.in_ok-number_of.ensures.some
    (λ p st. subst (λ n. (q : ClientPast) × AddsNumber n p q × RepresentsPast c.add.new.self q) (to_z-of_z f) (c.add.ensures p st)) c.loop-literal.invariant

pub returns : goal.returns
returns g c =
    gives-all _ _ _ _ _ (take_all _ _ c.loop-literal-test.false) c.add-2.ensures c.in_ok-ensure_accepted.ensures c.loop-literal.invariant
