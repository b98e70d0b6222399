use Rattle.varisat_maxsat.proofs.Exchanging.{joins-first, joins-none, joins-last}
use Rattle.varisat_maxsat.proofs.charge.join_last.Goals as goal

pub returns-in_default : goal.returns-in_default
returns-in_default g c = joins-first _ _ _ c.args.charge c.in_default.ensures.items c.in_ok-push.ensures.items

pub returns-in_default-combined : goal.returns-in_default-combined
returns-in_default-combined g c =
    joins-none _ _ _ _ c.in-Some.last c.args.charge c.in-Some.ensures.items c.in_ok-push-2.ensures.items c.in_ok-push-3.ensures.items

pub returns : goal.returns
returns g c =
    joins-last _ _ _ c.in-Some.last c.args.charge c.in-Some-combined.sum _ c.in-Some.ensures.items c.in-Some-combined.ensures.same
    c.in-Some-combined.ensures.of (c.in_ok-put_charge.ensures {u = tt})
