use Rattle.std.proofs.Common.{refl}
use Rattle.varisat_calls.proofs.Adding.{clause-ended}
use Rattle.varisat_calls.proofs.caller.Caller.end_clause.Goals as goal

pub returns : goal.returns
returns g c = rw (← c.self.view_is)
    (clause-ended _ _ _ _ c.add_clause-added.result c.self.inside.is_lost c.self.inside.clause.items _ _ c.if-self.false refl
    c.deref.ensures.value c.answer.ensures.number c.answer.ensures.frame c.clear-2.ensures.items c.add_clause-added.ensures.call refl)
