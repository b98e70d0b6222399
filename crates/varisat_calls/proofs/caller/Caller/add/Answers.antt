use Rattle.std.proofs.Common.{◌∙◌, ◌∷◌, [], ◌++◌, refl, sym, ap, subst, to_z, of_z, w32}
use Rattle.std.proofs.Math.Facts.{to_z-of_z}
use Rattle.varisat_literals.specs.promises.Numbers.{literal_numbered}
use Rattle.varisat_calls.specs.Callers.{PutsNumber}
use Rattle.varisat_calls.proofs.Adding.{clause-put}
use Rattle.varisat_calls.proofs.caller.Caller.add.Goals as goal

pub returns-then-number-eq0 : goal.returns-then-number-eq0
returns-then-number-eq0 g c =
    subst (λ n. PutsNumber n c.args.self.now c.end_clause.result c.end_clause.new.self)
    (sym (sym (to_z-of_z c.ranges.number) ∙ ap (to_z w32) c.if-number-eq0.true)) c.end_clause.ensures

pub returns-in-Ok : goal.returns-in-Ok
returns-in-Ok g c = rw (← c.self.view_is)
    (clause-put c.args.number _ _ c.self.inside.is_lost c.self.inside.clause.items c.put_number.new.list.items
    (λ e. c.if-number-eq0.false (ap (of_z w32) e)) c.if-self.false refl
    (c.in-Ok.ensures {u = tt} ∙ ap (λ n. c.self.inside.clause.items ++ literal_numbered n ∷ []) (to_z-of_z c.ranges.number)) refl)
