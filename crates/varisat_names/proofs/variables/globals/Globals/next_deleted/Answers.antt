use Rattle.std.proofs.lemmas.Grind.{common_steps}
use Rattle.std.proofs.Common.{sym, subst, arith}
use Rattle.varisat_names.specs.promises.VarData.{AreDeleted}
use Rattle.varisat_names.proofs.variables.globals.Globals.next_deleted.Goals as goal

pub returns-in-Some-clause-near : goal.returns-in-Some-clause-near
returns-in-Some-clause-near g c =
    let listed = subst (λ k. AreDeleted k.kept k.free) (sym c.self.view_is) c.requires in
    rw (← c.self.view_is) (let below = ((listed c.in-Some.global.now).0 c.in-Some.ensures.member).0 in omega (arith, below))

pub returns-in-Some-clause-least : goal.returns-in-Some-clause-least
returns-in-Some-clause-least g c = grind arith

pub returns-in-None-clause-least : goal.returns-in-None-clause-least
returns-in-None-clause-least g c = grind (arith, common_steps)
