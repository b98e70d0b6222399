use Rattle.std.proofs.lemmas.Grind.{common_steps}
use Rattle.std.proofs.Common.{sym, subst, arith}
use Rattle.varisat_names.specs.promises.Variables.{AreFree}
use Rattle.varisat_names.proofs.Tables.{least-free}
use Rattle.varisat_names.proofs.variables.names.NameSpace.next_free.Goals as goal

pub returns-in-Some-clause-least : goal.returns-in-Some-clause-least
returns-in-Some-clause-least g c =
    let listed = subst (λ n. AreFree n.pairs.forward n.free) (sym c.self.view_is) c.requires in
    rw (← c.self.view_is) (least-free c.self.inside.pairs.forward c.self.inside.free c.in-Some.name.now listed c.in-Some.ensures.member c.in-Some.ensures.least)

pub returns-in-Some-clause-near : goal.returns-in-Some-clause-near
returns-in-Some-clause-near g c =
    let listed = subst (λ n. AreFree n.pairs.forward n.free) (sym c.self.view_is) c.requires in
    rw (← c.self.view_is) (let below = ((listed c.in-Some.name.now).0 c.in-Some.ensures.member).0 in omega (arith, below))

pub returns-in-None-clause-least : goal.returns-in-None-clause-least
returns-in-None-clause-least g c = grind (arith, common_steps)
