use Rattle.std.proofs.Common.{◌∙◌, ◌++◌, ◌∷◌, [], ap}
use Rattle.varisat_maxsat.proofs.Standing.{soft-put}
use Rattle.varisat_maxsat.proofs.problem.Problem.add_soft.Goals as goal

pub returns-clause-ok : goal.returns-clause-ok
returns-clause-ok g c = rw (← c.self.view_is)
    (soft-put c.self.inside.hard c.self.inside.soft c.add_clause.new.self c.self.inside.weights.items c.push_reserved.new.self.items c.args.weight c.args.clause.now
    c.self.invariant c.in_ok-add_clause.ensures (c.push_reserved.ensures.items ∙ ap (λ xs. xs ++ c.args.weight ∷ []) c.in_ok-reserve.ensures.items))
