use Rattle.std.proofs.lemmas.Grind.{common_steps}
use Rattle.std.proofs.Common.{List, refl, ◌∙◌, subst, arith}
use Rattle.varisat_theory.specs.promises.Membership.{◌∈◌}
use Rattle.varisat_theory.specs.promises.Literals.{Literal}
use Rattle.varisat_search.specs.Contexts.{view}
use Rattle.varisat_analysis.proofs.AssignedLevels.{can-count}
use Rattle.varisat_search.proofs.assess.assess_learned.Goals as goal

pub assess_learned_clause-requires : goal.assess_learned_clause-requires
assess_learned_clause-requires g c =
    can-count (view c.args.ctx.now) c.requires.well c.deref_mut.result.now c.clause.result.now (c.deref_mut.ensures.value ∙ c.requires.clear)
    (λ l i. c.requires.assigned l (subst (λ (ls : List Literal). l ∈ ls) c.clause.ensures i))

pub returns-clause-frame : goal.returns-clause-frame
returns-clause-frame g c = (refl, grind (arith, common_steps))
