use Rattle.std.proofs.Common.{Bool, true, List, ap, ◌∙◌, subst}
use Rattle.varisat_simplify.specs.inside.Parts.{IsBegunOf}
use Rattle.varisat_incremental.specs.Reconstructions.{Reconstruction, BringsBack}
use Rattle.varisat_incremental.proofs.BatchLemmas.{begins-batch}
use Rattle.varisat_incremental.proofs.reconstruction.Reconstruction.begin.Goals as goal

pub returns : goal.returns
returns g c =
    let R = c.in_ok-restored.restored.clauses in
    let x = c.in_ok-simplification.simplification in
    begins-batch c.args.formula c.args.assumed.now R c.args.self.now c.bring_back.new.self x
    (subst (λ (r : Reconstruction). BringsBack c.args.formula.clauses c.args.assumed.now R r c.bring_back.new.self) (c.note_named.ensures ∙ c.keeps_stack-keeps.ensures) (c.in_ok-restored.ensures {u = tt}))
    (subst (λ (z : List Bool). IsBegunOf c.args.formula z true x) (c.deref.ensures.value ∙ ap (λ (r : Reconstruction). r.frozen) c.self.view_is) (c.in_ok-simplification.ensures {u = tt}))
