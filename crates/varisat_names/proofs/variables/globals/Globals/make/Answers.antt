use Rattle.std.proofs.lemmas.Grind.{common_steps}
use Rattle.std.proofs.Common.{◌∙◌, ap, sym, subst, slice_set, refl, arith}
use Rattle.varisat_names.specs.promises.VarData.{fresh, IsDataAt}
use Rattle.varisat_names.proofs.Tables.{set-kept}
use Rattle.varisat_names.proofs.variables.globals.Globals.make.Goals as goal

pub returns-then-index-len-clause-kept : goal.returns-then-index-len-clause-kept
returns-then-index-len-clause-kept g c =
    let below = c.if-index-len.true in
    let items = c.self.inside.data.items in
    let x = c.args.global in
    rw (← c.self.view_is) (subst (λ ks. IsDataAt items x fresh ks) (sym (c.set.ensures ∙ ap (slice_set items x) c.user_default.ensures))
    (set-kept items x x fresh refl (omega (arith, below, c.index.ensures.index, c.len.ensures))))

pub returns-else-index-len-clause-kept : goal.returns-else-index-len-clause-kept
returns-else-index-len-clause-kept g c = grind (arith, common_steps)

pub returns-else-index-len-clause-listed : goal.returns-else-index-len-clause-listed
returns-else-index-len-clause-listed g c = grind (arith, common_steps)
