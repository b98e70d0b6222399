use Rattle.std.proofs.Common.{◌∙◌, refl}
use Rattle.varisat_names.specs.declared.variables.data.VarData.{VarData}
use Rattle.varisat_solver.proofs.modes.VariableChanges.{hidden-unnamed, hidden-keeps}
use Rattle.varisat_solver.proofs.usage.hide_named.Goals as goal

pub retire_if_unused-requires-clause-live : goal.retire_if_unused-requires-clause-live
retire_if_unused-requires-clause-live g c =
    let h = c.in_ok-global.ensures.set in
    hidden-keeps (λ (d : VarData). d.deleted) h.mid c.set_named_mode.new.variables c.args.var c.in_ok-global.global refl (h.hidden refl) ∙ h.named.live

pub retire_if_unused-requires-clause-unnamed : goal.retire_if_unused-requires-clause-unnamed
retire_if_unused-requires-clause-unnamed g c = let h = c.in_ok-global.ensures.set in
    hidden-unnamed h.mid c.set_named_mode.new.variables c.args.var c.in_ok-global.global (h.hidden refl)
