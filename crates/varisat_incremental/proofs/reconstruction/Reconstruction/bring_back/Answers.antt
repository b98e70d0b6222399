use Rattle.std.proofs.Common.{◌≡◌, refl, sym, ap, ◌∙◌, subst}
use Rattle.varisat_formula.specs.promises.Formulas.{Formula}
use Rattle.varisat_incremental.specs.Reconstructions.{Reconstruction, AreLedBy}
use Rattle.varisat_incremental.proofs.FlagLemmas.{among-then}
use Rattle.varisat_incremental.proofs.TakingLemmas.{brings-none, brings-some}
use Rattle.varisat_incremental.proofs.reconstruction.Reconstruction.bring_back.Goals as goal

pub returns-then-not-is_named : goal.returns-then-not-is_named
returns-then-not-is_named g c =
    let r : Reconstruction = record { stack = c.self.inside.stack; eliminated = c.self.inside.eliminated.items; frozen = c.self.inside.frozen.items } in
    let s : Reconstruction = record { stack = c.self.inside.stack; eliminated = c.clear_all_flags-is_named.new.flags.items; frozen = c.set_flags.new.flags.items } in
    rw (← c.self.view_is) (brings-none c.args.formula.now.clauses c.new_in.result.clauses c.args.assumed.now r s c.clear_flags-is_assumed.new.flags.items
    (ap (λ (f : Formula). f.clauses) c.new_in.ensures) refl (c.clear_flags-is_assumed.ensures.same c.if-not-is_assumed.true)
    (c.clear_all_flags-is_named.ensures.same c.if-not-is_named.true) (among-then c.self.inside.frozen.items c.set_hinted_flags.new.flags.items c.set_flags.new.flags.items (c.in_ok-set_hinted_flags.ensures {u = tt}) (c.in_ok-set_flags.ensures {u = tt}).keeps) (c.in_ok-set_flags.ensures {u = tt}).sets
    c.clear_flags-is_assumed.ensures.clear c.clear_all_flags-is_named.ensures.clear)

pub returns : goal.returns
returns g c =
    let r : Reconstruction = record { stack = c.self.inside.stack; eliminated = c.self.inside.eliminated.items; frozen = c.self.inside.frozen.items } in
    let m : Reconstruction = record { stack = c.self.inside.stack; eliminated = c.clear_all_flags-is_named.new.flags.items; frozen = c.set_flags.new.flags.items } in
    let s : Reconstruction = record { stack = c.self-2.inside.stack; eliminated = c.self-2.inside.eliminated.items; frozen = c.self-2.inside.frozen.items } in
    let t : Reconstruction = record { stack = c.self-2.inside.stack; eliminated = c.self-2.inside.eliminated.items; frozen = c.set_all_flags.new.flags.items } in
    let back = c.in_ok-restored.ensures {u = tt} in
    rw (← c.self.view_is) (brings-some c.args.formula.now.clauses c.in_ok-restored.restored.clauses c.args.assumed.now r m s t c.clear_flags-is_assumed.new.flags.items
    refl (among-then c.self.inside.frozen.items c.set_hinted_flags.new.flags.items c.set_flags.new.flags.items (c.in_ok-set_hinted_flags.ensures {u = tt}) (c.in_ok-set_flags.ensures {u = tt}).keeps) (c.in_ok-set_flags.ensures {u = tt}).sets c.clear_flags-is_assumed.ensures.clear
    c.clear_all_flags-is_named.ensures.fewer c.clear_all_flags-is_named.ensures.clear (rw c.self-2.view_is back.restores) (subst (λ (x : Reconstruction). AreLedBy x.eliminated x.stack) (sym c.self-2.view_is) back.led)
    (c.in_ok-set_all_flags.ensures {u = tt}).keeps (c.in_ok-set_all_flags.ensures {u = tt}).sets refl refl)
