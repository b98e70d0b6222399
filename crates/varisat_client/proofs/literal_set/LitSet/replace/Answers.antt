use Rattle.std.proofs.Common.{[], sym, subst}
use Rattle.varisat_client.specs.inside.LiteralSets.{IsSetOf}
use Rattle.varisat_client.proofs.SetFlags.{none-set, fresh, fresh-count}
use Rattle.varisat_client.proofs.literal_set.LitSet.replace.Goals as goal

pub set_flags-requires-clause-clear : goal.set_flags-requires-clause-clear
set_flags-requires-clause-clear g c =
    let e = fresh c.flags_for.result _ _ _ _ c.clear.ensures.items c.clear.ensures.len (c.in_ok-resize.ensures {u = tt}).items c.deref_mut.ensures.value in
    subst (IsSetOf []) (sym e) (none-set c.flags_for.result)

pub set_flags-requires-clause-known : goal.set_flags-requires-clause-known
set_flags-requires-clause-known g c =
    let e = fresh c.flags_for.result _ _ _ _ c.clear.ensures.items c.clear.ensures.len (c.in_ok-resize.ensures {u = tt}).items c.deref_mut.ensures.value in
    fresh-count c.flags_for.result _ c.args.lits.now e c.flags_for.ensures.enough
