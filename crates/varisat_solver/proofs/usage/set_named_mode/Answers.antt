use Rattle.std.proofs.Common.{arith}
use Rattle.varisat_solver.proofs.modes.VariableChanges.{named-to, set-named}
use Rattle.varisat_solver.proofs.usage.set_named_mode.Goals as goal

pub set_sampling_mode-requires-clause-live : goal.set_sampling_mode-requires-clause-live
set_sampling_mode-requires-clause-live g c =
    (named-to c.args.var c.in_ok-global.global c.args.variables.now c.global_from_user.new.variables c.prove_linked.ensures c.requires
    c.in_ok-global.ensures.named c.in_ok-global.ensures.leads).live

pub set_sampling_mode-requires-clause-names : goal.set_sampling_mode-requires-clause-names
set_sampling_mode-requires-clause-names g c =
    let named = named-to c.args.var c.in_ok-global.global c.args.variables.now c.global_from_user.new.variables c.prove_linked.ensures c.requires
    c.in_ok-global.ensures.named c.in_ok-global.ensures.leads in
    let bounded = named.stays.bounded.users in
    omega (arith, bounded)

pub returns-clause-set : goal.returns-clause-set
returns-clause-set g c =
    let old = c.args.variables.now in
    let mid = c.global_from_user.new.variables in
    let x = c.in_ok-global.global in
    let named = named-to c.args.var x old mid c.prove_linked.ensures c.requires c.in_ok-global.ensures.named c.in_ok-global.ensures.leads in
    set-named c.args.var x c.args.mode old mid c.set_sampling_mode.new.variables c.in_ok-set_sampling_mode.field-0 named c.prove_linked-2.ensures
    c.in_ok-set_sampling_mode.ensures.set
