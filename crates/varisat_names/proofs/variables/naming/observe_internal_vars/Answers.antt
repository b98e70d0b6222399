use Rattle.std.proofs.lemmas.Grind.{common_steps}
use Rattle.std.proofs.Common.{subst, arith}
use Rattle.varisat_names.specs.inside.NamesAndModes.{ShowsOne}
use Rattle.varisat_names.proofs.NamedVariables.{one-more-below, shown-refused}
use Rattle.varisat_names.proofs.variables.naming.observe_internal_vars.Goals as goal

pub returns-in_err-show_if_hidden-clause-refused : goal.returns-in_err-show_if_hidden-clause-refused
returns-in_err-show_if_hidden-clause-refused g c =
    shown-refused c.from_residual.result c.loop-index.shown.items c.args.variables.now c.loop-index.variables c.show_if_hidden.new.variables
    c.loop-index.invariant.in_turn (c.in_err-show_if_hidden.ensures {u = tt}).refused

pub loop-index-preserved : goal.loop-index-preserved
loop-index-preserved g c =
    let us = c.loop-index.shown.items in
    let vs = c.show_if_hidden.new.shown.items in
    let mid = c.loop-index.variables in
    let new = c.show_if_hidden.new.variables in
    one-more-below c.loop-index.index us vs c.args.variables.now mid new c.loop-index.invariant
    (subst (λ x. ShowsOne x us vs mid new) c.from_index.ensures (c.in_ok-show_if_hidden.ensures {u = tt}).shows)

pub returns-clause-shown : goal.returns-clause-shown
returns-clause-shown g c = grind (arith, common_steps)
