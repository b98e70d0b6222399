-- A new solver switches self checking on.
use Rattle.std.proofs.Common.{◌∙◌, sym, ap, subst}
use Rattle.varisat_solver.specs.promises.States.{State, empty_state, new_state}
use Rattle.varisat_solver.specs.inside.Representations.{Represents}
use Rattle.varisat.proofs.ProgramDecides.{enables-new}
use Rattle.varisat.proofs.deciding.new_solver.Goals as goal

pub returns-then-is_checked-clause-represents : goal.returns-then-is_checked-clause-represents
returns-then-is_checked-clause-represents g c =
    let (s, a, x) = c.enable_self_checking.ensures.call empty_state c.new_in-solver.ensures in
    subst (λ (t : State). Represents c.enable_self_checking.new.self t)
    ((enables-new c.enable_self_checking.result s a).1 ∙ ap new_state (sym c.if-is_checked.true)) x

pub returns-then-is_checked-clause-checks : goal.returns-then-is_checked-clause-checks
returns-then-is_checked-clause-checks g c h =
    let (s, a, x) = c.enable_self_checking.ensures.call empty_state c.new_in-solver.ensures in
    c.enable_self_checking.ensures.runs ((enables-new c.enable_self_checking.result s a).0)
