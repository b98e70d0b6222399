use Rattle.std.proofs.Common.{◌≡◌, ◌∙◌, sym, arith, get_or, true}
use Rattle.std.proofs.lemmas.Bool.Decides.{nat_tests}
use Rattle.std.proofs.lemmas.Grind.{common_steps}
use Rattle.std.specs.Prelude.{nat_lt}
use Rattle.varisat_vsids.proofs.HeapView.{availability-set_same}
use Rattle.varisat_vsids.proofs.heap.enter_risen.Goals as goal

pub returns-then-place-len-clause-enters : goal.returns-then-place-len-clause-enters
returns-then-place-len-clause-enters c t =
    let stands : nat_lt (get_or c.args.position.now c.args.var 0) c.args.len ≡ true = grind (arith, common_steps, nat_tests) in
    c.rise.ensures.available ∙ sym (availability-set_same c.args.len c.args.position.now c.args.var true c.requires.known stands)
