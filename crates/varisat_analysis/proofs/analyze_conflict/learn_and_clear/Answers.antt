use Rattle.std.proofs.Common.{subst, arith, length, ◌<◌, ◌≡◌}
use Rattle.varisat_theory.specs.promises.Membership.{◌∈◌}
use Rattle.varisat_analysis.proofs.AnalysisResult.{none-left}
use Rattle.varisat_analysis.proofs.analyze_conflict.learn_and_clear.Goals as goal

pub clear_flags-requires : goal.clear_flags-requires
clear_flags-requires g c v i = (c.in-Ok.ensures {u = tt}).cleaned.met v (subst (λ x. v ∈ x) c.deref.ensures.value i)

pub clear_flags-requires-in-Ok : goal.clear_flags-requires-in-Ok
clear_flags-requires-in-Ok g c v i =
    let n : length c.clear_flags.new.var_flags ≡ length c.learn.new.var_flags = c.clear_flags.auto.var_flags in
    let a : v < length c.learn.new.var_flags = (c.in-Ok.ensures {u = tt}).cleaned.listed v (subst (λ x. v ∈ x) c.deref-in-Ok.ensures.value i) in
    omega (arith, a, n)

pub returns-in-Ok-clause-unmarked : goal.returns-in-Ok-clause-unmarked
returns-in-Ok-clause-unmarked g c =
    none-left c.clear_flags.new.var_flags c.clear_flags-in-Ok.new.var_flags c.deref.result.now c.deref-in-Ok.result.now (c.in-Ok.ensures {u = tt}).cleaned
    c.deref.ensures.value c.deref-in-Ok.ensures.value c.clear_flags.ensures.gone c.clear_flags.ensures.rest c.clear_flags-in-Ok.ensures.gone
    c.clear_flags-in-Ok.ensures.rest
