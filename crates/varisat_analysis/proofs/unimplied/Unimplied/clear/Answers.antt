use Rattle.std.proofs.Common.{ℕ, Bool, List, length, ap, subst, arith}
use Rattle.varisat_theory.specs.promises.Membership.{◌∈◌}
use Rattle.varisat_analysis.proofs.CopiedLiterals.{flag-inside}
use Rattle.varisat_analysis.proofs.unimplied.Unimplied.clear.Goals as goal

pub clear_flags-requires : goal.clear_flags-requires
clear_flags-requires g c v i =
    let own = c.self.inside in
    let inside = flag-inside own.flags.items v ((c.self.invariant v).1 (subst (λ (xs : List ℕ). v ∈ xs) c.deref.ensures.value i)) in
    let value = ap (λ (xs : List Bool). length xs) c.deref_mut.ensures.value in
    omega (arith, inside, value)
