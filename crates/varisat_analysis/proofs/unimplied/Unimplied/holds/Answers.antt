use Rattle.std.proofs.Common.{ℕ, List, sym, subst, arith}
use Rattle.varisat_theory.specs.promises.Membership.{◌∈◌}
use Rattle.varisat_analysis.proofs.CopiedLiterals.{flag-inside}
use Rattle.varisat_analysis.proofs.unimplied.Unimplied.holds.Goals as goal

pub returns-else-index-len : goal.returns-else-index-len
returns-else-index-len g c =
    let own = c.self.inside in
    let past = c.if-index-len.false in (
      (λ t. absurd (grind (arith, t, past))),
      (λ m. let inside = flag-inside own.flags.items c.args.var ((c.self.invariant c.args.var).1 (subst (λ (xs : List ℕ). c.args.var ∈ xs) (sym c.self.view_is) m)) in
          absurd (omega (arith, past, inside, c.len.ensures, c.index-index.ensures.index))),
    )
