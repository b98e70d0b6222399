use Rattle.std.proofs.Common.{ℕ, List, subst, sym}
use Rattle.varisat_theory.specs.promises.Membership.{SameSet}
use Rattle.varisat_proof.proofs.checker.marked.ReportBuilder.assume.Goals as goal

pub invariant_of-self : goal.invariant_of-self
invariant_of-self g c =
    let e = c.in-Ok.ensures {u = tt} in
    subst (λ (xs : List ℕ). SameSet c.list_all.new.marks xs) (sym e.listed) e.marked
