use Rattle.std.proofs.Common.{List, ℕ, IsTrue, ◌↔◌, ap, subst}
use Rattle.varisat_theory.specs.promises.Membership.{◌⊆◌}
use Rattle.varisat_present.proofs.MarkedLists.{within_marked}
use Rattle.varisat_proof.proofs.checker.marked.ReportBuilder.assumes.Goals as goal

pub returns : goal.returns
returns g c =
    let ls = c.args.literals.now in
    let (there, back) = within_marked ls c.self.inside.assumed.items c.self.inside.marks c.self.invariant in
    subst (λ (x : List ℕ). IsTrue c.are_marked.result ↔ (ls ⊆ x)) (ap (λ h. h.assumed) c.self.view_is)
    ((λ t. there (c.are_marked.ensures.0 t)), (λ h. c.are_marked.ensures.1 (back h)))
