use Rattle.std.proofs.Common.{List, ap, subst}
use Rattle.varisat_theory.specs.promises.Literals.{Clause}
use Rattle.varisat_theory.specs.promises.Membership.{◌∈◌, SameSet}
use Rattle.varisat_plain.specs.promises.Checking.{IsAbsent}
use Rattle.varisat_proof.proofs.checker.check.Checker.has_clause.Goals as goal

pub returns : goal.returns
returns g c = record {
  yes = λ e. subst (λ (P : List Clause). (x : Clause) × (x ∈ P) × SameSet x c.args.clause.now) (ap (λ h. h.clauses) c.self.view_is) (c.has.ensures.yes e);
  no = λ e. subst (λ (P : List Clause). IsAbsent P c.args.clause.now) (ap (λ h. h.clauses) c.self.view_is) (c.has.ensures.no e);
}
