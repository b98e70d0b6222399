use Rattle.std.proofs.Common.{List, [], ap, sym, subst}
use Rattle.varisat_theory.specs.promises.Literals.{Clause}
use Rattle.varisat_theory.specs.promises.Propagation.{Conflicts}
use Rattle.varisat_proof.specs.promises.DratChecks.{IsDratStatusOf}
use Rattle.varisat_proof.proofs.checker.check.Checker.take_drat.Goals as goal

pub returns-clause-status : goal.returns-clause-status
returns-clause-status g c = λ n.
    subst (λ (P : List Clause). IsDratStatusOf P c.args.kind c.args.clause.now c.in_ok-status.status c.take_drat_line.new.clauses)
    (ap (λ h. h.clauses) c.self.view_is)
    (c.in_ok-status.ensures (subst (λ (P : List Clause). Conflicts P [] → ⊥) (sym (ap (λ h. h.clauses) c.self.view_is)) n))
