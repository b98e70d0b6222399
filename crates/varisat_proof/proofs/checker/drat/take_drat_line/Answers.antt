use Rattle.std.proofs.Common.{sym, subst, refl}
use Rattle.varisat_lines.specs.declared.format.LineKind.{LineKind}
use Rattle.varisat_proof.specs.promises.DratChecks.{TakesDratKind, IsDratStatusOf}
use Rattle.varisat_proof.proofs.checker.drat.take_drat_line.Goals as goal

pub returns-in_ok-status-in-Adds : goal.returns-in_ok-status-in-Adds
returns-in_ok-status-in-Adds g c = λ n.
    subst (λ (k : LineKind). IsDratStatusOf c.args.clauses.now k c.args.clause.now c.in_ok-status-in-Adds.status c.take_added.new.clauses) (sym c.in-Adds.is)
    c.in_ok-status-in-Adds.ensures

pub returns-in_ok-status-in-Deletes : goal.returns-in_ok-status-in-Deletes
returns-in_ok-status-in-Deletes g c = λ n.
    subst (λ (k : LineKind). IsDratStatusOf c.args.clauses.now k c.args.clause.now c.in_ok-status-in-Deletes.status c.take_deleted.new.clauses)
    (sym c.in-Deletes.is) (c.in_ok-status-in-Deletes.ensures n)

pub returns-in-Accepts : goal.returns-in-Accepts
returns-in-Accepts g c = λ n.
    subst (λ (k : LineKind). TakesDratKind c.args.clauses.now k c.args.clause.now c.args.clauses.now) (sym c.in-Accepts.is) refl

pub returns-in-Assumes : goal.returns-in-Assumes
returns-in-Assumes g c = λ n.
    subst (λ (k : LineKind). TakesDratKind c.args.clauses.now k c.args.clause.now c.args.clauses.now) (sym c.in-Assumes.is) refl

pub returns-in-Fails : goal.returns-in-Fails
returns-in-Fails g c = λ n.
    subst (λ (k : LineKind). TakesDratKind c.args.clauses.now k c.args.clause.now c.args.clauses.now) (sym c.in-Fails.is) refl
