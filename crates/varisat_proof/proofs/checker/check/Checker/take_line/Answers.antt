use Rattle.std.proofs.Common.{sym, subst}
use Rattle.varisat_proof.specs.declared.checker.line.LineRules.{LineRules}
use Rattle.varisat_lines.specs.promises.Lines.{line_of_kind}
use Rattle.varisat_proof.specs.promises.Marked.{state_of}
use Rattle.varisat_proof.specs.inside.Checks.{IsLineStatus}
use Rattle.varisat_proof.specs.promises.DratChecks.{rules_of}
use Rattle.varisat_proof.proofs.DratCheck.{drat_status}
use Rattle.varisat_proof.proofs.checker.check.Checker.take_line.Goals as goal

pub returns-in_ok-status-in-Strict-clause-status : goal.returns-in_ok-status-in-Strict-clause-status
returns-in_ok-status-in-Strict-clause-status g c = λ n.
    subst (λ (r : LineRules). IsLineStatus (rules_of r) (state_of c.args.self.now.clauses c.args.builder.now) (line_of_kind c.args.kind c.args.clause.now)
    c.in_ok-status-in-Strict.status (state_of c.take_strict_line.new.self.clauses c.take_strict_line.new.builder)) (sym c.in-Strict.is)
    c.in_ok-status-in-Strict.ensures.status

pub returns-in_ok-status-in-Drat-clause-status : goal.returns-in_ok-status-in-Drat-clause-status
returns-in_ok-status-in-Drat-clause-status g c = λ n.
    subst (λ (r : LineRules). IsLineStatus (rules_of r) (state_of c.args.self.now.clauses c.args.builder.now) (line_of_kind c.args.kind c.args.clause.now)
    c.in_ok-status-in-Drat.status (state_of c.take_drat.new.self.clauses c.args.builder.now)) (sym c.in-Drat.is)
    (drat_status c.args.self.now.clauses c.take_drat.new.self.clauses c.args.builder.now c.args.kind c.args.clause.now c.in_ok-status-in-Drat.status
    (c.in_ok-status-in-Drat.ensures.status n))
