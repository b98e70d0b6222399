use Rattle.std.proofs.Common.{◌≡◌, List, [], ◌∷◌, ◌++◌, sym, ap, subst, ◌∙◌}
use Rattle.varisat_theory.specs.promises.Literals.{Clause}
use Rattle.varisat_proof.specs.declared.checker.line.LineStatus.TheVariants.{Taken}
use Rattle.varisat_proof.specs.declared.checker.error.CheckerError.TheVariants.{CheckFailed, NoSuchClause, CoreNotAssumed}
use Rattle.varisat_lines.specs.promises.Lines.{line_of_kind}
use Rattle.varisat_proof.specs.inside.Checks.{StopsBehind}
use Rattle.varisat_proof.proofs.CheckedLines.{error_of, refuted_behind, still_refuted, on_wrong, on_taken}
use Rattle.varisat_proof.specs.promises.Marked.{state_of}
use Rattle.varisat_proof.proofs.checker.check.Checker.next_line.Goals as goal
use Rattle.varisat_proof.specs.promises.DratChecks.{rules_of}

pub returns-in-Unproved-clause-takes : goal.returns-in-Unproved-clause-takes
returns-in-Unproved-clause-takes g c =
    let n : c.in-Ok.status ≡ Taken → ⊥ = λ e. let h = sym c.in-Unproved.is ∙ e in absurd cc in
    λ s lines h. on_wrong (rules_of c.args.rules) c.args.count.now.refuted s lines (state_of c.args.self.now.clauses c.args.builder.now)
    (state_of c.take_line.new.self.clauses c.take_line.new.builder) c.args.count.now.steps c.saturating_add-step.result
    (line_of_kind c.args.kind c.args.clause.now) c.if-count.false h c.saturating_add-step.ensures c.in-Ok.status
    (CheckFailed c.saturating_add-step.result) (ap (λ t. error_of t c.saturating_add-step.result) (sym c.in-Unproved.is)) n c.in-Ok.ensures.status

pub returns-in-Absent-clause-takes : goal.returns-in-Absent-clause-takes
returns-in-Absent-clause-takes g c =
    let n : c.in-Ok.status ≡ Taken → ⊥ = λ e. let h = sym c.in-Absent.is ∙ e in absurd cc in
    λ s lines h. on_wrong (rules_of c.args.rules) c.args.count.now.refuted s lines (state_of c.args.self.now.clauses c.args.builder.now)
    (state_of c.take_line.new.self.clauses c.take_line.new.builder) c.args.count.now.steps c.saturating_add-step.result
    (line_of_kind c.args.kind c.args.clause.now) c.if-count.false h c.saturating_add-step.ensures c.in-Ok.status
    (NoSuchClause c.saturating_add-step.result) (ap (λ t. error_of t c.saturating_add-step.result) (sym c.in-Absent.is)) n c.in-Ok.ensures.status

pub returns-in-Unassumed-clause-takes : goal.returns-in-Unassumed-clause-takes
returns-in-Unassumed-clause-takes g c =
    let n : c.in-Ok.status ≡ Taken → ⊥ = λ e. let h = sym c.in-Unassumed.is ∙ e in absurd cc in
    λ s lines h. on_wrong (rules_of c.args.rules) c.args.count.now.refuted s lines (state_of c.args.self.now.clauses c.args.builder.now)
    (state_of c.take_line.new.self.clauses c.take_line.new.builder) c.args.count.now.steps c.saturating_add-step.result
    (line_of_kind c.args.kind c.args.clause.now) c.if-count.false h c.saturating_add-step.ensures c.in-Ok.status
    (CoreNotAssumed c.saturating_add-step.result) (ap (λ t. error_of t c.saturating_add-step.result) (sym c.in-Unassumed.is)) n c.in-Ok.ensures.status

pub returns-clause-takes : goal.returns-clause-takes
returns-clause-takes g c =
    λ s lines h. subst (λ (Q : List Clause). StopsBehind (rules_of c.args.rules) c.in-Ok-is_refuted_behind.refuted s (lines ++ line_of_kind c.args.kind c.args.clause.now ∷ [])
    (state_of Q c.take_line.new.builder) c.saturating_add-step.result) (sym (ap (λ h. h.clauses) c.is_refuted_behind.ensures.frame))
    (on_taken (rules_of c.args.rules) c.args.count.now.refuted s lines (state_of c.args.self.now.clauses c.args.builder.now)
    (state_of c.take_line.new.self.clauses c.take_line.new.builder) c.args.count.now.steps c.saturating_add-step.result
    (line_of_kind c.args.kind c.args.clause.now) c.if-count.false h c.saturating_add-step.ensures c.in-Ok.status c.in-Ok-is_refuted_behind.refuted
    c.in-Taken.is c.in-Ok.ensures.status
    (refuted_behind c.args.rules (state_of c.args.self.now.clauses c.args.builder.now) (state_of c.take_line.new.self.clauses c.take_line.new.builder)
    c.args.kind c.args.clause.now c.in-Ok-is_refuted_behind.refuted c.in-Ok-is_refuted_behind.ensures.found))

pub returns-then-count-clause-takes : goal.returns-then-count-clause-takes
returns-then-count-clause-takes g c = λ s lines h.
    still_refuted (rules_of c.args.rules) c.args.count.now.refuted s lines (state_of c.args.self.now.clauses c.args.builder.now) c.args.count.now.steps
    (line_of_kind c.args.kind c.args.clause.now) c.if-count.true h
