use Rattle.std.proofs.lemmas.Result.{err_from_is_err_and}
use Rattle.std.proofs.Common.{sym, ap, ◌∙◌, subst, Err}
use Rattle.varisat_proof.specs.inside.Checks.{EndsWith}
use Rattle.varisat_proof.specs.declared.checker.error.CheckerError.TheVariants.{Parse}
use Rattle.varisat_proof.proofs.CheckedLines.{EndsAt, state_is, ends_fault, end_wrong, last_outside, ends_at_more, ends_at_line, ends_at_end}
use Rattle.varisat_proof.specs.promises.Marked.{state_of}
use Rattle.varisat_proof.proofs.checker.check.Checker.end_proof.Goals as goal
use Rattle.varisat_proof.proofs.checker.check.Checker.end_proof.Goals.{in-More, in-Ended+in_ok-next_line-in-Ended}
use Rattle.varisat_proof.specs.promises.DratChecks.{rules_of}

pub returns-in-Fault-clause-ends : goal.returns-in-Fault-clause-ends
returns-in-Fault-clause-ends g c = λ f P text lines r s.
    subst (λ o. EndsWith (rules_of c.args.rules) f P text (Err (Parse o)) (state_of c.args.self.now.clauses c.args.builder.now)) (sym c.last_fault-last.ensures)
    (ends_fault (rules_of c.args.rules) f P text lines c.args.reader.now (state_of c.args.self.now.clauses c.args.builder.now) c.args.count.now r
    (sym c.in-Fault.is ∙ c.in-Ok.ensures.event) s)

pub returns-in_err-next_line-in-Ended-clause-ends : goal.returns-in_err-next_line-in-Ended-clause-ends
returns-in_err-next_line-in-Ended-clause-ends g c = λ f P text lines r s.
    let p = err_from_is_err_and c.from_residual.result c.from_residual.ensures.1 in rw (p.1, p.2)
    (end_wrong (rules_of c.args.rules) f P text lines (state_of c.args.self.now.clauses c.args.builder.now) (state_of c.next_line.new.self.clauses c.next_line.new.builder)
    c.args.count.now c.args.reader.now c.finish.new.self c.kind.result c.clause.result.now c.in_err-next_line-in-Ended.field-0.0 r s
    (sym c.in-Ended.is ∙ c.in-Ok.ensures.event) c.in-Ok.ensures.ok (record { kind = c.kind.ensures; clause = c.clause.ensures })
    (last_outside (rules_of c.args.rules) c.args.reader.now c.finish.new.self (sym c.in-Ended.is ∙ c.in-Ok.ensures.event) c.in-Ok.ensures.ok) c.in_err-next_line-in-Ended.ensures.takes)

pub returns-clause-ends : goal.returns-clause-ends
returns-clause-ends g c = λ f P text lines r s.
    let at : EndsAt (rules_of c.args.rules) f P text (state_of c.match-event.self.clauses c.match-event.builder) c.match-event.count c.finish.new.self = elim c.match-event.branch [
      | in-More w ↦ ends_at_more (rules_of c.args.rules) f P text lines (state_of c.args.self.now.clauses c.args.builder.now)
          (state_of c.match-event.self.clauses c.match-event.builder) c.args.count.now c.match-event.count c.args.reader.now c.finish.new.self r s
          (sym w.in-More.is ∙ c.in-Ok.ensures.event) c.in-Ok.ensures.ok (state_is _ _ _ _ (ap (λ h. h.clauses) w.self-is) w.builder-is) w.count-is
      | in-Ended+in_ok-next_line-in-Ended w ↦ ends_at_line (rules_of c.args.rules) f P text lines (state_of c.args.self.now.clauses c.args.builder.now)
          (state_of w.next_line.new.self.clauses w.next_line.new.builder) (state_of c.match-event.self.clauses c.match-event.builder) c.args.count.now
          w.next_line.new.count c.match-event.count c.args.reader.now c.finish.new.self w.kind.result w.clause.result.now r s
          (sym w.in-Ended.is ∙ c.in-Ok.ensures.event) c.in-Ok.ensures.ok (record { kind = w.kind.ensures; clause = w.clause.ensures })
          w.in_ok-next_line-in-Ended.ensures.takes (state_is _ _ _ _ (ap (λ h. h.clauses) w.self-is) w.builder-is) w.count-is
    ] in
    ends_at_end (rules_of c.args.rules) f P text (state_of c.match-event.self.clauses c.match-event.builder) c.match-event.count c.finish.new.self c.verdict_at_end.result at
    c.verdict_at_end.ensures
