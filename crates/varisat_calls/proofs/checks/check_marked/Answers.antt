use Rattle.std.proofs.Common.{◌≡◌, ◌∙◌, true, false, refl, sym, ap}
use Rattle.varisat_formula.specs.promises.Streams.{cut_input}
use Rattle.varisat_calls.specs.Checks.{Checked, OtherClause}
use Rattle.varisat_calls.proofs.Checking.{marked-refutes, marked-checked, marked-failed}
use Rattle.varisat_calls.proofs.checks.check_marked.Goals as goal

pub returns-then-not-are_given-clause-returns : goal.returns-then-not-are_given-clause-returns
returns-then-not-are_given-clause-returns g c =
    OtherClause c.in-Ok.report.verdict c.in-Ok.report.inputs.clauses c.check_marked.new.self.clauses
    (marked-checked c.args.checker.now c.check_marked.new.self.clauses c.args.proof.now c.in-Ok.report c.requires.new
    (c.in-Ok.ensures.exact c.args.proof.now (ap (λ x. x.spent) c.requires.new) (ap (λ s. (cut_input s).left) c.new.ensures) tt))
    (λ are. let z : false ≡ true = sym c.if-not-are_given.true ∙ c.are_given.ensures.1 are in cc) refl refl

pub returns-else-not-are_given-clause-returns : goal.returns-else-not-are_given-clause-returns
returns-else-not-are_given-clause-returns g c =
    Checked c.in-Ok.report.verdict c.in-Ok.report.inputs.clauses c.check_marked.new.self.clauses
    (marked-checked c.args.checker.now c.check_marked.new.self.clauses c.args.proof.now c.in-Ok.report c.requires.new
    (c.in-Ok.ensures.exact c.args.proof.now (ap (λ x. x.spent) c.requires.new) (ap (λ s. (cut_input s).left) c.new.ensures) tt))
    (c.are_given.ensures.0 c.if-not-are_given.false) c.returned_verdict.ensures.returns

pub returns-else-not-are_given-clause-sound : goal.returns-else-not-are_given-clause-sound
returns-else-not-are_given-clause-sound g c = λ n. marked-refutes c.args.checker.now.clauses c.args.given.now.clauses c.in-Ok.report
    (ap (λ x. x.clauses) c.requires.new) c.in-Ok.ensures.sound (c.are_given.ensures.0 c.if-not-are_given.false)
    (c.returned_verdict.ensures.refutes n)

pub returns-in-Err-clause-returns : goal.returns-in-Err-clause-returns
returns-in-Err-clause-returns g c =
    marked-failed c.args.given.now.clauses c.check_marked.new.self.clauses c.args.checker.now c.args.proof.now (cut_input c.new.result)
    (cut_input c.check_marked.new.source) c.in-Err.error _ _ c.requires.new
    (λ of. c.in-Err.ensures.exact c.args.proof.now (ap (λ x. x.spent) c.requires.new) (ap (λ s. (cut_input s).left) c.new.ensures) of)
    (c.in-Err.ensures.checks (ap (λ x. x.spent) c.requires.new)) c.returned_error.ensures.returns
