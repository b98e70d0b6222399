-- A model is there, by the status.
use Rattle.std.proofs.Common.{sym, ◌∙◌, subst}
use Rattle.varisat_formula.specs.promises.Written.{Puts}
use Rattle.varisat.specs.promises.Decided.{concluded}
use Rattle.varisat_solve.proofs.ShownTexts.{hidden}
use Rattle.varisat_solve.proofs.program.print_verdict.Goals as goal

pub returns-then-status_of-eq-STATUS_SATISFIABLE : goal.returns-then-status_of-eq-STATUS_SATISFIABLE
returns-then-status_of-eq-STATUS_SATISFIABLE g c =
    subst
    (λ text. Puts (g.T.ProofTarget.taken c.args.out.now) c.print_text.result text (g.T.ProofTarget.taken c.print_text.new.target))
    (sym (hidden (concluded c.args.report.now) (sym c.status_of.ensures ∙ c.if-status_of-eq-STATUS_SATISFIABLE.true)))
    c.print_text.ensures
