use Rattle.std.proofs.Common.{◌∙◌, true, false, sym, refl}
use Rattle.varisat_wcnf.proofs.Printing.{prints-line, prints-part, prints-no-more}
use Rattle.varisat_wcnf.proofs.costs.CostPrinterSolutionSink.take.Goals as goal

pub returns-then-is_some : goal.returns-then-is_some
returns-then-is_some g c = λ x found h. (
  h.0,
  h.1,
  λ none few. prints-no-more _ (record { cost = c.args.cost; values = c.args._values.now; goes_on = false }) found (g.T.ProofTarget.taken x.out.now) (g.T.ProofTarget.taken c.args.self.now.out.now) (sym c.is_some.ensures ∙ c.if-is_some.true) (h.2 none few),
)

pub returns-in-Ok : goal.returns-in-Ok
returns-in-Ok g c = λ x found h. (
  h.0,
  h.1,
  λ none few. prints-line _ c.args.cost (record { cost = c.args.cost; values = c.args._values.now; goes_on = true }) found (g.T.ProofTarget.taken x.out.now) (g.T.ProofTarget.taken c.args.self.now.out.now) (g.T.ProofTarget.taken c.print_cost.new.out) (sym c.is_some.ensures ∙ c.if-is_some.false) refl refl c.in-Ok.ensures.whole
      c.in-Ok.ensures.quiet (h.2 none few),
)

pub returns-in-Err : goal.returns-in-Err
returns-in-Err g c = λ x found h. (
  h.0,
  h.1,
  λ none few. prints-part _ c.in-Err.error c.args.cost (record { cost = c.args.cost; values = c.args._values.now; goes_on = false }) found (g.T.ProofTarget.taken x.out.now) (g.T.ProofTarget.taken c.args.self.now.out.now) (g.T.ProofTarget.taken c.print_cost.new.out) (sym c.is_some.ensures ∙ c.if-is_some.false) refl
      c.in-Err.ensures.begun c.in-Err.ensures.fault few (h.2 none few),
)
