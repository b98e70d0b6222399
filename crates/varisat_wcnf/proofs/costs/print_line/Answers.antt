use Rattle.std.proofs.Common.{◌∙◌, ◌++◌, ap}
use Rattle.std.specs.Prelude.{codes, decimal}
use Rattle.varisat_wcnf.specs.promises.Printed.{cost_line}
use Rattle.varisat_wcnf.proofs.Printing.{begun-first, begun-second, begun-whole, begun-so, on-err, joins}
use Rattle.varisat_wcnf.proofs.costs.print_line.Goals as goal

pub returns-in_err-put-clause-begun : goal.returns-in_err-put-clause-begun
returns-in_err-put-clause-begun g c =
    on-err c.from_residual.result _ (begun-first (codes "o ") (decimal c.args.cost ++ codes "\n") (g.T.ProofTarget.taken c.args.out.now) (g.T.ProofTarget.taken c.put.new.self) c.in_err-put.ensures.begun)

pub returns-in_err-put-2-clause-begun : goal.returns-in_err-put-2-clause-begun
returns-in_err-put-2-clause-begun g c =
    on-err c.from_residual-in_err-put-2.result _ (begun-second (codes "o ") (decimal c.args.cost ++ codes "\n") (g.T.ProofTarget.taken c.args.out.now) (g.T.ProofTarget.taken c.put.new.self) (g.T.ProofTarget.taken c.put-2.new.self) c.in_ok-put.ensures.whole
    (begun-first (decimal c.args.cost) (codes "\n") (g.T.ProofTarget.taken c.put.new.self) (g.T.ProofTarget.taken c.put-2.new.self) (begun-so _ (decimal c.args.cost) (g.T.ProofTarget.taken c.put.new.self) (g.T.ProofTarget.taken c.put-2.new.self) (c.as_bytes-digits.ensures.value ∙ c.format.ensures.text) c.in_err-put-2.ensures.begun)))

pub returns-in_err-put-3-clause-begun : goal.returns-in_err-put-3-clause-begun
returns-in_err-put-3-clause-begun g c =
    on-err c.from_residual-in_err-put-3.result _ (begun-second (codes "o ") (decimal c.args.cost ++ codes "\n") (g.T.ProofTarget.taken c.args.out.now) (g.T.ProofTarget.taken c.put.new.self) (g.T.ProofTarget.taken c.put-3.new.self) c.in_ok-put.ensures.whole
    (begun-second (decimal c.args.cost) (codes "\n") (g.T.ProofTarget.taken c.put.new.self) (g.T.ProofTarget.taken c.put-2.new.self) (g.T.ProofTarget.taken c.put-3.new.self) (c.in_ok-put-2.ensures.whole ∙ ap (λ x. (g.T.ProofTarget.taken c.put.new.self).bytes ++ x) (c.as_bytes-digits.ensures.value ∙ c.format.ensures.text)) c.in_err-put-3.ensures.begun))

pub returns-in_err-flush-clause-begun : goal.returns-in_err-flush-clause-begun
returns-in_err-flush-clause-begun g c =
    on-err c.from_residual-in_err-flush.result _ (begun-whole (cost_line c.args.cost) (g.T.ProofTarget.taken c.args.out.now) (g.T.ProofTarget.taken c.flush.new.self) (c.flush.ensures.same ∙
    joins (codes "o ") (decimal c.args.cost ++ codes "\n") (g.T.ProofTarget.taken c.args.out.now) (g.T.ProofTarget.taken c.put.new.self) (g.T.ProofTarget.taken c.put-3.new.self) c.in_ok-put.ensures.whole
    (joins (decimal c.args.cost) (codes "\n") (g.T.ProofTarget.taken c.put.new.self) (g.T.ProofTarget.taken c.put-2.new.self) (g.T.ProofTarget.taken c.put-3.new.self) (c.in_ok-put-2.ensures.whole ∙ ap (λ x. (g.T.ProofTarget.taken c.put.new.self).bytes ++ x) (c.as_bytes-digits.ensures.value ∙ c.format.ensures.text)) c.in_ok-put-3.ensures.whole)))
