use Rattle.std.proofs.Common.{subst}
use Rattle.std.proofs.lemmas.Result.{IfOk-weaker, IfErr-weaker}
use Rattle.varisat_maxsat.specs.promises.Problems.{starting}
use Rattle.varisat_maxsat.specs.inside.Reductions.{ReducesTo}
use Rattle.varisat_maxsat.proofs.solving.optimize_within.Goals as goal

pub returns : goal.returns
returns g c =
    let start = subst (λ n. ReducesTo (starting n) c.new_in-reduction.result) c.var_count.ensures.count c.new_in-reduction.ensures in record {
      answer = IfOk-weaker c.solve-found.result _ _ (λ o f. f start) c.solve-found.ensures.answer;
      taken = c.solve-found.ensures.taken start;
      reason = IfErr-weaker c.solve-found.result _ _ (λ e f over. f over start) c.solve-found.ensures.reason;
    }
