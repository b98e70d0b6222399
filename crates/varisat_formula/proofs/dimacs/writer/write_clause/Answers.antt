use Rattle.std.proofs.lemmas.Result.{err_from_is_err_and}
use Rattle.std.proofs.Common.{take, drop, suc, ◌∷◌, [], ◌++◌, ◌+◌, ◌∙◌, ap}
use Rattle.varisat_literals.specs.promises.Numbers.{literal_text}
use Rattle.varisat_formula.specs.promises.Written.{spaced_literals}
use Rattle.varisat_formula.proofs.TargetParts.{begun_part, put_part, puts_behind, literals_split, literals_more, clause_end}
use Rattle.varisat_formula.proofs.dimacs.writer.write_clause.Goals as goal

pub returns-in_err-write_literal : goal.returns-in_err-write_literal
returns-in_err-write_literal g c =
    let p = err_from_is_err_and c.from_residual.result c.from_residual.ensures.1 in rw p.1
    let ls = c.args.clause.now in
    let i = c.loop-literal.literal-index in
    let b = c.in_err-write_literal.ensures.0 in (
      begun_part _ _ _ (spaced_literals (take i ls)) (literal_text c.literal-item.result ++ 32 ∷ [])
          (spaced_literals (drop (suc i) ls) ++ 48 ∷ 10 ∷ []) _ b.0 c.loop-literal.invariant.put b.1
          (literals_split ls i c.literal-item.result (48 ∷ 10 ∷ []) c.loop-literal-test.true c.literal-item.is),
      c.in_err-write_literal.ensures.1 ∙ ap (λ n. n + 1) c.loop-literal.invariant.quiet,
    )

pub loop-literal-preserved : goal.loop-literal-preserved
loop-literal-preserved g c =
    let ls = c.args.clause.now in
    let i = c.loop-literal.literal-index in
    record {
      put = put_part _ _ _ (spaced_literals (take i ls)) (literal_text c.literal-item.result ++ 32 ∷ []) c.loop-literal.invariant.put c.in_ok-write_literal.ensures.0
          ∙ ap (λ x. (g.W.ProofTarget.taken c.args.target.now).bytes ++ x)
          (literals_more ls i c.literal-item.result c.loop-literal-test.true c.literal-item.is);
      quiet = c.in_ok-write_literal.ensures.1 ∙ c.loop-literal.invariant.quiet;
    }

pub returns : goal.returns
returns g c = puts_behind _ (g.W.ProofTarget.taken c.loop-literal.target) _ c.put_all.result
    (spaced_literals (take c.loop-literal.literal-index c.args.clause.now)) _ _ c.loop-literal.invariant.put c.loop-literal.invariant.quiet
    (clause_end c.args.clause.now c.loop-literal.literal-index c.as_slice.result.now c.loop-literal-test.false c.as_slice.ensures) c.put_all.ensures
