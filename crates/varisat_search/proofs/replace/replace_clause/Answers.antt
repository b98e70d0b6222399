use Rattle.std.proofs.Common.{◌≡◌, ◌++◌, [], ◌∷◌, length, refl, sym, ap, ◌∙◌, arith}
use Rattle.varisat_theory.specs.promises.Literals.{Clause}
use Rattle.varisat_analysis.proofs.CopiedLiterals.{only-two}
use Rattle.varisat_search.proofs.replace.replace_clause.Goals as goal

pub returns-then-shorter-eq2-clause-replaced : goal.returns-then-shorter-eq2-clause-replaced
returns-then-shorter-eq2-clause-replaced g c =
    let n : length c.args.shorter.now ≡ 2 = omega (arith, c.if-shorter-eq2.true) in
    let two = only-two c.args.shorter.now c.index-shorter-0.result c.index-shorter-1.result n c.index-shorter-0.is c.index-shorter-1.is in
    record {
      long = λ h. absurd (omega (arith, h, n));
      pair = λ e. (refl, refl, c.in_ok-push.ensures.items ∙ ap (λ (d : Clause). c.args.pairs.now.items ++ d ∷ []) (sym two));
    }

pub returns-clause-replaced : goal.returns-clause-replaced
returns-clause-replaced g c = record {
  long = λ h. (refl, c.shrink.ensures, refl);
  pair = λ e. absurd (c.if-shorter-eq2.false (omega (arith, e)));
}
