use Rattle.std.proofs.Common.{List, refl, ap, subst}
use Rattle.varisat_theory.specs.promises.Literals.{Clause, IsSatisfiable}
use Rattle.varisat_calls.specs.Checks.{TextFails}
use Rattle.varisat_calls.proofs.Checking.{marked-text, drat-text}
use Rattle.varisat_calls.proofs.checks.check_with.Goals as goal

pub returns-in-Err-clause-returns : goal.returns-in-Err-clause-returns
returns-in-Err-clause-returns g c = TextFails c.in-Err.error refl c.in-Err.ensures.fails c.returned_error.ensures.returns

pub returns-in-Marked-clause-returns : goal.returns-in-Marked-clause-returns
returns-in-Marked-clause-returns g c =
    marked-text c.args.format c.args.text.now c.args.proof.now _ _ _ c.in_default.ensures.fine (ap (λ x. x.clauses) c.in_default.ensures.clauses) c.in-Marked.is
    c.check_marked.ensures.returns

pub returns-in-Drat : goal.returns-in-Drat
returns-in-Drat g c =
    let own = ap (λ x. x.clauses) c.in_default.ensures.clauses in
    record {
      returns = drat-text c.args.format c.args.text.now c.args.proof.now _ _ _ c.in_default.ensures.fine own c.in-Drat.is
          (c.check_drat.ensures.returns (ap (λ x. x.spent) c.in_default.ensures.clauses));
      sound = λ n. (c.in_default.ensures.fine, subst (λ (cs : List Clause). IsSatisfiable cs → ⊥) own (c.check_drat.ensures.sound n));
    }
