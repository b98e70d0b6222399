use Rattle.std.proofs.lemmas.Result.{err_from_is_err_and}
use Rattle.std.proofs.lemmas.Grind.{common_steps}
use Rattle.std.proofs.Common.{◌∷◌, [], ◌++◌, arith}
use Rattle.varisat_formula.specs.promises.Written.{spaced_literals, clauses_text}
use Rattle.varisat_formula.proofs.WrittenTexts.{reads_back}
use Rattle.varisat_formula.proofs.TargetParts.{header_begun, begun_part, clause_parts}
use Rattle.varisat_formula.proofs.dimacs.writer.write_dimacs.Goals as goal

pub returns-in_err-write_header-clause-begun : goal.returns-in_err-write_header-clause-begun
returns-in_err-write_header-clause-begun g c =
    let p = err_from_is_err_and c.from_residual.result c.from_residual.ensures.1 in rw p.1
    (header_begun c.args.formula.now c.var_count.result c.len.result _ _ c.in_err-write_header.ensures.0.0 c.var_count.ensures.count c.len.ensures.count c.in_err-write_header.ensures.0.1)

pub returns-in_err-write_header-clause-read_back : goal.returns-in_err-write_header-clause-read_back
returns-in_err-write_header-clause-read_back g c = λ h. reads_back c.args.formula.now h c.len.ensures.small c.var_count.ensures.below

pub returns-in_err-write_clause-clause-begun : goal.returns-in_err-write_clause-clause-begun
returns-in_err-write_clause-clause-begun g c =
    let p = err_from_is_err_and c.from_residual-in_err-write_clause.result c.from_residual-in_err-write_clause.ensures.1 in rw p.1
    let v = c.loop-clause.invariant in
    (begun_part _ _ _ v.0 (spaced_literals c.in-Some.clause.now ++ 48 ∷ 10 ∷ [])
    (clauses_text c.next.new.self) _ c.in_err-write_clause.ensures.0.0 v.1 c.in_err-write_clause.ensures.0.1
    (clause_parts c.in-Some.clause.now v.0 _ c.next.new.self c.loop-clause.clause-iterator c.in-Some.ensures.steps v.2))

pub returns-in_err-write_clause-clause-read_back : goal.returns-in_err-write_clause-clause-read_back
returns-in_err-write_clause-clause-read_back g c = λ h. reads_back c.args.formula.now h c.len.ensures.small c.var_count.ensures.below

pub returns-clause-read_back : goal.returns-clause-read_back
returns-clause-read_back g c = λ h. reads_back c.args.formula.now h c.len.ensures.small c.var_count.ensures.below

pub loop-clause-preserved : goal.loop-clause-preserved
loop-clause-preserved g c = grind (arith, common_steps)
