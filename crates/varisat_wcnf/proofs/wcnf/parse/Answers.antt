use Rattle.std.proofs.Common.{inl, inr, ⊎_elim}
use Rattle.varisat_wcnf.proofs.Reading.{first-line, line-fault}
use Rattle.varisat_wcnf.proofs.wcnf.parse.Goals as goal

pub returns-in-Err-clause-err : goal.returns-in-Err-clause-err
returns-in-Err-clause-err g c =
    let lines = first-line c.lines.rest _ c.in-Some.behind _ c.in-Some.is c.split_line.ensures.last c.split_line.ensures.more in
    ⊎_elim inl (λ e. inr (line-fault _ _ _ _ _ _ _ c.lines.invariant.read lines e)) c.in-Err.ensures
