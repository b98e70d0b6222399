use Rattle.std.proofs.Common.{◌<◌, sym, subst, length, arith}
use Rattle.varisat_database.specs.Written.{WrittenClauses}
use Rattle.varisat_database.proofs.WrittenLemmas.{step_below, lines_count}
use Rattle.varisat_database.proofs.history.History.lits.Goals as goal

pub clause-requires : goal.clause-requires
clause-requires g c =
    let h = subst (λ (w : WrittenClauses). c.args.line < length w.lines) (sym c.self.view_is) c.requires in
    let n = lines_count c.self.inside.clauses c.self.inside.steps.items in
    step_below c.self.inside.clauses c.self.inside.steps.items c.args.line c.index.result.now (omega (arith, h, n)) c.index.ensures c.self.invariant
