use Rattle.std.proofs.Common.{length, ap, arith}
use Rattle.varisat_clause.specs.Stored.{stored_at}
use Rattle.varisat_clause.specs.Stores.{stored_clauses}
use Rattle.varisat_clause.proofs.DatabaseTracks.{long-at}
use Rattle.varisat_analysis.proofs.MarkedReasons.{first-read}
use Rattle.varisat_analysis.proofs.reasons.first_var.Goals as goal

pub bounds-lits-0 : goal.bounds-lits-0
bounds-lits-0 g c =
    let n = (long-at c.args.clause_alloc.now c.args.cref c.requires.sound c.requires.place).0 in
    let e = ap length c.lits.ensures in
    omega (arith, n, e)

pub returns : goal.returns
returns g c =
    let n = (long-at c.args.clause_alloc.now c.args.cref c.requires.sound c.requires.place).0 in
    let e = ap length c.lits.ensures in
    first-read c.lits.result.now (stored_at (stored_clauses c.args.clause_alloc.now) c.args.cref).literals c.index-lits-0.result c.var.result
    (omega (arith, n, e)) c.lits.ensures c.index-lits-0.is c.var.ensures
