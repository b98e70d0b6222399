use Rattle.std.proofs.Common.{◌≡◌, false}
use Rattle.varisat_clause.specs.Stored.{header_at}
use Rattle.varisat_clause.specs.Stores.{stored_clauses}
use Rattle.varisat_clause.proofs.DatabaseTracks.{tracks-shortened}
use Rattle.varisat_tests_rows.proofs.tests.store.shorten.Goals as goal

pub returns-then-count-len : goal.returns-then-count-len
returns-then-count-len c =
    let live : (header_at (stored_clauses c.args.alloc.now) c.place-cref.result).deleted ≡ false = cc (c.if-not-deleted.ensures, c.header-header.ensures) in
    tracks-shortened c.args.db.now c.args.alloc.now c.shorten.new.self c.place-cref.result c.args.count c.requires c.place-cref.ensures.known
    live c.shorten.ensures
