use Rattle.std.proofs.Common.{length, ap, sym, subst, ◌∙◌, arith}
use Rattle.varisat_clause.specs.Stored.{StoredClause}
use Rattle.varisat_clause.specs.Databases.{Database, count_of, raised, Tracks}
use Rattle.varisat_clause.proofs.DatabaseTracks.{count-small, tracks-added}
use Rattle.varisat_clause.proofs.db.add_clause.Goals as goal

pub raise-requires : goal.raise-requires
raise-requires g c =
    let e = ap (λ (x : Database). count_of c.args.header.tier x.counts) c.db.view_is in
    let b = count-small c.args.header.tier c.args.db.now c.args.alloc.now c.requires.tracks in
    rw c.tier.ensures (omega (arith, e, b))

pub returns-clause-tracks : goal.returns-clause-tracks
returns-clause-tracks g c =
    let k : StoredClause = record { place = c.in_ok-cref.cref; header = record c.args.header { len = length c.args.lits.now }; literals = c.args.lits.now } in
    let t : Tracks (record { counts = c.db.inside.counts; garbage = c.db.inside.garbage; lists = c.db.inside.lists }) c.args.alloc.now =
    subst (λ (x : Database). Tracks x c.args.alloc.now) (sym c.db.view_is) c.requires.tracks in
    let a = tracks-added (record { counts = c.db.inside.counts; garbage = c.db.inside.garbage; lists = c.db.inside.lists }) c.args.alloc.now
    c.add_clause.new.alloc k t c.in_ok-cref.ensures.store.added c.requires.live in
    let r = c.raise.ensures ∙ ap (λ x. raised x c.db.inside.counts) c.tier.ensures in
    rw (r, c.in_ok-cref.ensures.listed) a
