use Rattle.std.proofs.Common.{ℕ, length, ap, refl, subst, ◌∙◌, arith}
use Rattle.varisat_clause.specs.Headers.{Header}
use Rattle.varisat_clause.specs.Stored.{header_at, with_header}
use Rattle.varisat_clause.specs.Stores.{HoldsClauses, stored_clauses}
use Rattle.varisat_clause.specs.Databases.{with_deleted}
use Rattle.varisat_clause.proofs.DatabaseTracks.{counted, garbage-small, long-at, tracks-deleted}
use Rattle.varisat_clause.proofs.db.delete_clause.Goals as goal

pub note_deleted-requires-clause-some : goal.note_deleted-requires-clause-some
note_deleted-requires-clause-some g c =
    rw (c.tier.ensures, c.header-header.ensures) (counted c.args.db.now c.args.alloc.now c.args.cref c.requires.tracks c.requires.place c.requires.live)

pub note_deleted-requires-clause-small : goal.note_deleted-requires-clause-small
note_deleted-requires-clause-small g c =
    let b = garbage-small c.args.db.now c.args.alloc.now c.requires.tracks in
    omega (arith, b, c.len.ensures.small, c.requires.tracks.sound.small)

pub returns-clause-noted : goal.returns-clause-noted
returns-clause-noted g c =
    c.note_deleted.ensures ∙ rw (c.tier.ensures, c.len.ensures.len, c.header-header.ensures)
    (ap (λ (x : ℕ). with_deleted (header_at (stored_clauses c.args.alloc.now) c.args.cref).tier x c.args.db.now)
    ((long-at c.args.alloc.now c.args.cref c.requires.tracks.sound c.requires.place).1))

pub returns-clause-tracks : goal.returns-clause-tracks
returns-clause-tracks g c =
    tracks-deleted c.args.db.now c.note_deleted.new.self c.args.alloc.now c.set_header.new.self c.args.cref c.header-header.result c.requires.tracks
    c.requires.place c.requires.live c.header-header.ensures
    (c.note_deleted.ensures ∙ rw (c.tier.ensures, c.len.ensures.len) refl)
    (subst (λ (x : Header). HoldsClauses c.set_header.new.self (length c.args.alloc.now.words)
    (with_header (stored_clauses c.args.alloc.now) c.args.cref x)) c.set_deleted.ensures c.set_header.ensures)
