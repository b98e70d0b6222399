use Rattle.std.proofs.Common.{◌≡◌, ◌<◌, length, Bool, true, false, rules, ap, sym, refl, subst, ◌∙◌, arith}
use Rattle.std.specs.Prelude.{not}
use denote.Enum.Bare.{sameb, same_true}
use Rattle.varisat_clause.specs.contracts.header.Tier.{the_type}
use Rattle.varisat_clause.specs.declared.header.Tier.{Tier}
use Rattle.varisat_clause.specs.Headers.{Header}
use Rattle.varisat_clause.specs.Stored.{header_at, with_header}
use Rattle.varisat_clause.specs.Stores.{HoldsClauses, stored_clauses}
use Rattle.varisat_clause.specs.Databases.{count_of}
use Rattle.varisat_clause.proofs.DatabaseTracks.{count-small, count-lowered, counted, header-self, tracks-moved}
use Rattle.varisat_clause.proofs.db.set_clause_tier.Goals as goal

pub note_moved-requires-clause-some : goal.note_moved-requires-clause-some
note_moved-requires-clause-some g c =
    rw (c.tier-old_tier.ensures, c.header-header.ensures)
    (counted c.args.db.now c.args.alloc.now c.args.cref c.requires.tracks c.requires.place c.requires.live)

pub note_moved-requires-clause-small : goal.note_moved-requires-clause-small
note_moved-requires-clause-small g c =
    let some : 0 < count_of c.tier-old_tier.result c.args.db.now.counts =
    rw (c.tier-old_tier.ensures, c.header-header.ensures)
    (counted c.args.db.now c.args.alloc.now c.args.cref c.requires.tracks c.requires.place c.requires.live) in
    let l = count-lowered c.tier-old_tier.result c.args.tier c.args.db.now.counts some in
    let b = count-small c.args.tier c.args.db.now c.args.alloc.now c.requires.tracks in
    omega (arith, l, b)

pub returns-in_ok-note_moved-clause-tracks : goal.returns-in_ok-note_moved-clause-tracks
returns-in_ok-note_moved-clause-tracks g c =
    tracks-moved c.args.db.now c.note_moved.new.self c.args.alloc.now c.set_header.new.self c.args.cref c.header-header.result c.args.tier
    c.requires.tracks c.requires.place c.requires.live c.header-header.ensures
    (c.in_ok-note_moved.ensures.moved ∙ rw c.tier-old_tier.ensures refl)
    (subst (λ (x : Header). HoldsClauses c.set_header.new.self (length c.args.alloc.now.words)
    (with_header (stored_clauses c.args.alloc.now) c.args.cref x)) c.set_tier.ensures c.set_header.ensures)

not-false : (b : Bool) → false ≡ not b → b ≡ true
not-false true e = refl
not-false false e = absurd (cc)

pub returns-else-ne-clause-moved : goal.returns-else-ne-clause-moved
returns-else-ne-clause-moved g c =
    let same : c.tier-old_tier.result ≡ c.args.tier = same_true the_type (search rules) _ _
    (not-false (sameb the_type c.tier-old_tier.result c.args.tier) c.if-ne.ensures) in
    let h : Header = header_at (stored_clauses c.args.alloc.now) c.args.cref in
    let e : c.args.tier ≡ h.tier = sym same ∙ c.tier-old_tier.ensures ∙ ap (λ (x : Header). x.tier) c.header-header.ensures in
    record {
      sound = c.requires.tracks.sound;
      words = refl;
      clauses = sym (header-self (stored_clauses c.args.alloc.now) c.args.cref (record h { tier = c.args.tier }) (ap (λ (x : Tier). record h { tier = x }) e));
    }
