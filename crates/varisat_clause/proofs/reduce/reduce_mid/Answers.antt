use Rattle.std.proofs.Common.{◌≡◌, false, ap, sym, ◌∙◌}
use Rattle.std.specs.Prelude.{not, ◌&&◌}
use Rattle.varisat_clause.specs.declared.header.Tier.TheVariants.{Mid}
use Rattle.varisat_clause.specs.Tiers.{is_tier}
use Rattle.varisat_clause.specs.Headers.{Header}
use Rattle.varisat_clause.specs.Stored.{stored_at}
use Rattle.varisat_clause.specs.Stores.{stored_clauses}
use Rattle.varisat_clause.specs.Databases.{is_live_in}
use Rattle.varisat_clause.proofs.DatabaseTracks.{tracks-header}
use Rattle.varisat_clause.proofs.MidReduction.{holds-other}
use Rattle.varisat_clause.proofs.reduce.reduce_mid.Goals as goal

pub returns-then-not-is_live_in-clause-reduced : goal.returns-then-not-is_live_in-clause-reduced
returns-then-not-is_live_in-clause-reduced g c =
    let live : is_live_in Mid (stored_at (stored_clauses c.args.alloc.now) c.args.cref) ≡ false =
    ap (λ (h : Header). not h.deleted && is_tier Mid h.tier) (sym c.header-header.ensures) ∙ sym c.is_live_in.ensures ∙ c.if-not-is_live_in.true in
    holds-other c.args.alloc.now c.args.cref c.requires.tracks.sound live

pub returns-then-active-clause-tracks : goal.returns-then-active-clause-tracks
returns-then-active-clause-tracks g c =
    tracks-header c.args.db.now c.args.alloc.now c.set_header.new.self c.args.cref c.set_active.new.self c.requires.tracks c.requires.place
    (ap (λ (h : Header). h.tier) c.set_active.ensures ∙ ap (λ (h : Header). h.tier) c.header-header.ensures)
    (ap (λ (h : Header). h.deleted) c.set_active.ensures ∙ ap (λ (h : Header). h.deleted) c.header-header.ensures)
    c.set_header.ensures
