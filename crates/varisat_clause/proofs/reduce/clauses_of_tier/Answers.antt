use Rattle.std.proofs.lemmas.Grind.{common_steps}
use Rattle.std.proofs.Common.{◌≡◌, true, false, ap, sym, ◌∙◌, arith}
use Rattle.std.specs.Prelude.{not, ◌&&◌}
use Rattle.varisat_clause.specs.Tiers.{is_tier}
use Rattle.varisat_clause.specs.Headers.{Header}
use Rattle.varisat_clause.specs.Stored.{stored_at}
use Rattle.varisat_clause.specs.Stores.{stored_clauses}
use Rattle.varisat_clause.specs.Databases.{is_live_in}
use Rattle.varisat_clause.proofs.TierPlaces.{tier-more, tier-same}
use Rattle.varisat_clause.proofs.reduce.clauses_of_tier.Goals as goal

pub clauses-preserved-then-not-is_live_in : goal.clauses-preserved-then-not-is_live_in
clauses-preserved-then-not-is_live_in g c =
    let live : is_live_in c.args.tier (stored_at (stored_clauses c.args.alloc.now) c.place-cref.result) ≡ false =
    ap (λ (h : Header). not h.deleted && is_tier c.args.tier h.tier) (sym c.header.ensures) ∙ sym c.is_live_in.ensures ∙ c.if-not-is_live_in.true in
    tier-same c.args.tier c.args.alloc.now c.clauses.index c.place-cref.result c.clauses.list.items
    (omega arith) c.place-cref.ensures.place c.clauses.invariant live

pub clauses-preserved : goal.clauses-preserved
clauses-preserved g c =
    let live : is_live_in c.args.tier (stored_at (stored_clauses c.args.alloc.now) c.place-cref.result) ≡ true =
    ap (λ (h : Header). not h.deleted && is_tier c.args.tier h.tier) (sym c.header.ensures) ∙ sym c.is_live_in.ensures ∙ c.if-not-is_live_in.false in
    tier-more c.args.tier c.args.alloc.now c.clauses.index c.place-cref.result c.clauses.list.items c.push.new.self.items
    (omega arith) c.place-cref.ensures.place c.place-cref.ensures.known c.clauses.invariant live c.in_ok-push.ensures.items

pub returns : goal.returns
returns g c = grind (arith, common_steps)
