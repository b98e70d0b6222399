use Rattle.std.proofs.Common.{◌≡◌, ℕ, ap, sym, ◌∙◌, subst, arith}
use Rattle.std.specs.Prelude.{not, min, length}
use Rattle.varisat_clause.specs.declared.header.Tier.TheVariants.{Irred}
use Rattle.varisat_clause.specs.Tiers.{is_tier}
use Rattle.varisat_clause.specs.Headers.{Header}
use Rattle.varisat_clause.specs.Stored.{header_at, literals_at, with_header}
use Rattle.varisat_clause.specs.Stores.{stored_clauses, HoldsClauses}
use Rattle.varisat_clause.proofs.DatabaseTracks.{tracks-header}
use Rattle.varisat_analysis.specs.Assessments.{glue_of, improved, CanCount}
use Rattle.varisat_analysis.proofs.BumpedClauses.{set-place, improved-irred, improved-higher, improved-stays, improved-moved}
use Rattle.varisat_analysis.proofs.assess.improve_glue.Goals as goal

pub compute_glue-glue-requires : goal.compute_glue-glue-requires
compute_glue-glue-requires g c = subst (λ ls. CanCount c.args.impl_graph.now.nodes.items ls c.args.flags.now) (sym c.lits.ensures) c.requires.count

pub returns-then-not-redundant-clause-improved : goal.returns-then-not-redundant-clause-improved
returns-then-not-redundant-clause-improved g c =
    let h : Header = header_at (stored_clauses c.args.alloc.now) c.args.cref in
    let own : ℕ = glue_of c.args.impl_graph.now.nodes.items (literals_at (stored_clauses c.args.alloc.now) c.args.cref) in
    improved-stays c.args.alloc.now c.args.cref own c.requires.tracks.sound
    (improved-irred own h (ap (λ (x : Header). not (is_tier x.tier Irred)) (sym c.header-header.ensures) ∙ sym c.redundant.ensures ∙ c.if-not-redundant.true))

pub returns-then-glue-clause-improved : goal.returns-then-glue-clause-improved
returns-then-glue-clause-improved g c =
    let h : Header = header_at (stored_clauses c.args.alloc.now) c.args.cref in
    let e = c.glue.ensures.glue ∙ ap (λ (x : Header). x.glue) c.header-header.ensures in
    let l = c.if-glue.true in
    let own : ℕ = glue_of c.args.impl_graph.now.nodes.items (literals_at (stored_clauses c.args.alloc.now) c.args.cref) in
    let is : c.compute_glue-glue.result ≡ own = c.compute_glue-glue.ensures.glue ∙ ap (glue_of c.args.impl_graph.now.nodes.items) c.lits.ensures in
    improved-stays c.args.alloc.now c.args.cref own c.requires.tracks.sound (improved-higher own h (omega (arith, e, l, is)))

pub header-header-requires-2-clause-place : goal.header-header-requires-2-clause-place
header-header-requires-2-clause-place g c =
    let h : Header = header_at (stored_clauses c.args.alloc.now) c.args.cref in
    set-place c.args.alloc.now c.set_clause_tier.new.alloc c.args.cref
    (record h { tier = c.tier_by_glue.result }) c.requires.place c.in_ok-set_clause_tier.ensures.moved

pub set_header-requires-clause-place : goal.set_header-requires-clause-place
set_header-requires-clause-place g c =
    let h : Header = header_at (stored_clauses c.args.alloc.now) c.args.cref in
    set-place c.args.alloc.now c.set_clause_tier.new.alloc c.args.cref
    (record h { tier = c.tier_by_glue.result }) c.requires.place c.in_ok-set_clause_tier.ensures.moved

pub returns-clause-improved : goal.returns-clause-improved
returns-clause-improved g c =
    let redundant = ap (λ (x : Header). not (is_tier x.tier Irred)) (sym c.header-header.ensures) ∙ sym c.redundant.ensures ∙ c.if-not-redundant.false in
    let e = c.glue.ensures.glue ∙ ap (λ (x : Header). x.glue) c.header-header.ensures in
    let small = c.glue.ensures.small in
    let l = c.if-glue.false in
    let glue = c.compute_glue-glue.result in
    subst (λ (n : ℕ). HoldsClauses c.set_header.new.self (length c.args.alloc.now.words)
    (with_header (stored_clauses c.args.alloc.now) c.args.cref (improved n (header_at (stored_clauses c.args.alloc.now) c.args.cref))))
    (c.compute_glue-glue.ensures.glue ∙ ap (glue_of c.args.impl_graph.now.nodes.items) c.lits.ensures)
    (improved-moved c.args.alloc.now c.set_clause_tier.new.alloc c.set_header.new.self c.args.cref glue c.tier_by_glue.result c.set_glue.new.self
    c.requires.place redundant
    (omega (arith, e, l)) (omega (arith, e, small)) c.tier_by_glue.ensures c.in_ok-set_clause_tier.ensures.moved
    (c.set_glue.ensures ∙ ap (λ (x : Header). record x { glue = min glue 63 }) c.header-header-2.ensures) c.set_header.ensures)

pub returns-clause-tracks : goal.returns-clause-tracks
returns-clause-tracks g c =
    let n = c.set_clause_tier.new.alloc in
    let h : Header = header_at (stored_clauses c.args.alloc.now) c.args.cref in
    let e = c.set_glue.ensures ∙ ap (λ (x : Header). record x { glue = min c.compute_glue-glue.result 63 }) c.header-header-2.ensures in
    tracks-header c.set_clause_tier.new.db n c.set_header.new.self c.args.cref c.set_glue.new.self c.set_clause_tier.ensures.tracks
    (set-place c.args.alloc.now n c.args.cref (record h { tier = c.tier_by_glue.result }) c.requires.place c.in_ok-set_clause_tier.ensures.moved)
    (ap (λ (x : Header). x.tier) e) (ap (λ (x : Header). x.deleted) e) c.set_header.ensures
