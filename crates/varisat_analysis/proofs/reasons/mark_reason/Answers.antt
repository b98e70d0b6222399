use Rattle.std.proofs.Common.{◌≡◌, true, refl, sym, ap, ◌∙◌}
use Rattle.varisat_clause.specs.Headers.{Header}
use Rattle.varisat_clause.specs.Stored.{stored_at, with_stored}
use Rattle.varisat_clause.specs.Stores.{stored_clauses}
use Rattle.varisat_clause.proofs.DatabaseTracks.{clause-self, tracks-header}
use Rattle.varisat_analysis.proofs.MarkedReasons.{mark-dead}
use Rattle.varisat_analysis.proofs.reasons.mark_reason.Goals as goal

pub returns-then-deleted-clause-marked : goal.returns-then-deleted-clause-marked
returns-then-deleted-clause-marked g c =
    let ks = stored_clauses c.args.clause_alloc.now in
    let p = c.args.cref in
    let dead : (stored_at ks p).header.deleted ≡ true = sym (ap (λ (h : Header). h.deleted) c.header-header.ensures) ∙ sym c.deleted.ensures
    ∙ c.if-deleted.true in
    record {
      sound = c.requires.sound;
      words = refl;
      clauses = sym (ap (with_stored ks p) (mark-dead c.args.assignment.now.current c.args.impl_graph.now.nodes.items (stored_at ks p) dead)
          ∙ clause-self ks p);
    }

pub returns-clause-tracks : goal.returns-clause-tracks
returns-clause-tracks g c d t =
    tracks-header d c.args.clause_alloc.now c.set_header.new.self c.args.cref c.set_mark.new.self t c.requires.place
    (ap (λ (h : Header). h.tier) c.set_mark.ensures ∙ ap (λ (h : Header). h.tier) c.header-header.ensures)
    (ap (λ (h : Header). h.deleted) c.set_mark.ensures ∙ ap (λ (h : Header). h.deleted) c.header-header.ensures)
    c.set_header.ensures
