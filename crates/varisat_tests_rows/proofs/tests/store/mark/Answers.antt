use Rattle.std.proofs.Common.{ap, ◌∙◌}
use Rattle.varisat_clause.specs.Headers.{Header}
use Rattle.varisat_clause.proofs.DatabaseTracks.{tracks-header}
use Rattle.varisat_tests_rows.proofs.tests.store.mark.Goals as goal

pub returns-then-index-len : goal.returns-then-index-len
returns-then-index-len c =
    tracks-header c.args.db.now c.args.alloc.now c.set_header.new.self c.place-cref.result c.set_mark.new.self c.requires c.place-cref.ensures.known
    (ap (λ (h : Header). h.tier) c.set_mark.ensures ∙ ap (λ (h : Header). h.tier) c.header-header.ensures)
    (ap (λ (h : Header). h.deleted) c.set_mark.ensures ∙ ap (λ (h : Header). h.deleted) c.header-header.ensures)
    c.set_header.ensures
