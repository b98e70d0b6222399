use Rattle.std.proofs.Common.{rules, ℕ, ◌*◌, false, List, ◌++◌, length, replicate, ap, ap₂, sym, ◌∙◌, subst, arith}
use Rattle.varisat_clause.specs.Collected.{live_clauses}
use Rattle.varisat_theory.specs.promises.Membership.{◌∈◌}
use Rattle.varisat_clause.specs.Stored.{StoredClause, literals_of}
use Rattle.varisat_clause.specs.Stores.{Store}
use Rattle.varisat_clause.specs.Databases.{Database, no_database, Tracks}
use Rattle.varisat_clause.proofs.DatabaseTracks.{tracks-none}
use Rattle.varisat_prop.specs.View.{view_of, pairs_from}
use Rattle.varisat_search.proofs.assuming.AssumptionLevels.{has-none, none-assumable}
use Rattle.varisat_prop.specs.Parts.{Values, TrailParts}
use Rattle.varisat_vsids.specs.Activities.{Activities}
use Rattle.varisat_search.proofs.loading.LoadView.{first-propagated}
use Rattle.varisat_search.proofs.context.Context.new_in.Goals as goal

pub returns-clause-ready : goal.returns-clause-ready
returns-clause-ready g c = record {
  well = search rules;
  settled = search rules;
  propagated = first-propagated _ _ c.new_in-12.ensures (ap (λ (x : Values). x.current) c.new_in-2.ensures)
      (ap live_clauses c.new_in-5.ensures.empty) c.new_in-4.ensures (ap (λ (x : TrailParts). x.decisions) c.new_in-10.ensures)
      (ap (λ (x : TrailParts). x.queue_head) c.new_in-10.ensures);
  tracks = subst (λ (d : Database). Tracks d c.new_in-5.result) (sym c.new_in-6.ensures)
      (subst (λ (s : Store). Tracks no_database s) (sym c.new_in-5.ensures.empty) tracks-none);
  analysis = search rules;
  flags = c.new_in-9.ensures ∙ ap (λ n. replicate (2 * n) false) (sym (ap (λ (x : Values). length x.current) c.new_in-2.ensures));
  decidable = record {
    entries = record {
      activity = let a = ap (λ (x : Activities). length x.activity) c.new_in-11.ensures in
          let v = ap (λ (x : Values). length x.current) c.new_in-2.ensures in omega (arith, a, v);
      available = let a = ap (λ (x : Activities). length x.available) c.new_in-11.ensures in
          let v = ap (λ (x : Values). length x.current) c.new_in-2.ensures in omega (arith, a, v);
    };
    decidable = λ d h. absurd (subst (λ P. d ∈ P)
        (ap₂ (λ (ks : List StoredClause) (B : List (List ℕ)). literals_of ks ++ pairs_from 0 B)
        (ap live_clauses c.new_in-5.ensures.empty) c.new_in-4.ensures) h);
  };
  assumed = has-none (view_of c.new_in-5.result c.new_in-4.result c.new_in-2.result c.new_in-10.result c.new_in-7.result) c.new_in-3.result
      (ap (λ (x : TrailParts). x.decisions) c.new_in-10.ensures) c.new_in-3.ensures;
  assumable = none-assumable (view_of c.new_in-5.result c.new_in-4.result c.new_in-2.result c.new_in-10.result c.new_in-7.result) c.new_in-11.result
      c.new_in-3.result c.new_in-3.ensures;
}
