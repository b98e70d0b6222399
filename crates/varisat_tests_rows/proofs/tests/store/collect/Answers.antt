use Rattle.std.proofs.Common.{◌≡◌, Bool, true, false, refl, sym, subst}
use Rattle.varisat_clause.specs.Stores.{Store, stored_clauses}
use Rattle.varisat_clause.specs.Databases.{Database, Tracks}
use Rattle.varisat_clause.specs.Collected.{IsCollected}
use Rattle.varisat_tests_rows.proofs.tests.store.collect.Goals as goal

-- a database fits its store also after a collection, whether it was due or not
tracks-collected : (b : Bool) (d e : Database) (s n : Store) → (b ≡ true → IsCollected n e (stored_clauses s)) → (b ≡ false → n ≡ s) →
    (b ≡ false → e ≡ d) → Tracks d s → Tracks e n
tracks-collected true d e s n f g h t = (f refl).tracks
tracks-collected false d e s n f g h t = subst (λ (x : Database). Tracks x n) (sym (h refl)) (subst (λ (x : Store). Tracks d x) (sym (g refl)) t)

pub returns : goal.returns
returns c =
    tracks-collected c.in_ok-done.done c.args.db.now c.collect_garbage.new.db c.args.alloc.now c.collect_garbage.new.alloc
    c.in_ok-done.ensures.collected c.in_ok-done.ensures.kept c.in_ok-done.ensures.kept_too c.requires
