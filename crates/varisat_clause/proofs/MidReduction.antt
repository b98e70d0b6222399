-- A Mid clause that is reduced.
use Rattle.std.proofs.Common.{◌≡◌, ℕ, length, Bool, true, false, cond, refl, sym, ap, ◌∙◌}
use Rattle.varisat_clause.specs.declared.header.Tier.TheVariants.{Mid, Local}
use Rattle.varisat_clause.specs.Headers.{Header}
use Rattle.varisat_clause.specs.Stored.{StoredClause, stored_at, header_at, with_stored, with_header}
use Rattle.varisat_clause.specs.Stores.{Store, stored_clauses, IsSound, HoldsClauses}
use Rattle.varisat_clause.specs.Databases.{is_live_in}
use Rattle.varisat_clause.specs.Reductions.{mid_reduced}
use Rattle.varisat_clause.proofs.DatabaseTracks.{clause-self}

pub mid-place : (k : StoredClause) → (mid_reduced k).place ≡ k.place
mid-place k =
    go (is_live_in Mid k) k.header.active
  where
    go : (a b : Bool) → (cond a (cond b (record k { header = record k.header { active = false } })
        (record k { header = record k.header { tier = Local } })) k).place ≡ k.place
    go true true = refl
    go true false = refl
    go false b = refl

pub mid-other : (k : StoredClause) → is_live_in Mid k ≡ false → mid_reduced k ≡ k
mid-other k e = ap (λ a. cond a
    (cond k.header.active (record k { header = record k.header { active = false } }) (record k { header = record k.header { tier = Local } })) k) e

pub mid-active : (k : StoredClause) → is_live_in Mid k ≡ true → k.header.active ≡ true →
    mid_reduced k ≡ record k { header = record k.header { active = false } }
mid-active k e f =
    ap (λ a. cond a (cond k.header.active (record k { header = record k.header { active = false } })
    (record k { header = record k.header { tier = Local } })) k) e
    ∙ ap (λ b. cond b (record k { header = record k.header { active = false } }) (record k { header = record k.header { tier = Local } })) f

pub mid-moved : (k : StoredClause) → is_live_in Mid k ≡ true → k.header.active ≡ false → mid_reduced k ≡ record k { header = record k.header { tier = Local } }
mid-moved k e f =
    ap (λ a. cond a (cond k.header.active (record k { header = record k.header { active = false } })
    (record k { header = record k.header { tier = Local } })) k) e
    ∙ ap (λ b. cond b (record k { header = record k.header { active = false } }) (record k { header = record k.header { tier = Local } })) f

-- what the three cases leave
pub holds-other : (s : Store) (p : ℕ) → IsSound s → is_live_in Mid (stored_at (stored_clauses s) p) ≡ false →
    HoldsClauses s (length s.words) (with_stored (stored_clauses s) p (mid_reduced (stored_at (stored_clauses s) p)))
holds-other s p ok e = record {
  sound = ok;
  words = refl;
  clauses =
      sym (ap (with_stored (stored_clauses s) p) (mid-other (stored_at (stored_clauses s) p) e) ∙ clause-self (stored_clauses s) p);
}

pub holds-active : (s t : Store) (p : ℕ) (h : Header) → is_live_in Mid (stored_at (stored_clauses s) p) ≡ true →
    (header_at (stored_clauses s) p).active ≡ true → h ≡ record (header_at (stored_clauses s) p) { active = false } →
    HoldsClauses t (length s.words) (with_header (stored_clauses s) p h) →
    HoldsClauses t (length s.words) (with_stored (stored_clauses s) p (mid_reduced (stored_at (stored_clauses s) p)))
holds-active s t p h e f q o = record {
  sound = o.sound;
  words = o.words;
  clauses = o.clauses ∙ ap (with_header (stored_clauses s) p) q ∙ sym (ap (with_stored (stored_clauses s) p) (mid-active (stored_at (stored_clauses s) p) e f));
}

pub holds-moved : (s t : Store) (p : ℕ) → is_live_in Mid (stored_at (stored_clauses s) p) ≡ true → (header_at (stored_clauses s) p).active ≡ false →
    HoldsClauses t (length s.words) (with_header (stored_clauses s) p (record (header_at (stored_clauses s) p) { tier = Local })) →
    HoldsClauses t (length s.words) (with_stored (stored_clauses s) p (mid_reduced (stored_at (stored_clauses s) p)))
holds-moved s t p e f o = record {
  sound = o.sound;
  words = o.words;
  clauses = o.clauses ∙ sym (ap (with_stored (stored_clauses s) p) (mid-moved (stored_at (stored_clauses s) p) e f));
}
