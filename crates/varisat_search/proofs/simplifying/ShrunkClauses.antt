-- A clause of a store whose first literals were written and whose others were cut off.
use Rattle.std.proofs.Common.{◌≡◌, ℕ, false, List, ◌++◌, length, take, refl, sym, ap, ◌∙◌, subst}
use Rattle.std.proofs.Math.Seq.{take-append_seam}
use Rattle.varisat_theory.specs.promises.Literals.{Clause}
use Rattle.varisat_clause.specs.Stored.{StoredClause, IsClauseRef, stored_at, header_at, literals_at, with_stored, with_literals, shortened}
use Rattle.varisat_clause.specs.Stores.{Store, stored_clauses, IsSound, HoldsClauses}
use Rattle.varisat_clause.specs.Filters.{Alters}
use Rattle.varisat_clause.proofs.StoredClauses.{clause-same, clause-place, clause-twice, literals-clause, stored-∈}
use Rattle.varisat_clause.proofs.StoreSound.{are-long}
use Rattle.varisat_clause.proofs.DatabaseTracks.{place-is}
use Rattle.varisat_search.specs.Simplifications.{shortened_to}

-- the header says how many literals there are
pub header-length : (s : Store) (p : ℕ) → IsSound s → IsClauseRef (stored_clauses s) p →
    (header_at (stored_clauses s) p).len ≡ length (literals_at (stored_clauses s) p)
header-length s p ok at = (are-long s ok (stored_at (stored_clauses s) p) (stored-∈ (stored_clauses s) p at)).1

module _ (s n : Store) (p : ℕ) (ws left rest : Clause) (ok : IsSound s) (at : IsClauseRef (stored_clauses s) p)
    (h : HoldsClauses n (length s.words) (with_literals (stored_clauses s) p ws)) (w : ws ≡ left ++ rest) where
  abbrev ks : List StoredClause
  ks = stored_clauses s

  abbrev written : StoredClause
  written = record (stored_at ks p) { literals = ws }

  is-written : stored_clauses n ≡ with_stored ks p written
  is-written = h.clauses ∙ sym (literals-clause ks p ws)

  stored-written : stored_at (stored_clauses n) p ≡ written
  stored-written = ap (λ xs. stored_at xs p) is-written ∙ clause-same ks p written at (place-is ks p at)

  pub written-place : IsClauseRef (stored_clauses n) p
  written-place = subst (λ xs. IsClauseRef xs p) (sym is-written) (clause-place ks p p written (place-is ks p at) at)

  pub written-length : (header_at (stored_clauses n) p).len ≡ length (literals_at ks p)
  written-length = ap (λ (k : StoredClause). k.header.len) stored-written ∙ header-length s p ok at

  pub shrunk : (m : Store) → HoldsClauses m (length n.words) (shortened (stored_clauses n) p (length left)) →
      HoldsClauses m (length s.words) (with_stored ks p (shortened_to left (stored_at ks p)))
  shrunk m o =
      let j : StoredClause → StoredClause =
      λ (k : StoredClause). record { place = p; header = record k.header { len = length left }; literals = take (length left) k.literals } in
      let a : j (stored_at (stored_clauses n) p) ≡ j written = ap j stored-written in
      let b : take (length left) ws ≡ left = ap (take (length left)) w ∙ take-append_seam left rest in
      let c : j written ≡ record { place = p; header = record (header_at ks p) { len = length left }; literals = left } =
      ap (λ (x : Clause). record { place = p; header = record (header_at ks p) { len = length left }; literals = x }) b in
      let d : j written ≡ shortened_to left (stored_at ks p) = c ∙ ap
      (λ (x : ℕ). record { place = x; header = record (header_at ks p) { len = length left }; literals = left }) (sym (place-is ks p at)) in
      record {
        sound = o.sound;
        words = o.words ∙ h.words;
        clauses = o.clauses ∙ ap (λ xs. with_stored xs p (j (stored_at (stored_clauses n) p))) is-written
            ∙ ap (with_stored (with_stored ks p written) p) (a ∙ d) ∙ clause-twice ks p written (shortened_to left (stored_at ks p)) (place-is ks p at);
      }

-- a clause that was shrunk
module _ (s n : Store) (p : ℕ) (left : Clause) (at : IsClauseRef (stored_clauses s) p)
    (h : HoldsClauses n (length s.words) (with_stored (stored_clauses s) p (shortened_to left (stored_at (stored_clauses s) p)))) where
  pub shrunk-alters : (header_at (stored_clauses s) p).deleted ≡ false → Alters s n p
  shrunk-alters live = record {
    clause = shortened_to left (stored_at (stored_clauses s) p);
    place = place-is (stored_clauses s) p at;
    tier =
        refl;
    live = live;
    is = h;
  }

  pub shrunk-stored : stored_at (stored_clauses n) p ≡ shortened_to left (stored_at (stored_clauses s) p)
  shrunk-stored = ap (λ xs. stored_at xs p) h.clauses ∙ clause-same (stored_clauses s) p (shortened_to left (stored_at (stored_clauses s) p)) at
      (place-is (stored_clauses s) p at)
