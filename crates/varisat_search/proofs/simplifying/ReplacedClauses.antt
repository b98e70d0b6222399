-- A clause of a store that was replaced by a shorter one.
use Rattle.std.proofs.Common.{◌≡◌, ℕ, ◌≤◌, Bool, true, false, Option, List, [], ◌∷◌, ◌++◌, length, ⊎_elim, sym, ap, ◌∙◌, subst, arith}
use Rattle.std.proofs.lemmas.Bool.{cases_lt}
use Rattle.varisat_theory.specs.promises.Literals.{Clause}
use Rattle.varisat_clause.specs.Stored.{IsClauseRef, stored_at, header_at, literals_at}
use Rattle.varisat_clause.specs.Stores.{Store, stored_clauses, IsSound}
use Rattle.varisat_clause.specs.Filters.{Alters, left_if}
use Rattle.varisat_clause.proofs.FilteredClauses.{alters-same}
use Rattle.varisat_search.specs.Simplifications.{has_true, unassigned, shortened_to, LeavesOpen, ReplacesClause}
use Rattle.varisat_search.proofs.simplifying.FilteredUnits.{leaves-pair, leaves-long}
use Rattle.varisat_search.proofs.simplifying.ShrunkClauses.{shrunk-alters, shrunk-stored}

module _ (c : Clause) (p : ℕ) (old new : Store) (before after : List Clause) (stays : Bool) (at : IsClauseRef (stored_clauses old) p)
    (live : (header_at (stored_clauses old) p).deleted ≡ false) (least : 2 ≤ length c) (r : ReplacesClause c p old new before after stays) where
  -- three literals or more are left, or two
  by-length : (P : Type 0) → (3 ≤ length c → P) → (length c ≡ 2 → P) → P
  by-length P long pair = ⊎_elim (λ h. long (omega (arith, h))) (λ h. pair (omega (arith, h, least))) (cases_lt 2 (length c))

  pub replaced-alters : IsSound old → Alters old new p
  replaced-alters sound = by-length (Alters old new p)
      (λ h. shrunk-alters old new p c at (r.long h).1 live)
      (λ e. subst (λ n. Alters old n p) (sym (r.pair e).1) (alters-same old p sound at live))

  -- it is what is left of the clause once false literals go
  pub replaced-leaves : (values : List (Option Bool)) → has_true values (literals_at (stored_clauses old) p) ≡ false →
      c ≡ unassigned values (literals_at (stored_clauses old) p) →
      LeavesOpen values (stored_at (stored_clauses old) p) (left_if stays (stored_at (stored_clauses new) p)) before after
  replaced-leaves values none is =
      let k = stored_at (stored_clauses old) p in
      let j = stored_at (stored_clauses new) p in
      by-length (LeavesOpen values k (left_if stays j) before after)
      (λ h.
      let (on, holds, same) = r.long h in
      let shrunk = shrunk-stored old new p c at holds ∙ ap (λ (d : Clause). shortened_to d k) is in
      subst (λ b. LeavesOpen values k (left_if b j) before after) (sym on)
      (subst (λ cs. LeavesOpen values k (left_if true j) before cs) (sym same)
      (leaves-long values k before j none (subst (λ (d : Clause). 3 ≤ length d) is h) live shrunk)))
      (λ e.
      let (off, same, more) = r.pair e in
      subst (λ b. LeavesOpen values k (left_if b j) before after) (sym off)
      (leaves-pair values k before j after none (sym (ap (λ (d : Clause). length d) is) ∙ e) (more ∙ ap (λ d. before ++ d ∷ []) is)))
