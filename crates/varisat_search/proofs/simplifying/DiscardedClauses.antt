-- A search goes on without learned clauses that are no reasons.
use Rattle.std.proofs.Common.{◌≡◌, ℕ, ◌<◌, ◌/◌, Bool, true, false, not, ◌&&◌, None, List, [], ◌∷◌, length, map, get_or, inl, inr, ⊎_elim, refl, sym, ap, ◌∙◌, subst}
use Rattle.std.specs.Prelude.{is_some}
use Rattle.std.specs.List.{filter}
use Rattle.std.proofs.lemmas.Bool.{cases_Bool, eq-eqb}
use Rattle.varisat_theory.specs.promises.Membership.{◌∈◌}
use Rattle.varisat_theory.specs.promises.Literals.{Literal, variable_of}
use Rattle.varisat_clause.specs.declared.header.Tier.TheVariants as tier
use Rattle.varisat_clause.specs.Tiers.{is_tier}
use Rattle.varisat_clause.specs.Stored.{StoredClause, literals_of, literals_at, stored_at, header_at, IsClauseRef, AreRising}
use Rattle.varisat_clause.specs.Stores.{Store, stored_clauses, IsSound, HoldsClauses}
use Rattle.varisat_clause.specs.Databases.{is_live_in}
use Rattle.varisat_clause.specs.Collected.{live_of, live_clauses}
use Rattle.varisat_clause.specs.Reductions.{unmarked_places, all_deleted, ReducesLocals}
use Rattle.varisat_clause.proofs.StoreSound.{are-rising}
use Rattle.varisat_clause.proofs.StoredClauses.{stored-∈, stored-found, literals-∈, from-literals}
use Rattle.varisat_clause.proofs.DatabaseTracks.{place-is, same-tier}
use Rattle.varisat_clause.proofs.LiveStore.{live-∈}
use Rattle.varisat_prop.specs.declared.prop.graph.Reason.{Reason}
use Rattle.varisat_prop.specs.declared.prop.graph.Reason.TheVariants as reason
use Rattle.varisat_prop.specs.View.{View, clause_at, node_at, node_of, IsReason, WellFormed}
use Rattle.varisat_prop.specs.Watches.{literal_in}
use Rattle.varisat_analysis.specs.HeaderChanges.{SameButHeaders}
use Rattle.varisat_analysis.specs.Reductions.{is_clause_at, is_reason, reason_marked, reasons_marked, Discards}
use Rattle.varisat_analysis.proofs.SameButHeaders.{headers-trans, headers-place, headers-literals, headers-at, headers-rising, map-same}
use Rattle.varisat_search.proofs.simplifying.ClausesExchanged.{SameReason, MayExchange}
use Rattle.varisat_analysis.proofs.MarkedReasons.{mark-place, mark-held, mark-live, reason-first}
use Rattle.varisat_prop.proofs.pairs.SimplifiedPairs.{filter-∈, ∈-filter}
use Rattle.varisat_analysis.proofs.DeletedPlaces.{filter-rising, all-placed, deleted-stays, deleted-from, unmarked-∈, live-filter}

-- The clauses that are left may stand in place of all.
module _ (s t : View) (w : WellFormed s) (d : Discards s t) where
  abbrev left : List StoredClause
  left = filter (λ k. not (d.gone k)) s.clauses

  left-rising : AreRising left
  left-rising = filter-rising (λ k. not (d.gone k)) s.clauses w.places

  -- a reason is not gone
  reason-left : (k p : ℕ) → k < length s.trail → (node_at s k).reason ≡ reason.Long p → IsClauseRef s.clauses p → IsClauseRef t.clauses p
      × (literals_at t.clauses p ≡ clause_at s p)
  reason-left k p h e a =
      let x = stored_at s.clauses p in
      let i = stored-∈ s.clauses p a in
      let f = place-is s.clauses p a in
      let stays : not (d.gone x) ≡ true = ⊎_elim (λ g. absurd (d.unused x i g k h (e ∙ ap reason.Long (sym f)))) (λ g. ap not g) (cases_Bool (d.gone x)) in
      let j : x ∈ left = filter-∈ (λ k. not (d.gone k)) s.clauses x i stays in (
        headers-place left t.clauses p d.clauses (x, j, f),
        headers-at left t.clauses d.clauses p ∙ ap (λ (q : ℕ). literals_at left q) (sym f)
            ∙ ap (λ (y : StoredClause). y.literals) (stored-found left left-rising x j),
      )

  same-left : (k : ℕ) → k < length s.trail → (r : Reason) → (node_at s k).reason ≡ r → IsReason s k r → SameReason s t.clauses r r
  same-left k h reason.Unit e i = refl
  same-left k h (reason.Binary ms) e i = refl
  same-left k h (reason.Long p) e i = let (a, b) = reason-left k p h e i.0 in (p, refl, a, b)

  pub discards-may : MayExchange s t.clauses s.nodes
  discards-may = record {
    places = headers-rising left t.clauses d.clauses left-rising;
    fewer = λ c h.
        let (k, i, e) = from-literals left c (subst (λ cs. c ∈ cs) (headers-literals left t.clauses d.clauses) h) in
        subst (λ x. x ∈ literals_of s.clauses) e (literals-∈ s.clauses k (∈-filter (λ k. not (d.gone k)) s.clauses k i).0);
    count = refl;
    level = λ k h. refl;
    depth = λ k h. refl;
    same = λ k h. same-left k h (node_at s k).reason refl (w.reason_is k h);
  }

-- What a reduction takes out is learned, and no reason.
module _ (s : View) (old marked new : Store) (w : WellFormed s) (ok : IsSound old) (are : s.clauses ≡ live_clauses old)
    (m : HoldsClauses marked (length old.words) (reasons_marked s.values s.nodes (stored_clauses old))) (r : ReducesLocals marked new) where
  abbrev f : StoredClause → StoredClause
  f = reason_marked s.values s.nodes

  abbrev ks : List StoredClause
  ks = stored_clauses old

  abbrev out : List ℕ
  out = unmarked_places (stored_clauses marked) (length r.order / 2) r.order

  abbrev gone : ℕ → Bool
  gone p = (header_at (stored_clauses new) p).deleted

  out-places : (p : ℕ) → p ∈ out → IsClauseRef (stored_clauses marked) p
  out-places p h = r.listed.known p (unmarked-∈ (stored_clauses marked) (length r.order / 2) r.order p h).0

  -- a clause as it is marked
  marked-∈ : (k : StoredClause) → k ∈ ks → stored_at (stored_clauses marked) k.place ≡ f k
  marked-∈ k h =
      ap (stored_at (stored_clauses marked)) (sym (mark-place s.values s.nodes k))
      ∙ stored-found (stored_clauses marked) (are-rising marked m.sound) (f k) (subst (λ xs. f k ∈ xs) (sym m.clauses) (map-∈ ks h))
    where
      map-∈ : (xs : List StoredClause) → k ∈ xs → f k ∈ map f xs
      map-∈ [] i = absurd i
      map-∈ (x ∷ xs) (inl e) = inl (ap f e)
      map-∈ (x ∷ xs) (inr i) = inr (map-∈ xs i)

  same-deleted : (k : StoredClause) → (f k).header.deleted ≡ k.header.deleted
  same-deleted k = ap (λ x. x.deleted) (mark-held s.values s.nodes k)

  headers : SameButHeaders ks (stored_clauses new)
  headers =
      subst (SameButHeaders ks) (sym r.deleted.clauses)
      (headers-trans ks (stored_clauses marked) (all_deleted out (stored_clauses marked))
      (subst (SameButHeaders ks) (sym m.clauses) (map-same _ f ks (λ k. ap (λ x. x.placed) (mark-held s.values s.nodes k))))
      (all-placed out (stored_clauses marked)))

  stays-deleted : (k : StoredClause) → k ∈ ks → k.header.deleted ≡ true → gone k.place ≡ true
  stays-deleted k h e =
      subst (λ xs. (header_at xs k.place).deleted ≡ true) (sym r.deleted.clauses)
      (deleted-stays out (stored_clauses marked) k.place out-places (ap (λ (x : StoredClause). x.header.deleted) (marked-∈ k h) ∙ same-deleted k ∙ e))

  -- a clause that is gone is one of those that the reduction takes
  pub gone-out : (k : StoredClause) → k ∈ s.clauses → gone k.place ≡ true → (k ∈ ks) × (k.header.deleted ≡ false) × (k.place ∈ out)
  gone-out k h e =
      let (i, live) = live-∈ ks k (subst (λ xs. k ∈ xs) are h) in (
        i,
        live,
        ⊎_elim
            (λ g. absurd (let z : true ≡ false = sym g ∙ ap (λ (x : StoredClause). x.header.deleted) (marked-∈ k i) ∙ same-deleted k ∙ live in cc))
            (λ o. o)
            (deleted-from out (stored_clauses marked) k.place out-places (subst (λ xs. (header_at xs k.place).deleted ≡ true) r.deleted.clauses e)),
      )

  second : (a b : Bool) → (a && b) ≡ true → b ≡ true
  second true b e = e
  second false b e = absurd (let z : false ≡ true = e in cc)

  gone-local : (k : StoredClause) → k ∈ s.clauses → gone k.place ≡ true → k.header.tier ≡ tier.Local
  gone-local k h e =
      let (i, live, o) = gone-out k h e in
      let a = r.listed.live k.place (unmarked-∈ (stored_clauses marked) (length r.order / 2) r.order k.place o).0 in
      let b = subst (λ (x : StoredClause). is_live_in tier.Local x ≡ true) (marked-∈ k i ∙ mark-live s.values s.nodes k live) a in
      sym (same-tier tier.Local k.header.tier (second (not k.header.deleted) (is_tier tier.Local k.header.tier) b))

  gone-unmarked : (k : StoredClause) → k ∈ s.clauses → gone k.place ≡ true → is_reason s.values s.nodes k ≡ false
  gone-unmarked k h e =
      let (i, live, o) = gone-out k h e in
      sym (ap (λ (x : StoredClause). x.header.mark) (marked-∈ k i ∙ mark-live s.values s.nodes k live))
      ∙ (unmarked-∈ (stored_clauses marked) (length r.order / 2) r.order k.place o).1

  is-used : (k : StoredClause) → k ∈ s.clauses → (i : ℕ) → i < length s.trail → (node_at s i).reason ≡ reason.Long k.place → is_reason s.values s.nodes k ≡ true
  is-used k h i l e =
      let q = reason-first s w k i h l e in
      let v : is_some (get_or s.values (variable_of (literal_in k.literals 0)) None) ≡ true =
      ap (λ (x : Literal). is_some (get_or s.values (variable_of x) None)) q ∙ ap (λ o. is_some o) (w.is_true i l) in
      let n : is_clause_at (node_of s (literal_in k.literals 0)).reason k.place ≡ true =
      ap (λ (x : Literal). is_clause_at (node_of s x).reason k.place) q ∙ ap (λ x. is_clause_at x k.place) e ∙ eq-eqb k.place k.place refl in
      ap (λ b. b && is_clause_at (node_of s (literal_in k.literals 0)).reason k.place) v ∙ n

  pub reduces-discards : (t : View) → t.clauses ≡ live_clauses new → t ≡ record s { clauses = t.clauses } → Discards s t
  reduces-discards t e rest = record {
    gone = λ k. gone k.place;
    clauses =
        subst (λ xs. SameButHeaders (filter (λ k. not (gone k.place)) xs) t.clauses) (sym are)
        (subst (SameButHeaders (filter (λ k. not (gone k.place)) (live_of ks))) (sym e)
        (live-filter gone ks (stored_clauses new) headers
        (λ j i. sym (ap (λ (x : StoredClause). x.header.deleted) (stored-found (stored_clauses new) (are-rising new r.deleted.sound) j i))) stays-deleted));
    learned = gone-local;
    unused = λ k h g i l q. let z : true ≡ false = sym (is-used k h i l q) ∙ gone-unmarked k h g in absurd cc;
    rest = rest;
  }

  pub reduces-gone : (t : View) (e : t.clauses ≡ live_clauses new) (rest : t ≡ record s { clauses = t.clauses }) (k : StoredClause) →
      (reduces-discards t e rest).gone k ≡ (header_at (stored_clauses new) k.place).deleted
  unfolding reduces-discards
  reduces-gone t e rest k = refl
