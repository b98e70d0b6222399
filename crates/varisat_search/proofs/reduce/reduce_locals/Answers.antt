use Rattle.varisat_steps.proofs.Broken.{error-broken, breaks-not}
use Rattle.varisat_steps.specs.declared.tracer.TraceError.TheVariants.{Memory}
use Rattle.std.proofs.Common.{◌≡◌, ◌/◌, ℕ, List, length, refl, sym, ap, ◌∙◌, subst, arith, ◌≢◌, Bool, true, false, not, nat_eq, cond, [], ◌∷◌, ◌++◌, map, inl, inr, ⊎_elim, append_assoc, zero, suc, ◌&&◌}
use Rattle.varisat_theory.specs.promises.Derivations.{Line, Delete}
use Rattle.varisat_clause.specs.declared.header.Tier.TheVariants.{Local}
use Rattle.varisat_clause.specs.Stores.{stored_clauses, HoldsClauses, Store, IsSound}
use Rattle.varisat_steps.proofs.Traced.{can_take}
use Rattle.varisat_search.specs.Seen.{search_of, kept_pair}
use Rattle.varisat_search.specs.Deletions.{unmarked_deletions, deletion_lines}
use Rattle.varisat_search.specs.declared.context.Context.{Context}
use Rattle.varisat_search.specs.Contexts.{view}
use Rattle.varisat_clause.specs.Reductions.{ListsTier, AreRanked, unmarked_places, all_deleted, ReducesLocals}
use Rattle.varisat_analysis.specs.Reductions.{Discards, reason_marked, reasons_marked}
use Rattle.varisat_search.proofs.simplifying.HeaderChanges.{store-view}
use Rattle.varisat_search.proofs.simplifying.DiscardedClauses.{reduces-discards, reduces-gone, gone-out}
use Rattle.varisat_search.specs.DueReductions.{DropsLocals}
use Rattle.varisat_search.proofs.stepping.DueReductions.{discards-keep}
use Rattle.varisat_search.proofs.stepping.ReadyAfter.{first-known, discards-ready}
use Rattle.varisat_search.proofs.reduce.reduce_locals.Given.{Over}
use Rattle.varisat_search.proofs.reduce.reduce_locals.Goals.{After-delete_unmarked, After-count}
use Rattle.varisat_steps.specs.Traces.{TakesLines}
use Rattle.std.specs.List.{filter}
use Rattle.std.proofs.lemmas.Bool.{cases_Bool, eq-eqb}
use Rattle.varisat_theory.specs.promises.Membership.{◌∈◌, IsDistinct}
use Rattle.varisat_theory.specs.promises.Searches.{KeptClause, Search}
use Rattle.varisat_theory.specs.inside.Outcomes.{Proves}
use Rattle.varisat_theory.proofs.steps.StepParts.{no_part, parts_join}
use Rattle.varisat_theory.proofs.steps.StepChanges.{learned_is_deleted}
use Rattle.varisat_clause.specs.Stored.{StoredClause, literals_at, stored_at, IsClauseRef, AreRising, header_at}
use Rattle.varisat_clause.proofs.StoredClauses.{same-self, is-other, stored-∈, stored-found}
use Rattle.varisat_clause.proofs.DatabaseTracks.{place-is, same-tier}
use Rattle.varisat_prop.proofs.pairs.SimplifiedPairs.{filter-∈, ∈-filter}
use Rattle.varisat_analysis.specs.HeaderChanges.{kept_clause}
use Rattle.varisat_analysis.proofs.DeletedPlaces.{filter-rising, one-placed, one-gone, deleted-stays, unmarked-∈}
use Rattle.varisat_clause.specs.declared.header.Tier.{Tier}
use Rattle.varisat_clause.specs.Tiers.{is_tier}
use Rattle.varisat_clause.specs.Filters.{deleted_at}
use Rattle.varisat_clause.specs.Collected.{live_clauses}
use Rattle.varisat_clause.proofs.LocalReduction.{live-not-deleted}
use Rattle.varisat_prop.specs.View.{View, WellFormed, pairs_from}
use Rattle.varisat_analysis.proofs.MarkedReasons.{mark-place, mark-held}
use Rattle.varisat_analysis.proofs.SameButHeaders.{headers-place, headers-kept}
use Rattle.varisat_clause.specs.declared.header.Tier.TheVariants as tier
use Rattle.varisat_clause.proofs.LiveStore.{∈-live}
use Rattle.varisat_search.proofs.reduce.reduce_locals.Goals as goal

-- The lines that delete learned clauses of the store, in the order of a list of places.
abbrev pub other_place : ℕ → StoredClause → Bool
other_place p k = not (nat_eq k.place p)

-- the clauses at other places
abbrev pub without_places : List ℕ → List StoredClause → List StoredClause
without_places [] ks = ks
without_places (p ∷ ps) ks = without_places ps (filter (other_place p) ks)

map-append : (xs ys : List StoredClause) → map kept_clause (xs ++ ys) ≡ map kept_clause xs ++ map kept_clause ys
map-append [] ys = refl
map-append (x ∷ xs) ys = ap (λ zs. kept_clause x ∷ zs) (map-append xs ys)

stays-all : (q : StoredClause → Bool) (ks : List StoredClause) → ((k : StoredClause) → k ∈ ks → q k ≡ true) → filter q ks ≡ ks
stays-all q [] h = refl
stays-all q (k ∷ ks) h = ap (λ b. cond b (k ∷ filter q ks) (filter q ks)) (h k (inl refl)) ∙ ap (λ xs. k ∷ xs) (stays-all q ks (λ j i. h j (inr i)))

record IsSplit (ks : List StoredClause) (k : StoredClause) : Type 0 where
  front : List StoredClause
  back : List StoredClause
  whole : ks ≡ front ++ k ∷ back
  left : filter (other_place k.place) ks ≡ front ++ back

split-place : (ks : List StoredClause) → AreRising ks → (k : StoredClause) → k ∈ ks → IsSplit ks k
split-place [] r k h = absurd h
split-place (j ∷ ks) r k (inl e) =
    let gone : other_place k.place j ≡ false = ap not (eq-eqb j.place k.place (ap (λ (x : StoredClause). x.place) (sym e))) in
    record {
      front = [];
      back = ks;
      whole = ap (λ x. x ∷ ks) (sym e);
      left = ap (λ b. cond b (j ∷ filter (other_place k.place) ks) (filter (other_place k.place) ks)) gone
          ∙ stays-all (other_place k.place) ks
          (λ i m. let l = r.0 i m in let f = ap (λ (x : StoredClause). x.place) e in
          ap not (is-other i.place k.place (λ g. absurd (omega (arith, l, f, g)))));
    }
split-place (j ∷ ks) r k (inr m) =
    let d = split-place ks r.1 k m in
    let l = r.0 k m in
    let stays : other_place k.place j ≡ true = ap not (is-other j.place k.place (λ g. absurd (omega (arith, l, g)))) in
    record {
      front = j ∷ d.front;
      back = d.back;
      whole = ap (λ xs. j ∷ xs) d.whole;
      left = ap (λ b. cond b (j ∷ filter (other_place k.place) ks) (filter (other_place k.place) ks)) stays ∙ ap (λ xs. j ∷ xs) d.left;
    }

-- what stands at another place stands there still
still-at : (ks : List StoredClause) (p q : ℕ) → AreRising ks → IsClauseRef ks q → q ≢ p → IsClauseRef (filter (other_place p) ks) q
    × (stored_at (filter (other_place p) ks) q ≡ stored_at ks q)
still-at ks p q r a n =
    let k = stored_at ks q in
    let e : k.place ≡ q = place-is ks q a in
    let i : k ∈ filter (other_place p) ks = filter-∈ (other_place p) ks k (stored-∈ ks q a) (ap not (is-other k.place p (λ g. n (sym e ∙ g)))) in
    ((k, i, e), ap (stored_at (filter (other_place p) ks)) (sym e) ∙ stored-found (filter (other_place p) ks) (filter-rising (other_place p) ks r) k i)

lines-still : (ks : List StoredClause) (p : ℕ) (ps : List ℕ) → AreRising ks → (p ∈ ps → ⊥) → ((q : ℕ) → q ∈ ps → IsClauseRef ks q) →
    deletion_lines (filter (other_place p) ks) ps ≡ deletion_lines ks ps
lines-still ks p [] r n a = refl
lines-still ks p (q ∷ ps) r n a =
    ap (λ (x : StoredClause). Delete x.literals ∷ deletion_lines (filter (other_place p) ks) ps) (still-at ks p q r (a q (inl refl)) (λ e. n (inl (sym e)))).1
    ∙ ap (λ ls. Delete (literals_at ks q) ∷ ls) (lines-still ks p ps r (λ h. n (inr h)) (λ x h. a x (inr h)))

pub places-go : (s : Search) (ks : List StoredClause) (back : List KeptClause) (ps : List ℕ) → AreRising ks → s.kept ≡ map kept_clause ks ++ back →
    IsDistinct ps → ((p : ℕ) → p ∈ ps → IsClauseRef ks p) → ((p : ℕ) → p ∈ ps → (kept_clause (stored_at ks p)).learned ≡ true) →
    Proves 0 s (record s { kept = map kept_clause (without_places ps ks) ++ back }) (deletion_lines ks ps)
places-go s ks back [] r e d a l = subst (λ (js : List KeptClause). Proves 0 s (record s { kept = js }) []) e (no_part s)
places-go s ks back (p ∷ ps) r e d a l =
    let k = stored_at ks p in
    let at : k.place ≡ p = place-is ks p (a p (inl refl)) in
    let c = split-place ks r k (stored-∈ ks p (a p (inl refl))) in
    let js = filter (other_place p) ks in
    let left : js ≡ c.front ++ c.back = ap (λ q. filter (other_place q) ks) (sym at) ∙ c.left in
    let whole : s.kept ≡ map kept_clause c.front ++ (kept_clause k ∷ (map kept_clause c.back ++ back)) =
    e ∙ ap (λ xs. map kept_clause xs ++ back) c.whole ∙ ap (λ xs. xs ++ back) (map-append c.front (k ∷ c.back))
    ∙ append_assoc (map kept_clause c.front) (kept_clause k ∷ map kept_clause c.back) back in
    let rest : map kept_clause c.front ++ (map kept_clause c.back ++ back) ≡ map kept_clause js ++ back =
    sym (append_assoc (map kept_clause c.front) (map kept_clause c.back) back) ∙ ap (λ xs. xs ++ back) (sym (map-append c.front c.back))
    ∙ ap (λ xs. map kept_clause xs ++ back) (sym left) in
    let other : (q : ℕ) → q ∈ ps → q ≢ p = λ q h g. d.0 (subst (λ x. x ∈ ps) g h) in
    let s1 : Search = record s { kept = map kept_clause js ++ back } in
    let first : Proves 0 s s1 (Delete k.literals ∷ []) =
    subst (λ (xs : List KeptClause). Proves 0 s (record s { kept = xs }) (Delete k.literals ∷ [])) rest
    (learned_is_deleted s (map kept_clause c.front) (map kept_clause c.back ++ back) (kept_clause k) k.literals whole (same-self k.literals)
    (l p (inl refl))) in
    let more =
    places-go s1 js back ps (filter-rising (other_place p) ks r) refl d.1 (λ q h. (still-at ks p q r (a q (inr h)) (other q h)).0)
    (λ q h. ap (λ (x : StoredClause). (kept_clause x).learned) (still-at ks p q r (a q (inr h)) (other q h)).1 ∙ l q (inr h)) in
    subst (λ ls. Proves 0 s (record s { kept = map kept_clause (without_places ps js) ++ back }) (Delete k.literals ∷ ls))
    (lines-still ks p ps r d.0 (λ q h. a q (inr h)))
    (parts_join 0 0 s s1 (record s { kept = map kept_clause (without_places ps js) ++ back }) (Delete k.literals ∷ []) (deletion_lines js ps) first more)

-- a second filter that passes what the first one does changes nothing
filter-twice : (p q : StoredClause → Bool) (ks : List StoredClause) → ((k : StoredClause) → k ∈ ks → q k ≡ false → p k ≡ false) →
    filter p (filter q ks) ≡ filter p ks
filter-twice p q [] h = refl
filter-twice p q (k ∷ ks) h = go (q k) refl (filter-twice p q ks (λ j i. h j (inr i)))
  where
    go : (b : Bool) → q k ≡ b → filter p (filter q ks) ≡ filter p ks →
        filter p (cond b (k ∷ filter q ks) (filter q ks)) ≡ cond (p k) (k ∷ filter p ks) (filter p ks)
    go true e f = ap (λ xs. cond (p k) (k ∷ xs) xs) f
    go false e f = f ∙ sym (ap (λ b. cond b (k ∷ filter p ks) (filter p ks)) (h k (inl refl) e))

equal-of : (a b : ℕ) → not (nat_eq a b) ≡ false → a ≡ b
equal-of a b e = grind (arith, e)

pub without-is : (ps : List ℕ) (ks : List StoredClause) (gone : StoredClause → Bool) →
    ((k : StoredClause) → k ∈ ks → gone k ≡ true → k.place ∈ ps) → ((k : StoredClause) → k ∈ ks → k.place ∈ ps → gone k ≡ true) →
    without_places ps ks ≡ filter (λ k. not (gone k)) ks
without-is [] ks gone f t = sym (stays-all (λ k. not (gone k)) ks (λ k h. ⊎_elim (λ e. absurd (f k h e)) (λ e. ap not e) (cases_Bool (gone k))))
without-is (p ∷ ps) ks gone f t =
    without-is ps (filter (other_place p) ks) gone
    (λ k h e.
    let (i, n) = ∈-filter (other_place p) ks k h in
    ⊎_elim
    (λ g. absurd (let z : false ≡ true = sym (ap not (eq-eqb k.place p g)) ∙ n in cc))
    (λ o. o)
    (f k i e))
    (λ k h o. t k (∈-filter (other_place p) ks k h).0 (inr o))
    ∙ filter-twice (λ k. not (gone k)) (other_place p) ks (λ k h e. ap not (t k h (inl (equal-of k.place p e))))

from-map : (f : StoredClause → StoredClause) (ks : List StoredClause) (j : StoredClause) → j ∈ map f ks → (k : StoredClause) × (k ∈ ks) × (f k ≡ j)
from-map f [] j h = absurd h
from-map f (k ∷ ks) j (inl e) = (k, inl refl, sym e)
from-map f (k ∷ ks) j (inr i) = let (x, m, e) = from-map f ks j i in (x, inr m, e)

unmarked-distinct : (ks : List StoredClause) (n : ℕ) (ps : List ℕ) → IsDistinct ps → IsDistinct (unmarked_places ks n ps)
unmarked-distinct ks n [] d = tt
unmarked-distinct ks zero (p ∷ ps) d = tt
unmarked-distinct ks (suc n) (p ∷ ps) d = go (header_at ks p).mark (unmarked-distinct ks (suc n) ps d.1) (unmarked-distinct ks n ps d.1)
  where
    go : (b : Bool) → IsDistinct (unmarked_places ks (suc n) ps) → IsDistinct (unmarked_places ks n ps) →
        IsDistinct (cond b (unmarked_places ks (suc n) ps) (p ∷ unmarked_places ks n ps))
    go true i j = i
    go false i j = ((λ h. d.0 (unmarked-∈ ks n ps p h).0), j)

same-lines : (ks js : List StoredClause) (ps : List ℕ) → ((p : ℕ) → p ∈ ps → literals_at ks p ≡ literals_at js p) → deletion_lines ks ps ≡ deletion_lines js ps
same-lines ks js [] h = refl
same-lines ks js (p ∷ ps) h = ap (λ c. Delete c ∷ deletion_lines ks ps) (h p (inl refl))
    ∙ ap (λ ls. Delete (literals_at js p) ∷ ls) (same-lines ks js ps (λ q i. h q (inr i)))

-- the clauses at the places are deleted then
deleted-there : (ps : List ℕ) (ks : List StoredClause) (q : ℕ) → ((p : ℕ) → p ∈ ps → IsClauseRef ks p) → q ∈ ps → (header_at (all_deleted ps ks) q).deleted ≡ true
deleted-there [] ks q h i = absurd i
deleted-there (p ∷ ps) ks q h (inl e) =
    deleted-stays ps (deleted_at ks p) q (λ x i. headers-place ks (deleted_at ks p) x (one-placed ks p) (h x (inr i)))
    (subst (λ (x : ℕ). (header_at (deleted_at ks p) x).deleted ≡ true) (sym e) (one-gone ks p (h p (inl refl))))
deleted-there (p ∷ ps) ks q h (inr i) = deleted-there ps (deleted_at ks p) q (λ x j. headers-place ks (deleted_at ks p) x (one-placed ks p) (h x (inr j))) i

second : (a b : Bool) → (a && b) ≡ true → b ≡ true
second true b e = e
second false b e = absurd (let z : false ≡ true = e in cc)

-- A clause that is taken is one of those that are kept, and is learned.
record IsTaken (s : View) (marked : List StoredClause) (p : ℕ) : Type 0 where
  place : IsClauseRef s.clauses p
  text : literals_at s.clauses p ≡ literals_at marked p
  learned : (kept_clause (stored_at s.clauses p)).learned ≡ true

module _ (s : View) (old marked : Store) (order : List ℕ) (n : ℕ) (w : WellFormed s) (are : s.clauses ≡ live_clauses old)
    (m : HoldsClauses marked (length old.words) (reasons_marked s.values s.nodes (stored_clauses old)))
    (l : ListsTier tier.Local (stored_clauses marked) order) where
  abbrev out : List ℕ
  out = unmarked_places (stored_clauses marked) n order

  taken : (p : ℕ) → p ∈ out → IsTaken s (stored_clauses marked) p
  taken p h =
      let ks = stored_clauses old in
      let f : StoredClause → StoredClause = reason_marked s.values s.nodes in
      let i = (unmarked-∈ (stored_clauses marked) n order p h).0 in
      let j = stored_at (stored_clauses marked) p in
      let (k, a, e) = from-map f ks j (subst (λ (xs : List StoredClause). j ∈ xs) m.clauses (stored-∈ (stored_clauses marked) p (l.known p i))) in
      let held = mark-held s.values s.nodes k in
      let live : k.header.deleted ≡ false = sym (ap (λ x. x.deleted) held) ∙ ap (λ (x : StoredClause). x.header.deleted) e
      ∙ live-not-deleted tier.Local j (l.live p i) in
      let at : k.place ≡ p = sym (mark-place s.values s.nodes k) ∙ ap (λ (x : StoredClause). x.place) e ∙ place-is (stored_clauses marked) p (l.known p i) in
      let there : k ∈ s.clauses = subst (λ (xs : List StoredClause). k ∈ xs) (sym are) (∈-live ks k a live) in
      let stored : stored_at s.clauses p ≡ k = ap (stored_at s.clauses) (sym at) ∙ stored-found s.clauses w.places k there in
      let seen : kept_clause k ≡ kept_clause j = sym (ap (λ x. x.placed.kept) held) ∙ ap kept_clause e in
      let local : j.header.tier ≡ tier.Local =
      sym (same-tier tier.Local j.header.tier (second (not j.header.deleted) (is_tier tier.Local j.header.tier) (l.live p i))) in
      record {
        place = (k, there, at);
        text = ap (λ (x : StoredClause). x.literals) stored ∙ ap (λ (x : KeptClause). x.clause) seen;
        learned = ap (λ (x : StoredClause). (kept_clause x).learned) stored ∙ ap (λ (x : KeptClause). x.learned) seen
            ∙ ap (λ (x : Tier). not (is_tier x tier.Irred)) local;
      }

  abbrev pub pairs : List KeptClause
  pairs = map kept_pair (pairs_from 0 s.binary)

  pub locals-go : Proves 0 (search_of s) (record (search_of s) { kept = map kept_clause (without_places out s.clauses) ++ pairs })
      (deletion_lines (stored_clauses marked) out)
  locals-go =
      subst (λ ls. Proves 0 (search_of s) (record (search_of s) { kept = map kept_clause (without_places out s.clauses) ++ pairs }) ls)
      (same-lines s.clauses (stored_clauses marked) out (λ p h. (taken p h).text))
      (places-go (search_of s) s.clauses pairs out w.places refl (unmarked-distinct (stored_clauses marked) n order l.distinct)
      (λ p h. (taken p h).place) (λ p h. (taken p h).learned))

module _ (s t : View) (old marked new : Store) (w : WellFormed s) (ok : IsSound old) (are : s.clauses ≡ live_clauses old)
    (m : HoldsClauses marked (length old.words) (reasons_marked s.values s.nodes (stored_clauses old))) (r : ReducesLocals marked new)
    (d : Discards s t) (same : (k : StoredClause) → d.gone k ≡ (header_at (stored_clauses new) k.place).deleted) where
  abbrev taken_places : List ℕ
  taken_places = unmarked_places (stored_clauses marked) (length r.order / 2) r.order

  left-is : without_places taken_places s.clauses ≡ filter (λ k. not (d.gone k)) s.clauses
  left-is =
      without-is taken_places s.clauses d.gone
      (λ k h e. let (i, live, o) = gone-out s old marked new w ok are m r k h (sym (same k) ∙ e) in o)
      (λ k h i. same k ∙ subst (λ (xs : List StoredClause). (header_at xs k.place).deleted ≡ true) (sym r.deleted.clauses)
      (deleted-there taken_places (stored_clauses marked) k.place
      (λ p o. r.listed.known p (unmarked-∈ (stored_clauses marked) (length r.order / 2) r.order p o).0) i))

  pub locals-prove : Proves 0 (search_of s) (search_of t) (deletion_lines (stored_clauses marked) taken_places)
  locals-prove =
      let left : List StoredClause = filter (λ k. not (d.gone k)) s.clauses in
      let ps : List KeptClause = map kept_pair (pairs_from 0 s.binary) in
      let e : search_of t ≡ record (search_of s) { kept = map kept_clause left ++ ps } = ap search_of d.rest
      ∙ ap (λ ks. record (search_of s) { kept = ks ++ ps }) (headers-kept left t.clauses d.clauses) in
      subst (λ x. Proves 0 (search_of s) x (deletion_lines (stored_clauses marked) taken_places))
      (ap (λ ks. record (search_of s) { kept = map kept_clause ks ++ ps }) left-is ∙ sym e)
      (locals-go s old marked r.order (length r.order / 2) w are m r.listed)

pub mark_reasons-requires : goal.mark_reasons-requires
mark_reasons-requires g c = record {
  sound = c.requires.ready.tracks.sound;
  values =
      first-known (view c.args.ctx.now) c.requires.ready.well;
  nodes = c.requires.ready.well.nodes_are;
}

pub trace_deletions-requires : goal.trace_deletions-requires
trace_deletions-requires g c =
    let x = c.args.ctx.now in
    let marked = c.mark_reasons.new.clause_alloc in
    let l : ListsTier Local (stored_clauses marked) c.deref.result.now =
    subst (ListsTier Local (stored_clauses marked)) (sym c.deref.ensures.value) c.in_ok-locals.ensures.listed in
    record {
      sound = c.mark_reasons.ensures.marked.sound;
      listed = l.known;
      able = can_take (g.P.ProofTracer.holds c.args.proof.now) 0 (search_of (view x)) _
          (unmarked_deletions (stored_clauses marked) (c.len-half.result / 2) c.deref.result.now) c.requires.holds
          (locals-go (view x) x.clause_alloc marked c.deref.result.now (c.len-half.result / 2) c.requires.ready.well refl c.mark_reasons.ensures.marked l);
    }

pub delete_unmarked-requires : goal.delete_unmarked-requires
delete_unmarked-requires g c = record {
  tracks = c.mark_reasons.ensures.tracks c.args.ctx.now.clause_db c.requires.ready.tracks;
  listed = subst (ListsTier Local (stored_clauses c.mark_reasons.new.clause_alloc)) (sym c.deref-2.ensures.value) c.in_ok-locals.ensures.listed;
}

-- the clauses by rank, of which the first are deleted
count-is : (g : Over) (c : After-delete_unmarked g) → c.len-half.result ≡ length c.deref-2.result.now
count-is g c = omega (arith, c.len-half.ensures, c.deref-2.ensures.len)

abbrev reduces : (g : Over) (c : After-delete_unmarked g) → ReducesLocals c.mark_reasons.new.clause_alloc c.delete_unmarked.new.alloc
reduces g c =
    let marked = c.mark_reasons.new.clause_alloc in
    record {
      order = c.deref-2.result.now;
      listed = subst (ListsTier Local (stored_clauses marked)) (sym c.deref-2.ensures.value) c.in_ok-locals.ensures.listed;
      ranked = subst (AreRanked (stored_clauses marked)) (sym c.deref-2.ensures.value) c.in_ok-locals.ensures.ranked;
      deleted = subst (λ (m : ℕ). HoldsClauses c.delete_unmarked.new.alloc (length marked.words)
          (all_deleted (unmarked_places (stored_clauses marked) (m / 2) c.deref-2.result.now) (stored_clauses marked)))
          (count-is g c) c.delete_unmarked.ensures.deleted;
    }

abbrev after : (g : Over) (c : After-delete_unmarked g) → Context g.row.A.Denot
after g c = record c.args.ctx.now { clause_alloc = c.delete_unmarked.new.alloc; clause_db = c.delete_unmarked.new.db }

abbrev discards : (g : Over) (c : After-delete_unmarked g) → Discards (view c.args.ctx.now) (view (after g c))
discards g c =
    let x = c.args.ctx.now in
    reduces-discards (view x) x.clause_alloc c.mark_reasons.new.clause_alloc c.delete_unmarked.new.alloc c.requires.ready.well
    c.requires.ready.tracks.sound refl c.mark_reasons.ensures.marked (reduces g c) (view (after g c)) refl
    (store-view x (after g c) c.requires.ready.tracks.sound c.delete_unmarked.ensures.tracks.sound refl)

-- the view does not read the watch lists
abbrev last : (g : Over) (c : After-count g) → Context g.row.A.Denot
last g c = record c.args.ctx.now {
  clause_alloc = c.delete_unmarked.new.alloc;
  clause_db = c.delete_unmarked.new.db;
  counters = record c.args.ctx.now.counters { deleted_clauses = c.count.new.counter };
  watchlists = c.disable.new.self;
}

pub returns-clause-keeps : goal.returns-clause-keeps
returns-clause-keeps g c =
    let end = (goal.at.returns-clause-keeps g c).After-count in
    let here = (goal.at.returns-clause-keeps g c).After-delete_unmarked in
    let x = c.args.ctx.now in
    let marked = c.mark_reasons.new.clause_alloc in
    let deletions : ℕ → List ℕ → List Line = λ n ps. unmarked_deletions (stored_clauses marked) (n / 2) ps in
    let order = c.deref-2.result.now in
    let whole : deletions c.len-half.result c.deref.result.now ≡ deletions (length order) order =
    ap (λ n. deletions n c.deref.result.now) (count-is g here) ∙ ap (deletions (length order)) (c.deref.ensures.value ∙ sym c.deref-2.ensures.value) in
    let d = c.disable.ensures in
    let sound = c.requires.ready.tracks.sound in
    let drops : DropsLocals (deletions (length order) order) x (last g end) =
    record { marked = marked; marks = c.mark_reasons.ensures.marked; reduces = reduces g here; deletes = refl; discards = discards g here } in
    let gone = reduces-gone (view x) x.clause_alloc marked c.delete_unmarked.new.alloc c.requires.ready.well sound refl
    c.mark_reasons.ensures.marked (reduces g here) (view (after g here)) refl
    (store-view x (after g here) sound c.delete_unmarked.ensures.tracks.sound refl) in
    let proves = locals-prove (view x) (view (after g here)) x.clause_alloc marked c.delete_unmarked.new.alloc c.requires.ready.well sound refl
    c.mark_reasons.ensures.marked (reduces g here) (discards g here) gone in
    discards-keep x (last g end) (discards-ready x (last g end) c.requires.ready
    (discards g here) c.delete_unmarked.ensures.tracks d.count d.empty d.enabled refl) refl
    (λ lines. DropsLocals lines x (last g end) × TakesLines g.P.ProofTracer.takes c.args.proof.now lines c.trace_deletions.new.proof) (discards g here) (
      deletions (length order) order,
      proves,
      (
        drops,
        subst (λ (ls : List Line). TakesLines g.P.ProofTracer.takes c.args.proof.now ls c.trace_deletions.new.proof) whole
            (c.in_ok-trace_deletions.ensures {u = tt}),
      ),
    )

pub returns-in_err-locals-clause-broken : goal.returns-in_err-locals-clause-broken
returns-in_err-locals-clause-broken g c =
    error-broken g.P.ProofTracer.breaks_off c.args.proof.now c.args.proof.now c.from_residual.result Memory c.from_residual.ensures
    (breaks-not g.P.ProofTracer.breaks_off g.met.P.ProofTracer.breaks_none c.args.proof.now)

pub returns-in_err-trace_deletions-clause-broken : goal.returns-in_err-trace_deletions-clause-broken
returns-in_err-trace_deletions-clause-broken g c =
    error-broken g.P.ProofTracer.breaks_off c.args.proof.now c.trace_deletions.new.proof c.from_residual-in_err-trace_deletions.result
    c.in_err-trace_deletions.field-0.0 c.from_residual-in_err-trace_deletions.ensures
    (c.in_err-trace_deletions.ensures {u = tt})
