-- The contexts of a simplification.
use Rattle.std.proofs.Common.{◌≡◌, ℕ, ◌<◌, Bool, true, false, List, [], ◌∷◌, ◌++◌, length, inl, ⊎_elim, refl, sym, ap, ap₂, ◌∙◌, subst, arith, ◌≤◌, not, ◌&&◌, cond, Option, get_or, map, inr}
use Rattle.varisat_theory.specs.promises.Membership.{◌∈◌}
use Rattle.varisat_theory.specs.promises.Literals.{Literal, Clause, opposite}
use Rattle.varisat_theory.specs.inside.Outcomes.{Proves}
use Rattle.varisat_clause.specs.Stored.{StoredClause, IsClauseRef, stored_at, literals_at, AreRising}
use Rattle.varisat_clause.specs.Stores.{stored_clauses}
use Rattle.varisat_clause.specs.Databases.{is_live, Tracks}
use Rattle.varisat_clause.specs.Collected.{live_clauses}
use Rattle.varisat_clause.proofs.LiveStore.{∈-live, are-live-long}
use Rattle.varisat_clause.proofs.StoreSound.{sound-is}
use Rattle.varisat_prop.specs.Simplified.{are_unassigned, without_assigned, is_unassigned}
use Rattle.varisat_prop.specs.View.{View, clause_at, WellFormed, PropagatedBeforeDecisions, literal_at}
use Rattle.varisat_prop.specs.declared.prop.watch_list.Watch.{Watch}
use Rattle.varisat_prop.specs.Watches.{watches_of, literal_in, WatchesHoldTo, IsPropagated, Watches, IsKnownWatch, NameOnce, HasWatch, IsWatching}
use Rattle.varisat_prop.proofs.pairs.SimplifiedPairs.{unassigned-none, filter-∈, ∈-filter, all-unassigned}
use Rattle.varisat_prop.proofs.views.SimplifiedView.{simplified, settled-undecided, settled-unassigned, implied-unassigned}
use Rattle.varisat_search.specs.declared.context.Context.{Context}
use Rattle.varisat_search.specs.Contexts.{view, IsReady}
use Rattle.varisat_search.specs.Frames.{ChangesClauses}
use Rattle.varisat_search.specs.Decisions.{CanDecide, SameDecidable}
use Rattle.varisat_search.specs.Seen.{search_of}
use Rattle.varisat_search.specs.RootSimplified.{CanSimplify}
use Rattle.varisat_search.specs.Steps.{IsPropagatedToEnd}
use Rattle.varisat_search.specs.MendedLists.{AreMended, MendsLists}
use Rattle.varisat_search.specs.Simplifications.{left_long, left_pairs, with_pairs, IsLeftOpen, IsPairIn, IsSimplified, pair_lines, clause_lines, has_true, unassigned, shortened_to, stays_long}
use Rattle.varisat_search.proofs.simplifying.SimplifiedSearch.{IsAtUnits, stored-open, pairs-in, are-unassigned, still-well, still-free, C-count, simplify-proves, literal-kept, from-map}
use Rattle.varisat_search.proofs.stepping.ReadyAfter.{KeepsValues, keeps-values, exchanged-ready}
use Rattle.std.specs.Prelude.{is_none, nat_le}
use Rattle.std.specs.List.{filter}
use Rattle.std.proofs.lemmas.Bool.{not-true, cases_Bool, and_parts, le-leb}
use Rattle.varisat_theory.proofs.clauses.Values.{opposite_twice}
use Rattle.varisat_theory.proofs.clauses.Places.{∈-get_or}
use Rattle.varisat_clause.proofs.StoredClauses.{stored-∈, stored-found}
use Rattle.varisat_prop.proofs.trails.LiteralValues.{made-none, none-made}
use Rattle.varisat_prop.proofs.watching.WatchesHold.{two}
use Rattle.varisat_search.proofs.simplifying.UnassignedLiterals.{some-true, none-true, left-all}

-- The watch lists once clauses lost literals or went.

-- 1. The clauses that stay, by their places.
module _ (values : List (Option Bool)) (ks : List StoredClause) (rising : AreRising ks) (after : AreRising (left_long values ks)) where
  abbrev f : StoredClause → StoredClause
  f k = shortened_to (unassigned values k.literals) k

  abbrev js : List StoredClause
  js = left_long values ks

  literals-found : (p : ℕ) (k : StoredClause) → k ∈ ks → k.place ≡ p → literals_at ks p ≡ k.literals
  literals-found p k h e = subst (λ q. literals_at ks q ≡ k.literals) e (ap (λ (x : StoredClause). x.literals) (stored-found ks rising k h))

  pub record WasAt (p : ℕ) : Type 0 where
    pub place : IsClauseRef ks p
    pub stays : stays_long values (literals_at ks p) ≡ true
    pub left : literals_at js p ≡ unassigned values (literals_at ks p)

  pub was-at : (p : ℕ) → IsClauseRef js p → WasAt p
  was-at p (j, i, e) =
      let (k, o, q) = from-map f (filter (λ k. stays_long values k.literals) ks) j i in
      let (a, b) = ∈-filter (λ k. stays_long values k.literals) ks k o in
      let at : k.place ≡ p = sym (ap (λ (x : StoredClause). x.place) q) ∙ e in
      let same = literals-found p k a at in
      record {
        place = (k, a, at);
        stays = ap (stays_long values) same ∙ b;
        left = subst (λ r. literals_at js r ≡ j.literals) e (ap (λ (x : StoredClause). x.literals) (stored-found js after j i))
            ∙ ap (λ (x : StoredClause). x.literals) q ∙ ap (unassigned values) (sym same);
      }

  pub stays-at : (p : ℕ) → IsClauseRef ks p → stays_long values (literals_at ks p) ≡ true → IsClauseRef js p
  stays-at p (k, h, e) t =
      let b : stays_long values k.literals ≡ true = ap (stays_long values) (sym (literals-found p k h e)) ∙ t in
      (f k, to-map (filter (λ k. stays_long values k.literals) ks) k (filter-∈ (λ k. stays_long values k.literals) ks k h b), e)
    where
      to-map : (ls : List StoredClause) (k : StoredClause) → k ∈ ls → f k ∈ map f ls
      to-map [] k h = absurd h
      to-map (l ∷ ls) k (inl e) = inl (ap f e)
      to-map (l ∷ ls) k (inr h) = inr (to-map ls k h)

-- a clause without a literal that has a value stays
untouched-stays : (values : List (Option Bool)) (c : Clause) → 3 ≤ length c → are_unassigned values c ≡ true → stays_long values c ≡ true
untouched-stays values c n e =
    let full = left-all values c e in
    let free : has_true values c ≡ false = ⊎_elim
    (λ t. let (l, i, h) = some-true values c t in absurd (none-made values l l (unassigned-none values l (all-unassigned values c e l i)) refl h))
    (λ t. t)
    (cases_Bool (has_true values c)) in
    ap₂ (λ (a b : Bool). not a && b) free (ap (λ (d : Clause). nat_le 3 (length d)) full ∙ le-leb 3 (length c) n)

-- the first two literals are left where none of them has a value
front-left : (p : Literal → Bool) (c : Clause) → 2 ≤ length c → p (get_or c 0 0) ≡ true → p (get_or c 1 0) ≡ true → (j : ℕ) → j < 2 →
    get_or (filter p c) j 0 ≡ get_or c j 0
front-left p [] n a b j h = absurd (omega (arith, n))
front-left p (x ∷ []) n a b j h = absurd (omega (arith, n))
front-left p (x ∷ y ∷ c) n a b j h =
    ap (λ (d : Clause). get_or d j 0)
    (ap (λ t. cond t (x ∷ filter p (y ∷ c)) (filter p (y ∷ c))) a ∙ ap (λ (d : Clause). x ∷ d) (ap (λ t. cond t (y ∷ filter p c) (filter p c)) b))
    ∙ two (λ i. get_or (x ∷ y ∷ filter p c) i 0 ≡ get_or (x ∷ y ∷ c) i 0) refl refl j h

-- 2. All of the trail is propagated, and no level has begun above it.
module _ (s : View) (w : WellFormed s) (settled : WatchesHoldTo s (length s.trail)) (long : (k : StoredClause) → k ∈ s.clauses → 3 ≤ length k.literals)
    (after : AreRising (left_long s.values s.clauses)) where
  abbrev P : List StoredClause
  P = left_long s.values s.clauses

  long-clause : (i : ℕ) → IsClauseRef s.clauses i → 3 ≤ length (clause_at s i)
  long-clause i h = long (stored_at s.clauses i) (stored-∈ s.clauses i h)

  -- neither of the first two literals of a clause that stays has a value
  first-free : (i j : ℕ) → IsClauseRef s.clauses i → j < 2 → stays_long s.values (clause_at s i) ≡ true →
      is_unassigned s.values (literal_in (clause_at s i) j) ≡ true
  first-free i j h b t =
      let l = literal_in (clause_at s i) j in
      let free : has_true s.values (clause_at s i) ≡ false = not-true (has_true s.values (clause_at s i))
      (and_parts (not (has_true s.values (clause_at s i))) (nat_le 3 (length (unassigned s.values (clause_at s i)))) t).0 in
      let n = long-clause i h in
      let none = made-none s.values l
      (none-true s.values (clause_at s i) free l (∈-get_or (clause_at s i) j 0 (omega (arith, b, n))))
      (λ o. let (p, q, e) = w.stands (opposite l) o in
      let (k, x, y, z) = settled i j p h b q e in
      none-true s.values (clause_at s i) free (literal_at s k) y (w.is_true k x)) in
      ap (λ (o : Option Bool). is_none o) none

  same-front : (i j : ℕ) → IsClauseRef P i → j < 2 → literal_in (literals_at P i) j ≡ literal_in (clause_at s i) j
  same-front i j h b =
      let m = was-at s.values s.clauses w.places after i h in
      let n = long-clause i m.place in
      ap (λ (c : Clause). literal_in c j) m.left
      ∙ front-left (is_unassigned s.values) (clause_at s i) (omega (arith, n)) (first-free i 0 m.place (omega arith) m.stays)
      (first-free i 1 m.place (omega arith) m.stays) j b

  -- The lists of the literals are mended, by which clauses with an assigned literal are watched.
  module _ (W V : Watches) (lits : List Literal) (g : IsWatching W s.clauses) (m : MendsLists P lits W V)
      (noted : (i j : ℕ) → IsClauseRef s.clauses i → are_unassigned s.values (clause_at s i) ≡ false → j < 2 → opposite (literal_in (clause_at s i) j) ∈ lits) where
    from-mended : (x : Literal) (v : Watch) → AreMended P (watches_of W x) (watches_of V x) → v ∈ watches_of V x → IsKnownWatch P x v
    from-mended x v a h =
        let (p, b, (y, i, e)) = a.each v h in
        let (j, o, q) = (g.known x y i).2 in
        (p, b, (j, o, same-front v.cref j p o ∙ ap (λ k. literal_in (clause_at s k) j) (sym e) ∙ q))

    from-same : (x : Literal) (v : Watch) → v ∈ watches_of W x → v ∈ watches_of V x → IsKnownWatch P x v
    from-same x v h i =
        let (p, b, (j, o, q)) = g.known x v h in
        let c = clause_at s v.cref in
        ⊎_elim
        (λ e.
        let t = untouched-stays s.values c (long-clause v.cref p) e in
        let at = stays-at s.values s.clauses w.places after v.cref p t in
        let same : literals_at P v.cref ≡ c = (was-at s.values s.clauses w.places after v.cref at).left ∙ left-all s.values c e in
        (at, subst (λ d. v.blocking ∈ d) (sym same) b, (j, o, ap (λ d. literal_in d j) same ∙ q)))
        (λ e. from-mended x v
        (m.named x (subst (λ y. y ∈ lits) (ap opposite q ∙ opposite_twice x) (noted v.cref j p e o))) i)
        (cases_Bool (are_unassigned s.values c))

    pub watching-left : IsWatching V P
    watching-left = record {
      known = λ x v h. ⊎_elim
          (λ e. from-same x v (subst (λ vs. v ∈ vs) e h) h)
          (λ a. from-mended x v a h)
          (m.each x);
      once = λ x. ⊎_elim (λ e. subst (λ vs. NameOnce vs) (sym e) (g.once x)) (λ a. a.once (g.once x)) (m.each x);
      watched = λ i j h b.
          let o = was-at s.values s.clauses w.places after i h in
          let x = opposite (literal_in (clause_at s i) j) in
          let (y, k, e) = g.watched i j o.place b in
          let here : HasWatch (watches_of V x) i = ⊎_elim
          (λ q. (y, subst (λ vs. y ∈ vs) (sym q) k, e))
          (λ a. let (z, l, q) = a.all y k (subst (IsClauseRef P) (sym e) h) in (z, l, q ∙ e))
          (m.each x) in
          subst (λ l. HasWatch (watches_of V (opposite l)) i) (sym (same-front i j h b)) here;
    }

-- The context before a simplification.
pub at-units : {A : Type 0} (x : Context A) → CanSimplify x → IsAtUnits (view x)
at-units x c = record {
  well = c.ready.well;
  done = c.complete;
  undecided = c.undecided;
  units = c.proved;
  lists = c.ready.propagated.binary;
  long = are-live-long x.clause_alloc c.ready.tracks.sound;
}

module _ {A : Type 0} (x : Context A) (u : IsAtUnits (view x)) where
  -- what a filter of the store needs
  pub live-open : (k : StoredClause) → k ∈ stored_clauses x.clause_alloc → is_live k ≡ true → IsLeftOpen x.assignment.current k.literals
  live-open k h e = stored-open (view x) u k (∈-live (stored_clauses x.clause_alloc) k h (not-true k.header.deleted e))

  pub joining : (B : List (List Literal)) (ps : List Clause) → B ≡ without_assigned x.assignment.current x.binary_clauses →
      ps ≡ [] ++ left_pairs x.assignment.current (live_clauses x.clause_alloc) → (c : Clause) → c ∈ ps → IsPairIn B c
  joining B ps e f c h = subst (λ D. IsPairIn D c) (sym e) (pairs-in (view x) u c (subst (λ cs. c ∈ cs) f h))

-- What it did, from x to z.
pub record Simplifies {A : Type 0} (x z : Context A) : Type 0 where
  pub ready : IsReady x
  pub units : IsAtUnits (view x)
  pub propagated : IsPropagatedToEnd (view x)
  pub tracks : Tracks z.clause_db z.clause_alloc
  pub clauses : live_clauses z.clause_alloc ≡ left_long x.assignment.current (live_clauses x.clause_alloc)
  pub binary : z.binary_clauses ≡ with_pairs (without_assigned x.assignment.current x.binary_clauses)
      (left_pairs x.assignment.current (live_clauses x.clause_alloc))
  pub rest : ChangesClauses x z

-- after it
module _ {A : Type 0} {x z : Context A} (d : Simplifies x z) where
  abbrev s : View
  s = view x

  abbrev t : View
  t = simplified s (left_long s.values s.clauses) (with_pairs (without_assigned s.values s.binary) (left_pairs s.values s.clauses)) (are-unassigned s d.units)

  is-view : view z ≡ t
  is-view =
      ap (λ (y : Context A). view y) d.rest
      ∙ ap (λ (o : Bool). record s { sound = o; clauses = live_clauses z.clause_alloc; binary = z.binary_clauses })
      (sound-is z.clause_alloc d.tracks.sound ∙ sym (sound-is x.clause_alloc d.ready.tracks.sound))
      ∙ ap₂ (λ (ks : List StoredClause) (B : List (List Literal)). record s { clauses = ks; binary = B }) d.clauses d.binary

  pub is-simplified : IsSimplified (view x) (view z)
  is-simplified = subst (IsSimplified s) (sym is-view) (record {
    clauses = refl;
    binary = refl;
    rest = refl;
    unassigned = λ c h l i. unassigned-none s.values l (still-free s d.units c h l i);
  })

  pub simplified-proves : Proves 0 (search_of (view x)) (search_of (view z)) (pair_lines (view x) ++ clause_lines (view x))
  simplified-proves = subst (λ (y : View). Proves 0 (search_of s) (search_of y) (pair_lines s ++ clause_lines s)) (sym is-view) (simplify-proves s d.units)

  pub simplified-decidable : SameDecidable (view x) x.vsids (view z) z.vsids
  simplified-decidable =
      subst (λ (y : View). SameDecidable s x.vsids y z.vsids) (sym is-view)
      (subst (λ a. SameDecidable s x.vsids t a) (sym (ap (λ (y : Context A). y.vsids) d.rest)) (λ v. ((λ h. h), (λ h. h))))

  can-decide : CanDecide t x.vsids
  can-decide = record {
    entries = record { activity = d.ready.decidable.entries.activity; available = d.ready.decidable.entries.available };
    decidable = λ c h l i. let (k, j, o) = literal-kept s d.units c h l i in d.ready.decidable.decidable k j l o;
  }

  -- The lists are mended by which clauses with an assigned literal are watched.
  module _ (lits : List Literal) (m : MendsLists (live_clauses z.clause_alloc) lits x.watchlists z.watchlists)
      (noted : (i j : ℕ) → IsClauseRef s.clauses i → are_unassigned s.values (clause_at s i) ≡ false → j < 2 → opposite (literal_in (clause_at s i) j) ∈ lits) where
    still-empty : (ws vs : List Watch) → ws ≡ [] → AreMended (live_clauses z.clause_alloc) ws vs → vs ≡ []
    still-empty ws [] e a = refl
    still-empty ws (v ∷ vs) e a = let (y, i, q) = (a.each v (inl refl)).2 in absurd (subst (λ us. y ∈ us) e i)

    still-propagated : IsPropagated z.watchlists t
    still-propagated = record {
      lists = m.count ∙ d.ready.propagated.lists;
      watching = λ on. watching-left s d.units.well (subst (λ q. WatchesHoldTo s q) d.propagated d.ready.propagated.settled) d.units.long
          (still-well s d.units).places x.watchlists z.watchlists lits (d.ready.propagated.watching (sym m.enabled ∙ on))
          (subst (λ ks. MendsLists ks lits x.watchlists z.watchlists) d.clauses m) noted;
      empty = λ off l. let e = d.ready.propagated.empty (sym m.enabled ∙ off) l in
          ⊎_elim (λ q. q ∙ e) (λ a. still-empty (watches_of x.watchlists l) (watches_of z.watchlists l) e a) (m.each l);
      settled = settled-unassigned t (still-well s d.units) (still-free s d.units);
      binary = C-count s d.units ∙ d.units.lists;
      implied = implied-unassigned t (still-well s d.units) (still-free s d.units);
      queue = λ j h. let n = ap (λ (ds : List ℕ). length ds) d.units.undecided in absurd (omega (arith, h, n));
    }

    pub simplified-ready : IsReady z
    simplified-ready =
        exchanged-ready x z d.ready (subst (KeepsValues x) (sym d.rest)
        (keeps-values x (record x {
          binary_clauses = z.binary_clauses;
          clause_alloc = z.clause_alloc;
          clause_db = z.clause_db;
          counters = z.counters;
          watchlists = z.watchlists;
        }) refl))
        (subst WellFormed (sym is-view) (still-well s d.units))
        (subst PropagatedBeforeDecisions (sym is-view) (settled-undecided t d.units.undecided))
        (subst (IsPropagated z.watchlists) (sym is-view) still-propagated)
        d.tracks
        (subst (λ (y : View). CanDecide y x.vsids) (sym is-view) can-decide)
