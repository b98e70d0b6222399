-- What a visit of a watch keeps, by what it finds.
use Rattle.std.proofs.Common.{◌≡◌, ◌≢◌, ℕ, suc, ◌<◌, ◌≤◌, ◌*◌, ◌++◌, Bool, List, [], ◌∷◌, length, get_or, None, ◌⊎◌, inl, inr, ⊎_elim, refl, sym, ap, ◌∙◌, subst, arith, get_or-set_same, get_or-set_other, length-set, length-append}
use Rattle.std.proofs.lemmas.List.{get_or_append_left}
use Rattle.varisat_theory.specs.promises.Membership.{◌∈◌}
use Rattle.varisat_theory.specs.promises.Literals.{Literal, Clause, opposite, variable_of}
use Rattle.varisat_theory.proofs.clauses.Values.{opposite_twice}
use Rattle.varisat_theory.proofs.clauses.Places.{∈-get_or, place_in}
use Rattle.varisat_theory.proofs.clauses.Members.{equal_or_not, ∈-append_left, ∈-append_right, ∈-append_cases}
use Rattle.varisat_prop.specs.declared.prop.graph.Reason.TheVariants as reason
use Rattle.varisat_prop.specs.Parts.{IsMadeTrue}
use Rattle.varisat_prop.specs.View.{View, IsTrueIn, clause_at, literal_at, WellFormed}
use Rattle.varisat_prop.specs.Changes.{IsAssignable, enqueued}
use Rattle.varisat_prop.specs.Looks.{Propagates, IsInRange}
use Rattle.varisat_prop.proofs.trails.LiteralValues.{made-none, made-clash}
use Rattle.varisat_prop.proofs.trails.TrailValues.{on-trail}
use Rattle.varisat_prop.proofs.trails.PropagateSteps.{propagates-refl, propagates-trans, keeps-refl}
use Rattle.varisat_prop.proofs.trails.TrailExtend.{ext-length, literal-new}
use Rattle.varisat_prop.proofs.trails.EnqueueAssignment.{MayImply, enqueued-well, ext-grows}
use Rattle.varisat_prop.proofs.views.ViewGrowth.{append-nil}
use Rattle.varisat_prop.proofs.pairs.DistinctPlaces.{distinct-places}
use Rattle.varisat_prop.specs.declared.prop.watch_list.Watch.{Watch}
use Rattle.varisat_prop.specs.declared.prop.long.Found.{Found}
use Rattle.varisat_prop.specs.declared.prop.long.Found.TheVariants as found
use Rattle.varisat_prop.specs.declared.prop.long.Visit.{Visit}
use Rattle.varisat_prop.specs.declared.prop.long.Visit.TheVariants as visit
use Rattle.varisat_prop.specs.Watches.{Watches, watches_of, with_watches, literal_in, IsWatchedBy, HasWatch, IsSatisfied, IsRearranged}
use Rattle.varisat_prop.specs.Visits.{IsPair, IsFound, AddsWatches, IsVisited, IsVisit}
use Rattle.varisat_prop.specs.QueueSteps.{SearchParts, view_of_parts, KeepsUnseen, IsWatchOf, IsReorderedAt, IsVisitedAs, with_lists}
use Rattle.varisat_clause.specs.Stored.{StoredClause, IsClauseRef, literals_at}
use Rattle.varisat_clause.specs.Stores.{Store}
use Rattle.varisat_clause.specs.Collected.{live_clauses}
use Rattle.varisat_clause.proofs.StoreSound.{sound-is}
use Rattle.varisat_clause.proofs.StoredClauses.{reordered-place, with-reordered, with-same, with-other}
use Rattle.varisat_prop.proofs.watching.WatchKept.{adds-none}
use Rattle.varisat_prop.proofs.watching.WatchesHold.{Lengthens, settled-longer, settled-reordered, two}
use Rattle.varisat_prop.proofs.views.ClauseOrder.{reordered, changed}
use Rattle.varisat_prop.proofs.views.WellFormedChanges.{kept-here}

satisfied-by : (s : View) (c : Clause) (l : Literal) → WellFormed s → l ∈ c → IsTrueIn s l → IsSatisfied s c
satisfied-by s c l w h t = let (k, a, e) = w.stands l t in (k, a, subst (λ x. x ∈ c) (sym e) h)

-- nothing changes
pub visited-same : (s : View) (W : Watches) (l : Literal) (i : ℕ) → WellFormed s → IsVisited s s W W l i
visited-same s W l i w = record {
  propagates = propagates-refl s w;
  elsewhere = λ k n. refl;
  settled = λ q h st. st;
  adds = adds-none W i (clause_at s i);
  other = λ x n h. h;
  once = λ x. inl refl;
  pair = λ j h. inl (j, h, refl);
}

pub kept-by-blocking : (s : View) (l b : Literal) (i : ℕ) → WellFormed s → b ∈ clause_at s i → IsWatchedBy (clause_at s i) (opposite l) → IsTrueIn s b →
    IsVisit s l i (visit.Keep b)
kept-by-blocking s l b i w h o t = (h, o, satisfied-by s (clause_at s i) b w h t)

module _ (s : View) (W : Watches) (i : ℕ) (d : Clause) (l : Literal) (w : WellFormed s) (a : IsClauseRef s.clauses i) (tr : IsTrueIn s l) where
  abbrev c : Clause
  c = clause_at s i

  abbrev u : View
  u = reordered s i d

  abbrev f : Literal
  f = opposite l

  now-is : clause_at u i ≡ d
  now-is = with-same s.clauses i d a

  f-false : IsTrueIn s f → ⊥
  f-false t = made-clash s.values l tr t

  long : 2 ≤ length c
  long = w.several c (kept-here s i a)

  elsewhere-is : (k : ℕ) → k ≢ i → clause_at u k ≡ clause_at s k
  elsewhere-is k n = with-other s.clauses i k d n

  place-in : IsRearranged c d → IsClauseRef u.clauses i
  place-in r = reordered-place s.clauses u.clauses i (with-reordered s.clauses i d r.same) a

  -- the first literal was l or false
  not-first : (x : Literal) → IsPair c x f → (IsTrueIn s x → ⊥) → IsTrueIn s (literal_in c 0) → ⊥
  not-first x p n t = ⊎_elim (λ (g, h). n (subst (IsTrueIn s) g t)) (λ (g, h). f-false (subst (IsTrueIn s) h t)) p

  pair-first : (x : Literal) → IsPair c x f → literal_in d 0 ≡ x → (h : ℕ) × (h < 2) × (literal_in d 0 ≡ literal_in c h)
  pair-first x p e = ⊎_elim (λ (g, h). (0, omega arith, e ∙ sym g)) (λ (g, h). (1, omega arith, e ∙ sym g)) p

  pair-second : (x : Literal) → IsPair c x f → literal_in d 1 ≡ f → (h : ℕ) × (h < 2) × (literal_in d 1 ≡ literal_in c h)
  pair-second x p e = ⊎_elim (λ (g, h). (1, omega arith, e ∙ sym h)) (λ (g, h). (0, omega arith, e ∙ sym h)) p

  abbrev FromPair : Type 0
  FromPair = (j : ℕ) → j < 2 → (h : ℕ) × (h < 2) × (literal_in d j ≡ literal_in c h)

  from-pair : (x : Literal) → IsPair c x f → literal_in d 0 ≡ x → literal_in d 1 ≡ f → FromPair
  from-pair x p e g = two (λ j. (h : ℕ) × (h < 2) × (literal_in d j ≡ literal_in c h)) (pair-first x p e) (pair-second x p g)

  -- the other watched literal stays where it is the first now
  other-first : (x : Literal) → IsPair c x f → literal_in d 0 ≡ x → (y : Literal) → y ≢ f → IsWatchedBy c y → IsWatchedBy (clause_at u i) y
  other-first x p e y n (j, b, z) =
      let first : literal_in (clause_at u i) 0 ≡ x = ap (λ q. literal_in q 0) now-is ∙ e in
      let by : x ≡ y → IsWatchedBy (clause_at u i) y = λ q. (0, omega arith, first ∙ q) in
      two (λ j. literal_in c j ≡ y → IsWatchedBy (clause_at u i) y)
      (λ q. ⊎_elim (λ (g, h). by (sym g ∙ q)) (λ (g, h). absurd (n (sym q ∙ h))) p)
      (λ q. ⊎_elim (λ (g, h). absurd (n (sym q ∙ h))) (λ (g, h). by (sym g ∙ q)) p)
      j b z

  -- the false literal, which is second now, watches the clause
  false-watches : literal_in d 1 ≡ f → IsWatchedBy (clause_at u i) f
  false-watches g = (1, omega arith, ap (λ q. literal_in q 1) now-is ∙ g)

  first-in : IsRearranged c d → (x : Literal) → literal_in d 0 ≡ x → x ∈ clause_at u i
  first-in r x e = subst (λ y. x ∈ y) (sym now-is) (subst (λ y. y ∈ d) e (∈-get_or d 0 0 (let n = r.long in let m = long in omega (arith, n, m))))

  -- the clause is watched as before, in another order
  visited-turned : (x : Literal) → IsRearranged c d → IsPair c x f → literal_in d 0 ≡ x → FromPair → Propagates s u → IsVisited s u W W l i
  visited-turned x r q e p g = record {
    propagates = g;
    elsewhere = elsewhere-is;
    settled = λ q h st. settled-reordered s i q d r (λ j b. inl (p j b)) st;
    adds = adds-none W i (clause_at u i);
    other = other-first x q e;
    once = λ y. inl refl;
    pair = λ j b. let (h, o, e) = p j b in inl (h, o, ap (λ x. literal_in x j) now-is ∙ e);
  }

  pub found-true : (x : Literal) → IsFound s.values c d f (found.True x) → IsVisited s u W W l i × IsVisit u l i (visit.Keep x)
  found-true x (r, p, e, g, t, o) =
      let v : Propagates s u = changed s i d w a r (⊎_elim (λ (y, z). inl (o y)) (λ (y, z). inr (λ h. f-false (subst (IsTrueIn s) z h))) p) in (
        visited-turned x r p e (from-pair x p e g) v,
        (first-in r x e, false-watches g, satisfied-by u (clause_at u i) x v.well (first-in r x e) t),
      )

  pub found-false : (x : Literal) → IsFound s.values c d f (found.False x) → IsVisited s u W W l i × IsVisit u l i (visit.Conflicting x)
  found-false x (r, p, e, g, n, h) =
      let v : Propagates s u = changed s i d w a r (inr (not-first x p n)) in (
        visited-turned x r p e (from-pair x p e g) v,
        (
          first-in r x e,
          false-watches g,
          λ m k. let (j, b, z) = place_in m d 0 (subst (λ y. m ∈ y) now-is k) in
              on-trail s w (opposite m) (subst (λ y. IsTrueIn s (opposite y)) z (h j b)),
        ),
      )

  -- another literal is watched
  module _ (x m : Literal) (fd : IsFound s.values c d f (found.Other x m)) (inside : opposite m < length W.lists) where
    abbrev more : Watches
    more = with_watches W (opposite m) (watches_of W (opposite m) ++ record { cref = i; blocking = x } ∷ [])

    new-watch : HasWatch (watches_of more (opposite m)) i
    new-watch = (
      record { cref = i; blocking = x },
      subst (λ ws. record { cref = i; blocking = x } ∈ ws)
          (sym (get_or-set_same W.lists (opposite m) (watches_of W (opposite m) ++ record { cref = i; blocking = x } ∷ []) [] inside))
          (∈-append_right (record { cref = i; blocking = x }) (watches_of W (opposite m)) (record { cref = i; blocking = x } ∷ []) (inl refl)),
      refl,
    )

    abbrev ws : List Watch
    ws = watches_of W (opposite m) ++ record { cref = i; blocking = x } ∷ []

    -- the clause is watched by the other literal now
    by-second : (y : Literal) → y ≡ opposite m → IsWatchedBy (clause_at u i) (opposite y)
    by-second y e = (1, omega arith, ap (λ q. literal_in q 1) now-is ∙ fd.3 ∙ sym (ap opposite e ∙ opposite_twice m))

    adds-one : AddsWatches W more i (clause_at u i)
    adds-one = record {
      enabled = refl;
      count = length-set W.lists (opposite m) ws;
      old = λ y v h. ⊎_elim
          (λ e. subst (λ z. v ∈ watches_of more z) (sym e)
          (subst (λ z. v ∈ z) (sym (get_or-set_same W.lists (opposite m) ws [] inside))
          (∈-append_left v (watches_of W (opposite m)) (record { cref = i; blocking = x } ∷ []) (subst (λ z. v ∈ watches_of W z) e h))))
          (λ n. subst (λ z. v ∈ z) (sym (get_or-set_other W.lists (opposite m) y ws [] n)) h)
          (equal_or_not y (opposite m));
      new = λ y v h. ⊎_elim
          (λ e. ⊎_elim
          (λ k. inl (subst (λ z. v ∈ watches_of W z) (sym e) k))
          (λ k. ⊎_elim (λ z. inr (ap (λ q. q.cref) z, subst (λ q. q ∈ clause_at u i) (sym (ap (λ q. q.blocking) z)) (first-in fd.0 x fd.2), by-second y e))
          (λ z. absurd z) k)
          (∈-append_cases v (watches_of W (opposite m)) (record { cref = i; blocking = x } ∷ [])
          (subst (λ z. v ∈ z) (get_or-set_same W.lists (opposite m) ws [] inside) (subst (λ z. v ∈ watches_of more z) e h))))
          (λ n. inl (subst (λ z. v ∈ z) (get_or-set_other W.lists (opposite m) y ws [] n) h))
          (equal_or_not y (opposite m));
    }

    pub found-other : IsVisited s u W more l i × IsVisit u l i visit.Dropped
    found-other =
        let (r, p, e, g, n, o) = fd in (
          record {
            propagates = changed s i d w a r (inr (not-first x p n));
            elsewhere = elsewhere-is;
            settled = λ q h st. settled-reordered s i q d r
                (two (λ j. ((h : ℕ) × (h < 2) × (literal_in d j ≡ literal_in c h)) ⊎ ((p : ℕ) → p < q → literal_at s p ≢ opposite (literal_in d j)))
                (inl (pair-first x p e)) (inr (λ k b z. o (subst (IsTrueIn s) (z ∙ ap opposite g) (w.is_true k (omega (arith, b, h))))))) st;
            adds = adds-one;
            other = other-first x p e;
            once = λ y. ⊎_elim
                (λ z. inr (
                  (
                    record { cref = i; blocking = x },
                    refl,
                    subst (λ q. watches_of more q ≡ watches_of W q ++ record { cref = i; blocking = x } ∷ []) (sym z)
                        (get_or-set_same W.lists (opposite m) ws [] inside),
                  ),
                  λ k. unwatched (subst (λ q. IsWatchedBy c q) (ap opposite z ∙ opposite_twice m) k),
                ))
                (λ z. inl (get_or-set_other W.lists (opposite m) y ws [] z))
                (equal_or_not y (opposite m));
            pair = two (λ j. ((h : ℕ) × (h < 2) × (literal_in (clause_at u i) j ≡ literal_in c h))
                ⊎ HasWatch (watches_of more (opposite (literal_in (clause_at u i) j))) i)
                (let (h, b, z) = pair-first x p e in inl (h, b, ap (λ y. literal_in y 0) now-is ∙ z))
                (inr (subst (λ y. HasWatch (watches_of more (opposite y)) i) (sym (ap (λ y. literal_in y 1) now-is ∙ g)) new-watch));
          },
          two (λ j. literal_in (clause_at u i) j ≢ f)
              (λ z. differ p (sym e ∙ sym (ap (λ y. literal_in y 0) now-is) ∙ z))
              (λ z. o (subst (IsTrueIn s) (sym (opposite_twice l) ∙ ap opposite (sym z ∙ ap (λ y. literal_in y 1) now-is ∙ g)) tr)),
        )
      where
        apart : literal_in c 0 ≢ literal_in c 1
        apart = distinct-places c 0 (w.distinct c (kept-here s i a)) 0 1 (omega arith) (let n = long in omega (arith, n))

        -- the other literal did not watch the clause
        unwatched : IsWatchedBy c m → ⊥
        unwatched (j, b, z) =
            let (r, p, e, g, n, o) = fd in
            let second : x ≢ m = λ q. distinct-places d 0 (r.distinct (w.distinct c (kept-here s i a))) 0 1 (omega arith)
            (let k = r.long in let k' = long in omega (arith, k, k')) (e ∙ q ∙ sym g) in
            let first : f ≢ m = λ q. o (subst (IsTrueIn s) (sym (opposite_twice l) ∙ ap opposite q) tr) in
            two (λ j. literal_in c j ≡ m → ⊥)
            (λ q. ⊎_elim (λ (y, h). second (sym y ∙ q)) (λ (y, h). first (sym h ∙ q)) p)
            (λ q. ⊎_elim (λ (y, h). first (sym h ∙ q)) (λ (y, h). second (sym y ∙ q)) p)
            j b z

        differ : IsPair c x f → x ≢ f
        differ p e = ⊎_elim (λ (y, z). apart (y ∙ e ∙ sym z)) (λ (y, z). apart (z ∙ sym e ∙ sym y)) p

  -- the first literal becomes true
  module _ (x : Literal) (fd : IsFound s.values c d f (found.Implied x)) where
    abbrev t : View
    t = enqueued u x (reason.Long i)

    goes : Propagates s u
    goes = let (r, p, e, g, n, o, h) = fd in changed s i d w a r (inr (not-first x p n))

    pub implied-free : get_or s.values (variable_of x) None ≡ None
    implied-free = let (r, p, e, g, n, o, h) = fd in made-none s.values x n o

    pub implied-inside : variable_of x < length s.values
    implied-inside = let (r, p, e, g, n, o, h) = fd in goes.well.in_range (clause_at u i) (kept-here u i (place-in r)) x (first-in r x e)

    may : MayImply u x (reason.Long i)
    may =
        let (r, p, e, g, n, o, h) = fd in
        let (others, z, y) = split d e (let k = r.long in let k' = long in omega (arith, k, k')) h in
        (place-in r, (others, now-is ∙ z, y))
      where
        split : (b : Clause) → literal_in b 0 ≡ x → 0 < length b → ((k : ℕ) → 1 ≤ k → k < length b → IsTrueIn s (opposite (literal_in b k))) →
            (others : Clause) × (b ≡ x ∷ others) × ((m : Literal) → m ∈ others → IsTrueIn u (opposite m))
        split [] e z h = absurd (omega (arith, z))
        split (y ∷ b) e z h = (
          b,
          ap (λ q. q ∷ b) e,
          λ m k. let (j, v, q) = place_in m b 0 k in
              subst (λ y. IsTrueIn s (opposite y)) q (h (suc j) (omega arith) (omega (arith, v))),
        )

    longer : Lengthens u t
    longer = record {
      clauses = refl;
      binary = refl;
      decisions = refl;
      longer = let n = length-append s.trail (x ∷ []) in omega (arith, n);
      keeps = λ k h. get_or_append_left s.trail (x ∷ []) 0 k h;
    }

    enters : Propagates u t
    enters = record {
      well = enqueued-well u x (reason.Long i) goes.well implied-inside implied-free may;
      grows = ext-grows u x (reason.Long i) s.decisions goes.well implied-inside implied-free (λ e h. cc) [] (sym (append-nil s.decisions));
      decisions = refl;
    }

    pub found-implied : IsVisited s t W W l i × IsVisit t l i (visit.Keep x)
    found-implied =
        let (r, p, e, g, n, o, h) = fd in
        let v = visited-turned x r p e (from-pair x p e g) goes in (
          record {
            propagates = propagates-trans s u t goes enters;
            elsewhere = v.elsewhere;
            settled = λ q h st. settled-longer u t q longer h (v.settled q h st);
            adds = v.adds;
            other = v.other;
            once = v.once;
            pair = v.pair;
          },
          (
            first-in r x e,
            false-watches g,
            (
              length s.trail,
              (let z = ext-length u x (reason.Long i) s.decisions goes.well implied-inside implied-free in omega (arith, z)),
              subst
                  (λ y. y ∈ clause_at u i) (sym (literal-new u x (reason.Long i) s.decisions goes.well implied-inside implied-free)) (first-in r x e),
            ),
          ),
        )

-- where a variable is known its literals have lists
pub listed : (y n : ℕ) → variable_of y < n → opposite y < 2 * n
unfolding opposite
listed y n h = omega (arith, h)

-- the same for the parts before and after the code ran
module _ (p : SearchParts) {W : Watches} {l : Literal} {w : Watch} (g : IsWatchOf W (view_of_parts p) l w) where
  abbrev s : View
  s = view_of_parts p

  abbrev i : ℕ
  i = w.cref

  pub blocking-range : variable_of w.blocking < length p.values.current
  blocking-range = g.well.in_range (clause_at s i) (kept-here s i g.place) w.blocking g.blocking

  pub watch-long : 2 ≤ length (clause_at s i)
  watch-long = g.well.several (clause_at s i) (kept-here s i g.place)

  pub watch-range : IsInRange p.values.current (clause_at s i)
  watch-range = g.well.in_range (clause_at s i) (kept-here s i g.place)

  pub code-blocking : IsTrueIn s w.blocking → IsVisitedAs (with_lists p W) (with_lists p W) l i (visit.Keep w.blocking)
  code-blocking h = record {
    visited = visited-same s W l i g.well;
    visit = kept-by-blocking s l w.blocking i g.well g.blocking g.watched h;
    keeps = keeps-refl p;
  }

  module _ {m : Literal} (n : m ≡ opposite l) where
    pub watch-false : IsMadeTrue p.values.current (opposite m)
    watch-false = subst (IsTrueIn s) (sym (ap opposite n ∙ opposite_twice l)) g.is_true

    pub watch-by : IsWatchedBy (clause_at s i) m
    watch-by = subst (λ x. IsWatchedBy (clause_at s i) x) (sym n) g.watched

    module _ {store : Store} {o : Found} (r : IsReorderedAt p.store store p.values.current i m o) where
      -- the clause as it is now, and the parts, of which only the store is another
      abbrev b : Clause
      b = literals_at (live_clauses store) i

      abbrev q : SearchParts
      q = record p { store = store }

      -- only the order of the clause's literals is another
      is-reordered : view_of_parts q ≡ reordered s i b
      is-reordered = ap (λ (x : Bool). record s { sound = x; clauses = live_clauses store }) (sound-is store r.sound ∙ sym g.well.sound)
          ∙ ap (λ (x : List StoredClause). record s { clauses = x }) r.changed

      turn : IsFound s.values (clause_at s i) b (opposite l) o
      turn = subst (λ x. IsFound s.values (clause_at s i) b x o) n r.found

      back : (V : Watches) (v : Visit) → IsVisited s (reordered s i b) W V l i × IsVisit (reordered s i b) l i v →
          IsVisitedAs (with_lists p W) (with_lists q V) l i v
      back V v h =
          let h' = subst (λ x. IsVisited s x W V l i × IsVisit x l i v) (sym is-reordered) h in
          record { visited = h'.0; visit = h'.1; keeps = record { last = refl; head = refl; store = r.store } }

    pub code-true : {store : Store} {x : Literal} → IsReorderedAt p.store store p.values.current i m (found.True x) →
        IsVisitedAs (with_lists p W) (with_lists (record p { store = store }) W) l i (visit.Keep x)
    code-true {x = x} r = back r W (visit.Keep x) (found-true s W i (b r) l g.well g.place g.is_true x (turn r))

    pub code-false : {store : Store} {x : Literal} → IsReorderedAt p.store store p.values.current i m (found.False x) →
        IsVisitedAs (with_lists p W) (with_lists (record p { store = store }) W) l i (visit.Conflicting x)
    code-false {x = x} r = back r W (visit.Conflicting x) (found-false s W i (b r) l g.well g.place g.is_true x (turn r))

    -- another literal is watched
    module _ {store : Store} {x y z : Literal} (r : IsReorderedAt p.store store p.values.current i m (found.Other x y)) (e : z ≡ opposite y) where
      other-inside : variable_of y < length s.values
      other-inside =
          let f = r.found in
          watch-range y (f.0.same.0 y (subst (λ v. v ∈ b r) f.3 (∈-get_or (b r) 1 0 (let k = f.0.long in let k' = watch-long in omega (arith, k, k')))))

      pub other-listed : z < length W.lists
      other-listed = subst (λ v. v < length W.lists) (sym e) (let o = listed y (length s.values) other-inside in let k = g.lists in omega (arith, o, k))

      pub code-other : {V : Watches} → V ≡ with_watches W z (watches_of W z ++ record { cref = i; blocking = x } ∷ []) →
          IsVisitedAs (with_lists p W) (with_lists (record p { store = store }) V) l i visit.Dropped
      code-other {V = V} f =
          let o = subst (λ v. v < length W.lists) e other-listed in
          subst (λ X. IsVisitedAs (with_lists p W) (with_lists (record p { store = store }) X) l i visit.Dropped)
          (sym (f ∙ ap (λ v. with_watches W v (watches_of W v ++ record { cref = i; blocking = x } ∷ [])) e))
          (back r (with_watches W (opposite y) (watches_of W (opposite y) ++ record { cref = i; blocking = x } ∷ [])) visit.Dropped
          (found-other s W i (b r) l g.well g.place g.is_true x y (turn r) o))

    -- the first literal becomes true
    module _ {store : Store} {x : Literal} (r : IsReorderedAt p.store store p.values.current i m (found.Implied x)) where
      pub code-assignable : IsAssignable p.values.current p.nodes x
      code-assignable =
          let h = implied-inside s W i (b r) l g.well g.place g.is_true x (turn r) in
          let k = g.well.nodes_are in
          (h, omega (arith, h, k), implied-free s W i (b r) l g.well g.place g.is_true x (turn r))

      pub code-implied : (t : SearchParts) → view_of_parts t ≡ enqueued (view_of_parts (record p { store = store })) x (reason.Long i) →
          KeepsUnseen p t → IsVisitedAs (with_lists p W) (with_lists t W) l i (visit.Keep x)
      code-implied t e k =
          let f = found-implied s W i (b r) l g.well g.place g.is_true x (turn r) in
          let h = subst (λ v. IsVisited s v W W l i × IsVisit v l i (visit.Keep x))
          (sym (e ∙ ap (λ (v : View). enqueued v x (reason.Long i)) (is-reordered r))) f in
          record { visited = h.0; visit = h.1; keeps = k }
