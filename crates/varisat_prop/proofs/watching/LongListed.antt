-- The watches of one literal, of which some are kept and the rest is still to be visited.
use Rattle.std.proofs.Common.{◌≡◌, ◌≢◌, ℕ, suc, ◌+◌, ◌<◌, ◌≤◌, ◌*◌, ◌++◌, List, [], ◌∷◌, length, get_or, set, take, drop, ◌⊎◌, inl, inr, ⊎_elim, refl, sym, ap, ◌∙◌, subst, arith, get_or-set_same, get_or-set_other, length-set}
use Rattle.std.proofs.lemmas.List.{take_more_set, drop-set-lt, drop_more, drop_all}
use Rattle.varisat_theory.specs.promises.Membership.{◌∈◌}
use Rattle.varisat_theory.specs.promises.Literals.{Literal, opposite}
use Rattle.varisat_theory.proofs.clauses.Values.{opposite_twice}
use Rattle.varisat_theory.proofs.clauses.Members.{equal_or_not, ∈-append_left, ∈-append_right, ∈-append_cases}
use Rattle.varisat_prop.specs.View.{View, IsTrueIn, clause_at, literal_at}
use Rattle.varisat_prop.specs.Looks.{Propagates}
use Rattle.varisat_prop.proofs.views.ViewGrowth.{grows-longer, literal-stays}
use Rattle.varisat_prop.proofs.trails.PropagateSteps.{propagates-refl, propagates-trans, keeps-refl, keeps-trans}
use Rattle.varisat_prop.specs.declared.prop.watch_list.Watch.{Watch}
use Rattle.varisat_prop.specs.declared.prop.long.Visit.{Visit}
use Rattle.varisat_prop.specs.declared.prop.long.Visit.TheVariants as visit
use Rattle.varisat_prop.specs.declared.prop.graph.Conflict.TheVariants as conflict
use Rattle.varisat_clause.specs.Stored.{IsClauseRef}
use Rattle.varisat_clause.proofs.StoredClauses.{reordered-at, reordered-place, reordered-place-back}
use Rattle.varisat_prop.specs.Watches.{Watches, watches_of, with_watches, literal_in, IsWatchedBy, IsKnownWatch, NameOnce, HasWatch, IsSatisfied, WatchesHoldTo, IsWatched}
use Rattle.varisat_prop.specs.Visits.{IsVisited, IsVisit}
use Rattle.varisat_prop.specs.QueueSteps.{SearchParts, view_of_parts, KeepsUnseen, IsNext, GoesOnWith, IsWatchOf, IsVisitedAs, with_lists}
use Rattle.varisat_prop.specs.Changes.{IsConflicting}
use Rattle.varisat_prop.proofs.trails.PropagateQueue.{kept-all}
use Rattle.varisat_prop.proofs.watching.WatchesOnce.{once-dropped, once-apart, once-moved, once-gets}
use Rattle.varisat_prop.proofs.watching.WatchesHold.{WatchesHoldBut, settled-next, implied-longer, propagates-goes-on}

pub record Listing (s t : View) (W : Watches) (q : ℕ) (l : Literal) (kept rest : List Watch) : Type 0 where
  pub propagates : Propagates s t
  pub watched : IsWatched (with_watches W l (kept ++ rest)) t q
  pub but : WatchesHoldBut t l rest
  pub head : literal_at t q ≡ l
  pub within : q < length t.trail
  pub inside : l < length W.lists

-- all watches are to be visited
pub listing-start : (s : View) (W : Watches) (q : ℕ) (l : Literal) (rest : List Watch) → Propagates s s → IsWatched (with_watches W l rest) s q →
    literal_at s q ≡ l → q < length s.trail → l < length W.lists → Listing s s W q l [] rest
listing-start s W q l rest p w h a i = record {
  propagates = p;
  watched = w;
  but = λ k j b c e. inl (subst (λ ws. HasWatch ws k) (get_or-set_same W.lists l rest [] i)
      (subst (λ x. HasWatch (watches_of (with_watches W l rest) x) k) (sym e) (w.watching.watched k j b c)));
  head = h;
  within = a;
  inside = i;
}

-- what a visit needs of its watch
module _ (s t : View) (W : Watches) (q : ℕ) (l : Literal) (kept rest : List Watch) (w : Watch) (g : Listing s t W q l kept (w ∷ rest)) where
  pub watch-known : IsKnownWatch t.clauses l w
  watch-known = g.watched.watching.known l w
      (subst (λ ws. w ∈ ws) (sym (get_or-set_same W.lists l (kept ++ w ∷ rest) [] g.inside)) (∈-append_right w kept (w ∷ rest) (inl refl)))

  pub watch-lists : length W.lists ≡ 2 * length t.values
  watch-lists = sym (length-set W.lists l (kept ++ w ∷ rest)) ∙ g.watched.lists

  pub watch-true : IsTrueIn t l
  watch-true = subst (IsTrueIn t) g.head (g.propagates.well.is_true q g.within)

  once-own : NameOnce (kept ++ w ∷ rest)
  once-own = subst (λ ws. NameOnce ws) (get_or-set_same W.lists l (kept ++ w ∷ rest) [] g.inside) (g.watched.watching.once l)

  -- after the visit, with what is kept then
  module _ (u : View) (V : Watches) (kept' : List Watch) (v : IsVisited t u W V l w.cref)
      (old : (x : Watch) → x ∈ kept → x ∈ kept')
      (new : (x : Watch) → x ∈ kept' →
      (x ∈ kept) ⊎ ((x.cref ≡ w.cref) × (x.blocking ∈ clause_at u w.cref) × IsWatchedBy (clause_at u w.cref) (opposite l)))
      (one : NameOnce (kept' ++ rest))
      (own : (j : ℕ) → j < 2 → (l ≡ opposite (literal_in (clause_at u w.cref) j) → ⊥) ⊎ HasWatch kept' w.cref) where
    abbrev i : ℕ
    i = w.cref

    abbrev A : Watches
    A = with_watches W l (kept ++ w ∷ rest)

    abbrev B : Watches
    B = with_watches V l (kept' ++ rest)

    inside' : l < length V.lists
    inside' = let n = v.adds.count in let m = g.inside in omega (arith, n, m)

    place-on : (k : ℕ) → IsClauseRef t.clauses k → IsClauseRef u.clauses k
    place-on k h = reordered-place t.clauses u.clauses k v.propagates.grows.clauses h

    place-back : (k : ℕ) → IsClauseRef u.clauses k → IsClauseRef t.clauses k
    place-back k h = reordered-place-back t.clauses u.clauses k v.propagates.grows.clauses h

    own-list : watches_of B l ≡ kept' ++ rest
    own-list = get_or-set_same V.lists l (kept' ++ rest) [] inside'

    other-list : (x : Literal) → x ≢ l → watches_of B x ≡ watches_of V x
    other-list x n = get_or-set_other V.lists l x (kept' ++ rest) [] n

    -- a watch of another clause stays, and in another list each watch stays
    has-other : (x : Literal) (k : ℕ) → x ≢ l → HasWatch (watches_of A x) k → HasWatch (watches_of B x) k
    has-other x k n (y, h, e) = (
      y,
      subst (λ ws. y ∈ ws) (sym (other-list x n))
          (v.adds.old x y (subst (λ ws. y ∈ ws) (get_or-set_other W.lists l x (kept ++ w ∷ rest) [] n) h)),
      e,
    )

    has-own : (k : ℕ) → k ≢ i → HasWatch (watches_of A l) k → HasWatch (watches_of B l) k
    has-own k n (y, h, e) = (
      y,
      subst (λ ws. y ∈ ws) (sym own-list) (⊎_elim
          (λ z. ∈-append_left y kept' rest (old y z))
          (λ z. ⊎_elim (λ r. absurd (n (sym e ∙ ap (λ o. o.cref) r))) (λ r. ∈-append_right y kept' rest r) z)
          (∈-append_cases y kept (w ∷ rest) (subst (λ ws. y ∈ ws) (get_or-set_same W.lists l (kept ++ w ∷ rest) [] g.inside) h))),
      e,
    )

    has : (x : Literal) (k : ℕ) → k ≢ i → HasWatch (watches_of A x) k → HasWatch (watches_of B x) k
    has x k n h = ⊎_elim (λ e. subst (λ y. HasWatch (watches_of B y) k) (sym e) (has-own k n (subst (λ y. HasWatch (watches_of A y) k) e h)))
        (λ m. has-other x k m h) (equal_or_not x l)

    in-own : (ws : List Watch) (k : ℕ) → ws ≡ kept' → HasWatch ws k → HasWatch (watches_of B l) k
    in-own ws k e (y, h, f) = (y, subst (λ zs. y ∈ zs) (sym own-list) (∈-append_left y kept' rest (subst (λ zs. y ∈ zs) e h)), f)

    -- the visited clause is watched
    has-visited : (j : ℕ) → j < 2 → HasWatch (watches_of B (opposite (literal_in (clause_at u i) j))) i
    has-visited j b =
        ⊎_elim
        (λ e. ⊎_elim (λ n. absurd (n (sym e))) (λ h. subst (λ y. HasWatch (watches_of B y) i) (sym e) (in-own kept' i refl h)) (own j b))
        (λ m. ⊎_elim
        (λ (h, c, e). subst (λ y. HasWatch (watches_of B (opposite y)) i) (sym e)
        (has-other (opposite (literal_in (clause_at t i) h)) i (λ z. m (ap opposite e ∙ z)) (g.watched.watching.watched i h watch-known.0 c)))
        (λ (y, h, e). (y, subst (λ ws. y ∈ ws) (sym (other-list (opposite (literal_in (clause_at u i) j)) m)) h, e))
        (v.pair j b))
        (equal_or_not (opposite (literal_in (clause_at u i) j)) l)

    same-in : (k : ℕ) (m : Literal) → m ∈ clause_at t k → m ∈ clause_at u k
    same-in k m n = (reordered-at t.clauses u.clauses k v.propagates.grows.clauses).1 m n

    -- a watch in another list is known as before, also one of the visited clause, and in this list so is one of another clause
    known-old : (x : Literal) (y : Watch) → y ∈ watches_of A x → (x ≡ l → y.cref ≢ i) → IsKnownWatch u.clauses x y
    known-old x y h n =
        let (a, b, c) = g.watched.watching.known x y h in (
          place-on y.cref a,
          same-in y.cref y.blocking b,
          ⊎_elim
              (λ e. subst (λ k. IsWatchedBy (clause_at u k) (opposite x)) (sym e)
              (v.other (opposite x) (λ z. n (sym (opposite_twice x) ∙ ap opposite z ∙ opposite_twice l) e)
              (subst (λ k. IsWatchedBy (clause_at t k) (opposite x)) e c)))
              (λ o. subst (λ d. IsWatchedBy d (opposite x)) (sym (v.elsewhere y.cref o)) c)
              (equal_or_not y.cref i),
        )

    known-new : (x : Literal) (y : Watch) → (y.cref ≡ i) × (y.blocking ∈ clause_at u i) × IsWatchedBy (clause_at u i) (opposite x) →
        IsKnownWatch u.clauses x y
    known-new x y (e, h, o) = (
      subst (IsClauseRef u.clauses) (sym e) (place-on i watch-known.0),
      subst (λ k. y.blocking ∈ clause_at u k) (sym e) h,
      subst (λ k. IsWatchedBy (clause_at u k) (opposite x)) (sym e) o,
    )

    in-list : (y : Watch) → y ∈ (kept ++ w ∷ rest) → y ∈ watches_of A l
    in-list y h = subst (λ ws. y ∈ ws) (sym (get_or-set_same W.lists l (kept ++ w ∷ rest) [] g.inside)) h

    known-own : (y : Watch) → y ∈ (kept' ++ rest) → IsKnownWatch u.clauses l y
    known-own y h =
        ⊎_elim
        (λ z. ⊎_elim
        (λ r. known-old l y (in-list y (∈-append_left y kept (w ∷ rest) r)) (λ e. once-apart kept rest w y once-own (inl r)))
        (known-new l y)
        (new y z))
        (λ z. known-old l y (in-list y (∈-append_right y kept (w ∷ rest) (inr z))) (λ e. once-apart kept rest w y once-own (inr z)))
        (∈-append_cases y kept' rest h)

    known-is : (x : Literal) (y : Watch) → y ∈ watches_of B x → IsKnownWatch u.clauses x y
    known-is x y h =
        ⊎_elim
        (λ e. subst (λ z. IsKnownWatch u.clauses z y) (sym e)
        (known-own y (subst (λ ws. y ∈ ws) own-list (subst (λ z. y ∈ watches_of B z) e h))))
        (λ n. ⊎_elim
        (λ r. known-old x y (subst (λ ws. y ∈ ws) (sym (get_or-set_other W.lists l x (kept ++ w ∷ rest) [] n)) r) (λ e. absurd (n e)))
        (known-new x y)
        (v.adds.new x y (subst (λ ws. y ∈ ws) (other-list x n) h)))
        (equal_or_not x l)

    -- another list names each clause once, as before
    once-other : (x : Literal) → x ≢ l → NameOnce (watches_of V x)
    once-other x n =
        let same = get_or-set_other W.lists l x (kept ++ w ∷ rest) [] n in
        let was : NameOnce (watches_of W x) = subst (λ ws. NameOnce ws) same (g.watched.watching.once x) in
        ⊎_elim
        (λ e. subst (λ ws. NameOnce ws) (sym e) was)
        (λ (z, o). once-gets (watches_of W x) (watches_of V x) i was
        (λ y h e. o (subst (λ k. IsWatchedBy (clause_at t k) (opposite x)) e
        (g.watched.watching.known x y (subst (λ ws. y ∈ ws) (sym same) h)).2))
        (inr z))
        (v.once x)

    once-is : (x : Literal) → NameOnce (watches_of B x)
    once-is x =
        ⊎_elim
        (λ e. subst (λ z. NameOnce (watches_of B z)) (sym e) (subst (λ ws. NameOnce ws) (sym own-list) one))
        (λ n. subst (λ ws. NameOnce ws) (sym (other-list x n)) (once-other x n))
        (equal_or_not x l)

    pub head-on : literal_at u q ≡ l
    head-on = literal-stays t u v.propagates.grows q g.within ∙ g.head

    pub within-on : q < length u.trail
    within-on = let n = grows-longer t u v.propagates.grows in let m = g.within in omega (arith, n, m)

    pub watched-on : IsWatched B u q
    watched-on = record {
      lists = let a = length-set V.lists l (kept' ++ rest) in let b = v.adds.count in let c = watch-lists in let d = v.propagates.grows.count in
          omega (arith, a, b, c, d);
      enabled = v.adds.enabled ∙ g.watched.enabled;
      watching = record {
        known = known-is;
        once = once-is;
        watched = λ k j h b. ⊎_elim
            (λ e. subst (λ z. HasWatch (watches_of B (opposite (literal_in (clause_at u z) j))) z) (sym e) (has-visited j b))
            (λ n. subst (λ c. HasWatch (watches_of B (opposite (literal_in c j))) k) (sym (v.elsewhere k n))
            (has (opposite (literal_in (clause_at t k) j)) k n (g.watched.watching.watched k j (place-back k h) b)))
            (equal_or_not k i);
      };
      settled = v.settled q (let n = g.within in omega (arith, n)) g.watched.settled;
      binary = (let n = ap (λ (x : List (List ℕ)). length x) v.propagates.grows.binary in let m = v.propagates.grows.count in
          let o = g.watched.binary in omega (arith, n, m, o));
      implied = implied-longer t u q (propagates-goes-on t u v.propagates) (let n = g.within in omega (arith, n)) g.watched.implied;
      within = (let n = within-on in omega (arith, n));
      queue = λ j h. let e = v.propagates.decisions in let n = ap (λ (x : List ℕ). length x) e in let m = ap (λ (x : List ℕ). get_or x j 0) e in
          let o = g.watched.queue j (omega (arith, h, n)) in omega (arith, o, m);
    }

    pub listing-on : ((j : ℕ) → j < 2 → l ≡ opposite (literal_in (clause_at u w.cref) j) → IsSatisfied u (clause_at u w.cref)) → Listing s u V q l kept' rest
    listing-on sat = record {
      propagates = propagates-trans s t u g.propagates v.propagates;
      watched = watched-on;
      but = λ k j h b e. ⊎_elim
          (λ f. inr (subst (λ z. IsSatisfied u (clause_at u z)) (sym f) (sat j b (subst (λ z. l ≡ opposite (literal_in (clause_at u z) j)) f e))))
          (λ n. ⊎_elim
          (λ (y, m, r). ⊎_elim (λ z. absurd (n (sym r ∙ ap (λ o. o.cref) z))) (λ z. inl (y, z, r)) m)
          (λ (y, m, r). inr (
            y,
            (let o = grows-longer t u v.propagates.grows in omega (arith, m, o)),
            subst (λ z. z ∈ clause_at u k)
                (sym (literal-stays t u v.propagates.grows y m)) (same-in k (literal_at t y) r),
          ))
          (g.but k j (place-back k h) b (e ∙ ap (λ c. opposite (literal_in c j)) (v.elsewhere k n))))
          (equal_or_not k i);
      head = head-on;
      within = within-on;
      inside = inside';
    }

  -- the watch isn't kept
  pub listing-dropped : (u : View) (V : Watches) → IsVisited t u W V l w.cref → IsVisit u l w.cref visit.Dropped → Listing s u V q l kept rest
  listing-dropped u V v d =
      let n : (j : ℕ) → j < 2 → l ≡ opposite (literal_in (clause_at u w.cref) j) →
      ⊥ = λ j b e. d j b (sym (opposite_twice (literal_in (clause_at u w.cref) j)) ∙ ap opposite (sym e)) in
      listing-on u V kept v (λ x h. h) (λ x h. inl h) (once-dropped kept rest w once-own) (λ j b. inl (n j b)) (λ j b e. absurd (n j b e))

  -- the watch is kept, with another blocking literal
  module _ (u : View) (V : Watches) (x : Watch) (v : IsVisited t u W V l w.cref) (e : x.cref ≡ w.cref) (h : x.blocking ∈ clause_at u w.cref)
      (o : IsWatchedBy (clause_at u w.cref) (opposite l)) where
    one-in : x ∈ (kept ++ x ∷ [])
    one-in = ∈-append_right x kept (x ∷ []) (inl refl)

    new-is : (y : Watch) → y ∈ (kept ++ x ∷ []) →
        (y ∈ kept) ⊎ ((y.cref ≡ w.cref) × (y.blocking ∈ clause_at u w.cref) × IsWatchedBy (clause_at u w.cref) (opposite l))
    new-is y m = ⊎_elim inl
        (λ k. ⊎_elim (λ z. inr (ap (λ r. r.cref) z ∙ e, subst (λ r. r ∈ clause_at u w.cref) (sym (ap (λ r. r.blocking) z)) h, o))
        (λ z. absurd z) k) (∈-append_cases y kept (x ∷ []) m)

    pub listing-kept : IsSatisfied u (clause_at u w.cref) → Listing s u V q l (kept ++ x ∷ []) rest
    listing-kept sat = listing-on u V (kept ++ x ∷ []) v (λ y m. ∈-append_left y kept (x ∷ []) m) new-is (once-moved kept rest w x e once-own)
        (λ j b. inr (x, one-in, e)) (λ j b f. sat)

    pub watched-kept : IsWatched (with_watches V l ((kept ++ x ∷ []) ++ rest)) u q
    watched-kept = watched-on u V (kept ++ x ∷ []) v (λ y m. ∈-append_left y kept (x ∷ []) m) new-is (once-moved kept rest w x e once-own)
        (λ j b. inr (x, one-in, e))

-- all watches were visited
pub listing-end : (s t : View) (W : Watches) (q : ℕ) (l : Literal) (kept rest : List Watch) → Listing s t W q l kept rest → rest ≡ [] → WatchesHoldTo t (suc q)
listing-end s t W q l kept rest g e = settled-next t q l g.head g.watched.queue g.watched.settled (subst (λ ws. WatchesHoldBut t l ws) e g.but)

-- The visits so far, by places of the list that the code reads and writes: its first a watches are kept, and those from r
-- on are still to be visited.
pub record Visiting (p q : SearchParts) (W V : Watches) (l : Literal) (xs : List Watch) (a r : ℕ) : Type 0 where
  pub listing : Listing (view_of_parts p) (view_of_parts q) V q.trail.queue_head l (take a xs) (drop r xs)
  pub order : a ≤ r
  pub within : r ≤ length xs
  pub lists : length V.lists ≡ length W.lists
  pub keeps : KeepsUnseen p q

pub visiting-start : (p : SearchParts) (W : Watches) (l : Literal) (xs : List Watch) → l < length W.lists →
    IsNext (with_watches W l xs) (view_of_parts p) l → Visiting p p W W l xs 0 0
visiting-start p W l xs i n = record {
  listing = listing-start (view_of_parts p) W p.trail.queue_head l xs (propagates-refl (view_of_parts p) n.well) n.watched n.head n.within i;
  order = omega arith;
  within = omega arith;
  lists = refl;
  keeps = keeps-refl p;
}

module _ {p q : SearchParts} {W V : Watches} {l : Literal} {xs : List Watch} {a r : ℕ} (g : Visiting p q W V l xs a r) where
  abbrev s : View
  s = view_of_parts p

  abbrev t : View
  t = view_of_parts q

  -- the next watch is visited
  module _ {w : Watch} (inside : r < length xs) (e : w ≡ get_or xs r w) where
    next : Listing s t V q.trail.queue_head l (take a xs) (w ∷ drop (r + 1) xs)
    next = subst (λ ys. Listing s t V q.trail.queue_head l (take a xs) ys) (drop_more xs r w inside ∙ ap (λ y. y ∷ drop (r + 1) xs) (sym e)) g.listing

    pub is-watch : IsWatchOf V t l w
    is-watch =
        let (place, blocking, watched) = watch-known s t V q.trail.queue_head l (take a xs) (drop (r + 1) xs) w next in
        record {
          well = g.listing.propagates.well;
          place = place;
          blocking = blocking;
          watched = watched;
          lists = watch-lists s t V q.trail.queue_head l (take a xs) (drop (r + 1) xs) w next;
          is_true = watch-true s t V q.trail.queue_head l (take a xs) (drop (r + 1) xs) w next;
        }

    module _ {m : SearchParts} {X : Watches} {v : Visit} (k : IsVisitedAs (with_lists q V) (with_lists m X) l w.cref v) where
      -- what stays as it is, and the place of the next watch
      step : (ys : List Watch) (b : ℕ) → Listing s (view_of_parts m) X q.trail.queue_head l (take b ys) (drop (r + 1) ys) → b ≤ r + 1 →
          length ys ≡ length xs → Visiting p m W X l ys b (r + 1)
      step ys b h o n = record {
        listing = subst (λ z. Listing s (view_of_parts m) X z l (take b ys) (drop (r + 1) ys)) (sym k.keeps.head) h;
        order = o;
        within = omega (arith, inside, n);
        lists = k.visited.adds.count ∙ g.lists;
        keeps = keeps-trans g.keeps k.keeps;
      }

      pub visiting-dropped : v ≡ visit.Dropped → Visiting p m W X l xs a (r + 1)
      visiting-dropped f =
          step xs a (listing-dropped s t V q.trail.queue_head l (take a xs) (drop (r + 1) xs) w next (view_of_parts m) X k.visited
          (subst (IsVisit (view_of_parts m) l w.cref) f k.visit))
          (let o = g.order in omega (arith, o)) refl

      -- it is written to the front, with another blocking literal
      kept-is : (x : Watch) → take (a + 1) (set xs a x) ≡ take a xs ++ x ∷ []
      kept-is x = take_more_set xs a x (let o = g.order in omega (arith, inside, o))

      rest-is : (x : Watch) → drop (r + 1) (set xs a x) ≡ drop (r + 1) xs
      rest-is x = drop-set-lt (r + 1) xs a x (let o = g.order in omega (arith, o))

      pub visiting-kept : {b : Literal} → v ≡ visit.Keep b → Visiting p m W X l (set xs a (record { cref = w.cref; blocking = b })) (a + 1) (r + 1)
      visiting-kept {b = b} f =
          let x : Watch = record { cref = w.cref; blocking = b } in
          let ys = set xs a x in
          let d = subst (IsVisit (view_of_parts m) l w.cref) f k.visit in
          step ys (a + 1)
          (subst (λ zs. Listing s (view_of_parts m) X q.trail.queue_head l zs (drop (r + 1) ys)) (sym (kept-is x))
          (subst (λ zs. Listing s (view_of_parts m) X q.trail.queue_head l (take a xs ++ x ∷ []) zs) (sym (rest-is x))
          (listing-kept s t V q.trail.queue_head l (take a xs) (drop (r + 1) xs) w next (view_of_parts m) X x k.visited refl d.0 d.1 d.2)))
          (let o = g.order in omega (arith, o)) (length-set xs a x)

      pub visiting-false : {b : Literal} {zs : List Watch} → v ≡ visit.Conflicting b →
          zs ≡ take (a + 1) (set xs a (record { cref = w.cref; blocking = b })) ++ drop (r + 1) (set xs a (record { cref = w.cref; blocking = b }))
          → GoesOnWith p m (with_watches X l zs) × IsConflicting (view_of_parts m) (conflict.Long w.cref)
      visiting-false {b = b} {zs = zs} f z =
          let x : Watch = record { cref = w.cref; blocking = b } in
          let d = subst (IsVisit (view_of_parts m) l w.cref) f k.visit in
          let u = view_of_parts m in
          let is : zs ≡ (take a xs ++ x ∷ []) ++ drop (r + 1) xs = z ∙ ap (λ us. us ++ drop (r + 1) (set xs a x)) (kept-is x)
          ∙ ap (λ us. (take a xs ++ x ∷ []) ++ us) (rest-is x) in (
            record {
              propagates = propagates-trans s t u g.listing.propagates k.visited.propagates;
              keeps = keeps-trans g.keeps k.keeps;
              watched = subst (λ h. IsWatched (with_watches X l zs) u h) (sym k.keeps.head)
                  (subst (λ us. IsWatched (with_watches X l us) u q.trail.queue_head) (sym is)
                  (watched-kept s t V q.trail.queue_head l (take a xs) (drop (r + 1) xs) w next u X x k.visited refl d.0 d.1));
            },
            (reordered-place t.clauses u.clauses w.cref k.visited.propagates.grows.clauses is-watch.place, d.2),
          )

  -- all were visited
  module _ (done : length xs ≤ r) where
    pub visiting-done : {ys : List Watch} → ys ≡ take a xs → GoesOnWith p q (with_watches V l ys)
    visiting-done {ys = ys} e = record {
      propagates = g.listing.propagates;
      keeps = g.keeps;
      watched = subst (λ zs. IsWatched (with_watches V l zs) t q.trail.queue_head) (kept-all xs a r done ∙ sym e) g.listing.watched;
    }

    pub visiting-settled : WatchesHoldTo t (suc q.trail.queue_head)
    visiting-settled = listing-end s t V q.trail.queue_head l (take a xs) (drop r xs) g.listing (drop_all r xs done)
