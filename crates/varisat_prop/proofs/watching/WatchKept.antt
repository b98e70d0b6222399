-- What enqueuing, deciding, backtracking and a further clause keep of the watches.
use Rattle.std.proofs.Common.{◌≡◌, ◌≢◌, ℕ, true, false, ◌<◌, ◌≤◌, ◌++◌, Some, List, [], ◌∷◌, length, get_or, take, ◌⊎◌, inl, inr, ⊎_elim, refl, sym, ap, ◌∙◌, subst, arith, get_or-set_same, get_or-set_other, length-set, length-append}
use Rattle.std.proofs.lemmas.List.{get_or_append_left, get_or-take, length-take}
use Rattle.std.proofs.lemmas.Bool.{cases_lt}
use Rattle.varisat_theory.specs.promises.Membership.{◌∈◌}
use Rattle.varisat_theory.specs.promises.Literals.{Literal, Clause, opposite, variable_of}
use Rattle.varisat_theory.proofs.clauses.Values.{opposite_twice}
use Rattle.varisat_theory.proofs.clauses.Places.{∈-get_or}
use Rattle.varisat_theory.proofs.clauses.Members.{equal_or_not, ∈-append_left, ∈-append_right, ∈-append_cases}
use Rattle.varisat_literals.specs.promises.Numbers.{polarity_of}
use Rattle.varisat_prop.specs.declared.prop.graph.Reason.{Reason}
use Rattle.varisat_prop.specs.declared.prop.graph.Reason.TheVariants as reason
use Rattle.varisat_clause.specs.Stored.{StoredClause, IsClauseRef, literals_at}
use Rattle.varisat_prop.specs.View.{View, clause_at, literal_at, decision_at, WellFormed}
use Rattle.varisat_prop.specs.Changes.{enqueued, decided_on}
use Rattle.varisat_prop.specs.declared.prop.watch_list.Watch.{Watch}
use Rattle.varisat_prop.specs.Watches.{Watches, watches_of, with_watches, literal_in, IsWatchedBy, NameOnce, HasWatch, IsWatching, IsCovered, WatchesHoldTo, IsImpliedTo, IsPropagated}
use Rattle.varisat_prop.specs.Visits.{AddsWatches, GetsWatch, WatchesClause}
use Rattle.varisat_clause.proofs.StoredClauses.{place-cases-more, place-more, place-last, stored-more, stored-last}
use Rattle.varisat_prop.proofs.trails.TrailExtend.{get_or-last}
use Rattle.varisat_prop.proofs.watching.WatchesOnce.{once-gets}
use Rattle.varisat_prop.proofs.watching.WatchesHold.{Lengthens, lengthens-goes-on, settled-longer, settled-back, implied-longer, implied-back, two}

enqueued-longer : (s : View) (l : Literal) (r : Reason) → Lengthens s (enqueued s l r)
enqueued-longer s l r = record {
  clauses = refl;
  binary = refl;
  decisions = refl;
  longer = (let n = length-append s.trail (l ∷ []) in omega (arith, n));
  keeps = λ k h. get_or_append_left s.trail (l ∷ []) 0 k h;
}

-- a literal is enqueued: nothing is asked
pub propagated-enqueued : (W : Watches) (s : View) (l : Literal) (r : Reason) → WellFormed s → IsPropagated W s → IsPropagated W (enqueued s l r)
propagated-enqueued W s l r f w = record {
  lists = (let n = length-set s.values (variable_of l) (Some (polarity_of l)) in let m = w.lists in omega (arith, n, m));
  watching = w.watching;
  empty = w.empty;
  settled = settled-longer s (enqueued s l r) s.queue_head (enqueued-longer s l r) f.head w.settled;
  binary = (let n = length-set s.values (variable_of l) (Some (polarity_of l)) in let m = w.binary in omega (arith, n, m));
  implied = implied-longer s (enqueued s l r) s.queue_head (lengthens-goes-on s (enqueued s l r) (enqueued-longer s l r)) f.head w.implied;
  queue = w.queue;
}

-- a decision, where all was propagated
module _ (W : Watches) (s : View) (l : Literal) (f : WellFormed s) (done : s.queue_head ≡ length s.trail) (w : IsPropagated W s) where
  abbrev ds : List ℕ
  ds = s.decisions ++ length s.trail ∷ []

  at-level : (j : ℕ) → j < length ds → ((j < length s.decisions) × (get_or ds j 0 ≡ decision_at s j)) ⊎ (get_or ds j 0 ≡ length s.trail)
  at-level j h =
      let n = length-append s.decisions (length s.trail ∷ []) in
      ⊎_elim
      (λ a. inl (a, get_or_append_left s.decisions (length s.trail ∷ []) 0 j a))
      (λ a. let e : j ≡ length s.decisions = omega (arith, a, h, n) in inr (ap (λ x. get_or ds x 0) e ∙ get_or-last s.decisions (length s.trail) 0))
      (cases_lt j (length s.decisions))

  abbrev opened : View
  opened = record s { decisions = ds }

  opened-settled : WatchesHoldTo opened s.queue_head
  opened-settled = λ i j p a b h e.
      let (k, x, y, z) = w.settled i j p a b h e in
      (k, x, y, λ v c d. ⊎_elim (λ (g, o). let q = z v g (omega (arith, d, o)) in omega (arith, q, o)) (λ o. omega (arith, x, o)) (at-level v c))

  opened-implied : IsImpliedTo opened s.queue_head
  opened-implied = λ m p h i.
      let (k, x, y, z) = w.implied m p h i in
      (k, x, y, λ v c d. ⊎_elim (λ (g, o). let q = z v g (omega (arith, d, o)) in omega (arith, q, o)) (λ o. omega (arith, x, o)) (at-level v c))

  pub propagated-decided : IsPropagated W (decided_on s l)
  propagated-decided = record {
    lists = (let n = length-set s.values (variable_of l) (Some (polarity_of l)) in let m = w.lists in omega (arith, n, m));
    watching = w.watching;
    empty = w.empty;
    settled = settled-longer opened (decided_on s l) s.queue_head (enqueued-longer opened l reason.Unit) f.head opened-settled;
    binary = (let n = length-set s.values (variable_of l) (Some (polarity_of l)) in let m = w.binary in omega (arith, n, m));
    implied = implied-longer opened (decided_on s l) s.queue_head
        (lengthens-goes-on opened (decided_on s l) (enqueued-longer opened l reason.Unit)) f.head opened-implied;
    queue = λ j h. ⊎_elim (λ (g, o). let q = w.queue j g in omega (arith, o, q)) (λ o. omega (arith, o, done)) (at-level j h);
  }

-- backtracking to a level, whose decision is the first literal that isn't propagated then: the lists stay as they are
pub propagated-back : (W : Watches) (s t : View) (level : ℕ) → WellFormed s → level < length s.decisions → length t.values ≡ length s.values
    → t ≡ record s { values = t.values; trail = take (decision_at s level) s.trail; queue_head = decision_at s level; decisions = take level s.decisions }
    → IsPropagated W s → IsPropagated W t
propagated-back W s t level w a n e g =
    let d = w.decided level a in
    let m : decision_at s level ≤ length s.trail = omega (arith, d.0) in
    record {
      lists = (let k = g.lists in omega (arith, k, n));
      watching = λ h. subst (λ P. IsWatching W P) (sym (ap (λ x. x.clauses) e)) (g.watching h);
      empty = g.empty;
      settled = subst (λ q. WatchesHoldTo t q) (sym (ap (λ x. x.queue_head) e)) (settled-back s t level s.queue_head a (g.queue level a) m e g.settled);
      binary = (let k = ap (λ (x : View). length x.binary) e in let o = g.binary in omega (arith, k, o, n));
      implied = subst (λ q. IsImpliedTo t q) (sym (ap (λ x. x.queue_head) e)) (implied-back s t level s.queue_head a (g.queue level a) m e g.implied);
      queue = λ j h. let k = ap (λ (x : View). length x.decisions) e in let o = length-take level s.decisions in
          let j' : j < level = omega (arith, h, k, o) in
          let v = ap (λ (x : View). get_or x.decisions j 0) e in
          let u = get_or-take level s.decisions j 0 j' in
          let r = w.rising j level j' a in
          let q = ap (λ x. x.queue_head) e in
          omega (arith, v, u, r, q);
    }

-- one more clause, with watches of it in the lists
module _ (P : List StoredClause) (c : StoredClause) (last : (k : StoredClause) → k ∈ P → k.place < c.place) where
  abbrev more : List StoredClause
  more = P ++ c ∷ []

  old-at : (i : ℕ) → IsClauseRef P i → literals_at more i ≡ literals_at P i
  old-at i h = ap (λ x. x.literals) (stored-more P c i h)

  new-at : literals_at more c.place ≡ c.literals
  new-at = ap (λ x. x.literals) (stored-last P c last)

  -- the place of the clause is a new one
  new-place : (W : Watches) → IsWatching W P → (x : Literal) (y : Watch) → y ∈ watches_of W x → y.cref ≢ c.place
  new-place W w x y h e = let (k, i, f) = (w.known x y h).0 in let n = last k i in omega (arith, n, f, e)

  pub watching-more : (W V : Watches) → IsWatching W P → AddsWatches W V c.place c.literals →
      ((j : ℕ) → j < 2 → HasWatch (watches_of V (opposite (literal_in c.literals j))) c.place) →
      ((x : Literal) → (watches_of V x ≡ watches_of W x) ⊎ GetsWatch (watches_of W x) (watches_of V x) c.place) → IsWatching V more
  watching-more W V w v h o = record {
    known = λ x y m. ⊎_elim
        (λ k. let (a, b, by) = w.known x y k in (
          place-more P c y.cref a,
          subst (λ d. y.blocking ∈ d) (sym (old-at y.cref a)) b,
          subst (λ d. IsWatchedBy d (opposite x)) (sym (old-at y.cref a)) by,
        ))
        (λ (e, b, by). let at = ap (λ k. literals_at more k) e ∙ new-at in (
          subst (IsClauseRef more) (sym e) (place-last P c),
          subst (λ d. y.blocking ∈ d) (sym at) b,
          subst (λ d. IsWatchedBy d (opposite x)) (sym at) by,
        ))
        (v.new x y m);
    once = λ x. once-gets (watches_of W x) (watches_of V x) c.place (w.once x) (new-place W w x) (o x);
    watched = λ i j a b. ⊎_elim
        (λ k. let (y, m, e) = w.watched i j k b in subst (λ d. HasWatch (watches_of V (opposite (literal_in d j))) i) (sym (old-at i k))
        (y, v.old (opposite (literal_in (literals_at P i) j)) y m, e))
        (λ e. subst (λ k. HasWatch (watches_of V (opposite (literal_in (literals_at more k) j))) k) (sym e)
        (subst (λ d. HasWatch (watches_of V (opposite (literal_in d j))) c.place) (sym new-at) (h j b)))
        (place-cases-more P c i a);
  }

  -- its watches hold where each of its first two literals that is false below q has a true one beside it, at its level or a lower one
  pub settled-more : (s : View) (q : ℕ) → s.clauses ≡ P →
      ((j p : ℕ) → j < 2 → p < q → literal_at s p ≡ opposite (literal_in c.literals j) → IsCovered s c.literals p) → WatchesHoldTo s q →
      WatchesHoldTo (record s { clauses = more }) q
  settled-more s q f n st = λ i j p a b h e. ⊎_elim
      (λ k. let g : literals_at more i ≡ clause_at s i = old-at i k ∙ ap (λ x. literals_at x i) (sym f) in
      subst (λ d. IsCovered s d p) (sym g) (st i j p (subst (λ x. IsClauseRef x i) (sym f) k) b h (e ∙ ap (λ d. opposite (literal_in d j)) g)))
      (λ k. let g : literals_at more i ≡ c.literals = ap (λ x. literals_at more x) k ∙ new-at in
      subst (λ d. IsCovered s d p) (sym g) (n j p b h (e ∙ ap (λ d. opposite (literal_in d j)) g)))
      (place-cases-more P c i a)

-- watches of one more clause, whether the lists are on or off
module _ (W V : Watches) (s : View) (c : StoredClause) (w : IsPropagated W s) (last : (k : StoredClause) → k ∈ s.clauses → k.place < c.place)
    (v : WatchesClause W V c.place c.literals) (apart : literal_in c.literals 0 ≢ literal_in c.literals 1) where
  more-watching : V.enabled ≡ true → IsWatching V (s.clauses ++ c ∷ [])
  more-watching e = let o : W.enabled ≡ true = sym v.adds.enabled ∙ e in watching-more s.clauses c last W V (w.watching o) v.adds (v.pair o)
      (v.once apart)

  more-empty : V.enabled ≡ false → (x : Literal) → watches_of V x ≡ []
  more-empty e x = let o : W.enabled ≡ false = sym v.adds.enabled ∙ e in ap (λ X. watches_of X x) (v.off o) ∙ w.empty o x

  -- A loaded clause, after which no literal counts as propagated.
  pub propagated-loaded : s.decisions ≡ [] → IsPropagated V (record s { clauses = s.clauses ++ c ∷ []; queue_head = 0 })
  propagated-loaded e = record {
    lists = v.adds.count ∙ w.lists;
    watching = more-watching;
    empty = more-empty;
    settled = λ i j p a b h. absurd (omega (arith, h));
    binary = w.binary;
    implied = λ m p h. absurd (omega (arith, h));
    queue = λ j h. let n = ap (λ (x : List ℕ). length x) e in absurd (omega (arith, h, n));
  }

  -- A learned clause, whose first literal becomes true with it. Where one of its first two is false, it is so at the present level.
  pub propagated-learned : (l : Literal) (r : Reason) → WellFormed s → l ≡ literal_in c.literals 0 → 0 < length c.literals
      → ((j p : ℕ) → j < 2 → p < s.queue_head → literal_at s p ≡ opposite (literal_in c.literals j) → (k : ℕ) → k < length s.decisions → decision_at s k ≤ p)
      → IsPropagated V (enqueued (record s { clauses = s.clauses ++ c ∷ [] }) l r)
  propagated-learned l r f first long n =
      let t : View = enqueued s l r in
      let m = length-append s.trail (l ∷ []) in
      record {
        lists = (let o = length-set s.values (variable_of l) (Some (polarity_of l)) in let k = w.lists in let q = v.adds.count in omega (arith, k, q, o));
        watching = more-watching;
        empty = more-empty;
        settled = settled-more s.clauses c last t s.queue_head refl
            (λ j p a b e.
            let e' : literal_at s p ≡ opposite (literal_in c.literals j) =
            sym (get_or_append_left s.trail (l ∷ []) 0 p (let o = f.head in omega (arith, b, o))) ∙ e in (
              length s.trail,
              omega (arith, m),
              subst (λ x. x ∈ c.literals) (sym (get_or-last s.trail l 0 ∙ first))
                  (∈-get_or c.literals 0 0 long),
              λ k d g. let o = n j p a b e' k d in absurd (omega (arith, o, g)),
            ))
            (settled-longer s t s.queue_head (enqueued-longer s l r) f.head w.settled);
        binary = (let o = length-set s.values (variable_of l) (Some (polarity_of l)) in let k = w.binary in omega (arith, k, o));
        implied = implied-longer s t s.queue_head (lengthens-goes-on s t (enqueued-longer s l r)) f.head w.implied;
        queue = w.queue;
      }

-- no clauses, and empty lists
pub watching-none : (W : Watches) → ((x : Literal) → watches_of W x ≡ []) → IsWatching W []
watching-none W e = record {
  known = λ x w h. absurd (subst (λ ws. w ∈ ws) (e x) h);
  once = λ x. subst (λ ws. NameOnce ws) (sym (e x)) tt;
  watched = λ i j (k, h, f) b. absurd h;
}

-- one watch at the end of a list
module _ (W : Watches) (x : Literal) (w : Watch) (inside : x < length W.lists) where
  abbrev ws : List Watch
  ws = watches_of W x ++ w ∷ []

  abbrev pushed : Watches
  pushed = with_watches W x ws

  own : watches_of pushed x ≡ ws
  own = get_or-set_same W.lists x ws [] inside

  pub adds-pushed : (d : Clause) → w.blocking ∈ d → IsWatchedBy d (opposite x) → AddsWatches W pushed w.cref d
  adds-pushed d b by = record {
    enabled = refl;
    count = length-set W.lists x ws;
    old = λ y v h. ⊎_elim
        (λ e. subst (λ z. v ∈ watches_of pushed z) (sym e)
        (subst (λ z. v ∈ z) (sym own) (∈-append_left v (watches_of W x) (w ∷ []) (subst (λ z. v ∈ watches_of W z) e h))))
        (λ n. subst (λ z. v ∈ z) (sym (get_or-set_other W.lists x y ws [] n)) h)
        (equal_or_not y x);
    new = λ y v h. ⊎_elim
        (λ e. ⊎_elim
        (λ k. inl (subst (λ z. v ∈ watches_of W z) (sym e) k))
        (λ k. ⊎_elim (λ z. inr (
          ap (λ q. q.cref) z,
          subst (λ q. q ∈ d) (sym (ap (λ q. q.blocking) z)) b,
          subst (λ q. IsWatchedBy d (opposite q)) (sym e) by,
        )) (λ z. absurd z) k)
        (∈-append_cases v (watches_of W x) (w ∷ []) (subst (λ z. v ∈ z) own (subst (λ z. v ∈ watches_of pushed z) e h))))
        (λ n. inl (subst (λ z. v ∈ z) (get_or-set_other W.lists x y ws [] n) h))
        (equal_or_not y x);
  }

  -- no other list does
  pub gets-pushed : (y : Literal) → y ≡ x → GetsWatch (watches_of W y) (watches_of pushed y) w.cref
  gets-pushed y e = (w, refl, subst (λ z. watches_of pushed z ≡ watches_of W z ++ w ∷ []) (sym e) own)

  pub stays-pushed : (y : Literal) → y ≢ x → watches_of pushed y ≡ watches_of W y
  stays-pushed y n = get_or-set_other W.lists x y ws [] n

  pub has-pushed : HasWatch (watches_of pushed x) w.cref
  has-pushed = (w, subst (λ z. w ∈ z) (sym own) (∈-append_right w (watches_of W x) (w ∷ []) (inl refl)), refl)

adds-trans : (W V U : Watches) (i : ℕ) (d : Clause) → AddsWatches W V i d → AddsWatches V U i d → AddsWatches W U i d
adds-trans W V U i d a b = record {
  enabled = b.enabled ∙ a.enabled;
  count = b.count ∙ a.count;
  old = λ x w h. b.old x w (a.old x w h);
  new = λ x w h. ⊎_elim (λ k. a.new x w k) inr (b.new x w h);
}

pub adds-none : (W : Watches) (i : ℕ) (d : Clause) → AddsWatches W W i d
adds-none W i d = record { enabled = refl; count = refl; old = λ x w h. h; new = λ x w h. inl h }

-- lists that are off stay as they are
pub watch-off : (W : Watches) (i : ℕ) (d : Clause) → W.enabled ≡ false → WatchesClause W W i d
watch-off W i d e = record { adds = adds-none W i d; pair = λ f. absurd cc; once = λ n x. inl refl; off = λ f. refl }

-- the two watches of a clause
pub watch-two : (W V U : Watches) (i : ℕ) (l m x y : Literal) → W.enabled ≡ true → x ≡ opposite l → y ≡ opposite m → x < length W.lists → y < length W.lists
    → V ≡ with_watches W x (watches_of W x ++ record { cref = i; blocking = m } ∷ []) →
    U ≡ with_watches V y (watches_of V y ++ record { cref = i; blocking = l } ∷ [])
    → WatchesClause W U i (l ∷ m ∷ [])
watch-two W V U i l m x y on ex ey a b ev eu =
    let c : Clause = l ∷ m ∷ [] in
    let w : Watch = record { cref = i; blocking = m } in
    let z : Watch = record { cref = i; blocking = l } in
    let n = length-set W.lists x (watches_of W x ++ w ∷ []) in
    let o = ap (λ (X : Watches). length X.lists) ev in
    let b' : y < length V.lists = omega (arith, b, n, o) in
    let first : IsWatchedBy c (opposite x) = (0, omega arith, sym (ap opposite ex ∙ opposite_twice l)) in
    let second : IsWatchedBy c (opposite y) = (1, omega arith, sym (ap opposite ey ∙ opposite_twice m)) in
    let p : AddsWatches W V i c = subst (λ X. AddsWatches W X i c) (sym ev) (adds-pushed W x w a c (inr (inl refl)) first) in
    let q : AddsWatches V U i c = subst (λ X. AddsWatches V X i c) (sym eu) (adds-pushed V y z b' c (inl refl) second) in
    let h : HasWatch (watches_of V x) i = subst (λ X. HasWatch (watches_of X x) i) (sym ev) (has-pushed W x w a) in
    let k : HasWatch (watches_of U y) i = subst (λ X. HasWatch (watches_of X y) i) (sym eu) (has-pushed V y z b') in
    record {
      adds = adds-trans W V U i c p q;
      pair = λ e. two (λ j. HasWatch (watches_of U (opposite (literal_in c j))) i)
          (subst (λ v. HasWatch (watches_of U v) i) ex (h.0, q.old x h.0 h.1, h.2)) (subst (λ v. HasWatch (watches_of U v) i) ey k);
      once = λ n v. watched-once n v (equal_or_not v x) (equal_or_not v y);
      off = λ e. absurd cc;
    }
  where
    first-stays : (v : Literal) → v ≢ x → watches_of V v ≡ watches_of W v
    first-stays v n = ap (λ X. watches_of X v) ev ∙ stays-pushed W x (record { cref = i; blocking = m }) a v n

    second-inside : y < length V.lists
    second-inside =
        let n = length-set W.lists x (watches_of W x ++ record { cref = i; blocking = m } ∷ []) in
        let o = ap (λ (X : Watches). length X.lists) ev in
        omega (arith, b, n, o)

    second-stays : (v : Literal) → v ≢ y → watches_of U v ≡ watches_of V v
    second-stays v n = ap (λ X. watches_of X v) eu ∙ stays-pushed V y (record { cref = i; blocking = l }) second-inside v n

    gets-first : (v : Literal) → v ≡ x → v ≢ y → GetsWatch (watches_of W v) (watches_of U v) i
    gets-first v e n =
        let (w, c, g) = gets-pushed W x (record { cref = i; blocking = m }) a v e in
        (w, c, second-stays v n ∙ ap (λ X. watches_of X v) ev ∙ g)

    gets-second : (v : Literal) → v ≢ x → v ≡ y → GetsWatch (watches_of W v) (watches_of U v) i
    gets-second v n e =
        let (w, c, g) = gets-pushed V y (record { cref = i; blocking = l }) second-inside v e in
        (w, c, ap (λ X. watches_of X v) eu ∙ g ∙ ap (λ ws. ws ++ w ∷ []) (first-stays v n))

    -- where the two literals are different, each list gets one at most
    watched-once : l ≢ m → (v : Literal) → (v ≡ x) ⊎ (v ≢ x) → (v ≡ y) ⊎ (v ≢ y) →
        (watches_of U v ≡ watches_of W v) ⊎ GetsWatch (watches_of W v) (watches_of U v) i
    watched-once n v (inl e) (inl f) =
        absurd (n (sym (opposite_twice l) ∙ ap opposite (sym ex ∙ sym e ∙ f ∙ ey) ∙ opposite_twice m))
    watched-once n v (inl e) (inr f) = inr (gets-first v e f)
    watched-once n v (inr e) (inl f) = inr (gets-second v e f)
    watched-once n v (inr e) (inr f) = inl (second-stays v f ∙ first-stays v e)

-- the first two literals are all that a watch reads of a clause
pub watch-whole : (W V : Watches) (i : ℕ) (l m : Literal) (c : Clause) → 2 ≤ length c → l ≡ literal_in c 0 → m ≡ literal_in c 1 →
    WatchesClause W V i (l ∷ m ∷ []) → WatchesClause W V i c
watch-whole W V i l m c n el em v = record {
  adds = record {
    enabled = v.adds.enabled;
    count = v.adds.count;
    old = v.adds.old;
    new = λ x w h. ⊎_elim inl (λ (e, b, by). inr (e, inside w.blocking b, whole (opposite x) by)) (v.adds.new x w h);
  };
  pair = λ e. two (λ j. HasWatch (watches_of V (opposite (literal_in c j))) i)
      (subst (λ x. HasWatch (watches_of V (opposite x)) i) el (v.pair e 0 (omega arith)))
      (subst (λ x. HasWatch (watches_of V (opposite x)) i) em (v.pair e 1 (omega arith)));
  once = λ a. v.once (λ e. a (sym el ∙ e ∙ em));
  off = v.off;
}
  where
    inside : (x : Literal) → x ∈ (l ∷ m ∷ []) → x ∈ c
    inside x (inl e) = subst (λ y. y ∈ c) (sym (e ∙ el)) (∈-get_or c 0 0 (omega (arith, n)))
    inside x (inr (inl e)) = subst (λ y. y ∈ c) (sym (e ∙ em)) (∈-get_or c 1 0 (omega (arith, n)))
    inside x (inr (inr z)) = absurd z

    whole : (x : Literal) → IsWatchedBy (l ∷ m ∷ []) x → IsWatchedBy c x
    whole x (j, b, e) = two (λ k. literal_in (l ∷ m ∷ []) k ≡ x → IsWatchedBy c x)
        (λ f. (0, omega arith, sym el ∙ f)) (λ f. (1, omega arith, sym em ∙ f)) j b e
