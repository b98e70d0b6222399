-- What the clause that `learn_from_conflict` adds does to the view.
use Rattle.std.proofs.Common.{◌≡◌, ◌≢◌, ℕ, zero, suc, ◌<◌, ◌≤◌, Bool, true, false, nat_eq, ◌||◌, Some, None, List, [], ◌∷◌, ◌++◌, length, get_or, take, map, inl, inr, ⊎_elim, refl, sym, ap, ◌∙◌, subst, arith, length-set}
use Rattle.std.proofs.lemmas.List.{length-map, map-append, take-append-le}
use Rattle.std.proofs.lemmas.Bool.{cases_lt, ne_eqb}
use Rattle.varisat_theory.specs.promises.Membership.{◌∈◌, ◌⊆◌, SameSet, IsDistinct}
use Rattle.varisat_theory.specs.promises.Literals.{Literal, Clause, variable_of, opposite}
use Rattle.varisat_theory.specs.promises.Propagation.{IsComplete}
use Rattle.varisat_theory.specs.inside.Rank.{rank}
use Rattle.varisat_theory.proofs.bounds.Ranks.{rank_raised}
use Rattle.varisat_theory.specs.promises.Held.{SameClauses}
use Rattle.varisat_theory.specs.promises.Searches.{KeptClause, IsTautology}
use Rattle.varisat_theory.proofs.clauses.Held.{same_set-self, same_clauses_find, same_clauses-back}
use Rattle.varisat_theory.proofs.clauses.Saturated.{learned_is_new, complete_added, complete_shorter}
use Rattle.varisat_theory.proofs.clauses.Places.{place_in_take}
use Rattle.varisat_prop.specs.declared.prop.graph.Reason.{Reason}
use Rattle.varisat_prop.specs.declared.prop.graph.Reason.TheVariants as reason
use Rattle.varisat_prop.specs.declared.prop.graph.Conflict.{Conflict}
use Rattle.varisat_clause.specs.declared.header.Tier.TheVariants as tier
use Rattle.std.specs.Prelude.{not}
use Rattle.varisat_clause.specs.Tiers.{is_tier}
use Rattle.varisat_clause.specs.Headers.{Header}
use Rattle.varisat_clause.specs.Stores.{Store, AddsStored}
use Rattle.varisat_clause.specs.Collected.{live_clauses}
use Rattle.varisat_clause.proofs.LiveStore.{live-added}
use Rattle.varisat_prop.specs.Pairs.{with_pair}
use Rattle.varisat_clause.proofs.StoredClauses.{place-last}
use Rattle.varisat_prop.proofs.pairs.PairAdded.{adds-pair, well-pair, propagated-learned-pair}
use Rattle.varisat_prop.proofs.watching.LongVisited.{listed}
use Rattle.varisat_search.specs.Conflicts.{learned_at, Keeping, keeping_of, IsKeptAsReason, IsWatchedAsReason}
use Rattle.varisat_search.specs.Seen.{search_of}
use Rattle.varisat_prop.specs.View.{View, kept, IsTrueIn, literal_at, decision_at, node_of, node_at, level_of, WellFormed, PropagatedBeforeDecisions, ViewFits, kinds, is_implied, is_clause}
use Rattle.varisat_prop.specs.Changes.{enqueued}
use Rattle.varisat_literals.specs.promises.Numbers.{polarity_of}
use Rattle.varisat_theory.proofs.clauses.Values.{variable-opposite}
use Rattle.varisat_prop.proofs.trails.LiteralValues.{none-made, made-inside, made-clash}
use Rattle.varisat_prop.proofs.trails.TrailValues.{trail-true}
use Rattle.varisat_prop.specs.Watches.{Watches, literal_in, IsPropagated}
use Rattle.varisat_prop.proofs.watching.WatchKept.{propagated-enqueued, propagated-learned}
use Rattle.varisat_prop.proofs.trails.TrailExtend.{node-old, node-new, literal-old, literal-new}
use Rattle.varisat_prop.proofs.trails.EnqueueAssignment.{MayImply, enqueued-well}
use Rattle.varisat_analysis.specs.Learned.{IsAsserting, IsLevelOf}
use Rattle.varisat_search.specs.Steps.{IsCut, LeavesFrom}
use Rattle.varisat_search.proofs.stepping.Backtrack.{end-inside, still, cut-well, cut-settled, cut-propagated, level-length}
use Rattle.varisat_search.proofs.loading.AddedClause.{kept-last, kept-well}
use Rattle.varisat_search.proofs.loading.PairSearch.{HasInputPart, pair-same, pair-seen, long-same, long-seen}

take-∈ : (n : ℕ) (xs : List ℕ) (j : ℕ) → j < n → j < length xs → get_or xs j 0 ∈ take n xs
take-∈ zero xs j h l = absurd (omega (arith, h))
take-∈ (suc n) [] j h l = absurd (omega (arith, l))
take-∈ (suc n) (y ∷ xs) zero h l = inl refl
take-∈ (suc n) (y ∷ xs) (suc j) h l = inr (take-∈ n xs j (omega (arith, h)) (omega (arith, l)))

split-false : (xs : List Bool) (p : ℕ) → p < length xs → get_or xs p true ≡ false → (old : List Bool) × (xs ≡ take p xs ++ (false ∷ old))
split-false [] p h e = absurd (omega (arith, h))
split-false (x ∷ xs) zero h e = (xs, ap (λ y. y ∷ xs) e)
split-false (x ∷ xs) (suc p) h e = let (old, f) = split-false xs p (omega (arith, h)) e in (old, ap (λ y. x ∷ y) f)

map-take : (f : ℕ → Bool) (p : ℕ) (xs : List ℕ) → map f (take p xs) ≡ take p (map f xs)
map-take f zero xs = refl
map-take f (suc p) [] = refl
map-take f (suc p) (x ∷ xs) = ap (λ y. f x ∷ y) (map-take f p xs)

map-get : (f : ℕ → Bool) (xs : List ℕ) (i : ℕ) (e : Bool) → i < length xs → get_or (map f xs) i e ≡ f (get_or xs i 0)
map-get f [] i e h = absurd (omega (arith, h))
map-get f (x ∷ xs) zero e h = refl
map-get f (x ∷ xs) (suc i) e h = map-get f xs i e (omega (arith, h))

-- the level of a second literal is below the present one, and the highest of the others
pub second-level : (s : View) (others : Clause) (level d : ℕ) → IsLevelOf s others level → ((m : Literal) → m ∈ others → level_of s m < d) → 0 < d →
    (level < d) × ((m : Literal) → m ∈ others → level_of s m ≤ level)
second-level s [] level d e l h = (omega (arith, e, h), λ m i. absurd i)
second-level s (m ∷ others) level d (e, f) l h =
    (let a = l m (inl refl) in omega (arith, e, a), λ n i. ⊎_elim (λ g. let b = ap (level_of s) g in omega (arith, b, e)) (f n) i)

module _ (s t : View) (i : Conflict) (level : ℕ) (c : Clause) (w : WellFormed s) (v : PropagatedBeforeDecisions s) (l : IsAsserting s i c level)
    (deep : 0 < length s.decisions) (ct : IsCut s t level) where
  abbrev first : Literal
  first = l.first

  pub level-below : level < length s.decisions
  level-below = (second-level s l.others level (length s.decisions) l.second l.lower deep).0

  high : (m : Literal) → m ∈ l.others → level_of s m ≤ level
  high = (second-level s l.others level (length s.decisions) l.second l.lower deep).1

  abbrev pub end : ℕ
  end = decision_at s level

  -- a literal of the clause is false
  false-in : (m : Literal) → m ∈ (first ∷ l.others) → IsTrueIn s (opposite m)
  false-in m h = trail-true s w (opposite m) (l.false_now m (subst (λ x. m ∈ x) (sym l.split) h))

  level-opposite : (m : Literal) → level_of s (opposite m) ≡ level_of s m
  level-opposite m = ap (λ x. (get_or s.nodes x (record { reason = reason.Unit; level = 0; depth = 0 })).level) (variable-opposite m)

  -- the first literal leaves the trail
  first-leaves : LeavesFrom s end (variable_of first)
  first-leaves =
      let (k, a, e) = w.stands (opposite first) (false-in first (inl refl)) in
      let g = ap (level_of s) e in
      let d = level-opposite first in
      let f = l.current in
      let b = level-below in
      ⊎_elim
      (λ o. let r = w.levels_down k level a b o in absurd (omega (arith, r, g, d, f, b)))
      (λ o. (k, o, a, ap variable_of e ∙ variable-opposite first))
      (cases_lt k end)

  pub first-free : get_or t.values (variable_of first) None ≡ None
  first-free = ct.gone (variable_of first) first-leaves

  pub first-inside : variable_of first < length t.values
  first-inside = let a = made-inside s.values (opposite first) (false-in first (inl refl)) in let e = variable-opposite first in let n = ct.count in
      omega (arith, a, e, n)

  -- the others stay false
  other-place : (m : Literal) → m ∈ l.others → (k : ℕ) × (k < end) × (k < length s.trail) × (literal_at s k ≡ opposite m)
  other-place m h =
      let (k, a, e) = w.stands (opposite m) (false-in m (inr h)) in
      let g = ap (level_of s) e in
      let d = level-opposite m in
      let f = high m h in
      (k, w.levels_up k level a level-below (omega (arith, g, d, f)), a, e)

  pub other-false : (m : Literal) → m ∈ l.others → IsTrueIn t (opposite m)
  other-false m h = let (k, a, b, e) = other-place m h in subst (λ (x : View). IsTrueIn x (opposite m)) (sym ct.rest)
      (subst (λ x. IsTrueIn (record s { values = t.values; trail = take end s.trail; queue_head = end; decisions = take level s.decisions }) x) e
      (still s t level w level-below ct k a))

  -- it is no tautology
  pub no-clash : IsTautology c → ⊥
  no-clash (x, a, b) =
      let inside : (m : Literal) → m ∈ c → m ∈ (first ∷ l.others) = λ m q. subst (λ y. m ∈ y) l.split q in
      made-clash s.values (opposite x) (false-in x (inside x a)) (false-in (opposite x) (inside (opposite x) b))

  -- no held clause is a part of it
  pub no-part : (held : List Clause) → ViewFits held s → (d : Clause) → d ∈ held → d ⊆ c → ⊥
  no-part held f d h k =
      let part : (e : Clause) → e ∈ kept s → e ⊆ (first ∷ l.others) → ⊥ = learned_is_new (kept s) (take end s.trail) first l.others (v level level-below)
      (λ q. let (j, a, b, e) = place_in_take first s.trail end 0 q in
      made-clash s.values first (subst (IsTrueIn s) e (w.is_true j b)) (false-in first (inl refl)))
      (λ m q. let (j, a, b, e) = other-place m q in subst (λ x. x ∈ take end s.trail) e (take-∈ end s.trail j a b)) in
      let k' : d ⊆ (first ∷ l.others) = λ m q. subst (λ x. m ∈ x) l.split (k m q) in
      ⊎_elim
      (λ (e, q, g). part e q (λ m r. k' m (g m r)))
      (λ r. ⊎_elim
      (λ (x, a, b). made-clash s.values (opposite x) (false-in x (k' x a)) (false-in (opposite x) (k' (opposite x) b)))
      (λ (x, a, (b, z)). made-clash s.values x b (false-in x (k' x a)))
      r)
      (f.covered d h)

  end-in : end < length s.trail
  end-in = end-inside s t level w level-below ct

  -- a decision stood at the place
  was-decided : is_implied (node_at s end) ≡ false
  was-decided =
      let d = (w.decided level level-below).1 in
      let e : is_clause (node_at s end).reason ≡ false = ap is_clause d in
      let up : (node_at s end).level ≤ level → end < end = w.levels_up end level end-in level-below in
      let n : (node_at s end).level ≡ 0 → ⊥ = λ z. let r = up (omega (arith, z)) in omega (arith, r) in
      no-zero (is_clause (node_at s end).reason) (node_at s end).level e n
    where
      no-zero : (b : Bool) (x : ℕ) → b ≡ false → (x ≡ 0 → ⊥) → (b || nat_eq x 0) ≡ false
      no-zero true x e n = e
      no-zero false x e n = ne_eqb x 0 n

  kinds-cut : kinds t ≡ take end (kinds s)
  kinds-cut = ap kinds ct.rest ∙ map-take (λ x. is_implied (node_of s x)) end s.trail

  -- an implied literal takes the decision's place
  pub rises : (z : View) → kinds z ≡ kinds t ++ true ∷ [] → (n : ℕ) → length s.trail ≤ n → rank n (kinds s) < rank n (kinds z)
  rises z e n b =
      let m = length-map s.trail (λ x. is_implied (node_of s x)) in
      let i = end-in in
      let (old, f) = split-false (kinds s) end (omega (arith, m, i)) (map-get (λ x. is_implied (node_of s x)) s.trail end true end-in ∙ was-decided) in
      let g = ap (λ (x : List Bool). length x) f in
      let r = rank_raised n (take end (kinds s)) old [] (omega (arith, g, m, b)) in
      let left : rank n (kinds s) ≡ rank n (take end (kinds s) ++ (false ∷ old)) = ap (rank n) f in
      let right : rank n (kinds z) ≡ rank n (take end (kinds s) ++ (true ∷ [])) = ap (rank n) (e ∙ ap (λ x. x ++ true ∷ []) kinds-cut) in
      omega (arith, r, left, right)

-- one more flag for one more literal
pub kinds-enqueued : (t : View) (l : Literal) (r : Reason) (w : WellFormed t) → variable_of l < length t.values →
    get_or t.values (variable_of l) None ≡ None → kinds (enqueued t l r) ≡ kinds t ++ is_implied
    (record { reason = r; level = length t.decisions; depth = suc (length t.trail) }) ∷ []
kinds-enqueued t l r w inside free =
    let z = enqueued t l r in
    let f : ℕ → Bool = λ x. is_implied (node_of z x) in
    let g : ℕ → Bool = λ x. is_implied (node_of t x) in
    let same : map f t.trail ≡ map g t.trail = map-equal f g t.trail
    (λ k h. ap is_implied (ap (node_of z) (sym (literal-old t l r t.decisions w inside free k h)) ∙ node-old t l r t.decisions w inside free k h)) in
    let new : f l ≡ is_implied (record { reason = r; level = length t.decisions; depth = suc (length t.trail) }) =
    ap is_implied (ap (node_of z) (sym (literal-new t l r t.decisions w inside free)) ∙ node-new t l r t.decisions w inside free) in
    map-append f t.trail (l ∷ []) ∙ ap (λ y. y ++ f l ∷ []) same ∙ ap (λ y. map g t.trail ++ y ∷ []) new
  where
    map-equal : (f g : ℕ → Bool) (xs : List ℕ) → ((k : ℕ) → k < length xs → f (get_or xs k 0) ≡ g (get_or xs k 0)) → map f xs ≡ map g xs
    map-equal f g [] h = refl
    map-equal f g (x ∷ xs) h = let e = h zero (omega arith) in let d = map-equal f g xs (λ k l. h (suc k) (omega (arith, l))) in cc

-- a clause of three literals or more joins the store as Local
pub stored-learned : (s n : Store) (B : List (List Literal)) (c : Clause) (p : ℕ) (h : Header) → 3 ≤ length c → is_tier h.tier tier.Irred ≡ false →
    h.deleted ≡ false → AddsStored s n (learned_at p h c) → IsKeptAsReason (record { clauses = live_clauses s; binary = B })
    (record { clauses = live_clauses n; binary = B }) c (reason.Long p)
stored-learned s n B [] p h l e d a = absurd (omega (arith, l))
stored-learned s n B (x ∷ []) p h l e d a = absurd (omega (arith, l))
stored-learned s n B (x ∷ y ∷ []) p h l e d a = absurd (omega (arith, l))
stored-learned s n B (x ∷ y ∷ z ∷ c) p h l e d a = (refl, (p, h, e, live-added s n (learned_at p h (x ∷ y ∷ z ∷ c)) a d, refl))

-- the view with other kept clauses
abbrev pub keeping : View → Keeping → View
keeping t k = record t { clauses = k.clauses; binary = k.binary }

-- the clause as a learned one
abbrev pub learned : Clause → KeptClause
learned c = record { clause = c; learned = true }

-- A clause is kept, and may be the reason of its first literal: the view with it, and what a proof sees of it.
pub record Joins (t : View) (k : Keeping) (c : Clause) (l : Literal) (r : Reason) : Type 0 where
  pub well : WellFormed (keeping t k)
  pub implies : MayImply (keeping t k) l r
  pub clause : is_clause r ≡ true
  pub same : SameClauses (kept t ++ c ∷ []) (kept (keeping t k))
  pub seen : (j : KeptClause) → j ∈ ((search_of t).kept ++ learned c ∷ []) → j.learned ≡ false → HasInputPart (search_of (keeping t k)).kept j

-- completeness reads clauses as sets
pub complete-same : (P Q : List Clause) (known : List Literal) → SameClauses P Q → IsComplete P known → IsComplete Q known
complete-same P Q known a = complete_shorter P Q known
    (λ d h. let (c, i, e) = same_clauses_find Q P (same_clauses-back P Q a) d h in (c, i, e.1, λ m k. inl (e.0 m k)))

pub record Result (s z : View) : Type 0 where
  pub well : WellFormed z
  pub settled : PropagatedBeforeDecisions z
  pub rises : (n : ℕ) → length s.trail ≤ n → rank n (kinds s) < rank n (kinds z)
  pub count : length z.values ≡ length s.values

module _ (s t : View) (i : Conflict) (level : ℕ) (c : Clause) (w : WellFormed s) (v : PropagatedBeforeDecisions s) (l : IsAsserting s i c level)
    (deep : 0 < length s.decisions) (ct : IsCut s t level) where
  below : level < length s.decisions
  below = level-below s t i level c w v l deep ct

  wt : WellFormed t
  wt = cut-well s t level w below ct

  pt : (W : Watches) → IsPropagated W s → IsPropagated W t
  pt = cut-propagated s t level w below ct

  vt : PropagatedBeforeDecisions t
  vt = cut-settled s t level w below ct v

  inside : variable_of l.first < length t.values
  inside = first-inside s t i level c w v l deep ct

  free : get_or t.values (variable_of l.first) None ≡ None
  free = first-free s t i level c w v l deep ct

  -- a learned unit is made true at level 0
  pub unit-result : l.others ≡ [] → Result s (enqueued t l.first reason.Unit)
  unit-result e =
      let zero-level : level ≡ 0 = subst (λ o. IsLevelOf s o level) e l.second in
      let none : t.decisions ≡ [] = ap (λ (x : View). x.decisions) ct.rest ∙ ap (λ n. take n s.decisions) zero-level in
      let z = enqueued t l.first reason.Unit in
      let implied : kinds z ≡ kinds t ++ true ∷ [] = kinds-enqueued t l.first reason.Unit wt inside free
      ∙ ap (λ (xs : List ℕ). kinds t ++ nat_eq (length xs) 0 ∷ []) none in
      record {
        well = enqueued-well t l.first reason.Unit wt inside free none;
        settled = λ j h. let n = ap (λ (x : List ℕ). length x) none in absurd (omega (arith, h, n));
        rises = rises s t i level c w v l deep ct z implied;
        count = length-set t.values (variable_of l.first) (Some (polarity_of l.first)) ∙ ct.count;
      }

  pub unit-propagated : (W : Watches) → IsPropagated W s → IsPropagated W (enqueued t l.first reason.Unit)
  unit-propagated W p = propagated-enqueued W t l.first reason.Unit wt (pt W p)

  in-clause : (m : Literal) → m ∈ c → variable_of m < length t.values
  in-clause m h =
      let a = made-inside s.values (opposite m) (trail-true s w (opposite m) (l.false_now m h)) in
      let e = variable-opposite m in
      let n = ct.count in
      omega (arith, a, e, n)

  other-unknown : (m : Literal) (j : ℕ) → level_of s m ≡ level → j < length t.decisions → opposite m ∈ take (decision_at t j) t.trail → ⊥
  other-unknown m j e h q =
      let (k, a, b, f) = place_in_take (opposite m) t.trail (decision_at t j) 0 q in
      let r = wt.levels_down k j b h a in
      let same : level_of t (opposite m) ≡ level_of s m = ap (λ (x : View). level_of x (opposite m)) ct.rest
      ∙ ap (λ x. (get_or s.nodes x (record { reason = reason.Unit; level = 0; depth = 0 })).level) (variable-opposite m) in
      let g = ap (level_of t) f in
      let d = ap (λ (x : View). length x.decisions) ct.rest in
      let n = level-length s t level w below ct in
      omega (arith, r, same, g, e, h, d, n)

  -- its second literal was propagated at no level below the present one, and its first one not at all
  first-late : (p : ℕ) → p < t.queue_head → literal_at t p ≢ opposite l.first
  first-late p q e = let o = wt.head in none-made t.values l.first (opposite l.first) free (variable-opposite l.first)
      (subst (IsTrueIn t) e (wt.is_true p (omega (arith, q, o))))

  second-late : (m : Literal) → level_of s m ≡ level → (p : ℕ) → p < t.queue_head → literal_at t p ≡ opposite m → (k : ℕ) → k < length t.decisions →
      decision_at t k ≤ p
  second-late m second p q e k h =
      let o = wt.head in
      let same : level_of t (opposite m) ≡ level_of s m = ap (λ (x : View). level_of x (opposite m)) ct.rest
      ∙ ap (λ x. (get_or s.nodes x (record { reason = reason.Unit; level = 0; depth = 0 })).level) (variable-opposite m) in
      let g = ap (level_of t) e in
      let d = ap (λ (x : View). length x.decisions) ct.rest in
      let n = level-length s t level w below ct in
      ⊎_elim
      (λ f. let r = wt.levels_down p k (omega (arith, q, o)) h f in absurd (omega (arith, r, same, g, second, h, d, n)))
      (λ f. f)
      (cases_lt p (decision_at t k))

  -- a learned clause with a second literal
  module _ (m : Literal) (ms : Clause) (e : l.others ≡ m ∷ ms) where
    abbrev d : Clause
    d = l.first ∷ m ∷ ms

    whole : c ≡ d
    whole = l.split ∙ ap (λ o. l.first ∷ o) e

    in-whole : (x : Literal) → x ∈ d → variable_of x < length t.values
    in-whole x h = in-clause x (subst (λ y. x ∈ y) (sym whole) h)

    distinct : IsDistinct d
    distinct = subst IsDistinct whole l.distinct

    apart : l.first ≢ m
    apart g = distinct.0 (inl g)

    second : level_of s m ≡ level
    second = (subst (λ o. IsLevelOf s o level) e l.second).0

    second-false : IsTrueIn t (opposite m)
    second-false = other-false s t i level c w v l deep ct m (subst (λ o. m ∈ o) (sym e) (inl refl))

    -- it is kept, and is the reason of its first literal
    module _ (W : Watches) (p : IsPropagated W s) where
      first-listed : opposite l.first < length t.binary
      first-listed = let n = (pt W p).binary in let o = listed l.first (length t.values) inside in omega (arith, n, o)

      second-listed : opposite m < length t.binary
      second-listed = let n = (pt W p).binary in let o = listed m (length t.values) (in-whole m (inr (inl refl))) in omega (arith, n, o)

      pub joins : (K : Keeping) (r : Reason) → IsKeptAsReason (keeping_of t) K d r → Joins t K d l.first r
      joins = go ms refl
        where
          two : ms ≡ [] → SameSet d (l.first ∷ m ∷ [])
          two f = subst (λ o. SameSet (l.first ∷ m ∷ o) (l.first ∷ m ∷ [])) (sym f) (same_set-self (l.first ∷ m ∷ []))

          go : (os : Clause) → ms ≡ os → (K : Keeping) (r : Reason) → IsKeptAsReason (keeping_of t) K (l.first ∷ m ∷ os) r → Joins t K d l.first r
          go [] f K r (g, h) =
              subst (λ X. Joins t X d l.first r) (sym g)
              (subst (Joins t (record (keeping_of t) { binary = with_pair t.binary l.first m }) d l.first) (sym h)
              (record {
                well = well-pair t l.first m first-listed second-listed apart wt inside (in-whole m (inr (inl refl)));
                implies = (m, refl, (adds-pair t.binary l.first m first-listed second-listed).second, second-false);
                clause = refl;
                same = pair-same t (record t { binary = with_pair t.binary l.first m }) l.first m (learned d) first-listed second-listed apart
                    (two f) refl refl;
                seen = pair-seen t (record t { binary = with_pair t.binary l.first m }) l.first m (learned d) first-listed second-listed apart
                    (two f) refl refl;
              }))
          go (n ∷ ns) f K r (b, (q, header, redundant, k, h)) =
              let j = learned_at q header d in
              let k' : K.clauses ≡ t.clauses ++ j ∷ [] = k.0 ∙ ap (λ o. t.clauses ++ learned_at q header (l.first ∷ m ∷ o) ∷ []) (sym f) in
              let long : record K { clauses = K.clauses } ≡ record K { clauses = t.clauses ++ j ∷ [] } = ap (λ ks. record K { clauses = ks }) k' in
              let is : K ≡ record { clauses = t.clauses ++ j ∷ []; binary = t.binary } = long
              ∙ ap (λ B. record { clauses = t.clauses ++ j ∷ []; binary = B }) b in
              subst (λ X. Joins t X d l.first r) (sym is)
              (subst (Joins t (record { clauses = t.clauses ++ j ∷ []; binary = t.binary }) d l.first) (sym h)
              (record {
                well = kept-well t j k.1 wt in-whole (omega arith) distinct;
                implies = (
                  place-last t.clauses j,
                  (m ∷ ms, kept-last t j k.1 wt, λ x i'. other-false s t i level c w v l deep ct x (subst (λ o. x ∈ o) (sym e) i')),
                );
                clause = refl;
                same = long-same t (record t { clauses = t.clauses ++ j ∷ [] }) j refl refl;
                seen = subst (λ (x : KeptClause). (i : KeptClause) → i ∈ ((search_of t).kept ++ x ∷ []) → i.learned ≡ false →
                    HasInputPart (search_of (record t { clauses = t.clauses ++ j ∷ [] })).kept i)
                    (ap (λ (u : Bool). record { clause = d; learned = not u }) redundant)
                    (long-seen t (record t { clauses = t.clauses ++ j ∷ [] }) j refl refl);
              }))

      pub kept-result : (K : Keeping) (r : Reason) → IsKeptAsReason (keeping_of t) K d r → Result s (enqueued (keeping t K) l.first r)
      kept-result K r k =
          let j = joins K r k in
          let t' = keeping t K in
          let z = enqueued t' l.first r in
          record {
            well = enqueued-well t' l.first r j.well inside free j.implies;
            settled = λ j' h.
                let le : decision_at t j' ≤ length t.trail = let o = (wt.decided j' h).0 in omega (arith, o) in
                subst (λ x. IsComplete (kept t') x) (sym (take-append-le (decision_at t j') t.trail (l.first ∷ []) le))
                (complete-same (kept t ++ d ∷ []) (kept t') (take (decision_at t j') t.trail) j.same
                (complete_added (kept t) (take (decision_at t j') t.trail) d l.first m (inl refl) (inr (inl refl)) apart
                (λ q. let (x, y, o, f) = place_in_take (opposite l.first) t.trail (decision_at t j') 0 q in
                none-made t.values l.first (opposite l.first) free (variable-opposite l.first) (subst (IsTrueIn t) f (wt.is_true x o)))
                (other-unknown m j' second h)
                (vt j' h)));
            rises = rises s t i level c w v l deep ct z
                (kinds-enqueued t' l.first r j.well inside free ∙ ap (λ b. kinds t ++ (b || nat_eq (length t.decisions) 0) ∷ []) j.clause);
            count = length-set t.values (variable_of l.first) (Some (polarity_of l.first)) ∙ ct.count;
          }

      -- and it is watched, or listed where it has two literals
      pub kept-propagated : (V : Watches) (K : Keeping) (r : Reason) → IsKeptAsReason (keeping_of t) K d r → IsWatchedAsReason W V d r →
          IsPropagated V (enqueued (keeping t K) l.first r)
      kept-propagated V = go ms refl
        where
          -- its first two literals are false at no level below the present one
          late : (j q : ℕ) → j < 2 → q < t.queue_head → literal_at t q ≡ opposite (literal_in d j) → (k : ℕ) → k < length t.decisions → decision_at t k ≤ q
          late zero q a f g k h = absurd (first-late q f g)
          late (suc zero) q a f g k h = second-late m second q f g k h
          late (suc (suc j)) q a f g k h = absurd (omega (arith, a))

          go : (os : Clause) → ms ≡ os → (K : Keeping) (r : Reason) → IsKeptAsReason (keeping_of t) K (l.first ∷ m ∷ os) r →
              IsWatchedAsReason W V d r → IsPropagated V (enqueued (keeping t K) l.first r)
          go [] f K r (g, h) y =
              let same : V ≡ W = subst (IsWatchedAsReason W V d) h y in
              subst (λ X. IsPropagated V (enqueued (keeping t X) l.first r)) (sym g)
              (subst (λ X. IsPropagated X (enqueued (record t { binary = with_pair t.binary l.first m }) l.first r)) (sym same)
              (propagated-learned-pair t l.first m first-listed second-listed apart W r wt (pt W p) first-late (second-late m second)))
          go (n ∷ ns) f K r (b, (q, header, redundant, k, h)) y =
              let j = learned_at q header d in
              let k' : K.clauses ≡ t.clauses ++ j ∷ [] = k.0 ∙ ap (λ o. t.clauses ++ learned_at q header (l.first ∷ m ∷ o) ∷ []) (sym f) in
              let long : record K { clauses = K.clauses } ≡ record K { clauses = t.clauses ++ j ∷ [] } = ap (λ ks. record K { clauses = ks }) k' in
              let is : K ≡ record { clauses = t.clauses ++ j ∷ []; binary = t.binary } = long
              ∙ ap (λ B. record { clauses = t.clauses ++ j ∷ []; binary = B }) b in
              subst (λ X. IsPropagated V (enqueued (keeping t X) l.first r)) (sym is)
              (propagated-learned W V t j (pt W p) k.1 (subst (IsWatchedAsReason W V d) h y) apart l.first r wt refl (omega arith) late)
