-- The view once `load_clause` is done.
use Rattle.std.proofs.Common.{◌≡◌, ◌≢◌, ℕ, ◌<◌, ◌≤◌, Bool, Option, Some, List, [], ◌∷◌, ◌++◌, length, inl, inr, ⊎_elim, refl, sym, ap, ap₂, ◌∙◌, subst, arith, length-set}
use Rattle.std.proofs.lemmas.Bool.{cases_lt}
use Rattle.varisat_clause.specs.Headers.{Header, no_header}
use Rattle.varisat_theory.specs.promises.Membership.{◌∈◌, IsDistinct}
use Rattle.varisat_theory.specs.promises.Literals.{Literal, Clause, opposite, variable_of}
use Rattle.varisat_literals.specs.promises.Numbers.{polarity_of}
use Rattle.varisat_prop.specs.declared.prop.graph.Reason.TheVariants as reason
use Rattle.varisat_prop.specs.Watches.{Watches, no_watches, watches_of, IsWatching, IsPropagated}
use Rattle.varisat_prop.proofs.watching.WatchKept.{watching-none}
use Rattle.varisat_clause.specs.Stored.{StoredClause, AppendsClause, literals_of}
use Rattle.varisat_prop.specs.Pairs.{with_pair}
use Rattle.varisat_prop.specs.View.{View, pairs_from, kept, IsTrueIn, level_of, WellFormed, PropagatedBeforeDecisions, IsFixed}
use Rattle.varisat_prop.specs.Looks.{IsInRange}
use Rattle.varisat_prop.proofs.trails.EnqueueAssignment.{enqueued-well}
use Rattle.varisat_prop.proofs.pairs.PairAdded.{well-pair}
use Rattle.varisat_prop.proofs.views.WellFormedChanges.{well-moved}
use Rattle.varisat_search.specs.declared.state.SatState.{SatState}
use Rattle.varisat_search.specs.Steps.{IsCut}
use Rattle.varisat_search.specs.Loading.{loaded_at, IsHeadAfter, IsAdded}
use Rattle.varisat_search.proofs.stepping.Backtrack.{cut-well, cut-propagated, was-true, fixed-cut}
use Rattle.varisat_search.proofs.loading.AddedClause.{with_kept, kept-well}
use Rattle.varisat_search.proofs.loading.LoadedQueue.{head-after}

-- All decisions are undone, and what was fixed stays so.
pub record Restarted (s t : View) : Type 0 where
  pub well : WellFormed t
  pub undecided : t.decisions ≡ []
  pub count : length t.values ≡ length s.values
  pub clauses : t.clauses ≡ s.clauses
  pub binary : t.binary ≡ s.binary
  pub fixed_to : (x : Literal) → IsFixed s x → IsTrueIn t x
  pub fixed_from : (x : Literal) → IsTrueIn t x → IsFixed s x

pub no-decision : (s : View) → WellFormed s → s.decisions ≡ [] → (x : Literal) → IsTrueIn s x → level_of s x ≡ 0
no-decision s w e x t =
    let (k, a, f) = w.stands x t in
    let n = ap (λ (d : List ℕ). length d) e in
    let l = w.levels_to k a in
    let g = ap (level_of s) f in
    omega (arith, n, l, g)

pub restarted-same : (s : View) → WellFormed s → s.decisions ≡ [] → Restarted s s
restarted-same s w e = record {
  well = w;
  undecided = e;
  count = refl;
  clauses = refl;
  binary = refl;
  fixed_to = λ x f. f.0;
  fixed_from =
      λ x t. (t, no-decision s w e x t);
}

pub restarted-cut : (s t : View) → WellFormed s → 0 < length s.decisions → IsCut s t 0 → Restarted s t
restarted-cut s t w h c =
    let none : t.decisions ≡ [] = ap (λ (x : View). x.decisions) c.rest in
    let w' = cut-well s t 0 w h c in
    record {
      well = w';
      undecided = none;
      count = c.count;
      clauses = ap (λ (x : View). x.clauses) c.rest;
      binary = ap (λ (x : View). x.binary) c.rest;
      fixed_to = λ x f. subst (λ (y : View). IsTrueIn y x) (sym c.rest) (fixed-cut s t 0 w h c x f).0;
      fixed_from = λ x q. (
        was-true s t 0 w h c x (subst (λ (y : View). IsTrueIn y x) c.rest q),
        sym (ap (λ (y : View). level_of y x) c.rest)
            ∙ no-decision t w' none x q,
      );
    }

no-length : (xs : List ℕ) → length xs ≤ 0 → xs ≡ []
no-length [] h = refl
no-length (x ∷ xs) h = absurd (omega (arith, h))

pub restarted : (s t : View) → WellFormed s → (s.decisions ≡ [] → t ≡ s) → (0 < length s.decisions → IsCut s t 0) → Restarted s t
restarted s t w same cut =
    ⊎_elim
    (λ h. restarted-cut s t w h (cut h))
    (λ h. let e = no-length s.decisions h in subst (Restarted s) (sym (same e)) (restarted-same s w e))
    (cases_lt 0 (length s.decisions))

pub restarted-kept : (s t : View) → Restarted s t → kept t ≡ kept s
restarted-kept s t r = ap₂ (λ (ks : List StoredClause) (B : List (List Literal)). literals_of ks ++ pairs_from 0 B) r.clauses r.binary

-- and propagation is still at its end up to the queue's head
pub restarted-propagated : (W : Watches) (s t : View) → WellFormed s → IsPropagated W s → (s.decisions ≡ [] → t ≡ s) →
    (0 < length s.decisions → IsCut s t 0) → IsPropagated W t
restarted-propagated W s t w p same cut =
    ⊎_elim
    (λ h. cut-propagated s t 0 w h (cut h) W p)
    (λ h. subst (IsPropagated W) (sym (same (no-length s.decisions h))) p)
    (cases_lt 0 (length s.decisions))

-- The literals may be added as a clause: they are distinct, none is another's opposite, and each is known.
pub record MayBeAdded (t : View) (lits : Clause) : Type 0 where
  pub distinct : IsDistinct lits
  pub inside : IsInRange t.values lits
  pub paired : (l : Literal) → l ∈ lits → opposite l < length t.binary

-- the first two of them are different
pub first-other : (t : View) (l m : Literal) (c : Clause) → MayBeAdded t (l ∷ m ∷ c) → l ≢ m
first-other t l m c a e = a.distinct.0 (inl e)

-- a clause of two literals is added
pub added-pair : (s t : View) (c : Clause) (before after : SatState) (l m : Literal) → c ≡ l ∷ m ∷ [] →
    IsHeadAfter s.values c s.queue_head t.queue_head → t ≡ record s { binary = with_pair s.binary l m; queue_head = t.queue_head } →
    after ≡ before → IsAdded s t c before after
added-pair s t c before after l m e h f g = subst (λ x. IsAdded s t x before after) (sym e)
    (subst (λ x. IsHeadAfter s.values x s.queue_head t.queue_head) e h, f, g)

-- and a longer one
pub added-long : (s t : View) (c : Clause) (before after : SatState) (j : StoredClause) → 3 ≤ length c → j.literals ≡ c →
    j.header ≡ record no_header { len = length j.literals } → AppendsClause s.clauses t.clauses j →
    IsHeadAfter s.values c s.queue_head t.queue_head → t ≡ record s { clauses = t.clauses; queue_head = t.queue_head } → after ≡ before →
    IsAdded s t c before after
added-long s t [] before after j n e h k q f g = absurd (omega (arith, n))
added-long s t (l ∷ []) before after j n e h k q f g = absurd (omega (arith, n))
added-long s t (l ∷ m ∷ []) before after j n e h k q f g = absurd (omega (arith, n))
added-long s t (l ∷ m ∷ o ∷ c) before after j n e h k q f g = (
  j.place,
  subst (AppendsClause s.clauses t.clauses)
      (ap (λ (x : Header). record { place = j.place; header = x; literals = j.literals }) h ∙ ap (loaded_at j.place) e) k,
  q,
  f,
  g,
)

module _ (s t : View) (lits : Clause) (r : Restarted s t) (a : MayBeAdded t lits) where
  abbrev pub IsLoadedWell : View → Type 0
  IsLoadedWell y = WellFormed y × (y.decisions ≡ []) × (length y.values ≡ length s.values)

  pair-well : (l m : Literal) (h : ℕ) → h ≤ t.queue_head → MayBeAdded t (l ∷ m ∷ []) →
      IsLoadedWell (record t { binary = with_pair t.binary l m; queue_head = h })
  pair-well l m h b q =
      let n = first-other t l m [] q in
      let first = q.paired l (inl refl) in
      let second = q.paired m (inr (inl refl)) in
      let v = well-pair t l m first second n r.well (q.inside l (inl refl)) (q.inside m (inr (inl refl))) in
      (well-moved (record t { binary = with_pair t.binary l m }) h v (let o = r.well.head in omega (arith, b, o)), r.undecided, r.count)

  -- the view stays well formed, and no level is left
  pub added-well : (z : View) (o : Clause) (b after : SatState) → lits ≡ o → IsAdded t z o b after → IsLoadedWell z
  added-well z [] b after e (f, g) = subst IsLoadedWell (sym f) (r.well, r.undecided, r.count)
  added-well z (l ∷ []) b after e q =
      ⊎_elim
      (λ (h, f, g). subst IsLoadedWell (sym f) (r.well, r.undecided, r.count))
      (λ (free, f, g). subst IsLoadedWell (sym f)
      (enqueued-well t l reason.Unit r.well free.0 free.1 r.undecided, r.undecided, length-set t.values (variable_of l) (Some (polarity_of l)) ∙ r.count))
      q
  added-well z (l ∷ m ∷ []) b after e (h, f, g) = subst IsLoadedWell (sym f)
      (pair-well l m z.queue_head (head-after t.values (l ∷ m ∷ []) t.queue_head z.queue_head h) (subst (MayBeAdded t) e a))
  added-well z (l ∷ m ∷ o ∷ ms) b after e (p, k, q, f, g) =
      let f' : z ≡ record t { clauses = t.clauses ++ loaded_at p lits ∷ []; queue_head = z.queue_head } = f
      ∙ ap (λ y. record t { clauses = y; queue_head = z.queue_head }) k.0
      ∙ ap (λ y. record t { clauses = t.clauses ++ loaded_at p y ∷ []; queue_head = z.queue_head }) (sym e) in
      let n = ap (λ (x : Clause). length x) e in
      let i = head-after t.values (l ∷ m ∷ o ∷ ms) t.queue_head z.queue_head q in
      subst IsLoadedWell (sym f') (let v = well-moved (with_kept t (loaded_at p lits) k.1 r.well) z.queue_head
      (kept-well t (loaded_at p lits) k.1 r.well a.inside (omega (arith, n)) a.distinct) (let u = r.well.head in omega (arith, i, u)) in
      (v, r.undecided, r.count))

-- no clauses, no variables and no lists
pub first-propagated : (W : Watches) (s : View) → W ≡ no_watches → s.values ≡ [] → s.clauses ≡ [] → s.binary ≡ [] → s.decisions ≡ [] →
    s.queue_head ≡ 0 → IsPropagated W s
first-propagated W s e v k o d q = record {
  lists = let a = ap (λ (x : Watches). length x.lists) e in let b = ap (λ (x : List (Option Bool)). length x) v in omega (arith, a, b);
  watching = λ h. subst (IsWatching W) (sym k) (watching-none W none);
  empty = λ h. none;
  settled = λ i j p a b h. absurd (omega (arith, h, q));
  binary = let a = ap (λ (x : List (List Literal)). length x) o in let b = ap (λ (x : List (Option Bool)). length x) v in omega (arith, a, b);
  implied = λ m p h i. absurd (omega (arith, h, q));
  queue = λ j h. let n = ap (λ (x : List ℕ). length x) d in absurd (omega (arith, h, n));
}
  where
    none : (x : Literal) → watches_of W x ≡ []
    none x = ap (λ (X : Watches). watches_of X x) e
