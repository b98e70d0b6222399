-- What is propagated stays so where a clause is loaded, up to the queue's head that it leaves.
use Rattle.std.proofs.Common.{◌≡◌, ◌≢◌, ℕ, ◌<◌, ◌≤◌, Bool, Option, List, [], ◌∷◌, ◌++◌, length, ⊎_elim, inl, inr, refl, sym, subst, arith}
use Rattle.varisat_theory.specs.promises.Membership.{◌∈◌}
use Rattle.varisat_theory.specs.promises.Literals.{Literal, Clause, opposite}
use Rattle.varisat_theory.proofs.clauses.Places.{∈-get_or}
use Rattle.varisat_clause.specs.Stored.{StoredClause}
use Rattle.varisat_prop.specs.Pairs.{with_pair}
use Rattle.varisat_prop.specs.View.{View, IsTrueIn, literal_at, WellFormed}
use Rattle.varisat_prop.specs.Visits.{WatchesClause}
use Rattle.varisat_prop.specs.Watches.{Watches, literal_in, IsPropagated}
use Rattle.varisat_prop.proofs.pairs.PairAdded.{implied-more, propagated-loaded-pair}
use Rattle.varisat_prop.proofs.watching.WatchKept.{settled-more, propagated-loaded}
use Rattle.varisat_search.specs.Loading.{HasFalseLiteral, IsHeadAfter}

-- the queue's head doesn't move on
pub head-after : (values : List (Option Bool)) (c : Clause) (before after : ℕ) → IsHeadAfter values c before after → after ≤ before
head-after values c before after h = ⊎_elim (λ (f, e). omega (arith, e)) (λ (n, e). omega (arith, e)) h

module _ (s : View) (f : WellFormed s) (none : s.decisions ≡ []) where
  -- a literal of the trail makes none false of a clause without a false one
  not-false : (c : Clause) (l : Literal) (p : ℕ) → (HasFalseLiteral s.values c → ⊥) → l ∈ c → p < s.queue_head → literal_at s p ≢ opposite l
  not-false c l p n i h e = n (l, i, subst (λ x. IsTrueIn s x) e (f.is_true p (let o = f.head in omega (arith, h, o))))

  -- a clause of the store
  module _ (W V : Watches) (c : StoredClause) (w : IsPropagated W s) (last : (k : StoredClause) → k ∈ s.clauses → k.place < c.place)
      (v : WatchesClause W V c.place c.literals) (apart : literal_in c.literals 0 ≢ literal_in c.literals 1) where
    unmoved : 2 ≤ length c.literals → (HasFalseLiteral s.values c.literals → ⊥) → IsPropagated V (record s { clauses = s.clauses ++ c ∷ [] })
    unmoved long n =
        let g = propagated-loaded W V s c w last v apart none in
        record {
          lists = g.lists;
          watching = g.watching;
          empty = g.empty;
          settled = settled-more s.clauses c last s s.queue_head refl
              (λ j p a b e. absurd (not-false c.literals (literal_in c.literals j) p n (∈-get_or c.literals j 0 (omega (arith, a, long))) b e)) w.settled;
          binary = w.binary;
          implied = w.implied;
          queue = w.queue;
        }

    pub propagated-kept : (h : ℕ) → 2 ≤ length c.literals → IsHeadAfter s.values c.literals s.queue_head h →
        IsPropagated V (record s { clauses = s.clauses ++ c ∷ []; queue_head = h })
    propagated-kept h long a = ⊎_elim
        (λ (x, e). subst (λ q. IsPropagated V (record s { clauses = s.clauses ++ c ∷ []; queue_head = q })) (sym e)
        (propagated-loaded W V s c w last v apart none))
        (λ (n, e). subst (λ q. IsPropagated V (record s { clauses = s.clauses ++ c ∷ []; queue_head = q })) (sym e) (unmoved long n))
        a

  -- a clause of two literals
  module _ (W : Watches) (l m : Literal) (first : opposite l < length s.binary) (second : opposite m < length s.binary) (other : l ≢ m)
      (w : IsPropagated W s) where
    unmoved-pair : (HasFalseLiteral s.values (l ∷ m ∷ []) → ⊥) → IsPropagated W (record s { binary = with_pair s.binary l m })
    unmoved-pair n =
        let g = propagated-loaded-pair s l m first second other W w none in
        record {
          lists = g.lists;
          watching = g.watching;
          empty = g.empty;
          settled = w.settled;
          binary = g.binary;
          implied = implied-more s l m first second other s.queue_head
              (λ k h e. absurd (not-false (l ∷ m ∷ []) l k n (inl refl) h e))
              (λ k h e. absurd (not-false (l ∷ m ∷ []) m k n (inr (inl refl)) h e))
              w.implied;
          queue = w.queue;
        }

    pub propagated-kept-pair : (h : ℕ) → IsHeadAfter s.values (l ∷ m ∷ []) s.queue_head h →
        IsPropagated W (record s { binary = with_pair s.binary l m; queue_head = h })
    propagated-kept-pair h a = ⊎_elim
        (λ (x, e). subst (λ q. IsPropagated W (record s { binary = with_pair s.binary l m; queue_head = q })) (sym e)
        (propagated-loaded-pair s l m first second other W w none))
        (λ (n, e). subst (λ q. IsPropagated W (record s { binary = with_pair s.binary l m; queue_head = q })) (sym e) (unmoved-pair n))
        a
