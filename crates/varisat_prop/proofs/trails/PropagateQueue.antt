-- The queue of the trail.
use Rattle.std.proofs.Common.{◌≡◌, ℕ, suc, Bool, true, false, add-one, ◌+◌, ◌<◌, ◌≤◌, ◌++◌, ⊎_elim, Option, None, List, [], length, get_or, take, drop, refl, sym, ap, ◌∙◌, subst, arith}
use Rattle.std.specs.Option.{MatchOption}
use Rattle.std.specs.List.{slice_get}
use Rattle.std.proofs.lemmas.Option.{slice_get-get_or, MatchOption-at_some}
use Rattle.std.proofs.lemmas.Bool.{cases_lt}
use Rattle.std.proofs.lemmas.List.{set-set, set-get_or, drop_all}
use Rattle.varisat_theory.specs.promises.Literals.{Literal}
use Rattle.varisat_prop.specs.View.{View, WellFormed}
use Rattle.varisat_prop.proofs.watching.WatchesHold.{settled-longer, implied-longer, propagates-goes-on}
use Rattle.varisat_prop.proofs.views.ViewGrowth.{append-nil}
use Rattle.varisat_prop.specs.declared.prop.watch_list.Watch.{Watch}
use Rattle.varisat_prop.specs.Watches.{Watches, watches_of, with_watches, IsWatching, WatchesHoldTo, IsImpliedTo, IsPropagated, IsWatched}
use Rattle.varisat_prop.specs.Looks.{Propagates}
use Rattle.varisat_prop.proofs.views.WellFormedChanges.{well-moved}

-- where the queue isn't at its end, a literal is taken
pub popped : (xs : List ℕ) (q : ℕ) (o : Option ℕ) (P : Type 0) (Q : ℕ → Type 0) → o ≡ slice_get xs q → q < length xs → MatchOption o P Q → Q (get_or xs q 0)
popped xs q o P Q e h m = MatchOption-at_some P Q (get_or xs q 0) (e ∙ slice_get-get_or xs q 0 h) m

-- the next literal of the queue was propagated
pub watched-next : (W : Watches) (u : View) (k : ℕ) → IsWatched W u k → k < length u.trail → WatchesHoldTo u (suc k) → IsImpliedTo u (suc k) →
    IsWatched W (record u { queue_head = k + 1 }) (k + 1)
watched-next W u k w a st im = subst (λ n. IsWatched W (record u { queue_head = k + 1 }) n) (sym (add-one k)) record {
  lists = w.lists;
  enabled = w.enabled;
  watching = w.watching;
  settled = st;
  binary = w.binary;
  implied = im;
  within = omega (arith, a);
  queue = λ j h. let n = w.queue j h in omega (arith, n);
}

pub propagates-next : (s u : View) (k : ℕ) → Propagates s u → u.queue_head ≡ k → k < length u.trail → Propagates s (record u { queue_head = k + 1 })
propagates-next s u k p e a =
    let g = p.grows in
    record {
      well = well-moved u (k + 1) p.well (omega (arith, a));
      grows = record {
        clauses = g.clauses;
        binary = g.binary;
        count = g.count;
        trail_more = g.trail_more;
        head = let h = g.head in omega (arith, h, e);
        decisions_more = g.decisions_more;
        nodes = g.nodes;
        fits = λ held f. let h = g.fits held f in record { stored = h.stored; units = h.units; covered = h.covered };
      };
      decisions = p.decisions;
    }

-- a list that was taken out and is put back
pub put-back : (W : Watches) (l : Literal) (left : List Watch) → with_watches (with_watches W l left) l (watches_of W l) ≡ W
put-back W l left = ap (λ (ls : List (List Watch)). record W { lists = ls }) (set-set W.lists l left (watches_of W l) ∙ set-get_or W.lists l [])

pub kept-all : (xs : List Watch) (a r : ℕ) → length xs ≤ r → take a xs ++ drop r xs ≡ take a xs
kept-all xs a r h = ap (λ ys. take a xs ++ ys) (drop_all r xs h) ∙ append-nil (take a xs)

-- where no literal is taken, the queue is at its end
pub at-end : (xs : List ℕ) (q : ℕ) (o : Option ℕ) → o ≡ slice_get xs q → o ≡ None → length xs ≤ q
at-end xs q o e n = ⊎_elim (λ h. let f = slice_get-get_or xs q 0 h in absurd cc) (λ h. h) (cases_lt q (length xs))

-- what propagation keeps is what lists that are kept up to date keep
pub watched-propagated : (W : Watches) (s : View) → IsWatched W s s.queue_head → IsPropagated W s
watched-propagated W s w = record {
  lists = w.lists;
  watching = λ e. w.watching;
  empty = λ e. absurd (let f = w.enabled in cc);
  settled = w.settled;
  binary = w.binary;
  implied = w.implied;
  queue = w.queue;
}

-- lists that were off are made anew
pub watched-enabled : (W V : Watches) (s : View) → WellFormed s → IsPropagated W s → V.enabled ≡ true → length V.lists ≡ length W.lists →
    (W.enabled ≡ true → V ≡ W) → (W.enabled ≡ false → IsWatching V s.clauses) → IsWatched V s s.queue_head
watched-enabled W V s f p on n same anew = record {
  lists = n ∙ p.lists;
  enabled = on;
  watching = go W.enabled refl;
  settled = p.settled;
  binary = p.binary;
  implied = p.implied;
  within = f.head;
  queue = p.queue;
}
  where
    go : (b : Bool) → W.enabled ≡ b → IsWatching V s.clauses
    go true e = subst (λ X. IsWatching X s.clauses) (sym (same e)) (p.watching e)
    go false e = anew e

-- the trail goes on over the same clauses
pub watched-longer : (W : Watches) (s t : View) (q : ℕ) → IsWatched W s q → Propagates s t → t.clauses ≡ s.clauses → IsWatched W t q
watched-longer W s t q w p e =
    let g = propagates-goes-on s t p in
    let n = p.grows.count in
    record {
      lists = (let k = w.lists in omega (arith, k, n));
      enabled = w.enabled;
      watching = subst (λ P. IsWatching W P) (sym e) w.watching;
      settled = settled-longer s t q (record { clauses = e; binary = g.binary; decisions = g.decisions; longer = g.longer; keeps = g.keeps })
          w.within w.settled;
      implied = implied-longer s t q g w.within w.implied;
      binary = (let k = ap (λ (x : List (List ℕ)). length x) p.grows.binary in let o = w.binary in omega (arith, k, n, o));
      within = (let k = g.longer in let o = w.within in omega (arith, k, o));
      queue = λ j h. let d = p.decisions in let a = ap (λ (x : List ℕ). length x) d in let b = ap (λ (x : List ℕ). get_or x j 0) d in
          let o = w.queue j (omega (arith, h, a)) in omega (arith, o, b);
    }
