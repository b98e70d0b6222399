-- The next literal of the queue is propagated: by clauses of two literals, and then by the others.
use Rattle.std.proofs.Common.{◌≡◌, ℕ, suc, ◌+◌, ◌-◌, ◌*◌, ◌<◌, Option, Some, List, [], length, get_or, refl, sym, ap, ◌∙◌, subst, arith, length-set, Result, Ok, Err}
use Rattle.std.specs.Option.{MatchOption}
use Rattle.std.specs.Result.{OnOk, IfOk}
use Rattle.std.specs.List.{slice_get}
use Rattle.std.proofs.lemmas.Option.{slice_get_within, get_or_from_slice_get}
use Rattle.varisat_theory.specs.promises.Membership.{◌∈◌}
use Rattle.varisat_theory.specs.promises.Literals.{Literal, variable_of}
use Rattle.varisat_theory.proofs.clauses.Members.{∈-append_left}
use Rattle.varisat_clause.specs.Collected.{live_clauses}
use Rattle.varisat_clause.specs.Shapes.{KeepsShapes}
use Rattle.varisat_prop.specs.declared.prop.graph.Conflict.{Conflict}
use Rattle.varisat_prop.specs.declared.prop.watch_list.Watch.{Watch}
use Rattle.varisat_prop.specs.Parts.{TrailParts}
use Rattle.varisat_prop.specs.View.{View, IsTrueIn, implied_by, literal_at, WellFormed}
use Rattle.varisat_prop.specs.Looks.{Propagates}
use Rattle.varisat_prop.specs.Watches.{Watches, watches_of, with_watches, WatchesHoldTo, IsImpliedTo, IsWatched}
use Rattle.varisat_prop.specs.QueueSteps.{SearchParts, view_of_parts, KeepsUnseen, IsNext, GoesOnWith, EndsPropagation, WatchesHoldNext, IsNextPropagated}
use Rattle.varisat_prop.proofs.trails.LiteralValues.{made-inside}
use Rattle.varisat_prop.proofs.trails.TrailValues.{trail-short}
use Rattle.varisat_prop.proofs.views.ViewGrowth.{grows-longer, literal-stays}
use Rattle.varisat_prop.proofs.trails.PropagateSteps.{propagates-trans, keeps-trans}
use Rattle.varisat_prop.proofs.watching.WatchesHold.{implied-next}
use Rattle.varisat_prop.proofs.trails.PropagateQueue.{popped, put-back, watched-longer, watched-next, propagates-next}

-- what the queue gives is the next literal
pub next-taken : {W V : Watches} {s : View} {l : Literal} → WellFormed s → IsWatched W s s.queue_head → V ≡ W → Some l ≡ slice_get s.trail s.queue_head →
    IsNext V s l
next-taken {s = s} {l = l} w h same e = record {
  well = w;
  head = get_or_from_slice_get s.trail s.queue_head l 0 (sym e);
  within = slice_get_within s.trail s.queue_head l (sym e);
  watched = subst (λ X. IsWatched X s s.queue_head) (sym same) h;
}

-- it is true, and has lists
module _ {W : Watches} {s : View} {l : Literal} (n : IsNext W s l) where
  pub next-true : IsTrueIn s l
  next-true = subst (IsTrueIn s) n.head (n.well.is_true s.queue_head n.within)

  next-inside : l < 2 * length s.values
  next-inside = half l (length s.values) (made-inside s.values l next-true)
    where
      half : (l n : ℕ) → variable_of l < n → l < 2 * n
      half l n h = omega (arith, h)

  pub next-binary : l < length s.binary
  next-binary = let h = next-inside in omega (arith, h, n.watched.binary)

  pub next-list : l < length W.lists
  next-list = let h = next-inside in omega (arith, h, n.watched.lists)

  -- its watches are taken, and something is left in their place meanwhile
  pub taken-inside : (left : List Watch) → l < length (with_watches W l left).lists
  taken-inside left = let h = next-list in let e = length-set W.lists l left in omega (arith, h, e)

  pub taken-next : (left ws : List Watch) → ws ≡ watches_of W l → IsNext (with_watches (with_watches W l left) l ws) s l
  taken-next left ws is =
      subst (λ X. IsNext X s l) (sym (ap (λ xs. with_watches (with_watches W l left) l xs) is ∙ put-back W l left)) n

-- clauses of two literals were propagated
module _ {W : Watches} {p q : SearchParts} {l : Literal} (n : IsNext W (view_of_parts p) l) (g : Propagates (view_of_parts p) (view_of_parts q))
    (k : KeepsUnseen p q) (same : live_clauses q.store ≡ live_clauses p.store) where
  pub pairs-go : GoesOnWith p q W
  pairs-go = record {
    propagates = g;
    keeps = k;
    watched = subst (λ h. IsWatched W (view_of_parts q) h) (sym k.head)
        (watched-longer W (view_of_parts p) (view_of_parts q) p.trail.queue_head n.watched g same);
  }

  pub still-next : IsNext W (view_of_parts q) l
  still-next = record {
    well = g.well;
    head = ap (λ h. literal_at (view_of_parts q) h) k.head ∙ literal-stays (view_of_parts p) (view_of_parts q) g.grows p.trail.queue_head n.within ∙ n.head;
    within = let m = grows-longer (view_of_parts p) (view_of_parts q) g.grows in let e = k.head in let b = n.within in omega (arith, m, e, b);
    watched = pairs-go.watched;
  }

-- and then the others
pub goes-then : {p q r : SearchParts} {V X : Watches} → GoesOnWith p q V → GoesOnWith q r X → GoesOnWith p r X
goes-then {p = p} {q = q} {r = r} g h = record {
  propagates = propagates-trans (view_of_parts p) (view_of_parts q) (view_of_parts r) g.propagates h.propagates;
  keeps = keeps-trans g.keeps h.keeps;
  watched = h.watched;
}

pub ends-both : {q r : SearchParts} {W V : Watches} {l : Literal} (end : Result (Unit {0}) Conflict) → IsNext W (view_of_parts q) l →
    GoesOnWith q r V → ((m : Literal) → m ∈ implied_by (view_of_parts q) l → m ∈ q.trail.literals)
    → EndsPropagation WatchesHoldNext (view_of_parts r) end → EndsPropagation IsNextPropagated (view_of_parts r) end
ends-both (Err f) n g d m = m
ends-both {q = q} {r = r} {l = l} (Ok x) n g d m =
    let t = view_of_parts q in
    let u = view_of_parts r in
    let more = g.propagates.grows.trail_more in (
      m,
      implied-next u r.trail.queue_head l g.propagates.well
          (ap (λ h. literal_at u h) g.keeps.head ∙ literal-stays t u g.propagates.grows q.trail.queue_head n.within ∙ n.head)
          g.watched.queue g.watched.implied
          (λ y i. subst (λ xs. y ∈ xs) (sym more.1)
          (∈-append_left y t.trail more.0 (d y (subst (λ (B : List (List ℕ)). y ∈ get_or B l []) g.propagates.grows.binary i)))),
    )

-- the same, where the others may have been refused memory
pub both-go : {E : Type 0} {W : Watches} {p q : SearchParts} (V : Watches) (r : SearchParts) (e : Result (Result (Unit {0}) Conflict) E) → GoesOnWith p q W →
    OnOk e (GoesOnWith q r V) → OnOk e (GoesOnWith p r V)
both-go V r (Ok end) g h = goes-then g h
both-go V r (Err e) g h = h

pub both-end : {E : Type 0} {W : Watches} {l : Literal} (V : Watches) (q r : SearchParts) (e : Result (Result (Unit {0}) Conflict) E) →
    IsNext W (view_of_parts q) l →
    ((m : Literal) → m ∈ implied_by (view_of_parts q) l → m ∈ q.trail.literals) → OnOk e (GoesOnWith q r V)
    → IfOk e (EndsPropagation WatchesHoldNext (view_of_parts r)) → IfOk e (EndsPropagation IsNextPropagated (view_of_parts r))
both-end V q r (Ok end) n d h m = ends-both end n h d m
both-end V q r (Err e) n d h m = m

-- Where all of the queue was propagated that stands before its head: what `propagate` keeps from literal to literal.
pub record QueueGoesOn (p q : SearchParts) (V : Watches) : Type 0 where
  pub propagates : Propagates (view_of_parts p) (view_of_parts q)
  pub watched : IsWatched V (view_of_parts q) q.trail.queue_head
  pub last : q.values.last ≡ p.values.last
  pub store : KeepsShapes p.store q.store

-- a literal was propagated
pub queue-more : {p q r : SearchParts} {V X : Watches} → QueueGoesOn p q V → GoesOnWith q r X → QueueGoesOn p r X
queue-more {p = p} {q = q} {r = r} a g = record {
  propagates = propagates-trans (view_of_parts p) (view_of_parts q) (view_of_parts r) a.propagates g.propagates;
  watched = g.watched;
  last = g.keeps.last ∙ a.last;
  store = g.keeps.store ∙ a.store;
}

-- and leaves the queue
queue-within : {W V : Watches} {q r : SearchParts} {l : Literal} → IsNext W (view_of_parts q) l → GoesOnWith q r V →
    r.trail.queue_head < length r.trail.literals
queue-within {q = q} {r = r} n g = let a = grows-longer (view_of_parts q) (view_of_parts r) g.propagates.grows in let b = n.within in
    let c = g.keeps.head in omega (arith, a, b, c)

-- it is still the next as long as it doesn't
pub next-after : {W V : Watches} {p q : SearchParts} {l : Literal} → GoesOnWith p q V → IsNext W (view_of_parts p) l → IsNext V (view_of_parts q) l
next-after {p = p} {q = q} g n = record {
  well = g.propagates.well;
  head = ap (λ h. literal_at (view_of_parts q) h) g.keeps.head
      ∙ literal-stays (view_of_parts p) (view_of_parts q) g.propagates.grows p.trail.queue_head n.within ∙ n.head;
  within = queue-within n g;
  watched = g.watched;
}

pub goes-to : {V : Watches} {p q : SearchParts} {l : Literal} → KeepsUnseen p q → Propagates (view_of_parts p) (view_of_parts q) →
    IsNext V (view_of_parts q) l → GoesOnWith p q V
goes-to k g n = record { propagates = g; keeps = k; watched = n.watched }

module _ {W V : Watches} {q r : SearchParts} {l : Literal} {o : Option ℕ} (tr : TrailParts) (n : IsNext W (view_of_parts q) l) (g : GoesOnWith q r V)
    (head : o ≡ slice_get r.trail.literals r.trail.queue_head)
    (taken : MatchOption o (tr ≡ r.trail) (λ m. tr ≡ record r.trail { queue_head = r.trail.queue_head + 1 })) where
  within : r.trail.queue_head < length r.trail.literals
  within = queue-within n g

  left : tr ≡ record r.trail { queue_head = r.trail.queue_head + 1 }
  left = popped r.trail.literals r.trail.queue_head o (tr ≡ r.trail) (λ m. tr ≡ record r.trail { queue_head = r.trail.queue_head + 1 }) head within taken

  pub queue-next : {p : SearchParts} {X : Watches} → QueueGoesOn p q X → WatchesHoldTo (view_of_parts r) (suc r.trail.queue_head)
      × IsImpliedTo (view_of_parts r) (suc r.trail.queue_head) → QueueGoesOn p (record r { trail = tr }) V
  queue-next {p = p} a st =
      let b = queue-more a g in
      subst (λ (y : TrailParts). QueueGoesOn p (record r { trail = y }) V) (sym left) record {
        propagates = propagates-next (view_of_parts p) (view_of_parts r) r.trail.queue_head b.propagates refl within;
        watched = watched-next V (view_of_parts r) r.trail.queue_head g.watched within st.0 st.1;
        last = b.last;
        store = b.store;
      }

  pub queue-shorter : length r.values.current - tr.queue_head < length q.values.current - q.trail.queue_head
  queue-shorter =
      let next = ap (λ (x : TrailParts). x.queue_head) left in
      let short = trail-short (view_of_parts r) g.propagates.well in
      let count = g.propagates.grows.count in
      let same = g.keeps.head in
      let inside = within in
      omega (arith, next, short, count, inside, same)
