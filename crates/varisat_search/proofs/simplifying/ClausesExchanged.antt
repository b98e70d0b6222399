-- A search goes on with other clauses and other nodes, as long as each clause was one before, and each literal keeps
-- its level and its reason.
use Rattle.std.proofs.Common.{◌≡◌, ℕ, suc, Bool, true, false, ◌&&◌, ◌||◌, not, nat_eq, ◌<◌, List, [], ◌∷◌, ◌++◌, length, map, get_or, inl, inr, ⊎_elim, refl, sym, ap, ap₂, ◌∙◌, subst, arith}
use Rattle.std.specs.Prelude.{cond}
use Rattle.std.specs.List.{filter}
use Rattle.varisat_theory.specs.promises.Membership.{◌∈◌, ◌⊆◌}
use Rattle.varisat_theory.specs.promises.Literals.{Literal, Clause, opposite}
use Rattle.varisat_theory.proofs.clauses.Members.{∈-append_left, ∈-append_right, ∈-append_cases}
use Rattle.varisat_theory.proofs.clauses.Saturated.{complete_fewer}
use Rattle.varisat_clause.specs.Stored.{StoredClause, literals_of, literals_at, IsClauseRef, AreRising}
use Rattle.varisat_clause.proofs.StoredClauses.{kept-at, from-literals, stored-found}
use Rattle.varisat_prop.specs.declared.prop.graph.Reason.{Reason}
use Rattle.varisat_prop.specs.declared.prop.graph.Reason.TheVariants as reason
use Rattle.varisat_prop.specs.declared.prop.graph.ImplNode.{ImplNode}
use Rattle.varisat_prop.specs.View.{View, pairs_from, kept, clause_at, literal_at, decision_at, node_of, node_at, Implies, IsReason, WellFormed, PropagatedBeforeDecisions, is_clause, is_implied, kinds}
use Rattle.varisat_prop.specs.Watches.{Watches, watches_of, literal_in, IsCovered, WatchesHoldTo, IsPropagated}
use Rattle.varisat_vsids.specs.Activities.{Activities}
use Rattle.varisat_search.specs.Decisions.{CanDecide, SameDecidable}
use Rattle.varisat_analysis.specs.HeaderChanges.{kept_clause}
use Rattle.varisat_search.specs.Seen.{is_fixed, is_proved, kept_pair, search_of}

abbrev pub exchanged : View → List StoredClause → List ImplNode → View
exchanged s ks ns = record s { clauses = ks; nodes = ns }

-- the same reason, if by another place
abbrev pub SameReason : View → List StoredClause → Reason → Reason → Type 0
SameReason s ks reason.Unit r = r ≡ reason.Unit
SameReason s ks (reason.Binary ms) r = r ≡ reason.Binary ms
SameReason s ks (reason.Long p) r = (q : ℕ) × (r ≡ reason.Long q) × IsClauseRef ks q × (literals_at ks q ≡ clause_at s p)

-- The clauses and the nodes may stand in place of those of the view.
pub record MayExchange (s : View) (ks : List StoredClause) (ns : List ImplNode) : Type 0 where
  pub places : AreRising ks
  pub fewer : literals_of ks ⊆ literals_of s.clauses
  pub count : length ns ≡ length s.nodes
  pub level : (k : ℕ) → k < length s.trail → (node_at (exchanged s ks ns) k).level ≡ (node_at s k).level
  pub depth : (k : ℕ) → k < length s.trail → (node_at (exchanged s ks ns) k).depth ≡ (node_at s k).depth
  pub same : (k : ℕ) → k < length s.trail → SameReason s ks (node_at s k).reason (node_at (exchanged s ks ns) k).reason

-- what is read of each literal of a list
pub map-by-place : {X : Type 0} (f g : Literal → X) (xs : List Literal) → ((k : ℕ) → k < length xs → f (get_or xs k 0) ≡ g (get_or xs k 0)) →
    map f xs ≡ map g xs
map-by-place f g [] h = refl
map-by-place f g (x ∷ xs) h = ap₂ (λ y ys. y ∷ ys) (h 0 (omega arith)) (map-by-place f g xs (λ k i. h (suc k) (omega (arith, i))))

filter-by-place : (p q : Literal → Bool) (xs : List Literal) → ((k : ℕ) → k < length xs → p (get_or xs k 0) ≡ q (get_or xs k 0)) → filter p xs ≡ filter q xs
filter-by-place p q [] h = refl
filter-by-place p q (x ∷ xs) h = ap₂ (λ (b : Bool) (ys : List ℕ). cond b (x ∷ ys) ys) (h 0 (omega arith))
    (filter-by-place p q xs (λ k i. h (suc k) (omega (arith, i))))

-- a clause of the list stands at a place
pub place-of-literals : (ks : List StoredClause) → AreRising ks → (c : Clause) → c ∈ literals_of ks → (p : ℕ) × IsClauseRef ks p × (literals_at ks p ≡ c)
place-of-literals ks r c h =
    let (k, i, e) = from-literals ks c h in
    (k.place, (k, i, refl), ap (λ (x : StoredClause). x.literals) (stored-found ks r k i) ∙ e)

module _ (s : View) (ks : List StoredClause) (ns : List ImplNode) (w : WellFormed s) (m : MayExchange s ks ns) where
  abbrev t : View
  t = exchanged s ks ns

  pub exchanged-kept : kept t ⊆ kept s
  exchanged-kept c h =
      ⊎_elim
      (λ i. ∈-append_left c (literals_of s.clauses) (pairs_from 0 s.binary) (m.fewer c i))
      (λ i. ∈-append_right c (literals_of s.clauses) (pairs_from 0 s.binary) i)
      (∈-append_cases c (literals_of ks) (pairs_from 0 s.binary) h)

  unit-stays : (a b : Reason) → SameReason s ks a b → a ≡ reason.Unit → b ≡ reason.Unit
  unit-stays reason.Unit b q e = q
  unit-stays (reason.Binary ms) b q e = absurd cc
  unit-stays (reason.Long p) b q e = absurd cc

  same-implies : (k : ℕ) (c : Clause) → Implies s c k → Implies t c k
  same-implies k [] g = g
  same-implies k (x ∷ c) g = g

  reason-stays : (k : ℕ) → k < length s.trail → (a b : Reason) → SameReason s ks a b → IsReason s k a → IsReason t k b
  reason-stays k h reason.Unit b q g = subst (IsReason t k) (sym q) (⊎_elim inl (λ e. inr (m.level k h ∙ e)) g)
  reason-stays k h (reason.Binary ms) b q g = subst (IsReason t k) (sym q) g
  reason-stays k h (reason.Long p) b (q, e, i, f) g =
      subst (IsReason t k) (sym e) (i, subst (λ c. Implies t c k) (sym f) (same-implies k (clause_at s p) g.1))

  pub exchanged-well : WellFormed t
  exchanged-well = record {
    sound = w.sound;
    nodes_are = m.count ∙ w.nodes_are;
    small = w.small;
    places = m.places;
    in_range = λ c i. w.in_range c (exchanged-kept c i);
    several = λ c i. w.several c (exchanged-kept c i);
    distinct = λ c i. w.distinct c (exchanged-kept c i);
    binary_back = w.binary_back;
    binary_other = w.binary_other;
    is_true = w.is_true;
    stands = w.stands;
    head = w.head;
    depth_is = λ k h. m.depth k h ∙ w.depth_is k h;
    decided = λ j h. let d = w.decided j h in
        (d.0, unit-stays (node_at s (decision_at s j)).reason (node_at t (decision_at s j)).reason (m.same (decision_at s j) d.0) d.1);
    rising = w.rising;
    levels_to = λ k h. let a = m.level k h in let b = w.levels_to k h in omega (arith, a, b);
    levels_up = λ k j h i o. w.levels_up k j h i (let a = m.level k h in omega (arith, a, o));
    levels_down = λ k j h i o. let a = m.level k h in let b = w.levels_down k j h i o in omega (arith, a, b);
    reason_is = λ k h. reason-stays k h (node_at s k).reason (node_at t k).reason (m.same k h) (w.reason_is k h);
  }

  pub exchanged-settled : PropagatedBeforeDecisions s → PropagatedBeforeDecisions t
  exchanged-settled v j h = complete_fewer (kept s) (kept t) _ exchanged-kept (v j h)

  pub exchanged-decide : (a : Activities) → CanDecide s a → CanDecide t a
  exchanged-decide a d = record {
    entries = record { activity = d.entries.activity; available = d.entries.available };
    decidable = λ c h. d.decidable c (exchanged-kept c h);
  }

  pub exchanged-same : (a : Activities) → SameDecidable s a t a
  exchanged-same a v = ((λ h. h), (λ h. h))

  settled-stays : (q : ℕ) → WatchesHoldTo s q → WatchesHoldTo t q
  settled-stays q f i j p a b c e =
      let (o, x, y) = place-of-literals s.clauses w.places (literals_at ks i) (m.fewer (literals_at ks i) (kept-at ks i a)) in
      subst (λ d. IsCovered s d p) y (f o j p x b c (subst (λ d. literal_at s p ≡ opposite (literal_in d j)) (sym y) e))

  -- where the lists are switched off, propagation fills them from the other clauses
  pub exchanged-off : (W V : Watches) → IsPropagated W s → length V.lists ≡ length W.lists → ((x : Literal) → watches_of V x ≡ []) →
      V.enabled ≡ false → IsPropagated V t
  exchanged-off W V p n e o = record {
    lists = n ∙ p.lists;
    watching = λ on. absurd (let z : true ≡ false = sym on ∙ o in cc);
    empty = λ off. e;
    settled = settled-stays s.queue_head p.settled;
    binary = p.binary;
    implied = p.implied;
    queue = p.queue;
  }

  clause-stays : (a b : Reason) → SameReason s ks a b → is_clause b ≡ is_clause a
  clause-stays reason.Unit b q = ap is_clause q
  clause-stays (reason.Binary ms) b q = ap is_clause q
  clause-stays (reason.Long p) b q = ap is_clause q.1

  implied-stays : (k : ℕ) → k < length s.trail → is_implied (node_at t k) ≡ is_implied (node_at s k)
  implied-stays k h = ap₂ (λ (a : Bool) (n : ℕ). a || nat_eq n 0) (clause-stays (node_at s k).reason (node_at t k).reason (m.same k h)) (m.level k h)

  -- the trail's rank stays
  pub exchanged-kinds : kinds t ≡ kinds s
  exchanged-kinds = map-by-place (λ l. is_implied (node_of t l)) (λ l. is_implied (node_of s l)) s.trail implied-stays

  -- what a proof sees but for the kept clauses
  pub exchanged-seen : search_of t ≡ record (search_of s) { kept = map kept_clause ks ++ map kept_pair (pairs_from 0 s.binary) }
  exchanged-seen =
      let fixed = filter-by-place (is_fixed t) (is_fixed s) s.trail (λ k h. ap (λ (n : ℕ). nat_eq n 0) (m.level k h)) in
      let proved = filter-by-place (is_proved t) (is_proved s) s.trail
      (λ k h. ap₂ (λ (n : ℕ) (a : Bool). nat_eq n 0 && not a) (m.level k h) (clause-stays (node_at s k).reason (node_at t k).reason (m.same k h))) in
      ap₂ (λ (a b : List Literal). record { kept = map kept_clause ks ++ map kept_pair (pairs_from 0 s.binary); fixed = a; proved = b }) fixed proved
