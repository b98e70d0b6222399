-- A search goes on once its units of level 0 are proved.
use Rattle.std.proofs.Common.{◌≡◌, ◌≢◌, ℕ, ◌<◌, ◌≤◌, Bool, true, false, ◌||◌, nat_eq, List, [], ◌∷◌, ◌++◌, length, get_or, set, inl, inr, ⊎_elim, refl, sym, ap, ◌∙◌, subst, arith, length-set, get_or-set_same, get_or-set_other}
use Rattle.varisat_theory.specs.promises.Literals.{Literal, variable_of}
use Rattle.varisat_theory.proofs.clauses.Members.{equal_or_not, ∈-append_left, ∈-append_right, ∈-append_cases}
use Rattle.varisat_theory.proofs.clauses.Places.{∈-get_or}
use Rattle.varisat_clause.specs.Databases.{Tracks}
use Rattle.varisat_prop.specs.declared.prop.graph.Reason.TheVariants as reason
use Rattle.varisat_prop.specs.declared.prop.graph.ImplNode.{ImplNode}
use Rattle.varisat_prop.specs.View.{View, no_node, literal_at, node_of, node_at, IsReason, WellFormed, PropagatedBeforeDecisions, is_clause, is_implied, kinds}
use Rattle.varisat_prop.specs.Watches.{Watches, IsPropagated}
use Rattle.varisat_vsids.specs.Activities.{Activities}
use Rattle.varisat_search.specs.declared.context.Context.{Context}
use Rattle.varisat_search.specs.Contexts.{view, IsReady}
use Rattle.varisat_search.specs.Frames.{ChangesKept}
use Rattle.varisat_search.specs.Decisions.{CanDecide}
use Rattle.varisat_search.specs.ProvedUnits.{HaveUnits, ProvesUnits}
use Rattle.varisat_search.proofs.simplifying.ClausesExchanged.{map-by-place}
use Rattle.varisat_search.proofs.stepping.ReadyAfter.{keeps-values, exchanged-ready}

pub none-left : {X : Type 0} (xs : List X) → length xs ≤ 0 → xs ≡ []
none-left [] h = refl
none-left (x ∷ xs) h = absurd (omega (arith, h))

-- as a unit of level 0 the node's variable keeps its level and its place
abbrev pub as_unit : ImplNode → ImplNode
as_unit n = record n { reason = reason.Unit }

-- The first literals have units, and nothing but reasons changed.
pub record HasUnitsTo (ls : List Literal) (old new : List ImplNode) : Type 0 where
  pub given : HaveUnits ls old new
  pub same : (v : ℕ) → as_unit (get_or new v no_node) ≡ as_unit (get_or old v no_node)

pub units-none : (ns : List ImplNode) → HasUnitsTo [] ns ns
units-none ns = record { given = record { count = refl; units = λ l h. absurd h; others = λ v h. refl }; same = λ v. refl }

module _ (ls : List Literal) (l : Literal) (old new : List ImplNode) (inside : variable_of l < length new) (d : HasUnitsTo ls old new) where
  abbrev v : ℕ
  v = variable_of l

  abbrev next : List ImplNode
  next = set new v (as_unit (get_or new v no_node))

  at-own : (x : ℕ) → x ≡ v → get_or next x no_node ≡ as_unit (get_or old x no_node)
  at-own x e =
      ap (λ y. get_or next y no_node) e ∙ get_or-set_same new v (as_unit (get_or new v no_node)) no_node inside
      ∙ d.same v ∙ ap (λ y. as_unit (get_or old y no_node)) (sym e)

  at-other : (x : ℕ) → x ≢ v → get_or next x no_node ≡ get_or new x no_node
  at-other x n = get_or-set_other new v x (as_unit (get_or new v no_node)) no_node n

  pub units-more : HasUnitsTo (ls ++ l ∷ []) old next
  units-more = record {
    given = record {
      count = length-set new v (as_unit (get_or new v no_node)) ∙ d.given.count;
      units = λ m h.
          ⊎_elim
          (λ e. at-own (variable_of m) e)
          (λ n. at-other (variable_of m) n
          ∙ d.given.units m (⊎_elim (λ i. i) (λ i. absurd (⊎_elim (λ e. n (ap variable_of e)) (λ z. z) i)) (∈-append_cases m ls (l ∷ []) h)))
          (equal_or_not (variable_of m) v);
      others = λ x h. at-other x (λ e. h l (∈-append_right l ls (l ∷ []) (inl refl)) (sym e)) ∙ d.given.others x (λ m i. h m (∈-append_left m ls (l ∷ []) i));
    };
    same = λ x.
        ⊎_elim
        (λ e. ap as_unit (at-own x e))
        (λ n. ap as_unit (at-other x n) ∙ d.same x)
        (equal_or_not x v);
  }

-- at level 0 each literal has level 0
pub level-zero : (s : View) → WellFormed s → s.decisions ≡ [] → (k : ℕ) → k < length s.trail → (node_at s k).level ≡ 0
level-zero s w none k h =
    let a = w.levels_to k h in
    let n = ap (λ (xs : List ℕ). length xs) none in
    omega (arith, a, n)

module _ (s t : View) (w : WellFormed s) (none : s.decisions ≡ []) (p : ProvesUnits s t) where
  abbrev u : View
  u = record s { nodes = t.nodes }

  pub unit-node : (k : ℕ) → k < length s.trail → node_at u k ≡ as_unit (node_at s k)
  unit-node k h = p.nodes.units (literal_at s k) (∈-get_or s.trail k 0 h)

  pub zero-level : (k : ℕ) → k < length s.trail → (node_at s k).level ≡ 0
  zero-level k h = level-zero s w none k h

  level-stays : (k : ℕ) → k < length s.trail → (node_at u k).level ≡ (node_at s k).level
  level-stays k h = ap (λ (n : ImplNode). n.level) (unit-node k h)

  none-listed : (j : ℕ) → j < length s.decisions → ⊥
  none-listed j h = let n = ap (λ (xs : List ℕ). length xs) none in omega (arith, h, n)

  u-well : WellFormed u
  u-well = record {
    sound = w.sound;
    nodes_are = p.nodes.count ∙ w.nodes_are;
    small = w.small;
    places = w.places;
    in_range = w.in_range;
    several = w.several;
    distinct = w.distinct;
    binary_back = w.binary_back;
    binary_other = w.binary_other;
    is_true = w.is_true;
    stands = w.stands;
    head = w.head;
    depth_is = λ k h. ap (λ (n : ImplNode). n.depth) (unit-node k h) ∙ w.depth_is k h;
    decided = λ j h. absurd (none-listed j h);
    rising = w.rising;
    levels_to = λ k h. let a = level-stays k h in let b = w.levels_to k h in omega (arith, a, b);
    levels_up = λ k j h i o. absurd (none-listed j i);
    levels_down = λ k j h i o. absurd (none-listed j i);
    reason_is = λ k h. subst (IsReason u k) (sym (ap (λ (n : ImplNode). n.reason) (unit-node k h))) (inr (level-stays k h ∙ zero-level k h));
  }

  pub units-well : WellFormed t
  units-well = subst WellFormed (sym p.rest) u-well

  pub units-all : (k : ℕ) → k < length t.trail → (node_at t k).reason ≡ reason.Unit
  units-all =
      subst (λ (y : View). (k : ℕ) → k < length y.trail → (node_at y k).reason ≡ reason.Unit) (sym p.rest)
      (λ k h. ap (λ (n : ImplNode). n.reason) (unit-node k h))

  pub units-settled : PropagatedBeforeDecisions s → PropagatedBeforeDecisions t
  units-settled v = subst PropagatedBeforeDecisions (sym p.rest) v

  pub units-propagated : (W : Watches) → IsPropagated W s → IsPropagated W t
  units-propagated W q =
      subst (IsPropagated W) (sym p.rest)
      record { lists = q.lists; watching = q.watching; empty = q.empty; settled = q.settled; binary = q.binary; implied = q.implied; queue = q.queue }

  pub units-decide : (a : Activities) → CanDecide s a → CanDecide t a
  units-decide a d =
      subst (λ (y : View). CanDecide y a) (sym p.rest) record {
        entries = record { activity = d.entries.activity; available = d.entries.available };
        decidable = d.decidable;
      }

  at-zero : (n : ImplNode) → n.level ≡ 0 → is_implied n ≡ true
  at-zero n e = ap (λ (x : ℕ). is_clause n.reason || nat_eq x 0) e ∙ or-true (is_clause n.reason)
    where
      or-true : (b : Bool) → (b || true) ≡ true
      or-true true = refl
      or-true false = refl

  -- the trail's rank stays, since at level 0 each literal is implied
  pub units-kinds : kinds t ≡ kinds s
  units-kinds =
      ap (λ (y : View). kinds y) p.rest
      ∙ map-by-place (λ l. is_implied (node_of u l)) (λ l. is_implied (node_of s l)) s.trail
      (λ k h. at-zero (node_at u k) (level-stays k h ∙ zero-level k h) ∙ sym (at-zero (node_at s k) (zero-level k h)))

-- the search stays ready
pub units-ready : {A : Type 0} (x z : Context A) → IsReady x → x.trail.decisions ≡ [] → ProvesUnits (view x) (view z) →
    z.watchlists ≡ x.watchlists → Tracks z.clause_db z.clause_alloc →
    ChangesKept x z → IsReady z
units-ready x z r none p e t k =
    exchanged-ready x z r (keeps-values x z k) (units-well (view x) (view z) r.well none p) (units-settled (view x) (view z) r.well none p r.settled)
    (subst (λ W. IsPropagated W (view z)) (sym e) (units-propagated (view x) (view z) r.well none p x.watchlists r.propagated))
    t (units-decide (view x) (view z) r.well none p x.vsids r.decidable)
