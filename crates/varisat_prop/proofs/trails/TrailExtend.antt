-- One more literal on the trail.
use Rattle.std.proofs.Common.{◌≡◌, ◌≢◌, ℕ, suc, ◌<◌, ◌≤◌, Some, None, List, [], ◌∷◌, ◌++◌, length, get_or, ◌⊎◌, inl, inr, ⊎_elim, refl, sym, ap, ◌∙◌, subst, arith, get_or-set_same, get_or-set_other, length-set, length-append}
use Rattle.std.proofs.lemmas.List.{get_or_append_left}
use Rattle.std.proofs.lemmas.Bool.{cases_lt}
use Rattle.varisat_theory.specs.promises.Membership.{◌∈◌}
use Rattle.varisat_theory.specs.promises.Literals.{Literal, Clause, variable_of, opposite}
use Rattle.varisat_literals.specs.promises.Numbers.{polarity_of}
use Rattle.varisat_prop.specs.declared.prop.graph.Reason.{Reason}
use Rattle.varisat_prop.specs.declared.prop.graph.Reason.TheVariants as reason
use Rattle.varisat_prop.specs.declared.prop.graph.ImplNode.{ImplNode}
use Rattle.varisat_prop.specs.View.{View, implied_by, IsTrueIn, clause_at, literal_at, node_of, node_at, no_node, IsOnTrailBefore, Implies, IsReason, WellFormed}
use Rattle.varisat_prop.specs.Changes.{enqueued}
use Rattle.varisat_prop.proofs.trails.LiteralValues.{none-made, made-new, made-old, made-cases}

pub get_or-last : {X : Type 0} (xs : List X) (x d : X) → get_or (xs ++ x ∷ []) (length xs) d ≡ x
get_or-last [] x d = refl
get_or-last (y ∷ xs) x d = get_or-last xs x d

-- The literal of a variable without a value is enqueued, over a list of decisions.
module _ (s : View) (l : Literal) (r : Reason) (ds : List ℕ) (w : WellFormed s) (inside : variable_of l < length s.values)
    (free : get_or s.values (variable_of l) None ≡ None) where
  abbrev pub ext : View
  ext = enqueued (record s { decisions = ds }) l r

  abbrev pub new_node : ImplNode
  new_node = record { reason = r; level = length ds; depth = suc (length s.trail) }

  node-inside : variable_of l < length s.nodes
  node-inside = let e = w.nodes_are in omega (arith, e, inside)

  pub ext-length : length ext.trail ≡ suc (length s.trail)
  ext-length = let e = length-append s.trail (l ∷ []) in omega (arith, e)

  pub literal-old : (k : ℕ) → k < length s.trail → literal_at ext k ≡ literal_at s k
  literal-old k h = get_or_append_left s.trail (l ∷ []) 0 k h

  pub literal-new : literal_at ext (length s.trail) ≡ l
  literal-new = get_or-last s.trail l 0

  -- the trail has no literal of the variable
  pub fresh : (k : ℕ) → k < length s.trail → variable_of (literal_at s k) ≢ variable_of l
  fresh k h e = none-made s.values l (literal_at s k) free e (w.is_true k h)

  pub node-other : (m : Literal) → variable_of m ≢ variable_of l → node_of ext m ≡ node_of s m
  node-other m n = get_or-set_other s.nodes (variable_of l) (variable_of m) new_node no_node n

  pub node-old : (k : ℕ) → k < length s.trail → node_at ext k ≡ node_at s k
  node-old k h = ap (node_of ext) (literal-old k h) ∙ node-other (literal_at s k) (fresh k h)

  pub node-new : node_at ext (length s.trail) ≡ new_node
  node-new = ap (node_of ext) literal-new ∙ get_or-set_same s.nodes (variable_of l) new_node no_node node-inside

  pub true-new : IsTrueIn ext l
  true-new = made-new s.values l inside free

  pub true-old : (m : Literal) → IsTrueIn s m → IsTrueIn ext m
  true-old m h = made-old s.values l inside free m h

  pub true-cases : (m : Literal) → IsTrueIn ext m → (m ≡ l) ⊎ IsTrueIn s m
  true-cases m h = made-cases s.values l inside free m h

  pub place-cases : (k : ℕ) → k < length ext.trail → (k < length s.trail) ⊎ (k ≡ length s.trail)
  place-cases k h = let e = ext-length in ⊎_elim inl (λ g. inr (omega (arith, e, g, h))) (cases_lt k (length s.trail))

  -- what holds of the old places and of the new one holds of all
  pub each-place : (P : ℕ → Type 0) → ((k : ℕ) → k < length s.trail → P k) → P (length s.trail) → (k : ℕ) → k < length ext.trail → P k
  each-place P old new k h = ⊎_elim (old k) (λ e. subst P (sym e) new) (place-cases k h)

  stands-old : (k : ℕ) (m : Literal) → k ≤ length s.trail → IsOnTrailBefore s k m → IsOnTrailBefore ext k m
  stands-old k m h (j, a, e) = (j, a, literal-old j (omega (arith, a, h)) ∙ e)

  implies-old : (c : Clause) (k : ℕ) → k < length s.trail → Implies s c k → Implies ext c k
  implies-old [] k h p = p
  implies-old (x ∷ c) k h (e, f) = (e ∙ sym (literal-old k h), λ m i. stands-old k (opposite m) (omega (arith, h)) (f m i))

  reason-old : ((k : ℕ) → k ∈ s.decisions → k ∈ ds) → (q : Reason) (k : ℕ) → k < length s.trail → IsReason s k q → IsReason ext k q
  reason-old keeps reason.Unit k h p = ⊎_elim (λ i. inl (keeps k i)) (λ e. inr (ap (λ n. n.level) (node-old k h) ∙ e)) p
  reason-old keeps (reason.Binary ms) k h (m, e, i, b) =
      (m, e, subst (λ x. x ∈ implied_by s (opposite m)) (sym (literal-old k h)) i, stands-old k (opposite m) (omega (arith, h)) b)
  reason-old keeps (reason.Long i) k h p = (p.0, implies-old (clause_at s i) k h p.1)

  -- what is kept of the decisions
  pub record Levels : Type 0 where
    pub keeps : (k : ℕ) → k ∈ s.decisions → k ∈ ds
    pub decided : (j : ℕ) → j < length ds → (get_or ds j 0 < length ext.trail) × ((node_at ext (get_or ds j 0)).reason ≡ reason.Unit)
    pub rising : (i j : ℕ) → i < j → j < length ds → get_or ds i 0 < get_or ds j 0
    pub levels_to : (k : ℕ) → k < length ext.trail → (node_at ext k).level ≤ length ds
    pub levels_up : (k j : ℕ) → k < length ext.trail → j < length ds → (node_at ext k).level ≤ j → k < get_or ds j 0
    pub levels_down : (k j : ℕ) → k < length ext.trail → j < length ds → k < get_or ds j 0 → (node_at ext k).level ≤ j

  pub ext-well : Levels → IsReason ext (length s.trail) r → WellFormed ext
  ext-well d q = record {
    sound = w.sound;
    nodes_are = length-set s.nodes (variable_of l) new_node ∙ w.nodes_are ∙ sym (length-set s.values (variable_of l) (Some (polarity_of l)));
    small = let e = length-set s.values (variable_of l) (Some (polarity_of l)) in let f = w.small in omega (arith, e, f);
    in_range = λ c h m i. let e = length-set s.values (variable_of l) (Some (polarity_of l)) in let f = w.in_range c h m i in omega (arith, e, f);
    places = w.places;
    several = w.several;
    distinct = w.distinct;
    binary_back = w.binary_back;
    binary_other = w.binary_other;
    is_true = each-place (λ k. IsTrueIn ext (literal_at ext k))
        (λ k h. subst (IsTrueIn ext) (sym (literal-old k h)) (true-old (literal_at s k) (w.is_true k h))) (subst (IsTrueIn ext) (sym literal-new) true-new);
    stands = λ m h. let n = ext-length in ⊎_elim (λ e. (length s.trail, omega (arith, n), literal-new ∙ sym e))
        (λ t. let (j, a, e) = w.stands m t in (j, omega (arith, a, n), literal-old j a ∙ e)) (true-cases m h);
    head = let n = ext-length in let q = w.head in omega (arith, n, q);
    depth_is = each-place (λ k. (node_at ext k).depth ≡ suc k) (λ k h. ap (λ n. n.depth) (node-old k h) ∙ w.depth_is k h) (ap (λ n. n.depth) node-new);
    decided = d.decided;
    rising = d.rising;
    levels_to = d.levels_to;
    levels_up = d.levels_up;
    levels_down = d.levels_down;
    reason_is = each-place (λ k. IsReason ext k (node_at ext k).reason)
        (λ k h. subst (IsReason ext k) (sym (ap (λ n. n.reason) (node-old k h))) (reason-old d.keeps (node_at s k).reason k h (w.reason_is k h)))
        (subst (IsReason ext (length s.trail)) (sym (ap (λ n. n.reason) node-new)) q);
  }
