-- What `backtrack` keeps.
use Rattle.std.proofs.Common.{◌≡◌, ◌≢◌, ℕ, zero, suc, ◌+◌, ◌<◌, ◌≤◌, None, List, [], ◌∷◌, length, get_or, set, take, inl, inr, ⊎_elim, refl, sym, ap, ◌∙◌, subst, arith, get_or-set_same, get_or-set_other, length-set}
use Rattle.std.proofs.lemmas.List.{get_or-take, length-take-le}
use Rattle.std.proofs.lemmas.Bool.{cases_lt}
use Rattle.varisat_theory.specs.promises.Membership.{◌∈◌}
use Rattle.varisat_theory.specs.promises.Literals.{Literal, Clause, variable_of, opposite}
use Rattle.varisat_theory.specs.promises.Propagation.{IsComplete}
use Rattle.varisat_theory.proofs.clauses.Places.{∈-get_or, place_in}
use Rattle.varisat_theory.proofs.clauses.Members.{equal_or_not}
use Rattle.varisat_prop.specs.declared.prop.graph.Reason.{Reason}
use Rattle.varisat_prop.specs.declared.prop.graph.Reason.TheVariants as reason
use Rattle.varisat_prop.specs.View.{View, kept, implied_by, IsTrueIn, clause_at, literal_at, decision_at, node_of, node_at, IsOnTrailBefore, Implies, IsReason, WellFormed, IsFixed, PropagatedBeforeDecisions}
use Rattle.varisat_prop.proofs.trails.LiteralValues.{made-inside}
use Rattle.varisat_prop.specs.Watches.{Watches, IsPropagated}
use Rattle.varisat_prop.proofs.watching.WatchKept.{propagated-back}
use Rattle.varisat_search.specs.Steps.{IsCut, LeavesFrom}
use Rattle.varisat_analysis.proofs.WellFormedViews.{same-place}

-- the variables of the places from p to k lost their values
pub record Cutting (s t : View) (p k : ℕ) : Type 0 where
  pub rest : t ≡ record s { values = t.values }
  pub count : length t.values ≡ length s.values
  pub gone : (j : ℕ) → p ≤ j → j < k → get_or t.values (variable_of (literal_at s j)) None ≡ None
  pub stays : (v : ℕ) → ((j : ℕ) → p ≤ j → j < k → variable_of (literal_at s j) ≢ v) → get_or t.values v None ≡ get_or s.values v None

pub cutting-start : (s : View) (p : ℕ) → Cutting s s p p
cutting-start s p = record { rest = refl; count = refl; gone = λ j a b. absurd (omega (arith, a, b)); stays = λ v h. refl }

pub cutting-step : (s t : View) (p k l : ℕ) → WellFormed s → p ≤ k → k < length s.trail → l ≡ literal_at s k → Cutting s t p k →
    Cutting s (record t { values = set t.values (variable_of l) None }) p (k + 1)
cutting-step s t p k l w a b e c =
    let same : variable_of l ≡ variable_of (literal_at s k) = ap variable_of e in
    let inside : variable_of l < length t.values = let i = made-inside s.values (literal_at s k) (w.is_true k b) in let n = c.count in
    omega (arith, i, n, same) in
    record {
      rest = ap (λ (x : View). record x { values = set t.values (variable_of l) None }) c.rest;
      count = length-set t.values (variable_of l) None ∙ c.count;
      gone = λ j f g. ⊎_elim
          (λ h. ap (λ v. get_or (set t.values (variable_of l) None) v None) h ∙ get_or-set_same t.values (variable_of l) None None inside)
          (λ n. get_or-set_other t.values (variable_of l) (variable_of (literal_at s j)) None None n
          ∙ c.gone j f (⊎_elim (λ o. o) (λ o. let z : j ≡ k = omega (arith, o, g) in
          absurd (n (ap (λ x. variable_of (literal_at s x)) z ∙ sym same))) (cases_lt j k)))
          (equal_or_not (variable_of (literal_at s j)) (variable_of l));
      stays = λ v h. get_or-set_other t.values (variable_of l) v None None (λ f. h k a (omega arith) (sym same ∙ sym f))
          ∙ c.stays v (λ j f g. h j f (omega (arith, g)));
    }

pub cutting-end : (s t : View) (level k : ℕ) (tr ds : List ℕ) → k ≡ length s.trail → tr ≡ take (decision_at s level) t.trail →
    ds ≡ take level t.decisions → Cutting s t (decision_at s level) k →
    IsCut s (record t { trail = tr; queue_head = decision_at s level; decisions = ds }) level
cutting-end s t level k tr ds n f g c = record {
  rest = ap (λ x. record t { trail = x; queue_head = decision_at s level; decisions = ds }) f
      ∙ ap (λ x. record t { trail = take (decision_at s level) t.trail; queue_head = decision_at s level; decisions = x }) g
      ∙ ap (λ (x : View). record x {
        values = t.values;
        trail = take (decision_at s level) x.trail;
        queue_head =
            decision_at s level;
        decisions = take level x.decisions;
      }) c.rest;
  count = c.count;
  gone = λ v (j, a, b, e). subst (λ x. get_or t.values x None ≡ None) e (c.gone j a (omega (arith, b, n)));
  stays = λ v h. c.stays v (λ j a b e. h (j, a, omega (arith, b, n), e));
}

-- undoing decisions changes something
pub cut-changes : (s t : View) (level : ℕ) → level < length s.decisions → IsCut s t level → t ≡ s → ⊥
cut-changes s t level h c e =
    let n = ap (λ (x : View). length x.decisions) c.rest ∙ length-take-le level s.decisions (omega (arith, h)) in
    let m = ap (λ (x : View). length x.decisions) e in
    omega (arith, h, n, m)

module _ (s t : View) (level : ℕ) (w : WellFormed s) (h : level < length s.decisions) (c : IsCut s t level) where
  abbrev pub p : ℕ
  p = decision_at s level

  abbrev pub u : View
  u = record s { values = t.values; trail = take p s.trail; queue_head = p; decisions = take level s.decisions }

  pub end-inside : p < length s.trail
  end-inside = (w.decided level h).0

  pub cut-length : length u.trail ≡ p
  cut-length = let d = end-inside in length-take-le p s.trail (omega (arith, d))

  below : (k : ℕ) → k < length u.trail → (k < p) × (k < length s.trail)
  below k i = let d = end-inside in let e = cut-length in (omega (arith, i, e), omega (arith, i, e, d))

  pub level-length : length u.decisions ≡ level
  level-length = length-take-le level s.decisions (omega (arith, h))

  pub at-cut : (k : ℕ) → k < p → literal_at u k ≡ literal_at s k
  at-cut k i = get_or-take p s.trail k 0 i

  pub decision-cut : (j : ℕ) → j < level → decision_at u j ≡ decision_at s j
  decision-cut j i = get_or-take level s.decisions j 0 i

  node-cut : (k : ℕ) → k < p → node_at u k ≡ node_at s k
  node-cut k i = ap (node_of s) (at-cut k i)

  stays-assigned : (k : ℕ) → k < p → LeavesFrom s p (variable_of (literal_at s k)) → ⊥
  stays-assigned k i (j, a, b, e) = let d = end-inside in let z = same-place s w j k b (omega (arith, i, d)) e in omega (arith, z, a, i)

  pub still : (k : ℕ) → k < p → IsTrueIn u (literal_at s k)
  still k i = let d = end-inside in c.stays (variable_of (literal_at s k)) (stays-assigned k i) ∙ w.is_true k (omega (arith, i, d))

  not-leaving : (x : Literal) → IsTrueIn u x → LeavesFrom s p (variable_of x) → ⊥
  not-leaving x q l = let n = c.gone (variable_of x) l in cc

  pub was-true : (x : Literal) → IsTrueIn u x → IsTrueIn s x
  was-true x q = sym (c.stays (variable_of x) (not-leaving x q)) ∙ q

  pub only : (x : Literal) → IsTrueIn u x → IsOnTrailBefore s p x
  only x q =
      let (j, a, e) = w.stands x (was-true x q) in
      ⊎_elim (λ o. (j, o, e)) (λ o. absurd (not-leaving x q (j, o, a, ap variable_of e))) (cases_lt j p)

  implies-cut : (cl : Clause) (k : ℕ) → k < p → Implies s cl k → Implies u cl k
  implies-cut [] k i r = r
  implies-cut (x ∷ cl) k i (e, f) = (e ∙ sym (at-cut k i), λ m q. let (j, a, g) = f m q in (j, a, at-cut j (omega (arith, a, i)) ∙ g))

  -- a decision before the end is one of those that stay
  listed-cut : (k : ℕ) → k < p → k ∈ s.decisions → k ∈ u.decisions
  listed-cut k i q =
      let (j, a, e) = place_in k s.decisions 0 q in
      let low : j < level = ⊎_elim (λ o. o)
      (λ o. ⊎_elim (λ z. let y = ap (decision_at s) z in absurd (omega (arith, y, e, i)))
      (λ z. let r = w.rising level j (order level j o z) a in absurd (omega (arith, r, e, i))) (equal_or_not level j)) (cases_lt j level) in
      let n = level-length in
      subst (λ x. x ∈ u.decisions) (decision-cut j low ∙ e) (∈-get_or u.decisions j 0 (omega (arith, low, n)))
    where
      order : (a b : ℕ) → a ≤ b → (a ≡ b → ⊥) → a < b
      order a b h n = omega (arith, h, n)

  reason-cut : (k : ℕ) (q : Reason) → k < p → IsReason s k q → IsReason u k q
  reason-cut k reason.Unit i r = ⊎_elim (λ d. inl (listed-cut k i d)) (λ e. inr (ap (λ n. n.level) (node-cut k i) ∙ e)) r
  reason-cut k (reason.Binary ms) i (m, e, h, o) =
      let (j, a, g) = o in
      (m, e, subst (λ x. x ∈ implied_by s (opposite m)) (sym (at-cut k i)) h, (j, a, at-cut j (omega (arith, a, i)) ∙ g))
  reason-cut k (reason.Long n) i r = (r.0, implies-cut (clause_at s n) k i r.1)

  cut-well-u : WellFormed u
  cut-well-u = record {
    sound = w.sound;
    nodes_are = w.nodes_are ∙ sym c.count;
    small = let e = c.count in let f = w.small in omega (arith, e, f);
    in_range = λ cl i l j. let e = c.count in let f = w.in_range cl i l j in omega (arith, e, f);
    places = w.places;
    several = w.several;
    distinct = w.distinct;
    binary_back = w.binary_back;
    binary_other = w.binary_other;
    is_true = λ k i. let b = below k i in subst (IsTrueIn u) (sym (at-cut k b.0)) (still k b.0);
    stands = λ x q. let (j, i, e) = only x q in let n = cut-length in (j, omega (arith, i, n), at-cut j i ∙ e);
    head = let n = cut-length in omega (arith, n);
    depth_is = λ k i. let b = below k i in ap (λ n. n.depth) (node-cut k b.0) ∙ w.depth_is k b.1;
    decided = λ j i. let n = level-length in let j' : j < level = omega (arith, i, n) in let e = decision-cut j j' in
        let r = w.rising j level j' h in let d = w.decided j (omega (arith, j', h)) in let m = cut-length in
        (omega (arith, e, r, m), ap (λ x. (node_at u x).reason) e ∙ ap (λ n. n.reason) (node-cut (decision_at s j) r) ∙ d.1);
    rising = λ i j a b. let n = level-length in let j' : j < level = omega (arith, b, n) in let e = decision-cut j j' in
        let f = decision-cut i (omega (arith, a, j')) in let r = w.rising i j a (omega (arith, j', h)) in omega (arith, e, f, r);
    levels_to = λ k i. let b = below k i in let n = level-length in let e = ap (λ n. n.level) (node-cut k b.0) in
        let d = w.levels_down k level b.1 h b.0 in omega (arith, e, d, n);
    levels_up = λ k j i o e. let b = below k i in let n = level-length in let j' : j < level = omega (arith, o, n) in
        let f = ap (λ n. n.level) (node-cut k b.0) in let g = decision-cut j j' in
        let d = w.levels_up k j b.1 (omega (arith, j', h)) (omega (arith, e, f)) in omega (arith, d, g);
    levels_down = λ k j i o e. let b = below k i in let n = level-length in let j' : j < level = omega (arith, o, n) in
        let f = ap (λ n. n.level) (node-cut k b.0) in let g = decision-cut j j' in
        let d = w.levels_down k j b.1 (omega (arith, j', h)) (omega (arith, e, g)) in omega (arith, d, f);
    reason_is = λ k i. let b = below k i in subst (IsReason u k) (sym (ap (λ n. n.reason) (node-cut k b.0)))
        (reason-cut k (node_at s k).reason b.0 (w.reason_is k b.1));
  }

  pub cut-well : WellFormed t
  cut-well = subst WellFormed (sym c.rest) cut-well-u

  pub fixed-before : (x : Literal) → IsFixed s x → IsOnTrailBefore s p x
  fixed-before x q =
      let (j, i, e) = w.stands x q.0 in
      let z : (node_at s j).level ≡ 0 = ap (λ y. (node_of s y).level) e ∙ q.1 in
      (j, w.levels_up j level i h (omega (arith, z)), e)

  pub fixed-cut : (x : Literal) → IsFixed s x → IsFixed u x
  fixed-cut x q = let (j, o, e) = fixed-before x q in (subst (IsTrueIn u) e (still j o), q.1)

  take-take : (q r : ℕ) (xs : List ℕ) → q ≤ r → take q (take r xs) ≡ take q xs
  take-take zero r xs a = refl
  take-take (suc q) zero xs a = absurd (omega arith)
  take-take (suc q) (suc r) [] a = refl
  take-take (suc q) (suc r) (x ∷ xs) a = ap (λ y. x ∷ y) (take-take q r xs (omega (arith, a)))

  pub cut-settled : PropagatedBeforeDecisions s → PropagatedBeforeDecisions t
  cut-settled v = subst PropagatedBeforeDecisions (sym c.rest) (λ j i.
      let n = level-length in
      let j' : j < level = omega (arith, i, n) in
      let e = decision-cut j j' in
      let r = w.rising j level j' h in
      let g : take (decision_at u j) u.trail ≡ take (decision_at s j) s.trail = ap (λ x. take x u.trail) e
      ∙ take-take (decision_at s j) p s.trail (omega (arith, r)) in
      subst (λ x. IsComplete (kept s) x) (sym g) (v j (omega (arith, j', h))))

  -- propagation had come to its end where the cut is
  pub cut-propagated : (W : Watches) → IsPropagated W s → IsPropagated W t
  cut-propagated W v = propagated-back W s t level w h c.count c.rest v
