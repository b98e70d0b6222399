-- The levels of assumptions, as the search changes.
use Rattle.std.proofs.Common.{◌≡◌, ℕ, ◌<◌, ◌≤◌, ◌⊎◌, nat_lt, true, false, List, [], ◌∷◌, ◌++◌, length, get_or, inl, inr, ⊎_elim, refl, sym, ap, ◌∙◌, subst, arith, length-append, length-set}
use Rattle.std.proofs.lemmas.List.{get_or_append_left}
use Rattle.std.proofs.lemmas.Bool.{cases_lt}
use Rattle.varisat_theory.specs.promises.Membership.{◌∈◌}
use Rattle.varisat_theory.specs.promises.Literals.{Literal, variable_of}
use Rattle.varisat_prop.specs.View.{View, literal_at, decision_at, WellFormed, GrowsTrail}
use Rattle.varisat_prop.specs.Changes.{decided_on}
use Rattle.varisat_prop.proofs.trails.TrailExtend.{get_or-last}
use Rattle.varisat_prop.proofs.views.ViewGrowth.{append-nil}
use Rattle.varisat_search.specs.AssumptionParts.{AssumptionParts, no_assumptions, with_levels_to, HasAssumptions, TakesOutTrue, TakesOutImplied}
use Rattle.varisat_vsids.specs.Activities.{Activities}
use Rattle.varisat_search.specs.Decisions.{AreDecidable}
use Rattle.varisat_search.specs.Steps.{IsCut}
use Rattle.varisat_search.proofs.learning.AssumedTruths.{taken-implied, takes-same}
use Rattle.varisat_search.proofs.stepping.Backtrack.{u, at-cut, decision-cut, level-length}

-- The trail and the decisions are longer, and where another literal is decided each assumption has its level.
has-longer : (s t : View) (x : AssumptionParts) (more ds : List ℕ) → WellFormed s → t.trail ≡ s.trail ++ more → t.decisions ≡ s.decisions ++ ds →
    length s.values ≤ length t.values → (ds ≡ []) ⊎ (x.levels ≡ length x.working) → HasAssumptions s x → HasAssumptions t x
has-longer s t x more ds w e f n c h =
    let l = ap (λ (xs : List ℕ). length xs) f in
    let m = length-append s.decisions ds in
    let r = h.reached in
    record {
      reached = omega (arith, l, m, r);
      listed = h.listed;
      decided = λ j i.
          let j' : j < length s.decisions = omega (arith, i, r) in
          let d : decision_at t j ≡ decision_at s j = ap (λ xs. get_or xs j 0) f ∙ get_or_append_left s.decisions ds 0 j j' in
          ap (literal_at t) d ∙ ap (λ xs. get_or xs (decision_at s j) 0) e ∙ get_or_append_left s.trail more 0 (decision_at s j) (w.decided j j').0
          ∙ h.decided j i;
      first = ⊎_elim (λ g. ⊎_elim (λ q. inl
          (q ∙ sym (l ∙ ap (λ xs. length (s.decisions ++ xs)) g ∙ ap (λ (xs : List ℕ). length xs) (append-nil s.decisions)))) inr h.first) inr c;
      in_range = λ a i. let b = h.in_range a i in omega (arith, b, n);
    }

-- no literal was decided
pub has-same-decisions : (s t : View) (x : AssumptionParts) (more : List ℕ) → WellFormed s → t.trail ≡ s.trail ++ more → t.decisions ≡ s.decisions →
    length s.values ≤ length t.values → HasAssumptions s x → HasAssumptions t x
has-same-decisions s t x more w e f n h = has-longer s t x more [] w e (f ∙ sym (append-nil s.decisions)) n (inl refl) h

-- the search went on without a decision, or each assumption has its level
pub has-grown : (s t : View) (x : AssumptionParts) → WellFormed s → GrowsTrail s t → (t.decisions ≡ s.decisions) ⊎ (x.levels ≡ length x.working) →
    HasAssumptions s x → HasAssumptions t x
has-grown s t x w g c h =
    let n = g.count in
    has-longer s t x g.trail_more.0 g.decisions_more.0 w g.trail_more.1 g.decisions_more.1 (omega (arith, n))
    (⊎_elim (λ e. inl (none g.decisions_more.0
    (let l = ap (λ (xs : List ℕ). length xs) (sym e ∙ g.decisions_more.1) in let m = length-append s.decisions g.decisions_more.0 in
    omega (arith, l, m)))) inr c) h
  where
    none : (xs : List ℕ) → length xs ≤ 0 → xs ≡ []
    none [] h = refl
    none (x ∷ xs) h = absurd (omega (arith, h))

-- a search without decisions
pub has-undecided : (t : View) (x : AssumptionParts) → t.decisions ≡ [] → x.levels ≡ 0 →
    ((l : Literal) → l ∈ x.working → variable_of l < length t.values) → HasAssumptions t x
has-undecided t x e z r =
    let n = ap (λ (xs : List ℕ). length xs) e in
    record {
      reached = omega (arith, z);
      listed = omega (arith, z);
      decided = λ j i. absurd (omega (arith, i, z));
      first = inl (omega (arith, n, z));
      in_range = r;
    }

-- there are no assumptions
pub has-none : (t : View) (x : AssumptionParts) → t.decisions ≡ [] → x ≡ no_assumptions → HasAssumptions t x
has-none t x d e = has-undecided t x d (ap (λ (y : AssumptionParts). y.levels) e)
    (λ l h. let z : l ∈ [] = subst (λ (y : AssumptionParts). l ∈ y.working) e h in absurd z)

pub none-assumable : (s : View) (a : Activities) (x : AssumptionParts) → x ≡ no_assumptions → AreDecidable s a x.working
none-assumable s a x e l h = let z : l ∈ [] = subst (λ (y : AssumptionParts). l ∈ y.working) e h in absurd z

-- how many levels are left
pub levels-left : (level : ℕ) (x : AssumptionParts) → ((level < x.levels) × ((with_levels_to level x).levels ≡ level))
    ⊎ ((x.levels ≤ level) × ((with_levels_to level x).levels ≡ x.levels))
levels-left level x =
    ⊎_elim
    (λ (h : level < x.levels). inl (h, let e : nat_lt level x.levels ≡ true = grind arith in rw e refl))
    (λ (h : x.levels ≤ level). inr (h, let e : nat_lt level x.levels ≡ false = grind arith in rw e refl))
    (cases_lt level x.levels)

-- the levels above this one were undone
pub has-cut : (s t : View) (level : ℕ) (x : AssumptionParts) → WellFormed s → level < length s.decisions → IsCut s t level → HasAssumptions s x →
    HasAssumptions t (with_levels_to level x)
has-cut s t level x w h c a =
    let y = with_levels_to level x in
    let ds = ap (λ (z : View). length z.decisions) c.rest in
    let n = level-length s t level w h c in
    let lower : (y.levels ≤ level) × (y.levels ≤ x.levels) = ⊎_elim (λ p. let (p', e) = p in (omega (arith, e), omega (arith, e, p')))
    (λ p. let (p', e) = p in (omega (arith, e, p'), omega (arith, e))) (levels-left level x) in
    let low : y.levels ≤ level = lower.0 in
    let less : y.levels ≤ x.levels = lower.1 in
    let listed = a.listed in
    record {
      reached = omega (arith, ds, n, low);
      listed = omega (arith, listed, less);
      decided = λ j i.
          let j' : j < level = omega (arith, i, low) in
          let d = decision-cut s t level w h c j j' in
          let r = w.rising j level j' h in
          ap (λ (z : View). literal_at z (decision_at z j)) c.rest ∙ ap (literal_at (u s t level w h c)) d
          ∙ at-cut s t level w h c (decision_at s j) r ∙ a.decided j (omega (arith, i, less));
      first = ⊎_elim
          (λ (p, e). inl (omega (arith, ds, n, e)))
          (λ (p, e). ⊎_elim (λ q. absurd (omega (arith, p, q, h))) (λ q. inr (e ∙ q)) a.first)
          (levels-left level x);
      in_range = λ l i. let b = a.in_range l i in let k = c.count in omega (arith, b, k);
    }

-- Assumptions were taken out at the current level, where each decision is one of them; else there was none to take out.
module _ (s : View) (x y : AssumptionParts) (w : WellFormed s) (h : HasAssumptions s x) (t : TakesOutTrue s.values (length s.decisions) x y) where
  pub levels-stay : y.levels ≡ x.levels
  levels-stay = ap (λ (z : AssumptionParts). z.levels) t.rest

  pub deep-stays : x.levels ≡ length x.working → y.working ≡ x.working
  deep-stays e = let r = h.reached in t.none (omega (arith, e, r))

  pub has-taken : HasAssumptions s y
  has-taken =
      let e = levels-stay in
      let r = h.reached in
      let l = h.listed in
      ⊎_elim
      (λ (a : x.levels ≡ length s.decisions).
      let long = t.long (omega (arith, a, l)) in
      record {
        reached = omega (arith, e, r);
        listed = omega (arith, e, a, long);
        decided = λ j i. let j' : j < x.levels = omega (arith, i, e) in h.decided j j' ∙ sym (t.before j (omega (arith, j', a)));
        first = inl (e ∙ a);
        in_range = λ m i. h.in_range m (t.part m i);
      })
      (λ (a : x.levels ≡ length x.working).
      let q = deep-stays a in
      record {
        reached = omega (arith, e, r);
        listed = omega (arith, e, a, ap (λ (xs : List ℕ). length xs) q);
        decided = λ j i. h.decided j (omega (arith, i, e)) ∙ sym (ap (λ xs. get_or xs j 0) q);
        first = inr (e ∙ a ∙ sym (ap (λ (xs : List ℕ). length xs) q));
        in_range = λ m i. h.in_range m (t.part m i);
      })
      h.first

  pub taken-out : TakesOutImplied s x y
  taken-out =
      ⊎_elim
      (λ a. taken-implied s x y w h a t)
      (λ a. takes-same s x y (ap (λ (z : AssumptionParts). z.user) t.rest) (ap (λ (z : AssumptionParts). z.user_core) t.rest) (deep-stays a))
      h.first

  -- where none is left for a level, each has its level
  pub all-reached : length y.working ≤ length s.decisions → y.levels ≡ length y.working
  all-reached n =
      let e = levels-stay in
      let l = has-taken.listed in
      ⊎_elim
      (λ a. omega (arith, a, e, n, l))
      (λ a. e ∙ a ∙ sym (ap (λ (xs : List ℕ). length xs) (deep-stays a)))
      h.first

  -- where one is left, each decision is an assumption
  pub all-assumed : length s.decisions < length y.working → y.levels ≡ length s.decisions
  all-assumed n =
      let e = levels-stay in
      let r = h.reached in
      ⊎_elim
      (λ a. e ∙ a)
      (λ a. let q = ap (λ (xs : List ℕ). length xs) (deep-stays a) in absurd (omega (arith, a, q, n, r)))
      h.first

-- the next assumption was decided
pub has-decided : (s : View) (y : AssumptionParts) (l : Literal) → WellFormed s → HasAssumptions s y → y.levels ≡ length s.decisions →
    length s.decisions < length y.working → l ≡ get_or y.working (length s.decisions) 0 → (n : ℕ) → n ≡ length (decided_on s l).decisions →
    HasAssumptions (decided_on s l) (record y { levels = n })
has-decided s y l w h a b e n c =
    let m = length-append s.decisions (length s.trail ∷ []) in
    let t = decided_on s l in
    record {
      reached = omega (arith, c);
      listed = omega (arith, c, m, b);
      decided = λ j i.
          ⊎_elim
          (λ (k : j < length s.decisions).
          let d : decision_at t j ≡ decision_at s j = get_or_append_left s.decisions (length s.trail ∷ []) 0 j k in
          ap (literal_at t) d ∙ get_or_append_left s.trail (l ∷ []) 0 (decision_at s j) (w.decided j k).0 ∙ h.decided j (omega (arith, k, a)))
          (λ (k : length s.decisions ≤ j).
          let z : j ≡ length s.decisions = omega (arith, k, i, c, m) in
          let d : decision_at t j ≡ length s.trail = ap (decision_at t) z ∙ get_or-last s.decisions (length s.trail) 0 in
          ap (literal_at t) d ∙ get_or-last s.trail l 0 ∙ e ∙ ap (λ i. get_or y.working i 0) (sym z))
          (cases_lt j (length s.decisions));
      first = inl c;
      in_range = λ m i. let r = h.in_range m i in let q = set-count s l in omega (arith, r, q);
    }
  where
    set-count : (s : View) (l : Literal) → length (decided_on s l).values ≡ length s.values
    set-count s l = length-set s.values (variable_of l) _
