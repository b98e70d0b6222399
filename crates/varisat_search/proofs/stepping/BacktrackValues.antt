-- What `backtrack` remembers of the values that are taken away.
use Rattle.std.proofs.Common.{◌≡◌, ◌≢◌, ℕ, ◌+◌, ◌<◌, ◌≤◌, true, false, length, get_or, set, ⊎_elim, refl, sym, ap, ◌∙◌, arith, get_or-set_same, get_or-set_other, length-set, Bool, Some, None, List}
use Rattle.std.proofs.lemmas.Bool.{cases_lt}
use Rattle.varisat_theory.specs.promises.Literals.{variable_of}
use Rattle.varisat_theory.proofs.clauses.Members.{equal_or_not}
use Rattle.varisat_prop.specs.View.{View, literal_at, decision_at, WellFormed}
use Rattle.varisat_prop.proofs.trails.LiteralValues.{made-inside}
use Rattle.varisat_vsids.specs.Activities.{Activities, is_available, with_available}
use Rattle.varisat_search.specs.Decisions.{MakesAvailable}
use Rattle.varisat_literals.specs.promises.Numbers.{polarity_of}
use Rattle.varisat_prop.specs.Parts.{IsMadeTrue}
use Rattle.varisat_search.specs.Steps.{Saves}
use Rattle.varisat_search.proofs.stepping.Backtrack.{Cutting}
use Rattle.varisat_analysis.proofs.WellFormedViews.{same-place}

-- What backtracking makes available.

-- the variables of the places from p to k are available
pub record Making (s : View) (a now : Activities) (p k : ℕ) : Type 0 where
  pub rest : now ≡ record a { available = now.available }
  pub count : length now.available ≡ length a.available
  pub left : (j : ℕ) → p ≤ j → j < k → is_available now (variable_of (literal_at s j)) ≡ true
  pub stays : (v : ℕ) → ((j : ℕ) → p ≤ j → j < k → variable_of (literal_at s j) ≢ v) → is_available now v ≡ is_available a v

pub making-start : (s : View) (a : Activities) (p : ℕ) → Making s a a p p
making-start s a p = record { rest = refl; count = refl; left = λ j x y. absurd (omega (arith, x, y)); stays = λ v h. refl }

pub making-step : (s : View) (a now : Activities) (p k v : ℕ) → WellFormed s → length a.available ≡ length s.values → p ≤ k → k < length s.trail →
    v ≡ variable_of (literal_at s k) → Making s a now p k → Making s a (with_available v true now) p (k + 1)
making-step s a now p k v w n b h e m =
    let inside : v < length now.available = let i = made-inside s.values (literal_at s k) (w.is_true k h) in let c = m.count in omega (arith, i, n, c, e) in
    record {
      rest = ap (λ (x : Activities). with_available v true x) m.rest;
      count = length-set now.available v true ∙ m.count;
      left = λ j x y. ⊎_elim
          (λ i. ap (λ u. get_or (set now.available v true) u false) i ∙ get_or-set_same now.available v true false inside)
          (λ o. get_or-set_other now.available v (variable_of (literal_at s j)) true false o
          ∙ m.left j x (⊎_elim (λ z. z) (λ z. let q : j ≡ k = omega (arith, z, y) in
          absurd (o (ap (λ u. variable_of (literal_at s u)) q ∙ sym e))) (cases_lt j k)))
          (equal_or_not (variable_of (literal_at s j)) v);
      stays = λ u o. get_or-set_other now.available v u true false (λ f. o k b (omega arith) (sym e ∙ sym f)) ∙ m.stays u (λ j x y. o j x (omega (arith, y)));
    }

pub making-end : (s : View) (level k : ℕ) (a now : Activities) → k ≡ length s.trail → Making s a now (decision_at s level) k → MakesAvailable s level a now
making-end s level k a now n m = record {
  rest = m.rest;
  count = m.count;
  left = λ v (j, x, y, e). ap (is_available now) (sym e) ∙ m.left j x (omega (arith, y, n));
  stays = λ v h. m.stays v (λ j x y e. h (j, x, omega (arith, y, n), e));
}

-- the variables of the places from p to k have the values that they had as their last
pub record Saving (s : View) (last now : List Bool) (p k : ℕ) : Type 0 where
  pub count : length now ≡ length last
  pub left : (j : ℕ) → p ≤ j → j < k → get_or s.values (variable_of (literal_at s j)) None ≡ Some (get_or now (variable_of (literal_at s j)) false)
  pub stays : (v : ℕ) → ((j : ℕ) → p ≤ j → j < k → variable_of (literal_at s j) ≢ v) → get_or now v false ≡ get_or last v false

pub saving-start : (s : View) (last : List Bool) (p : ℕ) → Saving s last last p p
saving-start s last p = record { count = refl; left = λ j a b. absurd (omega (arith, a, b)); stays = λ v h. refl }

-- a literal whose place was not come to is still true
pub still-true : (s t : View) (p k l : ℕ) → WellFormed s → p ≤ k → k < length s.trail → l ≡ literal_at s k → Cutting s t p k → IsMadeTrue t.values l
still-true s t p k l w a b e c =
    let same : variable_of l ≡ variable_of (literal_at s k) = ap variable_of e in
    c.stays (variable_of l) (λ j f g h. let z = same-place s w j k (omega (arith, g, b)) b (h ∙ same) in omega (arith, z, g))
    ∙ ap (λ v. get_or s.values v None) same ∙ w.is_true k b ∙ ap (λ m. Some (polarity_of m)) (sym e)

pub saving-step : (s t : View) (last now : List Bool) (p k l : ℕ) → WellFormed s → p ≤ k → k < length s.trail → l ≡ literal_at s k →
    length now ≡ length t.values → Cutting s t p k → Saving s last now p k → Saving s last (set now (variable_of l) (polarity_of l)) p (k + 1)
saving-step s t last now p k l w a b e n c d =
    let same : variable_of l ≡ variable_of (literal_at s k) = ap variable_of e in
    let inside : variable_of l < length now = let i = made-inside s.values (literal_at s k) (w.is_true k b) in let m = c.count in
    omega (arith, i, m, n, same) in
    let had : get_or s.values (variable_of l) None ≡ Some (polarity_of (literal_at s k)) = ap (λ v. get_or s.values v None) same ∙ w.is_true k b in
    let value : polarity_of l ≡ polarity_of (literal_at s k) = ap polarity_of e in
    record {
      count = length-set now (variable_of l) (polarity_of l) ∙ d.count;
      left = λ j f g. ⊎_elim
          (λ h. ap (λ v. get_or s.values v None) h ∙ had ∙ ap Some (sym value)
          ∙ ap Some (sym (ap (λ v. get_or (set now (variable_of l) (polarity_of l)) v false) h
          ∙ get_or-set_same now (variable_of l) (polarity_of l) false inside)))
          (λ m. d.left j f (⊎_elim (λ o. o)
          (λ o. let z : j ≡ k = omega (arith, o, g) in absurd (m (ap (λ x. variable_of (literal_at s x)) z ∙ sym same))) (cases_lt j k))
          ∙ ap Some (sym (get_or-set_other now (variable_of l) (variable_of (literal_at s j))
          (polarity_of l) false m)))
          (equal_or_not (variable_of (literal_at s j)) (variable_of l));
      stays = λ v h. get_or-set_other now (variable_of l) v (polarity_of l) false
          (λ f. h k a (omega arith) (sym same ∙ sym f)) ∙ d.stays v (λ j f g. h j f (omega (arith, g)));
    }

pub saving-end : (s : View) (level k : ℕ) (last now : List Bool) → k ≡ length s.trail → Saving s last now (decision_at s level) k → Saves s level last now
saving-end s level k last now n d = record {
  count = d.count;
  left = λ v (j, a, b, e). ap (λ x. get_or s.values x None) (sym e) ∙ d.left j a (omega (arith, b, n)) ∙ ap (λ x. Some (get_or now x false)) e;
  stays = λ v h. d.stays v (λ j a b e. h (j, a, omega (arith, b, n), e));
}
