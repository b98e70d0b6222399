-- The assumptions of a context, as other calls leave them.
use Rattle.std.proofs.Common.{◌≡◌, ◌≢◌, ℕ, ◌<◌, ◌≤◌, ◌⊎◌, Bool, true, Option, None, List, [], length, slice_index_or, ⊎_elim, refl, sym, ap, ◌∙◌, subst, arith}
use Rattle.std.proofs.lemmas.Bool.{cases_lt}
use Rattle.varisat_theory.specs.promises.Membership.{◌∈◌, ◌⊆◌}
use Rattle.varisat_theory.specs.promises.Literals.{Literal, variable_of}
use Rattle.varisat_prop.specs.View.{View, WellFormed}
use Rattle.varisat_prop.proofs.views.ViewGrowth.{append-nil}
use Rattle.varisat_vsids.specs.Activities.{Activities, is_available}
use Rattle.varisat_search.specs.declared.context.Context.{Context}
use Rattle.varisat_search.specs.AssumptionParts.{AssumptionParts, with_levels_to, HasAssumptions}
use Rattle.varisat_search.specs.Contexts.{view}
use Rattle.varisat_search.specs.Decisions.{AreDecidable, SameDecidable}
use Rattle.varisat_search.specs.Steps.{IsCut}
use Rattle.varisat_search.proofs.assuming.AssumptionLevels.{levels-left, has-cut, has-same-decisions}

-- those that are left may be decided as long as the same variables may be
pub still-assumable : (s : View) (a : Activities) (t : View) (b : Activities) (xs ys : List Literal) → SameDecidable s a t b → ys ⊆ xs →
    AreDecidable s a xs → AreDecidable t b ys
still-assumable s a t b xs ys same part d l h = (same (variable_of l)).0 (d l (part l h))

-- only the count of levels is another
abbrev pub IsSameList : AssumptionParts → AssumptionParts → Type 0
IsSameList x y = y ≡ record x { levels = y.levels }

pub same-list-refl : (x : AssumptionParts) → IsSameList x x
same-list-refl x = refl

pub same-list-trans : (x y z : AssumptionParts) → IsSameList x y → IsSameList y z → IsSameList x z
same-list-trans x y z p q = q ∙ ap (λ (w : AssumptionParts). record w { levels = z.levels }) p

pub same-working : (x y : AssumptionParts) → IsSameList x y → y.working ⊆ x.working
same-working x y e l h = subst (λ ws. l ∈ ws) (ap (λ (w : AssumptionParts). w.working) e) h

-- The trail, the decisions and the values stayed.
module _ {A : Type 0} (x z : Context A) (same : z.assumptions ≡ x.assumptions) (values : (view z).values ≡ (view x).values) where
  pub unmoved-assumed : WellFormed (view x) → (view z).trail ≡ (view x).trail → (view z).decisions ≡ (view x).decisions →
      HasAssumptions (view x) x.assumptions → HasAssumptions (view z) z.assumptions
  unmoved-assumed w e f a =
      let n = ap (λ (vs : List (Option Bool)). length vs) values in
      subst (HasAssumptions (view z)) (sym same)
      (has-same-decisions (view x) (view z) x.assumptions [] w (e ∙ sym (append-nil (view x).trail)) f (omega (arith, n)) a)

  pub unmoved-assumable : z.vsids ≡ x.vsids → AreDecidable (view x) x.vsids x.assumptions.working → AreDecidable (view z) z.vsids z.assumptions.working
  unmoved-assumable v a l h =
      let i = subst (λ (p : AssumptionParts). l ∈ p.working) same h in
      subst (λ (b : Activities). (slice_index_or (view z).values (variable_of l) None ≢ None) ⊎ (is_available b (variable_of l) ≡ true)) (sym v)
      (subst (λ (vs : List (Option Bool)). (slice_index_or vs (variable_of l) None ≢ None) ⊎ (is_available x.vsids (variable_of l) ≡ true))
      (sym values) (a l i))

-- The levels above this one were undone, or there were none.
module _ {A : Type 0} (level : ℕ) (old new : Context A) (same : length old.trail.decisions ≤ level → new ≡ old)
    (levels : level < length old.trail.decisions → new.assumptions ≡ with_levels_to level old.assumptions) where
  pub cut-assumed : WellFormed (view old) → (level < length old.trail.decisions → IsCut (view old) (view new) level) →
      HasAssumptions (view old) old.assumptions → HasAssumptions (view new) new.assumptions
  cut-assumed w cut a =
      ⊎_elim
      (λ (h : level < length old.trail.decisions). subst (HasAssumptions (view new)) (sym (levels h))
      (has-cut (view old) (view new) level old.assumptions w h (cut h) a))
      (λ (h : length old.trail.decisions ≤ level). subst (λ (x : Context A). HasAssumptions (view x) x.assumptions) (sym (same h)) a)
      (cases_lt level (length old.trail.decisions))

  pub cut-same-list : IsSameList old.assumptions new.assumptions
  cut-same-list =
      ⊎_elim
      (λ (h : level < length old.trail.decisions). let e = levels h in e
      ∙ ap (λ n. record old.assumptions { levels = n }) (sym (ap (λ (x : AssumptionParts). x.levels) e)))
      (λ (h : length old.trail.decisions ≤ level). let e = ap (λ (x : Context A). x.assumptions) (same h) in e
      ∙ ap (λ n. record old.assumptions { levels = n }) (sym (ap (λ (x : AssumptionParts). x.levels) e)))
      (cases_lt level (length old.trail.decisions))

  -- nothing changes where just their own levels are kept
  pub own-levels : old.assumptions.levels ≡ level → new.assumptions ≡ old.assumptions
  own-levels e =
      ⊎_elim
      (λ (h : level < length old.trail.decisions). levels h ∙ ap (λ n. record old.assumptions { levels = n })
      (⊎_elim (λ p. absurd (let i = p.0 in omega (arith, e, i))) (λ p. p.1) (levels-left level old.assumptions)))
      (λ (h : length old.trail.decisions ≤ level). ap (λ (x : Context A). x.assumptions) (same h))
      (cases_lt level (length old.trail.decisions))

-- where no decision is left, no assumption has a level
pub none-reached : (t : View) (x y : AssumptionParts) → IsSameList x y → t.decisions ≡ [] → HasAssumptions t y → y ≡ record x { levels = 0 }
none-reached t x y e d h =
    let n = ap (λ (ds : List ℕ). length ds) d in
    let r = h.reached in
    e ∙ ap (λ n. record x { levels = n }) (zero-is y.levels (omega (arith, n, r)))
  where
    zero-is : (n : ℕ) → n ≤ 0 → n ≡ 0
    zero-is n h = omega (arith, h)
