-- Where propagation came to its end, which `find_conflict` keeps.
use Rattle.std.proofs.Common.{◌≡◌, ◌≢◌, ℕ, ◌/◌, ◌%◌, ◌<◌, ◌≤◌, Bool, true, false, not, Option, Some, None, List, [], ◌∷◌, ◌++◌, length, get_or, take, ◌⊎◌, inl, inr, ⊎_elim, refl, sym, ap, ◌∙◌, subst, arith, length-append}
use Rattle.std.proofs.lemmas.List.{get_or_append_left, take-append-le}
use Rattle.std.proofs.lemmas.Bool.{cases_lt}
use Rattle.varisat_theory.specs.promises.Literals.{Literal, variable_of, opposite, value}
use Rattle.varisat_theory.specs.promises.Propagation.{IsComplete}
use Rattle.varisat_theory.proofs.clauses.Saturated.{complete_shorter}
use Rattle.varisat_theory.proofs.clauses.Values.{parity, variable-opposite}
use Rattle.varisat_literals.specs.promises.Numbers.{polarity_of}
use Rattle.varisat_prop.specs.Parts.{is_true_value}
use Rattle.varisat_clause.specs.Stored.{AreReordered}
use Rattle.varisat_prop.specs.View.{View, kept, IsTrueIn, decision_at, WellFormed, PropagatedBeforeDecisions, GrowsTrail}
use Rattle.varisat_prop.specs.Changes.{decided_on}
use Rattle.varisat_prop.proofs.trails.LiteralValues.{polarity-opposite}
use Rattle.varisat_prop.proofs.trails.TrailExtend.{get_or-last}
use Rattle.varisat_search.specs.Steps.{assignment_of}
use Rattle.varisat_analysis.proofs.WellFormedViews.{kept-reordered}

pub complete-reordered : (s t : View) (known : List Literal) → AreReordered s.clauses t.clauses → t.binary ≡ s.binary → IsComplete (kept s) known →
    IsComplete (kept t) known
complete-reordered s t known a b = complete_shorter (kept s) (kept t) known
    (λ d h. let (c, i, e) = kept-reordered s t a b d h in (c, i, e.0, λ m k. inl (e.1 m k)))

pub settled-grows : (s t : View) → WellFormed s → GrowsTrail s t → t.decisions ≡ s.decisions → PropagatedBeforeDecisions s → PropagatedBeforeDecisions t
settled-grows s t w g e q j h =
    let n = ap (λ (x : List ℕ). length x) e in
    let h' : j < length s.decisions = omega (arith, h, n) in
    let d = (w.decided j h').0 in
    let le : decision_at s j ≤ length s.trail = omega (arith, d) in
    let same : take (decision_at t j) t.trail ≡ take (decision_at s j) s.trail =
    ap (λ x. take (get_or x j 0) t.trail) e ∙ ap (λ x. take (decision_at s j) x) g.trail_more.1 ∙ take-append-le (decision_at s j) s.trail g.trail_more.0 le in
    subst (λ x. IsComplete (kept t) x) (sym same) (complete-reordered s t (take (decision_at s j) s.trail) g.clauses g.binary (q j h'))

pub take-whole : (xs ys : List ℕ) → take (length xs) (xs ++ ys) ≡ xs
take-whole [] [] = refl
take-whole [] (y ∷ ys) = refl
take-whole (x ∷ xs) ys = ap (λ z. x ∷ z) (take-whole xs ys)

pub settled-decided : (s : View) (l : Literal) → WellFormed s → IsComplete (kept s) s.trail → PropagatedBeforeDecisions s → PropagatedBeforeDecisions (decided_on s l)
settled-decided s l w q v j h =
    let n = length-append s.decisions (length s.trail ∷ []) in
    ⊎_elim
    (λ (p : j < length s.decisions).
    let d = (w.decided j p).0 in
    let le : decision_at s j ≤ length s.trail = omega (arith, d) in
    let e = get_or_append_left s.decisions (length s.trail ∷ []) 0 j p in
    subst (λ x. IsComplete (kept s) (take x (s.trail ++ l ∷ []))) (sym e)
    (subst (λ x. IsComplete (kept s) x) (sym (take-append-le (decision_at s j) s.trail (l ∷ []) le)) (v j p)))
    (λ (p : length s.decisions ≤ j).
    let z : j ≡ length s.decisions = omega (arith, n, h, p) in
    let e : get_or (s.decisions ++ length s.trail ∷ []) j 0 ≡ length s.trail = ap (λ x. get_or (s.decisions ++ length s.trail ∷ []) x 0) z
    ∙ get_or-last s.decisions (length s.trail) 0 in
    subst (λ x. IsComplete (kept s) (take x (s.trail ++ l ∷ []))) (sym e) (subst (λ x. IsComplete (kept s) x) (sym (take-whole s.trail (l ∷ []))) q))
    (cases_lt j (length s.decisions))

-- the assignment makes true what is true
pub makes-true : (s : View) (l : Literal) → IsTrueIn s l → value (assignment_of s) l ≡ true
unfolding value
makes-true s l t =
    ⊎_elim
    (λ h. let e : is_true_value (get_or s.values (l / 2) None) ≡ polarity_of l = ap is_true_value t in rw h (e ∙ even l h))
    (λ h. let e : is_true_value (get_or s.values (l / 2) None) ≡ polarity_of l = ap is_true_value t in rw h (ap not (e ∙ odd l h)))
    (parity l)
  where
    even : (l : ℕ) → l % 2 ≡ 0 → polarity_of l ≡ true
    even l h = rw h refl

    odd : (l : ℕ) → l % 2 ≡ 1 → polarity_of l ≡ false
    odd l h = rw h refl

-- a variable with a value makes the literal or its opposite true
pub one-true : (s : View) (l : Literal) → get_or s.values (variable_of l) None ≢ None → IsTrueIn s l ⊎ IsTrueIn s (opposite l)
one-true s l n = go (get_or s.values (variable_of l) None) (polarity_of l) n (λ e. e)
    (λ e. ap (λ v. get_or s.values v None) (variable-opposite l) ∙ e ∙ ap Some (sym (polarity-opposite l)))
  where
    go : {A B : Type 0} (o : Option Bool) (p : Bool) → o ≢ None → (o ≡ Some p → A) → (o ≡ Some (not p) → B) → A ⊎ B
    go None p n a b = absurd (n refl)
    go (Some true) true n a b = inl (a refl)
    go (Some true) false n a b = inr (b refl)
    go (Some false) true n a b = inr (b refl)
    go (Some false) false n a b = inl (a refl)
