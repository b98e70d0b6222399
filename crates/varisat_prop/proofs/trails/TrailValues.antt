-- The literals of the trail, their values and their variables.
use Rattle.std.proofs.Common.{◌≡◌, ℕ, zero, suc, ◌<◌, ◌≤◌, ◌-◌, ◌^◌, List, [], ◌∷◌, length, get_or, map, inl, inr, refl, sym, ap, ◌∙◌, subst, arith}
use Rattle.std.proofs.lemmas.List.{length-map}
use Rattle.varisat_theory.specs.promises.Membership.{◌∈◌, IsDistinct}
use Rattle.varisat_theory.specs.promises.Literals.{Literal, variable_of}
use Rattle.varisat_theory.proofs.clauses.Places.{∈-get_or, place_in}
use Rattle.varisat_prop.specs.declared.prop.graph.Reason.TheVariants as reason
use Rattle.varisat_prop.specs.View.{View, IsTrueIn, literal_at, decision_at, node_of, node_at, WellFormed}
use Rattle.varisat_prop.proofs.trails.LiteralValues.{made-inside}
use Rattle.varisat_prop.proofs.pairs.DistinctPlaces.{distinct-by-places, distinct-below}

-- true literals are those of the trail
pub on-trail : (s : View) → WellFormed s → (l : Literal) → IsTrueIn s l → l ∈ s.trail
on-trail s w l h = let (k, a, e) = w.stands l h in subst (λ x. x ∈ s.trail) e (∈-get_or s.trail k 0 a)

pub trail-true : (s : View) → WellFormed s → (l : Literal) → l ∈ s.trail → IsTrueIn s l
trail-true s w l h = let (k, a, e) = place_in l s.trail 0 h in subst (IsTrueIn s) e (w.is_true k a)

-- no variable stands twice on the trail
pub variables-distinct : (s : View) → WellFormed s → IsDistinct (map variable_of s.trail)
variables-distinct s w =
    distinct-by-places (map variable_of s.trail) 0 (λ i j a b e.
    let n = length-map s.trail variable_of in
    let j' : j < length s.trail = omega (arith, b, n) in
    let i' : i < length s.trail = omega (arith, a, j') in
    let f : variable_of (literal_at s i) ≡ variable_of (literal_at s j) = sym (at-map s.trail i i') ∙ e ∙ at-map s.trail j j' in
    let g : node_at s i ≡ node_at s j = same-node (literal_at s i) (literal_at s j) f in
    let d = w.depth_is i i' in
    let d' = w.depth_is j j' in
    let h = ap (λ n. n.depth) g in omega (arith, d, d', h, a))
  where
    at-map : (xs : List ℕ) (i : ℕ) → i < length xs → get_or (map variable_of xs) i 0 ≡ variable_of (get_or xs i 0)
    at-map [] i h = absurd (omega arith)
    at-map (x ∷ xs) zero h = refl
    at-map (x ∷ xs) (suc i) h = at-map xs i (omega arith)

    same-node : (l m : Literal) → variable_of l ≡ variable_of m → node_of s l ≡ node_of s m
    same-node l m e = ap (λ v. get_or s.nodes v (record { reason = reason.Unit; level = 0; depth = 0 })) e

pub trail-short : (s : View) → WellFormed s → length s.trail ≤ length s.values
trail-short s w =
    let n = length-map s.trail variable_of in
    let d = distinct-below (map variable_of s.trail) (length s.values) (variables-distinct s w) (λ x h.
    let (l, i, e) = from-map s.trail x h in
    let (k, a, f) = place_in l s.trail 0 i in
    subst (λ v. v < length s.values) e (made-inside s.values l (subst (IsTrueIn s) f (w.is_true k a)))) in
    omega (arith, n, d)
  where
    from-map : (xs : List ℕ) (x : ℕ) → x ∈ map variable_of xs → (l : Literal) × (l ∈ xs) × (variable_of l ≡ x)
    from-map [] x h = absurd h
    from-map (y ∷ xs) x (inl e) = (y, inl refl, sym e)
    from-map (y ∷ xs) x (inr h) = let (l, i, e) = from-map xs x h in (l, inr i, e)

module _ (s : View) (w : WellFormed s) where
  behind : (j : ℕ) → j < length s.decisions → j ≤ decision_at s j
  behind zero h = omega arith
  behind (suc j) h = let a = behind j (omega (arith, h)) in let b = w.rising j (suc j) (omega arith) h in omega (arith, a, b)

  few : (n : ℕ) → n ≡ length s.decisions → n ≤ length s.trail
  few zero e = omega arith
  few (suc n) e =
      let h : n < length s.decisions = omega (arith, e) in
      let a = behind n h in
      let b = (w.decided n h).0 in
      omega (arith, a, b)

  -- there are no more decisions than literals
  pub decisions-few : length s.decisions ≤ length s.trail
  decisions-few = few (length s.decisions) refl

  -- a node has room for one level more, and for one more depth
  pub fits-node : (length s.decisions < 2 ^ 32 - 1) × (length s.trail < 2 ^ 32 - 1)
  fits-node =
      let a = decisions-few in
      let b = trail-short s w in
      let c = w.small in
      (omega (arith, a, b, c), omega (arith, b, c))
