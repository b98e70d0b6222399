-- By how much `conflict_step` raises the rank of the trail.
use Rattle.std.proofs.Common.{◌≡◌, ℕ, Bool, Option, List, [], ◌++◌, length, sym, ap, ◌∙◌, append_assoc, map, ◌<◌, ◌≤◌, arith}
use Rattle.varisat_prop.specs.View.{View, WellFormed, GrowsTrail, node_of, is_implied, kinds}
use Rattle.varisat_prop.proofs.views.ViewGrowth.{append-nil, kinds-more}
use Rattle.varisat_theory.specs.promises.Literals.{Literal}
use Rattle.varisat_search.specs.Steps.{SavesSome, ExtendsTrail, Remembers}
use Rattle.varisat_theory.specs.inside.Rank.{rank}
use Rattle.varisat_theory.proofs.bounds.Ranks.{rank_grows, rank_steady}
use Rattle.std.proofs.lemmas.List.{length-map}
use Rattle.varisat_prop.proofs.trails.TrailValues.{trail-short}

-- What is remembered as a search goes on.
pub extends-trans : (s t u : View) → ExtendsTrail s t → ExtendsTrail t u → ExtendsTrail s u
extends-trans s t u a b =
    let (xs, e) = a.trail_more in
    let (ys, f) = b.trail_more in
    let (ds, h) = a.decisions_more in
    let (es, i) = b.decisions_more in
    record {
      count = b.count ∙ a.count;
      is_true = b.is_true;
      trail_more = (xs ++ ys, f ∙ ap (λ (ls : List Literal). ls ++ ys) e ∙ append_assoc s.trail xs ys);
      decisions_more = (ds ++ es, i ∙ ap (λ (ns : List ℕ). ns ++ es) h ∙ append_assoc s.decisions ds es);
    }

-- the values, the trail and the decisions stay
pub extends-same : (s t : View) → WellFormed t → t.values ≡ s.values → t.trail ≡ s.trail → t.decisions ≡ s.decisions → ExtendsTrail s t
extends-same s t w e f g = record {
  count = ap (λ (vs : List (Option Bool)). length vs) e;
  is_true = w.is_true;
  trail_more = ([], f ∙ sym (append-nil s.trail));
  decisions_more = ([], g ∙ sym (append-nil s.decisions));
}

pub extends-grown : (s t : View) → WellFormed t → GrowsTrail s t → ExtendsTrail s t
extends-grown s t w g = record { count = g.count; is_true = w.is_true; trail_more = g.trail_more; decisions_more = g.decisions_more }

pub remembers-grown : (s u : View) (old new : List Bool) → WellFormed u → GrowsTrail s u → SavesSome u old new → Remembers s old new
remembers-grown s u old new w g v = (u, extends-grown s u w g, v)

pub remembers-after : (s t : View) (old new : List Bool) → ExtendsTrail s t → Remembers t old new → Remembers s old new
remembers-after s t old new x (u, e, v) = (u, extends-trans s t u x e, v)

kinds-short : (s : View) (n : ℕ) → length s.trail ≤ n → length (kinds s) ≤ n
kinds-short s n h = let b = length-map s.trail (λ l. is_implied (node_of s l)) in omega (arith, b, h)

-- the trail got longer before it learned
pub rises-longer : (s u t : View) (more : List Bool) → WellFormed s → WellFormed u → WellFormed t → kinds u ≡ kinds s ++ more →
    length u.values ≡ length s.values → length t.values ≡ length u.values → ((n : ℕ) → length u.trail ≤ n → rank n (kinds u) < rank n (kinds t)) →
    (n : ℕ) → length s.trail ≤ n → rank n (kinds s) < rank n (kinds t)
rises-longer s u t more w x y e d c r n h =
    let m = length u.values in
    let a = rank_grows m (kinds s) more in
    let b : rank m (kinds u) ≡ rank m (kinds s ++ more) = ap (rank m) e in
    let p = r m (trail-short u x) in
    let k = trail-short s w in
    let l = trail-short t y in
    rank_steady m n (kinds s) (kinds t) (kinds-short s m (omega (arith, k, d))) (kinds-short t m (omega (arith, l, c))) (kinds-short s n h)
    (omega (arith, a, b, p))

-- the search went on before it learned
pub rises-after : (s u t : View) → WellFormed s → WellFormed u → WellFormed t → GrowsTrail s u → length t.values ≡ length u.values →
    ((n : ℕ) → length u.trail ≤ n → rank n (kinds u) < rank n (kinds t)) → (n : ℕ) → length s.trail ≤ n → rank n (kinds s) < rank n (kinds t)
rises-after s u t w x y g = rises-longer s u t (map (λ l. is_implied (node_of u l)) g.trail_more.0) w x y (kinds-more s u g) g.count
