-- Restart points, and units in front of a trail.
use Rattle.std.proofs.Common.{◌≡◌, ℕ, zero, suc, ◌+◌, ◌-◌, ◌*◌, ◌^◌, ◌<◌, ◌≤◌, Bool, true, false, List, ◌∷◌, ◌++◌, sym, ap, ◌∙◌, arith, length, replicate, length-append, append_assoc, mul-le-mul_left, pow_pos}
use Rattle.std.proofs.lemmas.List.{length-replicate}
use Rattle.varisat_theory.specs.inside.Rank.{rank, with_units}
use Rattle.varisat_theory.specs.inside.Luby.{luby, sum_from, saturated, restart_point, walk_at}
use Rattle.varisat_theory.specs.promises.CallBounds.{CallSetting, call_point}
use Rattle.varisat_theory.proofs.bounds.Ranks.{rank_below, rank_raised}
use Rattle.varisat_theory.proofs.bounds.Luby.{sum_from-split}
use Rattle.varisat_theory.proofs.bounds.LubyWalk.{walk-luby}

saturated_sum : (x y : ℕ) → saturated (x + y) ≡ saturated (saturated x + saturated y)
saturated_sum x y = omega arith

sum_next : (i r : ℕ) → sum_from luby i (suc r) ≡ sum_from luby i r + luby (i + r)
sum_next i r =
    let a : suc r ≡ r + 1 = omega arith in
    let b = ap (sum_from luby i) a in
    let c = sum_from-split luby i r 1 in
    omega (arith, b, c)

scaled_next : (scale i r : ℕ) → scale * sum_from luby i (suc r) ≡ scale * sum_from luby i r + scale * luby (i + r)
scaled_next scale i r = let a = ap (λ x. scale * x) (sum_next i r) in omega (arith, a)

pub luby_positive : (i : ℕ) → 0 < luby (suc i)
luby_positive i = let a = walk-luby i in let b = pow_pos (walk_at i).exponent in omega (arith, a, b)

pub point_zero : (scale : ℕ) → restart_point scale 0 ≡ 0
point_zero scale = omega arith

one_more : (i : ℕ) → 1 + i ≡ suc i
one_more i = omega arith

pub point_next : (scale i : ℕ) → restart_point scale (suc i) ≡ saturated (restart_point scale i + saturated (scale * luby (suc i)))
point_next scale i =
    ap saturated (scaled_next scale 1 i) ∙ saturated_sum (scale * sum_from luby 1 i) (scale * luby (1 + i))
    ∙ ap (λ t. saturated (restart_point scale i + saturated (scale * luby t))) (one_more i)

pub point_rises : (scale i : ℕ) → 0 < scale → restart_point scale i < 2 ^ 64 - 1 → restart_point scale i < restart_point scale (suc i)
point_rises scale i h l =
    let p = luby_positive i in
    let m = mul-le-mul_left scale p in
    let e = scaled_next scale 1 i in
    let o = ap (λ t. scale * luby t) (one_more i) in
    omega (arith, m, e, o)

pub call_point_zero : (c : CallSetting) → call_point c 0 ≡ saturated c.first
call_point_zero c = let e : c.first + c.scale * 0 ≡ c.first = omega arith in ap saturated e

pub call_point_next : (c : CallSetting) (i : ℕ) → call_point c (suc i) ≡ saturated (call_point c i + saturated (c.scale * luby (suc c.term + i)))
call_point_next c i =
    let a = scaled_next c.scale (suc c.term) i in
    let b : c.first + c.scale * sum_from luby (suc c.term) (suc i) ≡ (c.first + c.scale * sum_from luby (suc c.term) i) + c.scale * luby
    (suc c.term + i) = omega (arith, a) in
    ap saturated b ∙ saturated_sum (c.first + c.scale * sum_from luby (suc c.term) i) (c.scale * luby (suc c.term + i))

pub call_point_first : (c : CallSetting) (i : ℕ) → c.first ≡ 0 → c.term ≡ 0 → call_point c i ≡ restart_point c.scale i
call_point_first c i f t =
    let a = ap (λ j. c.scale * sum_from luby (suc j) i) t in
    let e : c.first + c.scale * sum_from luby (suc c.term) i ≡ c.scale * sum_from luby 1 i = omega (arith, a, f) in
    ap saturated e

replicate_sum : (u v : ℕ) → replicate u true ++ replicate v true ≡ replicate (u + v) true
replicate_sum zero v = let e : v ≡ 0 + v = omega arith in ap (λ n. replicate n true) e
replicate_sum (suc u) v = let e : suc (u + v) ≡ suc u + v = omega arith in ap (λ l. true ∷ l) (replicate_sum u v) ∙ ap (λ n. replicate n true) e

pub units_first : (u v : ℕ) (trail : List Bool) → with_units u (with_units v trail) ≡ with_units (u + v) trail
units_first u v trail = sym (append_assoc (replicate u true) (replicate v true) trail) ∙ ap (λ l. l ++ trail) (replicate_sum u v)

pub length_with_units : (u : ℕ) (trail : List Bool) → length (with_units u trail) ≡ u + length trail
length_with_units u trail = let a = length-append (replicate u true) trail in let b = length-replicate u true in omega (arith, a, b)

pub units_below : (n u : ℕ) (trail : List Bool) → u + length trail ≤ n → rank n (with_units u trail) < 2 ^ suc n
units_below n u trail h = rank_below n (with_units u trail) (let e = length_with_units u trail in omega (arith, e))

pub units_raised : (n u : ℕ) (front old new : List Bool) → u + length (front ++ (false ∷ old)) ≤ n →
    rank n (with_units u (front ++ (false ∷ old))) < rank n (with_units u (front ++ (true ∷ new)))
units_raised n u front old new h =
    let a = append_assoc (replicate u true) front (false ∷ old) in
    let b = append_assoc (replicate u true) front (true ∷ new) in
    let c = length_with_units u (front ++ (false ∷ old)) in
    let l : length ((replicate u true ++ front) ++ (false ∷ old)) ≤ n = let d = ap length a in omega (arith, c, d, h) in
    let r = rank_raised n (replicate u true ++ front) old new l in
    let p = ap (rank n) a in
    let q = ap (rank n) b in
    omega (arith, r, p, q)
