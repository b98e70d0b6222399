-- A trail's rank is bounded, and rises where an implied literal takes a decision's place.
use Rattle.std.proofs.Common.{◌≡◌, pred, ap, ℕ, zero, suc, ◌+◌, ◌^◌, ◌<◌, ◌≤◌, Bool, true, false, List, [], ◌∷◌, ◌++◌, length, arith, pow-suc, pow_pos}
use Rattle.varisat_theory.specs.inside.Rank.{rank, with_units}

pub rank_bound : (n : ℕ) (t : List Bool) → length t ≤ n → rank n t + 2 ≤ 2 ^ suc n
rank_bound n [] h = let a = pow_pos n in let b = pow-suc 2 n in omega arith
rank_bound zero (b ∷ t) h = absurd (omega arith)
rank_bound (suc n) (true ∷ t) h =
    let short : length t ≤ n = omega arith in
    let a = rank_bound n t short in
    let b = pow-suc 2 (suc n) in
    omega arith
rank_bound (suc n) (false ∷ t) h =
    let short : length t ≤ n = omega arith in
    let a = rank_bound n t short in
    let b = pow-suc 2 (suc n) in
    let c = pow_pos (suc n) in
    omega arith

pub rank_below : (n : ℕ) (t : List Bool) → length t ≤ n → rank n t < 2 ^ suc n
rank_below n t h = let a = rank_bound n t h in omega arith

-- An implied literal in a decision's place raises the rank, whatever stands after it.
pub rank_raised : (n : ℕ) (front old new : List Bool) → length (front ++ (false ∷ old)) ≤ n → rank n (front ++ (false ∷ old)) < rank n (front ++ (true ∷ new))
rank_raised zero [] old new h = absurd (omega arith)
rank_raised zero (b ∷ front) old new h = absurd (omega arith)
rank_raised (suc n) [] old new h =
    let short : length old ≤ n = omega arith in
    let a = rank_bound n old short in
    omega arith
rank_raised (suc n) (true ∷ front) old new h =
    let short : length (front ++ (false ∷ old)) ≤ n = omega arith in
    let a = rank_raised n front old new short in
    omega arith
rank_raised (suc n) (false ∷ front) old new h =
    let short : length (front ++ (false ∷ old)) ≤ n = omega arith in
    let a = rank_raised n front old new short in
    omega arith

-- a longer trail has no smaller rank
pub rank_grows : (n : ℕ) (t u : List Bool) → rank n t ≤ rank n (t ++ u)
rank_grows n [] u = omega arith
rank_grows n (true ∷ t) u = let a = rank_grows (pred n) t u in omega arith
rank_grows n (false ∷ t) u = let a = rank_grows (pred n) t u in omega arith

-- units in front of both trails change nothing in which is the greater
pub rank_behind_units : (u n : ℕ) (a b : List Bool) → ((m : ℕ) → length a ≤ m → rank m a < rank m b) → u + length a ≤ n →
    rank n (with_units u a) < rank n (with_units u b)
rank_behind_units zero n a b r h = r n (omega (arith, h))
rank_behind_units (suc u) n a b r h = let i = rank_behind_units u (pred n) a b r (omega (arith, h)) in omega (arith, i)

-- a conflict step: the trail is lengthened, and then an implied literal takes a decision's place
pub rank_step : (n : ℕ) (trail more front old new : List Bool) → trail ++ more ≡ front ++ (false ∷ old) → length (front ++ (false ∷ old)) ≤ n →
    rank n trail < rank n (front ++ (true ∷ new))
rank_step n trail more front old new e h =
    let a = rank_grows n trail more in
    let b = rank_raised n front old new h in
    let d = ap (rank n) e in
    omega (arith, a, b, d)

-- so few steps pass between two restarts
pub rising_rank : (n : ℕ) (trail : ℕ → List Bool) (k : ℕ) → ((i : ℕ) → i < k → rank n (trail i) < rank n (trail (suc i))) → k ≤ rank n (trail k)
rising_rank n trail zero h = omega arith
rising_rank n trail (suc k) h =
    let a = rising_rank n trail k (λ i l. h i (omega arith)) in
    let b = h k (omega arith) in
    omega arith

-- one trail ranks above another over however many variables
pub rank_steady : (m n : ℕ) (a b : List Bool) → length a ≤ m → length b ≤ m → length a ≤ n → rank m a < rank m b → rank n a < rank n b
rank_steady m n [] [] f g l h = absurd (omega (arith, h))
rank_steady m n [] (true ∷ b) f g l h = let p = pow_pos n in omega (arith, p)
rank_steady m n [] (false ∷ b) f g l h = omega arith
rank_steady m n (true ∷ a) [] f g l h = absurd (omega (arith, h))
rank_steady m n (false ∷ a) [] f g l h = absurd (omega (arith, h))
rank_steady zero n (x ∷ a) (y ∷ b) f g l h = absurd (omega (arith, f))
rank_steady (suc m) zero (x ∷ a) (y ∷ b) f g l h = absurd (omega (arith, l))
rank_steady (suc m) (suc n) (true ∷ a) (true ∷ b) f g l h =
    let r = rank_steady m n a b (omega (arith, f)) (omega (arith, g)) (omega (arith, l)) (omega (arith, h)) in
    omega (arith, r)
rank_steady (suc m) (suc n) (false ∷ a) (false ∷ b) f g l h =
    let r = rank_steady m n a b (omega (arith, f)) (omega (arith, g)) (omega (arith, l)) (omega (arith, h)) in
    omega (arith, r)
rank_steady (suc m) (suc n) (true ∷ a) (false ∷ b) f g l h =
    let short : length b ≤ m = omega (arith, g) in
    let r = rank_bound m b short in
    absurd (omega (arith, r, h))
rank_steady (suc m) (suc n) (false ∷ a) (true ∷ b) f g l h =
    let short : length a ≤ n = omega (arith, l) in
    let r = rank_bound n a short in
    omega (arith, r)
