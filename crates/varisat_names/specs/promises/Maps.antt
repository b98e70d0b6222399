-- Partial maps of numbers.
use Rattle.std.specs.Prelude.{◌≡◌, ℕ, nat_eq, if◌then◌else◌, Option, Some, None}

-- the function with v at k
abbrev pub updated : {X : Type 0} → (ℕ → X) → ℕ → X → ℕ → X
updated f k v i = if nat_eq i k then v else f i

-- each map undoes the other
pub record IsInverse (f g : ℕ → Option ℕ) : Type 0 where
  pub there : (x y : ℕ) → f x ≡ Some y → g y ≡ Some x
  pub back : (x y : ℕ) → g y ≡ Some x → f x ≡ Some y

-- where the map leads on, if it came here
abbrev pub onward : {X : Type 0} → Option ℕ → (ℕ → Option X) → Option X
onward None g = None
onward (Some y) g = g y

-- f, and then g
abbrev pub chain : {X : Type 0} → (ℕ → Option ℕ) → (ℕ → Option X) → ℕ → Option X
chain f g x = onward (f x) g
