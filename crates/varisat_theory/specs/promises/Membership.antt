-- Lists read as sets.
use Rattle.std.specs.Prelude.{◌≡◌, List, [], ◌∷◌, ◌⊎◌}

infix 50 ◌∈◌
infix 50 ◌⊆◌
-- x is an element of the list
abbrev pub ◌∈◌ : {X : Type 0} → X → List X → Type 0
x ∈ [] = ⊥
x ∈ (y ∷ ys) = (x ≡ y) ⊎ (x ∈ ys)

-- each element of the first list is one of the second
abbrev pub ◌⊆◌ : {X : Type 0} → List X → List X → Type 0
◌⊆◌ {X} xs ys = (x : X) → x ∈ xs → x ∈ ys

-- the same elements, however often each stands and in whatever order
abbrev pub SameSet : {X : Type 0} → List X → List X → Type 0
SameSet xs ys = (xs ⊆ ys) × (ys ⊆ xs)

-- no element stands twice
abbrev pub IsDistinct : {X : Type 0} → List X → Type 0
IsDistinct [] = Unit {0}
IsDistinct (x ∷ xs) = (x ∈ xs → ⊥) × IsDistinct xs
