-- Flags that are set and cleared.
use Rattle.std.proofs.Common.{◌≡◌, ℕ, ◌+◌, ◌≤◌, Bool, List, [], ◌∷◌, length, get_or, take, inl, inr, ◌⊎◌, ⊎_elim, sym, ◌∙◌, subst}
use Rattle.varisat_theory.specs.promises.Membership.{◌∈◌}
use Rattle.varisat_theory.specs.promises.Literals.{Literal, Clause, variable_of}
use Rattle.varisat_theory.proofs.clauses.Places.{∈-take_more, ∈-take_all}
use Rattle.varisat_incremental.specs.Flags.{IsFlagged, AreFlagged, AreClear, AreAmong, AllFlagged, AllClear}

-- 1. The flags of several.

pub among-then : (f g h : List Bool) → AreAmong f g → AreAmong g h → AreAmong f h
among-then f g h a b v i = b v (a v i)

pub first-flagged : (f : List Bool) (ls : List Literal) → AreFlagged f (take 0 ls)
first-flagged f [] l i = absurd i
first-flagged f (x ∷ ls) l i = absurd i

pub first-clear : (f : List Bool) (ls : List Literal) → AreClear f (take 0 ls)
first-clear f [] l i = absurd i
first-clear f (x ∷ ls) l i = absurd i

pub next-flagged : (f g : List Bool) (ls : List Literal) (k x : ℕ) → x ≡ get_or ls k 0 → AreAmong f g → IsFlagged g (variable_of x) → AreFlagged f (take k ls) →
    AreFlagged g (take (k + 1) ls)
next-flagged f g ls k x e m here a l i = ⊎_elim
    (λ j. m (variable_of l) (a l j))
    (λ q. subst (λ y. IsFlagged g (variable_of y)) (e ∙ sym q) here)
    (∈-take_more l ls k 0 i)

pub next-clear : (f g : List Bool) (ls : List Literal) (k x : ℕ) → x ≡ get_or ls k 0 → AreAmong g f → (IsFlagged g (variable_of x) → ⊥) → AreClear f (take k ls) →
    AreClear g (take (k + 1) ls)
next-clear f g ls k x e m here a l i = ⊎_elim
    (λ j h. a l j (m (variable_of l) h))
    (λ q h. here (subst (λ y. IsFlagged g (variable_of y)) (q ∙ sym e) h))
    (∈-take_more l ls k 0 i)

pub all-flagged : (f : List Bool) (ls : List Literal) (k : ℕ) → length ls ≤ k → AreFlagged f (take k ls) → AreFlagged f ls
all-flagged f ls k h a l i = a l (∈-take_all l ls k h i)

pub all-clear : (f : List Bool) (ls : List Literal) (k : ℕ) → length ls ≤ k → AreClear f (take k ls) → AreClear f ls
all-clear f ls k h a l i = a l (∈-take_all l ls k h i)

-- 2. Those of clauses: what is left of them comes later.

abbrev pub FlaggedBut : List Bool → List Clause → List Clause → Type 0
FlaggedBut f rest P = (c : Clause) → c ∈ P → (c ∈ rest) ⊎ AreFlagged f c

abbrev pub ClearBut : List Bool → List Clause → List Clause → Type 0
ClearBut f rest P = (c : Clause) → c ∈ P → (c ∈ rest) ⊎ AreClear f c

pub flagged-next : (f g : List Bool) (rest tail P : List Clause) (d : Clause) → rest ≡ d ∷ tail → AreAmong f g → AreFlagged g d → FlaggedBut f rest P → FlaggedBut g tail P
flagged-next f g rest tail P d e m here a c i = ⊎_elim
    (λ j. ⊎_elim (λ q. inr (subst (AreFlagged g) (sym q) here)) inl (subst (λ (x : List Clause). c ∈ x) e j))
    (λ h. inr (λ l k. m (variable_of l) (h l k)))
    (a c i)

pub clear-next : (f g : List Bool) (rest tail P : List Clause) (d : Clause) → rest ≡ d ∷ tail → AreAmong g f → AreClear g d → ClearBut f rest P → ClearBut g tail P
clear-next f g rest tail P d e m here a c i = ⊎_elim
    (λ j. ⊎_elim (λ q. inr (subst (AreClear g) (sym q) here)) inl (subst (λ (x : List Clause). c ∈ x) e j))
    (λ h. inr (λ l k y. h l k (m (variable_of l) y)))
    (a c i)

pub flagged-end : (f : List Bool) (rest P : List Clause) → rest ≡ [] → FlaggedBut f rest P → AllFlagged f P
flagged-end f rest P e a c i = ⊎_elim (λ j. absurd (subst (λ (x : List Clause). c ∈ x) e j)) (λ h. h) (a c i)

pub clear-end : (f : List Bool) (rest P : List Clause) → rest ≡ [] → ClearBut f rest P → AllClear f P
clear-end f rest P e a c i = ⊎_elim (λ j. absurd (subst (λ (x : List Clause). c ∈ x) e j)) (λ h. h) (a c i)
