-- The lines of a proof: what is present after them, and when they are a derivation.
use Rattle.std.specs.Prelude.{◌≡◌, List, [], ◌∷◌, ◌++◌}
use Rattle.varisat_theory.specs.promises.Membership.{◌∈◌, SameSet}
use Rattle.varisat_theory.specs.promises.Literals.{Literal, Clause}
use Rattle.varisat_theory.specs.promises.Propagation.{Conflicts, Follows}

-- a line of a proof adds a clause or deletes one
pub data Line : Type 0 where
  Add : Clause → Line
  Delete : Clause → Line

-- `after` is `before` without one clause that is equal to c as a set
abbrev pub TakesOut : List Clause → Clause → List Clause → Type 0
TakesOut before c after =
    (front : List Clause) × (d : Clause) × (back : List Clause) × (before ≡ front ++ (d ∷ back)) × SameSet d c
    × (after ≡ front ++ back)

-- Where P is present before the lines, Q is present after them: an added clause joins at the end, and a deletion takes out one
-- clause that is equal as a set, and must find one.
abbrev pub IsPresentAfter : List Clause → List Line → List Clause → Type 0
IsPresentAfter P [] Q = P ≡ Q
IsPresentAfter P (Add c ∷ lines) Q = IsPresentAfter (P ++ (c ∷ [])) lines Q
IsPresentAfter P (Delete c ∷ lines) Q = (R : List Clause) × TakesOut P c R × IsPresentAfter R lines Q

-- each clause that a line adds follows from what is present before that line
abbrev pub AddsWhatFollows : List Clause → List Line → Type 0
AddsWhatFollows P lines = (front back : List Line) (c : Clause) (Q : List Clause) → lines ≡ front ++ (Add c ∷ back) →
    IsPresentAfter P front Q → Follows Q c

-- each deletion names a present clause, and each added clause follows
abbrev pub IsDerivation : List Clause → List Line → Type 0
IsDerivation P lines = ((Q : List Clause) × IsPresentAfter P lines Q) × AddsWhatFollows P lines

-- a beginning of the lines is a derivation, after which propagation over what is present conflicts
abbrev pub Refutes : List Clause → List Line → Type 0
Refutes P lines =
    (front back : List Line) × (Q : List Clause) × (lines ≡ front ++ back) × IsDerivation P front
    × IsPresentAfter P front Q × Conflicts Q []

-- The lines are a derivation from P, after which Q is present: the same line by line.
abbrev pub Derives : List Clause → List Line → List Clause → Type 0
Derives P [] Q = P ≡ Q
Derives P (Add c ∷ lines) Q = Follows P c × Derives (P ++ (c ∷ [])) lines Q
Derives P (Delete c ∷ lines) Q = (R : List Clause) × TakesOut P c R × Derives R lines Q

-- `are` holds of each literal of the clauses that the lines add or delete
abbrev pub SpeakOf : (Literal → Type 0) → List Line → Type 0
SpeakOf are [] = Unit {0}
SpeakOf are (Add c ∷ lines) = ((l : Literal) → l ∈ c → are l) × SpeakOf are lines
SpeakOf are (Delete c ∷ lines) = ((l : Literal) → l ∈ c → are l) × SpeakOf are lines
