-- What the formats promise.
use Rattle.std.specs.Prelude.{◌≡◌, ℕ, List, ◌⊎◌}
use Rattle.varisat_lines.specs.declared.format.Encoding.{Encoding}
use Rattle.varisat_lines.specs.promises.Lines.{ProofLine, HasKinds}
use Rattle.varisat_lines.specs.promises.Grammar.{Accepted, Faulty, FaultAt}
use Rattle.varisat_lines.specs.promises.Written.{Written, AreInRange}

-- what is written for such lines with variables up to 2^28 is accepted for just these
abbrev pub WrittenIsAccepted : Encoding → Type 0
WrittenIsAccepted encoding = (lines : List ProofLine) (bytes : List ℕ) → HasKinds encoding lines → AreInRange lines →
    Written encoding lines bytes →
    Accepted encoding lines bytes

-- bytes are accepted for at most one list of lines
abbrev pub AcceptedOnce : Encoding → Type 0
AcceptedOnce encoding = (bytes : List ℕ) (ls ms : List ProofLine) → Accepted encoding ls bytes →
    Accepted encoding ms bytes → ls ≡ ms

-- bytes are accepted, or have a first fault
abbrev pub AcceptedOrFaulty : Encoding → Type 0
AcceptedOrFaulty encoding = (bytes : List ℕ) →
    ((lines : List ProofLine) × Accepted encoding lines bytes) ⊎ ((offset : ℕ) × FaultAt encoding bytes offset)

-- not both
abbrev pub NotBoth : Encoding → Type 0
NotBoth encoding = (bytes : List ℕ) (lines : List ProofLine) (offset : ℕ) → Accepted encoding lines bytes →
    FaultAt encoding bytes offset → ⊥

-- the first fault is at one offset, behind one list of lines
abbrev pub FaultyOnce : Encoding → Type 0
FaultyOnce encoding = (bytes : List ℕ) (ls ms : List ProofLine) (o p : ℕ) → Faulty encoding ls bytes o →
    Faulty encoding ms bytes p → (ls ≡ ms) × (o ≡ p)
