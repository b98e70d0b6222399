-- Entries of a journal that steps log: each step adds a clause that is new to what was held as the step began.
use Rattle.std.specs.Prelude.{◌≡◌, ◌≢◌, ℕ, zero, suc, ◌+◌, ◌%◌, List, [], ◌∷◌, ◌++◌, ◌⊎◌}
use Rattle.varisat_theory.specs.promises.Membership.{◌∈◌, ◌⊆◌}
use Rattle.varisat_theory.specs.promises.Literals.{Literal, Clause, variable_of}
use Rattle.varisat_theory.specs.promises.Derivations.{Add}
use Rattle.varisat_theory.specs.promises.Counted.{IsNew}
use Rattle.varisat_theory.specs.promises.Journals.{Entry, Writes, Retires, Leads}
use Rattle.varisat_theory.specs.promises.NewClauses.{LeadsToNew}

-- The entries of the step with the number lead from P to Q, and a line adds a clause that is new to what is held just before, and is
-- still held in Q. It is new to P as well, unless the number is a multiple of the interval: such a step may delete learned clauses first.
pub record LeadsInStep (interval number : ℕ) (P : List Clause) (es : List Entry) (Q : List Clause) : Type 0 where
  pub adds : LeadsToNew P es Q
  pub is_new : number % interval ≢ 0 → IsNew P adds.clause

-- The entries are those of k steps in turn, of which the first has the number.
abbrev pub LeadsInSteps : ℕ → ℕ → ℕ → List Clause → List Entry → List Clause → Type 0
LeadsInSteps interval number zero P es Q = (es ≡ []) × (P ≡ Q)
LeadsInSteps interval number (suc k) P es Q =
    (first last : List Entry) × (R : List Clause) × (es ≡ first ++ last) × LeadsInSteps interval number k P first R
    × LeadsInStep interval (number + k) R last Q

-- Whatever the entries logged so far lead to from no clauses, the further ones lead on from it, as those of k steps.
abbrev pub GoesOnInSteps : ℕ → ℕ → ℕ → List Entry → List Entry → Type 0
GoesOnInSteps interval number k logged es =
    (held : List Clause) → Leads [] logged held → (after : List Clause) × LeadsInSteps interval number k held es after

-- Of each clause of P a part is among Q, or a literal of it is of a variable that leaves by one of the entries.
abbrev pub KeepsParts : List Entry → List Clause → List Clause → Type 0
KeepsParts es P Q = (c : Clause) → c ∈ P →
    ((d : Clause) × (d ∈ Q) × (d ⊆ c)) ⊎ ((l : Literal) × (l ∈ c) × (Retires (variable_of l) ∈ es))

-- so it is where the further entries lead
abbrev pub GoesOnKeeping : List Entry → List Entry → Type 0
GoesOnKeeping logged es = (held after : List Clause) → Leads [] logged held → Leads held es after →
    KeepsParts es held after

-- The entries are those of k steps, or of a part of one, which keeps parts of all clauses unless learned ones may be deleted in it.
abbrev pub LogsInSteps : ℕ → ℕ → ℕ → List Entry → List Entry → Type 0
LogsInSteps interval number zero logged es = number % interval ≢ 0 → GoesOnKeeping logged es
LogsInSteps interval number (suc k) logged es = GoesOnInSteps interval number (suc k) logged es

-- the variable of the literal has not left by one of the entries
abbrev pub HasStayed : List Entry → Literal → Type 0
HasStayed logged l = Retires (variable_of l) ∈ logged → ⊥

-- `are` holds of each literal of the clauses that lines add
abbrev pub SpeakOfAdded : (Literal → Type 0) → List Entry → Type 0
SpeakOfAdded are [] = Unit {0}
SpeakOfAdded are (Writes (Add c) ∷ es) = ((l : Literal) → l ∈ c → are l) × SpeakOfAdded are es
SpeakOfAdded are (_ ∷ es) = SpeakOfAdded are es
