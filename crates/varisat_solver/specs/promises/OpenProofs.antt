-- What a user can know of an open proof, and what a call makes of it.
use Rattle.std.specs.Prelude.{◌≡◌, ℕ, ◌+◌, ◌<◌, Bool, true, false, Option, Some, None, List, [], ◌++◌, map}
use Rattle.varisat_theory.specs.promises.Membership.{◌∈◌}
use Rattle.varisat_theory.specs.promises.Derivations.{Line}
use Rattle.varisat_theory.specs.promises.Renaming.{rename_line}
use Rattle.varisat_formula.specs.promises.Streams.{Taken}
use Rattle.varisat_theory.specs.promises.Journals.{Entry, Retires, lines_of, rename_entry}
use Rattle.varisat_lines.specs.declared.format.ProofFormat.{ProofFormat}
use Rattle.varisat_lines.specs.promises.Lines.{has_marks}
use Rattle.varisat_lines.specs.promises.Logging.{logged_bytes}
use Rattle.varisat_proof.specs.promises.Proving.{OpenState}
use Rattle.varisat_tracer.specs.promises.Carried.{carry}

-- `format`: how its lines are written. `faults`: how often the target failed in all. `first`: the bytes that the target had when
-- the proof was opened, and `bytes`: those since then. `searched`: whether `solve` was called since it was opened.
pub record OpenProof : Type 0 where
  pub format : ProofFormat
  pub faults : ℕ
  pub first : List ℕ
  pub bytes : List ℕ
  pub searched : Bool

-- what holds the proof, if one is open: its target took what it had before, and the bytes of the proof
abbrev pub opened_state : Option OpenProof → Option OpenState
opened_state None = None
opened_state (Some p) =
    Some
    (record {
      format = p.format;
      taken = record { bytes = p.first ++ p.bytes; faults = p.faults };
      searched =
          p.searched;
    })

-- a proof is open
abbrev pub IsOpen : Option OpenProof → Type 0
IsOpen proof = (p : OpenProof) × (proof ≡ Some p)

-- The proof bars further clauses: `solve` was called under it, and its format has no lines for them.
abbrev pub BarsClauses : Option OpenProof → Type 0
BarsClauses proof = (p : OpenProof) × (proof ≡ Some p) × (p.searched ≡ true) × (has_marks p.format ≡ false)

-- it bars assumptions: its format has no lines for them
abbrev pub BarsAssumptions : Option OpenProof → Type 0
BarsAssumptions proof = (p : OpenProof) × (proof ≡ Some p) × (has_marks p.format ≡ false)

-- the entries that were logged, as a proof logs them
abbrev pub entries_over : (ℕ → Option ℕ) → List Entry → List Entry
entries_over variables logged = map (rename_entry (carry variables)) logged

-- the lines that were logged, as a proof writes them
abbrev pub lines_over : (ℕ → Option ℕ) → List Entry → List Line
lines_over variables logged = map (rename_line (carry variables)) (lines_of logged)

-- the identity was made, and was not logged as gone
abbrev pub IsThere : ℕ → List Entry → ℕ → Type 0
IsThere made logged i = (i < made) × (Retires i ∈ logged → ⊥)

-- Each identity that was made and has not left has a variable of its own.
pub record HaveOwnVariables (variables : ℕ → Option ℕ) (made : ℕ) (logged : List Entry) : Type 0 where
  pub present : (i : ℕ) → IsThere made logged i → (x : ℕ) × (variables i ≡ Some x)
  pub apart : (i j x : ℕ) → IsThere made logged i → IsThere made logged j → variables i ≡ Some x →
      variables j ≡ Some x → i ≡ j

-- The bytes are those of all that was logged for which the format has lines, each identity as its variable: before a proof opens
-- nothing of that kind is logged.
abbrev pub IsWrittenAs : (ℕ → Option ℕ) → List Entry → OpenProof → Type 0
IsWrittenAs variables logged p = p.bytes ≡ logged_bytes p.format (entries_over variables logged)

-- so it is where a proof is open
abbrev pub IsWrittenWhereOpen : (ℕ → Option ℕ) → List Entry → Option OpenProof → Type 0
IsWrittenWhereOpen variables logged None = Unit {0}
IsWrittenWhereOpen variables logged (Some p) = IsWrittenAs variables logged p

-- What holds the proof fits what a user knows of it.
pub record ProofFits (opened : Option OpenState) (variables : ℕ → Option ℕ) (logged : List Entry)
    (proof : Option OpenProof) : Type 0 where
  pub same : opened ≡ opened_state proof
  pub written : IsWrittenWhereOpen variables logged proof

-- A proof that is open stays so, with further bytes.
abbrev pub GoesOnWriting : Option OpenProof → Option OpenProof → Type 0
GoesOnWriting None new = new ≡ None
GoesOnWriting (Some p) new = (more : List ℕ) × (new ≡ Some (record p { bytes = p.bytes ++ more }))

-- A proof that is open stays so, with further bytes, and its target failed so many times more. Where none is open none failed.
abbrev pub GoesOnFailing : ℕ → Option OpenProof → Option OpenProof → Type 0
GoesOnFailing faults None new = (new ≡ None) × (faults ≡ 0)
GoesOnFailing faults (Some p) new =
    (more : List ℕ) × (new ≡ Some (record p { bytes = p.bytes ++ more; faults = p.faults + faults }))

-- the open proof, if any, as one under which `solve` was called
abbrev pub searched_under : Option OpenProof → Option OpenProof
searched_under None = None
searched_under (Some p) = Some (record p { searched = true })

-- a proof that was just opened: its target has what it had
abbrev pub first_proof : ProofFormat → Taken → OpenProof
first_proof format taken =
    record { format = format; faults = taken.faults; first = taken.bytes; bytes = []; searched = false }
