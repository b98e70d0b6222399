-- Which answer and which new state the calls give that open and close a proof.
use Rattle.std.specs.Prelude.{◌≡◌, true, false, Option, Some, None, Result, Ok, Err}
use Rattle.varisat_theory.specs.promises.Derivations.{IsDerivation, Refutes}
use Rattle.varisat_theory.specs.promises.Journals.{lines_of}
use Rattle.varisat_formula.specs.promises.Streams.{Taken}
use Rattle.varisat_lines.specs.declared.format.Encoding.TheVariants.{Text}
use Rattle.varisat_lines.specs.declared.format.ProofFormat.{ProofFormat}
use Rattle.varisat_lines.specs.promises.Lines.{encoding_of, plain_lines, has_marks}
use Rattle.varisat_proof.specs.promises.Proving.{IsClosed}
use Rattle.varisat_lines.specs.promises.Steps.{lines_written}
use Rattle.varisat_lines.specs.promises.Logging.{logged_lines, logged_bytes}
use Rattle.varisat_lines.specs.promises.Written.{AreInRange}
use Rattle.varisat_solver.specs.promises.OpenProofs.{OpenProof, opened_state, IsOpen, first_proof, entries_over, lines_over, HaveOwnVariables}
use Rattle.varisat_solver.specs.promises.ProofBytes.{IsMarkedDerivation}
use Rattle.varisat_solver.specs.promises.States.{Known, State}
use Rattle.varisat_solver.specs.promises.Calls.{IsValid, Invalidates, IsRefusedInvalid, count_anew, Verdicts, IsRefuted, by_state}
use Rattle.varisat_solver.specs.declared.solver.SolverError.{SolverError}
use Rattle.varisat_solver.specs.declared.solver.SolverError.TheVariants.{ProofIoError, Invalid, ProofOpen, ProofTooLate}

-- the same with another open proof, or none
abbrev pub with_proof : {V : Type 0} → Option OpenProof → Known V → Known V
with_proof proof s = record s { proof = proof }

-- A proof opens before anything is accepted, and has no bytes then. Each refusal hands the target back, and changes nothing.
abbrev pub OpensProof : {V W : Type 0} → (W → Taken) → W → ProofFormat → Known V → Result (Unit {0}) (SolverError × W) →
    Known V → Type 0
OpensProof taken target format s (Ok _) t =
    IsValid s × (s.proof ≡ None) × (s.ledger.started ≡ false)
    × (t ≡ count_anew (with_proof (Some (first_proof format (taken target))) s))
OpensProof taken target format s (Err (Invalid, back)) t = (back ≡ target) × IsRefusedInvalid s t
OpensProof taken target format s (Err (ProofOpen, back)) t = (back ≡ target) × IsValid s × IsOpen s.proof × (t ≡ s)
OpensProof taken target format s (Err (ProofTooLate, back)) t =
    (back ≡ target) × IsValid s × (s.proof ≡ None) × (s.ledger.started ≡ true) × (t ≡ s)
OpensProof taken target format s (Err _) t = ⊥

-- Self checking is switched on before anything is accepted, or was so before: a checker runs inside, and steps are counted anew. No
-- other call changes whether one runs.
abbrev pub EnablesChecking : {V : Type 0} → Known V → Result (Unit {0}) SolverError → Known V → Type 0
EnablesChecking s (Ok _) t =
    IsValid s × (s.ledger.started ≡ false) × (t ≡ record s { ledger = record s.ledger { since = 0; checking = true } })
EnablesChecking s (Err Invalid) t = IsRefusedInvalid s t
EnablesChecking s (Err ProofTooLate) t = IsValid s × (s.ledger.started ≡ true) × (t ≡ s)
EnablesChecking s (Err _) t = ⊥

module _ {V : Type 0} (by : Verdicts V) where
  -- The bytes of an open proof are those of all that was logged for which its format has lines, each identity as its variable, which is
  -- its own until it leaves, in numbers that a reader takes. In DRAT these are the lines that add or delete a clause. As long as nothing
  -- was ever hidden each entry is written as it is, the lines that add or delete a clause are a derivation from the clauses, and they
  -- refute them where these are known to be unsatisfiable; and a marked proof is one of the clauses and the assumptions.
  pub record IsProof (s : Known V) (p : OpenProof) : Type 0 where
    pub written : p.bytes ≡ logged_bytes p.format (entries_over s.variables s.logged)
    pub drat : has_marks p.format ≡ false →
        p.bytes ≡ lines_written (encoding_of p.format) (plain_lines (lines_over s.variables s.logged))
    pub apart : HaveOwnVariables s.variables s.naming.made s.logged
    pub plain : s.ever_hidden ≡ false → entries_over s.variables s.logged ≡ s.logged
    pub in_range : s.ever_hidden ≡ false → AreInRange (logged_lines (Text true) s.logged)
    pub readable : AreInRange (logged_lines (Text true) (entries_over s.variables s.logged))
    pub derives : s.ever_hidden ≡ false → IsDerivation s.clauses (lines_of s.logged)
    pub refutes : s.ever_hidden ≡ false → IsRefuted by p.format s → Refutes s.clauses (lines_of s.logged)
    pub marked : s.ever_hidden ≡ false → IsMarkedDerivation s.logged s.clauses s.assumptions (IsRefuted by p.format s)

  -- so it is where a proof is open
  abbrev pub IsProofIfOpen : Known V → Type 0
  IsProofIfOpen s = (p : OpenProof) → s.proof ≡ Some p → IsProof s p

  -- The target of the open proof comes back, with the bytes of the proof behind those that it had before, and nothing where none is
  -- open; then none is open any more. It comes back too where it can't be flushed, which makes the solver invalid, and from an invalid
  -- solver, of which it is not known that the bytes are those of lines.
  abbrev pub Closes : {W : Type 0} → (W → Taken) → Known V → Result (Option W) (SolverError × W) → Known V → Type 0
  Closes taken s (Ok back) t =
      IsClosed {E = SolverError} taken (opened_state s.proof) (Ok back) × (IsValid s → IsProofIfOpen s)
      × (t ≡ count_anew (with_proof None s))
  Closes taken s (Err (ProofIoError cause, target)) t =
      IsClosed taken (opened_state s.proof) (Err (ProofIoError cause, target)) × IsProofIfOpen s
      × Invalidates 0 (with_proof None s) t
  Closes taken s (Err _) t = ⊥

-- the call `close_proof`
abbrev pub ClosesProof : {W : Type 0} → (W → Taken) → State → Result (Option W) (SolverError × W) → State → Type 0
ClosesProof taken s r t = Closes by_state taken s r t
