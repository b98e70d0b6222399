-- What a check returns of the marked proof of a journal that is right.
use Rattle.std.specs.Prelude.{◌≡◌, true, List, [], ◌∷◌, ◌++◌, Result, Ok, Err}
use Rattle.varisat_theory.specs.promises.Literals.{Clause}
use Rattle.varisat_theory.specs.promises.Propagation.{Conflicts}
use Rattle.varisat_theory.specs.promises.Journals.{Entry, Leads, NoneRetires, accepted_of}
use Rattle.varisat_lines.specs.declared.format.Encoding.TheVariants.{Text}
use Rattle.varisat_lines.specs.declared.format.ProofFormat.TheVariants.{Marked}
use Rattle.varisat_proof.specs.declared.checker.error.CheckVerdict.{CheckVerdict}
use Rattle.varisat_proof.specs.declared.checker.error.CheckVerdict.TheVariants.{Refutation, Derivation}
use Rattle.varisat_proof.specs.declared.checker.error.CheckerError.{CheckerError}
use Rattle.varisat_proof.specs.promises.Assumed.{CoresAreAssumed, cores_of}
use Rattle.varisat_proof.specs.promises.Marked.{MarkedLog, nothing_logged, ProofState, state_of, IsCheckOf}
use Rattle.varisat_lines.specs.promises.Logging.{logged_lines, logged_bytes}
use Rattle.varisat_lines.specs.promises.Written.{AreInRange}

-- what was logged leads to clauses over which propagation conflicts
abbrev pub LogsConflict : List Entry → Type 0
LogsConflict logged = (held : List Clause) × Leads [] logged held × Conflicts held []

-- so it does, and no shorter beginning of it does
pub record IsFirstConflict (logged : List Entry) : Type 0 where
  pub conflicts : LogsConflict logged
  pub first : (front : List Entry) (e : Entry) (back : List Entry) → logged ≡ front ++ e ∷ back → LogsConflict front → ⊥

-- The clauses and the cores that a check reports are those of the journal, in order, each core with the number of clauses before it.
pub record LogsAllOf (logged : List Entry) (report : MarkedLog) : Type 0 where
  pub inputs : report.inputs.clauses ≡ accepted_of logged
  pub cores : report.cores ≡ cores_of 0 logged

-- No line is wrong. Where propagation conflicts behind some beginning of the journal, the check refutes and reports all of the first
-- such; else it is a derivation, and all is reported.
abbrev pub PassesWith : List Entry → Result CheckVerdict CheckerError → MarkedLog → Type 0
PassesWith logged (Ok Refutation) report =
    (front : List Entry) × (back : List Entry) × (logged ≡ front ++ back) × IsFirstConflict front
    × LogsAllOf front report
PassesWith logged (Ok Derivation) report =
    ((front : List Entry) (back : List Entry) → logged ≡ front ++ back → LogsConflict front → ⊥)
    × LogsAllOf logged report
PassesWith logged (Err error) report = ⊥

-- So a check from no clause passes the marked proof of a journal that is right entry by entry, in which no variable leaves, whose
-- cores are of what is assumed, and whose numbers are those of variables that can be read.
abbrev pub JournalsPass : Type 0
JournalsPass =
    (logged : List Entry) (held : List Clause) (result : Result CheckVerdict CheckerError) (end : ProofState)
    → Leads [] logged held → NoneRetires logged → CoresAreAssumed [] logged →
    AreInRange (logged_lines (Text true) logged)
    → IsCheckOf (Text true) (state_of [] nothing_logged) (logged_bytes Marked logged) result end →
    PassesWith logged result end.logged
