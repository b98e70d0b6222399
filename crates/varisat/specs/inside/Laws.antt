-- What holds of names as long as none is freed: they come into use in order, and each stands for the identity of its number. So a
-- user who hides nothing may read what is said over identities as said over names. What is logged and written of a core that is found.
-- And what a check of a proof's bytes returns.
use Rattle.std.specs.Prelude.{◌≡◌, ◌≢◌, Bool, true, false, ℕ, ◌+◌, ◌%◌, ◌≤◌, Option, List, [], ◌∷◌, ◌++◌, map, Result, Ok}
use Rattle.varisat_theory.specs.promises.Literals.{Literal, Clause}
use Rattle.varisat_theory.specs.promises.Propagation.{Conflicts}
use Rattle.varisat_theory.specs.promises.Derivations.{Add, Delete}
use Rattle.varisat_theory.specs.promises.Journals.{Entry, Writes, Leads, lines_of}
use Rattle.varisat_literals.specs.promises.Numbers.{variable_limit}
use Rattle.varisat_formula.specs.promises.Streams.{Taken}
use Rattle.varisat_lines.specs.declared.format.Encoding.TheVariants.{Text}
use Rattle.varisat_lines.specs.declared.format.LineKind.TheVariants.{Fails}
use Rattle.varisat_lines.specs.declared.format.ProofFormat.{ProofFormat}
use Rattle.varisat_lines.specs.declared.format.ProofFormat.TheVariants.{Marked}
use Rattle.varisat_proof.specs.declared.checker.error.CheckVerdict.{CheckVerdict}
use Rattle.varisat_proof.specs.declared.checker.error.CheckVerdict.TheVariants.{Refutation}
use Rattle.varisat_proof.specs.declared.checker.error.CheckerError.{CheckerError}
use Rattle.varisat_lines.specs.promises.Lines.{line_of_kind, has_marks}
use Rattle.varisat_proof.specs.promises.Results.{IsResult, IsAccepted}
use Rattle.varisat_lines.specs.promises.Written.{line_text}
use Rattle.varisat_lines.specs.promises.Logging.{logged_bytes}
use Rattle.varisat_proof.specs.promises.Marked.{nothing_logged, ProofState, state_of, IsCheckOf}
use Rattle.varisat_proof.specs.promises.Passing.{PassesWith}
use Rattle.varisat_tracer.specs.promises.Carried.{carry}
use Rattle.varisat_solver.specs.promises.OpenProofs.{OpenProof, entries_over}
use Rattle.varisat.specs.promises.Decided.{Conclusion}
use Rattle.varisat.specs.promises.Proven.{IsProven}
use Rattle.varisat_solver.specs.promises.Journals.{LogsMore, EndWithCore}
use Rattle.varisat_solver.specs.promises.StepEntries.{LeadsInSteps}
use Rattle.varisat_solver.specs.promises.Names.{Naming, no_names, name_one, name_all, through_names, IsLeastFree, AreInOrder}
use Rattle.varisat_solver.specs.promises.Models.{AreNamesInUse}
use Rattle.varisat_solver.specs.promises.ProofCalls.{IsProof}
use Rattle.varisat_solver.specs.promises.Calls.{IsPastLimit, HasTooManyVariables, ReturnsVerdict, IsRefuted, accept, assume, by_state}
use Rattle.varisat.specs.inside.Counts.{count_with}
use Rattle.varisat_solver.specs.promises.States.{State, Unknown, UnsatUnderAssumptions}
use Rattle.varisat.specs.promises.Pasts.{Findings, Past, IsPastJournal, by_answers}

-- Before the first call names are in order. They stay so where those of a list of literals come into use, and where the least
-- free one does, which is the one above them.
abbrev pub NamesStayInOrder : Type 0
NamesStayInOrder =
    AreInOrder 0 no_names
    × ((n : ℕ) (m : Naming) (ls : List Literal) → AreInOrder n m → AreInOrder (count_with n ls) (name_all ls m))
    × ((n : ℕ) (m : Naming) (u : ℕ) → AreInOrder n m → IsLeastFree m u → (u ≡ n) × AreInOrder (n + 1) (name_one u m))

-- A clause that is deleted and added again is no step, unless it is one that may delete learned clauses.
abbrev pub AgainIsNoStep : Type 0
AgainIsNoStep =
    (interval number : ℕ) (P : List Clause) (c : Clause) (Q : List Clause) → number % interval ≢ 0 →
    LeadsInSteps interval number 1 P (Writes (Delete c) ∷ Writes (Add c) ∷ []) Q → ⊥

-- names in order carry literals over them to themselves
abbrev pub NamesAreIdentities : Type 0
NamesAreIdentities = (n : ℕ) (m : Naming) (ls : List Literal) → AreInOrder n m → AreNamesInUse m ls →
    map (through_names m) ls ≡ ls

-- where names are in order a clause is accepted and a list assumed as it is given
abbrev pub GivenIsAccepted : Type 0
GivenIsAccepted =
    (n : ℕ) (p : Past) (v : Findings) (c : Clause) → AreInOrder n p.naming →
    ((accept c v p).clauses ≡ p.clauses ++ c ∷ []) × ((assume c v p).assumptions ≡ c)

-- and it is refused for its names only where one of these is past the limit
abbrev pub TooManyIsPastLimit : Type 0
TooManyIsPastLimit = (n : ℕ) (m : Naming) (ls : List Literal) → AreInOrder n m → n ≤ variable_limit →
    HasTooManyVariables (name_all ls m) → IsPastLimit ls

-- Where a call of `solve` finds a core, propagation over what is held then conflicts with it: the core was logged last.
abbrev pub CoresAreLogged : Type 0
CoresAreLogged =
    (s t : State) (b : Bool) (core : List Literal) (held : List Clause) → ReturnsVerdict by_state s b t →
    s.verdict ≡ Unknown →
    t.verdict ≡ UnsatUnderAssumptions core → Leads [] t.logged held → Conflicts held core

-- Where a call logs a core last, a marked proof of what was logged ends with its line.
abbrev pub CoresAreWritten : Type 0
CoresAreWritten =
    (n : ℕ) (before after : List Entry) (more : LogsMore n before after) (core : List Literal)
    (variables : ℕ → Option ℕ) (bytes : List ℕ)
    → EndWithCore core more.entries → bytes ≡ logged_bytes Marked (entries_over variables after)
    → (front : List ℕ) × (bytes ≡ front ++ line_text (line_of_kind Fails (map (carry variables) core)))

-- Where nothing was ever hidden, a check of a marked proof from no clause finds no line wrong. It reports the accepted clauses and the
-- cores, in order, each core with the number of clauses before it, up to where propagation first conflicts or all of them; and it
-- refutes where the clauses are refuted.
abbrev pub MarkedProofsPass : Type 0
MarkedProofsPass =
    (p : Past) (opened : OpenProof) (result : Result CheckVerdict CheckerError) (end : ProofState)
    → IsPastJournal p → IsProof by_answers p opened → opened.format ≡ Marked → p.ever_hidden ≡ false
    → IsCheckOf (Text true) (state_of [] nothing_logged) opened.bytes result end
    → PassesWith p.logged result end.logged × (IsRefuted by_answers Marked p → result ≡ Ok Refutation)

-- Where nothing was hidden a check of the bytes of an open proof over the accepted clauses finds that they refute, or that they are a
-- derivation and do not; so it does of the bytes that the program leaves.
pub record BytesAreAccepted : Type 0 where
  pub proof : (p : Past) (opened : OpenProof) (result : Result CheckVerdict CheckerError) (left : List Clause) →
      IsProof by_answers p opened →
      has_marks opened.format ≡ false →
      p.ever_hidden ≡ false →
      IsResult opened.format p.clauses opened.bytes result left →
      IsAccepted p.clauses (lines_of p.logged) result
  pub program : (format : ProofFormat) (P : List Clause) (c : Conclusion) (old new : Taken) (bytes : List ℕ)
      (result : Result CheckVerdict CheckerError) (left : List Clause) →
      (proven : IsProven format P c old new) →
      has_marks format ≡ false →
      new.bytes ≡ old.bytes ++ bytes →
      IsResult format P bytes result left →
      IsAccepted P (lines_of proven.logged) result
