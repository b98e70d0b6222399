-- What a call logs: entries that go on from what was logged before.
use Rattle.std.specs.Prelude.{◌≡◌, ℕ, true, false, Option, List, [], ◌∷◌, ◌++◌, map}
use Rattle.varisat_theory.specs.promises.Literals.{Literal, Clause}
use Rattle.varisat_theory.specs.promises.Journals.{Entry, Writes, Fails, Retires, Leads, LeadsBy, NoneRetires, accepted_of, lines_of, rename_entry, GoesOn}
use Rattle.varisat_theory.specs.promises.Derivations.{IsDerivation, Refutes}
use Rattle.varisat_lines.specs.declared.format.Encoding.TheVariants.{Text}
use Rattle.varisat_lines.specs.promises.Logging.{logged_lines}
use Rattle.varisat_proof.specs.promises.Proving.{ProofParts, IsLogged}
use Rattle.varisat_lines.specs.promises.Written.{AreInRange}
use Rattle.varisat_tracer.specs.promises.Carried.{carry}
use Rattle.varisat_proof.specs.promises.Assumed.{assumed_behind, CoresAreAssumed}
use Rattle.varisat_solver.specs.promises.OpenProofs.{entries_over, IsWrittenWhereOpen, HaveOwnVariables}
use Rattle.varisat_solver.specs.promises.States.{Known, State, Verdict, Unsat, UnsatUnderAssumptions}
use Rattle.varisat_solver.specs.promises.StepEntries.{GoesOnInSteps}

-- the same once more was logged
abbrev pub with_entries : {V : Type 0} → List Entry → Known V → Known V
with_entries logged s = record s { logged = logged }

-- Further entries are logged. Each is right where it stands, and n of the clauses that their lines add or fewer are neither a
-- single literal nor part of one that is held just before.
pub record LogsMore (n : ℕ) (before after : List Entry) : Type 0 where
  pub entries : List Entry
  pub joined : after ≡ before ++ entries
  pub goes : GoesOn n before entries

-- The first of the further entries are those of k steps in turn that each add a new clause, and then come others.
pub record BeginsInSteps (interval number k : ℕ) (logged es : List Entry) : Type 0 where
  pub front : List Entry
  pub back : List Entry
  pub split : es ≡ front ++ back
  pub adds : GoesOnInSteps interval number k logged front

-- No clause is accepted, nothing is assumed and no core logged: the entries are lines, and variables that leave.
abbrev pub AreDerived : List Entry → Type 0
AreDerived [] = Unit {0}
AreDerived (Writes line ∷ es) = AreDerived es
AreDerived (Retires v ∷ es) = AreDerived es
AreDerived (_ ∷ es) = ⊥

-- no line, clause, list or core: the entries are variables that leave
abbrev pub AreRetired : List Entry → Type 0
AreRetired [] = Unit {0}
AreRetired (Retires v ∷ es) = AreRetired es
AreRetired (_ ∷ es) = ⊥

-- the entries are derived, and then the core is logged, as the last entry
abbrev pub EndWithCore : List Literal → List Entry → Type 0
EndWithCore core es = (front : List Entry) × AreDerived front × (es ≡ front ++ Fails core ∷ [])

-- What steps log that come to the verdict.
abbrev pub EndBy : Verdict → List Entry → Type 0
EndBy (UnsatUnderAssumptions core) es = EndWithCore core es
EndBy _ es = AreDerived es

-- Further entries are logged, which are lines alone.
abbrev pub LogsStaying : ℕ → List Entry → List Entry → Type 0
LogsStaying n before after = (m : LogsMore n before after) × NoneRetires m.entries × AreDerived m.entries

-- An open proof, and a checker, logged the further entries, each identity as its variable.
pub record LogsToProof (variables : ℕ → Option ℕ) (before after : List Entry) (old new : ProofParts) : Type 0 where
  pub entries : List Entry
  pub joined : after ≡ before ++ entries
  pub logged : IsLogged old (map (rename_entry (carry variables)) entries) new

-- Entries are logged as variables leave, and to the proof as well.
pub record LogsRetired (variables : ℕ → Option ℕ) (before after : List Entry) (old new : ProofParts) : Type 0 where
  pub more : LogsMore 0 before after
  pub leaving : AreRetired more.entries
  pub proof : LogsToProof variables before after old new

-- What was logged is right, entry by entry, and an open proof has all of it for which its format has lines, each identity as its
-- variable: no two that have not left have the same. Its clauses are those accepted, in order, its last list is that of the
-- assumptions, and its cores are of what was assumed. It is written in numbers that a reader takes. Where nothing was ever hidden each
-- entry is written as it is, no variable leaves, and its lines are a derivation from the clauses, and under Unsat they refute them.
pub record IsJournal (s : State) : Type 0 where
  pub held : List Clause
  pub led : Leads [] s.logged held
  pub accepted : accepted_of s.logged ≡ s.clauses
  pub assumed : assumed_behind [] s.logged ≡ s.assumptions
  pub cores : CoresAreAssumed [] s.logged
  pub written : IsWrittenWhereOpen s.variables s.logged s.proof
  pub apart : HaveOwnVariables s.variables s.naming.made s.logged
  pub plain : s.ever_hidden ≡ false → entries_over s.variables s.logged ≡ s.logged
  pub stays : s.ever_hidden ≡ false → NoneRetires s.logged
  pub in_range : s.ever_hidden ≡ false → AreInRange (logged_lines (Text true) s.logged)
  pub readable : AreInRange (logged_lines (Text true) (entries_over s.variables s.logged))
  pub derives : s.ever_hidden ≡ false → IsDerivation s.clauses (lines_of s.logged)
  pub refutes : s.ever_hidden ≡ false → s.verdict ≡ Unsat → Refutes s.clauses (lines_of s.logged)

-- all of it is right, and n of the clauses that its lines add or fewer are neither a single literal nor part of one that is held just before
abbrev pub IsLoggedWithin : ℕ → List Entry → Type 0
IsLoggedWithin n logged = (held : List Clause) × LeadsBy n [] logged held
