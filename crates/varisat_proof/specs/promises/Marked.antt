-- Lines of all kinds: what each makes of the clauses that are present and of what was logged, and where a check of them stops.
use Rattle.std.specs.Prelude.{◌≡◌, ℕ, suc, List, [], ◌∷◌, ◌++◌, length, Option, Some, None, Result, Ok, Err, ◌⊎◌}
use Rattle.varisat_theory.specs.promises.Membership.{◌⊆◌}
use Rattle.varisat_theory.specs.promises.Literals.{Literal, Clause}
use Rattle.varisat_theory.specs.promises.Propagation.{Conflicts, Follows}
use Rattle.varisat_theory.specs.promises.Derivations.{TakesOut}
use Rattle.varisat_plain.specs.promises.Checking.{IsAbsent}
use Rattle.varisat_formula.specs.promises.Formulas.{Formula, no_clauses, with_one_more}
use Rattle.varisat_lines.specs.declared.format.Encoding.{Encoding}
use Rattle.varisat_lines.specs.declared.format.LineKind.{LineKind}
use Rattle.varisat_lines.specs.declared.format.LineKind.TheVariants.{Adds, Deletes, Accepts, Assumes, Fails}
use Rattle.varisat_proof.specs.declared.checker.line.LineStatus.{LineStatus}
use Rattle.varisat_proof.specs.declared.checker.line.LineStatus.TheVariants.{Unproved, Absent, Unassumed}
use Rattle.varisat_proof.specs.declared.checker.error.CheckVerdict.{CheckVerdict}
use Rattle.varisat_proof.specs.declared.checker.error.CheckVerdict.TheVariants.{Refutation, Derivation}
use Rattle.varisat_proof.specs.declared.checker.error.CheckerError.{CheckerError}
use Rattle.varisat_proof.specs.declared.checker.error.CheckerError.TheVariants.{CheckFailed, NoSuchClause, CoreNotAssumed, Parse}
use Rattle.varisat_lines.specs.promises.Lines.{ProofLine, step_number}
use Rattle.varisat_lines.specs.promises.Means.{BytesMean}

-- 1. One line.
-- What marked lines log: the list that is assumed, the clauses that were given, and the cores, each with the number of clauses before it.
pub record MarkedLog : Type 0 where
  pub assumed : List Literal
  pub inputs : Formula
  pub cores : List (ℕ × List Literal)

-- before the first line
abbrev pub nothing_logged : MarkedLog
nothing_logged = record { assumed = []; inputs = no_clauses; cores = [] }

-- the clauses that are present, and what was logged
pub record ProofState : Type 0 where
  pub present : List Clause
  pub logged : MarkedLog

-- both together
abbrev pub state_of : List Clause → MarkedLog → ProofState
state_of present logged = record { present = present; logged = logged }

-- A line is taken, after which t is there: an added clause follows, a deletion takes a clause out, a given clause joins as it is,
-- a list replaces the one before, a core is assumed and conflicts.
abbrev pub TakesKind : ProofState → LineKind → Clause → ProofState → Type 0
TakesKind s Adds c t = Follows s.present c × (t ≡ record s { present = s.present ++ c ∷ [] })
TakesKind s Deletes c t = (R : List Clause) × TakesOut s.present c R × (t ≡ record s { present = R })
TakesKind s Accepts c t =
    t ≡ state_of (s.present ++ c ∷ []) (record s.logged { inputs = with_one_more s.logged.inputs c })
TakesKind s Assumes ls t = t ≡ state_of s.present (record s.logged { assumed = ls })
TakesKind s Fails ls t =
    (ls ⊆ s.logged.assumed) × Conflicts s.present ls
    × (t ≡ state_of s.present (record s.logged { cores = s.logged.cores ++ (length s.logged.inputs.clauses, ls) ∷ [] }))

-- the line is right, and leads from one state to the other
abbrev pub Takes : ProofState → ProofLine → ProofState → Type 0
Takes s line t = TakesKind s line.kind line.clause t

-- a line is wrong: what it adds does not follow, it deletes what is absent, its core is not assumed, or is assumed and does not conflict
abbrev pub IsWrongKind : ProofState → LineKind → Clause → LineStatus → Type 0
IsWrongKind s Adds c Unproved = Follows s.present c → ⊥
IsWrongKind s Deletes c Absent = IsAbsent s.present c
IsWrongKind s Fails ls Unassumed = ls ⊆ s.logged.assumed → ⊥
IsWrongKind s Fails ls Unproved = (ls ⊆ s.logged.assumed) × (Conflicts s.present ls → ⊥)
IsWrongKind s kind c status = ⊥

-- the line is wrong, and in this way
abbrev pub IsWrongBy : ProofState → ProofLine → LineStatus → Type 0
IsWrongBy s line status = IsWrongKind s line.kind line.clause status

-- 2. Lines.
-- Which lines are taken, and what is there then; and which are wrong, and how.
pub record Rules : Type 1 where
  pub takes : ProofState → ProofLine → ProofState → Type 0
  pub wrong : ProofState → ProofLine → LineStatus → Type 0

-- these ones
abbrev pub strict_rules : Rules
strict_rules = record { takes = Takes; wrong = IsWrongBy }

-- By these rules the lines are taken one after the other, and before none of them propagation conflicts.
abbrev pub GoesBy : Rules → ProofState → List ProofLine → ProofState → Type 0
GoesBy rules s [] t = s ≡ t
GoesBy rules s (line ∷ lines) t =
    (Conflicts s.present [] → ⊥) × (r : ProofState) × rules.takes s line r × GoesBy rules r lines t

-- so they are by the strict rules
abbrev pub Goes : ProofState → List ProofLine → ProofState → Type 0
Goes s lines t = GoesBy strict_rules s lines t

-- The lines are taken one after the other, also those before which propagation conflicts.
abbrev pub TakesAll : ProofState → List ProofLine → ProofState → Type 0
TakesAll s [] t = s ≡ t
TakesAll s (line ∷ lines) t = (r : ProofState) × Takes s line r × TakesAll r lines t

-- behind so many lines the next one is looked at, is wrong, and has this number
abbrev pub StopsBeforeBy : Rules → LineStatus → ℕ → ProofState → List ProofLine → ℕ → Type 0
StopsBeforeBy rules status before t [] step = ⊥
StopsBeforeBy rules status before t (line ∷ lines) step =
    (Conflicts t.present [] → ⊥) × rules.wrong t line status × (step ≡ step_number (suc before))

-- Where a check stops that was handed lines up to a fault of the bytes, has taken so many of them, and has these before it: as soon as
-- propagation conflicts it only reads on.
abbrev pub StopsCheckBy : Rules → Option ℕ → ℕ → ProofState → List ProofLine → Result CheckVerdict CheckerError → Type 0
StopsCheckBy rules fault before t back (Ok Refutation) = (fault ≡ None) × Conflicts t.present []
StopsCheckBy rules fault before t back (Ok Derivation) = (fault ≡ None) × (back ≡ []) × (Conflicts t.present [] → ⊥)
StopsCheckBy rules fault before t back (Err (CheckFailed step)) = StopsBeforeBy rules Unproved before t back step
StopsCheckBy rules fault before t back (Err (NoSuchClause step)) = StopsBeforeBy rules Absent before t back step
StopsCheckBy rules fault before t back (Err (CoreNotAssumed step)) = StopsBeforeBy rules Unassumed before t back step
StopsCheckBy rules fault before t back (Err (Parse offset)) =
    (fault ≡ Some offset) × (Conflicts t.present [] ⊎ ((back ≡ []) × (Conflicts t.present [] → ⊥)))
StopsCheckBy rules fault before t back (Err error) = ⊥

-- both by the strict rules
abbrev pub StopsBefore : LineStatus → ℕ → ProofState → List ProofLine → ℕ → Type 0
StopsBefore status before t back step = StopsBeforeBy strict_rules status before t back step

abbrev pub StopsCheck : Option ℕ → ℕ → ProofState → List ProofLine → Result CheckVerdict CheckerError → Type 0
StopsCheck fault before t back result = StopsCheckBy strict_rules fault before t back result

-- 3. Bytes.
-- The lines in front of the bytes' first fault, that fault, and how many of the lines are taken from s on to t; and what the check
-- returns there.
pub record IsCheckBy (rules : Rules) (encoding : Encoding) (s : ProofState) (bytes : List ℕ)
    (result : Result CheckVerdict CheckerError) (t : ProofState)
    : Type 0 where
  pub lines : List ProofLine
  pub fault : Option ℕ
  pub means : BytesMean encoding bytes lines fault
  pub front : List ProofLine
  pub back : List ProofLine
  pub splits : lines ≡ front ++ back
  pub goes : GoesBy rules s front t
  pub stops : StopsCheckBy rules fault (length front) t back result

-- the same by the strict rules
abbrev pub IsCheckOf : Encoding → ProofState → List ℕ → Result CheckVerdict CheckerError → ProofState → Type 0
IsCheckOf encoding s bytes result t = IsCheckBy strict_rules encoding s bytes result t

-- all bytes have one result from a state on, and what was logged then is one thing too
abbrev pub CheckOnceBy : Rules → Encoding → Type 0
CheckOnceBy rules encoding =
    (s : ProofState) (bytes : List ℕ) (r q : Result CheckVerdict CheckerError) (t u : ProofState)
    → IsCheckBy rules encoding s bytes r t → IsCheckBy rules encoding s bytes q u → (r ≡ q) × (t.logged ≡ u.logged)

-- so it is by the strict rules
abbrev pub CheckOnce : Encoding → Type 0
CheckOnce encoding = CheckOnceBy strict_rules encoding

-- A check from s on that finds no line wrong. It stops behind the first lines behind which propagation conflicts, and refutes; or it
-- comes to the end of all, where it does not conflict.
abbrev pub GoesThrough : ProofState → List ProofLine → Result CheckVerdict CheckerError → ProofState → Type 0
GoesThrough s lines (Ok Refutation) t =
    (front : List ProofLine) × (back : List ProofLine) × (lines ≡ front ++ back) × Goes s front t
    × Conflicts t.present []
GoesThrough s lines (Ok Derivation) t = Goes s lines t × (Conflicts t.present [] → ⊥)
GoesThrough s lines (Err error) t = ⊥

-- Where all lines that the bytes mean are right one after the other, a check finds none wrong, whichever of the present clauses that
-- are equal as sets its deletions take out; and if propagation conflicts behind them it refutes.
abbrev pub CheckGoesThrough : Encoding → Type 0
CheckGoesThrough encoding =
    (s : ProofState) (bytes : List ℕ) (lines : List ProofLine) (u : ProofState) (r : Result CheckVerdict CheckerError)
    (t : ProofState)
    → BytesMean encoding bytes lines None → TakesAll s lines u → IsCheckOf encoding s bytes r t
    → GoesThrough s lines r t × (Conflicts u.present [] → r ≡ Ok Refutation)
