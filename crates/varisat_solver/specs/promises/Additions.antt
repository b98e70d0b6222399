-- Clauses that are added in turn, from lists and from DIMACS CNF texts, as one clause is.
use Rattle.std.specs.Prelude.{◌≡◌, ◌≢◌, List, [], ◌∷◌, ◌⊎◌, Option, Some, None, Result, Ok, Err}
use Rattle.varisat_theory.specs.promises.Literals.{Clause}
use Rattle.varisat_formula.specs.declared.dimacs.error.DimacsError.{DimacsError}
use Rattle.varisat_formula.specs.declared.dimacs.error.DimacsErrorKind.TheVariants as kind
use Rattle.varisat_formula.specs.promises.Dimacs.{Reading}
use Rattle.varisat_formula.specs.promises.Streams.{Input}
use Rattle.varisat_formula.specs.promises.Parsed.{GivesReading}
use Rattle.varisat_formula.specs.promises.TakenTexts.{GivesFirst}
use Rattle.varisat_solver.specs.promises.States.{Known}
use Rattle.varisat_solver.specs.promises.Calls.{IsValid, IsRefusedInvalid, Invalidates, count_anew, Verdicts, TakesOne}
use Rattle.varisat_solver.specs.declared.solver.SolverError.{SolverError}
use Rattle.varisat_solver.specs.declared.solver.SolverError.TheVariants as error

module _ {V : Type 0} (by : Verdicts V) where
  -- the clauses in turn, up to the first refusal; those before it stay
  abbrev pub AddsAll : Known V → List Clause → Result (Unit {0}) SolverError → Known V → Type 0
  AddsAll s [] r t = (r ≡ Ok tt) × (t ≡ s)
  AddsAll s (c ∷ P) r t =
      ((mid : Known V) × TakesOne by s c (Ok tt) mid × AddsAll mid P r t)
      ⊎ ((e : SolverError) × (r ≡ Err e) × TakesOne by s c (Err e) t)

  -- a list of clauses is added; also where it is empty steps are counted anew then
  pub data AddsList (s : Known V) (P : List Clause) (r : Result (Unit {0}) SolverError) (t : Known V) : Type 0 where
    AllAdded : IsValid s → (mid : Known V) → AddsAll s P (Ok tt) mid → r ≡ Ok tt → t ≡ count_anew mid → AddsList s P r t
    OneRefused : IsValid s → (e : SolverError) → r ≡ Err e → AddsAll s P (Err e) t → AddsList s P r t
    RefusedAtOnce : r ≡ Err error.Invalid → IsRefusedInvalid s t → AddsList s P r t

  -- How a text's fault is returned, if there is one; else steps are counted anew. Memory that ran out in the reader is returned as in any
  -- call, and any other fault changes nothing.
  pub data ReturnsFault (fault : Option DimacsError) (s : Known V) (r : Result (Unit {0}) SolverError)
      (t : Known V) : Type 0 where
    NoFault : fault ≡ None → r ≡ Ok tt → t ≡ count_anew s → ReturnsFault fault s r t
    MemoryFault : (e : DimacsError) → fault ≡ Some e → e.kind ≡ kind.OutOfMemory → r ≡ Err error.OutOfMemory →
        Invalidates 0 s t → ReturnsFault fault s r t
    Fault : (e : DimacsError) → fault ≡ Some e → e.kind ≢ kind.OutOfMemory → r ≡ Err (error.Dimacs e) → t ≡ s →
        ReturnsFault fault s r t

  -- The clauses that a text gives are added in turn: the first refusal is returned, or else the text's fault, behind all clauses that ended before it.
  pub data AddsReading (s : Known V) (reading : Reading) (r : Result (Unit {0}) SolverError)
      (t : Known V) : Type 0 where
    ClauseRefused : (e : SolverError) → r ≡ Err e → AddsAll s reading.clauses (Err e) t → AddsReading s reading r t
    ClausesAdded : (mid : Known V) → AddsAll s reading.clauses (Ok tt) mid → ReturnsFault reading.fault mid r t →
        AddsReading s reading r t

  -- A text is added that a source gives. An invalid solver refuses it, and reads nothing.
  pub data AddsText (s : Known V) (old : Input) (r : Result (Unit {0}) SolverError) (new : Input)
      (t : Known V) : Type 0 where
    Read : IsValid s → (reading : Reading) → GivesReading old reading new → AddsReading s reading r t →
        AddsText s old r new t
    -- a clause is refused that ended in what the source gave, whatever comes behind
    RefusedEarly : IsValid s → (ended : List Clause) → GivesFirst old ended new → (e : SolverError) → r ≡ Err e →
        AddsAll s ended (Err e) t →
        AddsText s old r new t
    Unread : r ≡ Err error.Invalid → IsRefusedInvalid s t → new ≡ old → AddsText s old r new t
