-- Texts whose clauses a sink takes.
use Rattle.std.specs.Prelude.{◌≡◌, ℕ, List, ◌++◌, ◌⊎◌, Option, Result, Ok, Err}
use Rattle.varisat_theory.specs.promises.Literals.{Clause}
use Rattle.varisat_formula.specs.declared.dimacs.error.DimacsError.{DimacsError}
use Rattle.varisat_formula.specs.promises.Dimacs.{Reading, dimacs}
use Rattle.varisat_formula.specs.promises.Streams.{Input, Reads}
use Rattle.varisat_formula.specs.promises.Parsed.{GivesReading}

-- the first clauses of the list
abbrev pub IsBeginning : List Clause → List Clause → Type 0
IsBeginning P clauses = (rest : List Clause) × (clauses ≡ P ++ rest)

-- these clauses ended in what a source gave meanwhile, whatever comes behind
pub record GivesFirst (old : Input) (clauses : List Clause) (new : Input) : Type 0 where
  pub text : List ℕ
  pub reads : Reads old text new
  pub quiet : new.faults ≡ old.faults
  pub first : (rest : List ℕ) → IsBeginning clauses (dimacs (text ++ rest)).clauses

module _ {S E : Type 0} (takes : S → List Clause → Result (Unit {0}) E → S → Type 0) where
  -- a sink took the clauses in some calls, of which the last returned r, and those before it Ok
  pub data TakesInTurn : S → List Clause → Result (Unit {0}) E → S → Type 0 where
    InOne : {s t : S} {clauses : List Clause} {r : Result (Unit {0}) E} → takes s clauses r t →
        TakesInTurn s clauses r t
    InMore : {s t : S} {clauses : List Clause} {r : Result (Unit {0}) E} (first rest : List Clause) (mid : S) →
        first ++ rest ≡ clauses →
        takes s first (Ok tt) mid → TakesInTurn mid rest r t → TakesInTurn s clauses r t

  -- it took all clauses that a text gives, and the text's fault is returned, if there is one
  pub record TakesText (old : Input) (s : S) (fault : Option DimacsError) (new : Input) (t : S) : Type 0 where
    pub reading : Reading
    pub gives : GivesReading old reading new
    pub reported : fault ≡ reading.fault
    pub takes_all : TakesInTurn s reading.clauses (Ok tt) t

  -- it refused one of these clauses, which are all that a text gives, or the first of them
  pub record RefusesClause (old : Input) (s : S) (e : E) (new : Input) (t : S) : Type 0 where
    pub clauses : List Clause
    pub given : ((reading : Reading) × GivesReading old reading new × (reading.clauses ≡ clauses))
        ⊎ GivesFirst old clauses new
    pub takes_some : TakesInTurn s clauses (Err e) t
