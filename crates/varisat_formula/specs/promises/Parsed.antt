-- Texts that are read from sources.
use Rattle.std.specs.Prelude.{◌≡◌, ◌≢◌, ℕ, ◌+◌, ◌<◌, List, [], ◌∷◌, ◌++◌, ◌⊎◌, Bool, true, false, Some, None, Result, Ok, Err}
use Rattle.std.specs.List.{FoldsTo}
use Rattle.std.specs.Fn.{Mut, CalledAtMut}
use Rattle.std.specs.Borrow.{MutBor}
use Rattle.varisat_formula.specs.declared.dimacs.error.DimacsError.{DimacsError}
use Rattle.varisat_formula.specs.declared.dimacs.error.DimacsErrorKind.TheVariants.{Io, OutOfMemory}
use Rattle.varisat_formula.specs.promises.Formulas.{Formula}
use Rattle.varisat_formula.specs.promises.Streams.{Input, Reads, HasEnded}
use Rattle.varisat_formula.specs.promises.Dimacs.{Reading, is_blank, dimacs, so_far, broken, BreaksOff}
use Rattle.varisat_formula.specs.promises.Rest.{Progress, begin, gives_from, dimacs_from, AdvancesBy, KeepsToken, IsEnding, RunsOutIn, failing, fault_of}

-- Why a piece ended with the fault, and by how much the source's count of faults rose. The fault stands in the text; or memory
-- ran out at a blank of the piece; or the source failed and gave nothing.
pub data EndsInFault (p : Progress) (piece : List ℕ) (q : Progress) (e : DimacsError) (rise : ℕ) : Type 0 where
  PieceHasFault : AdvancesBy p piece q → q.reading.fault ≡ Some e → rise ≡ 0 → EndsInFault p piece q e rise
  PieceWantsRoom : RunsOutIn p piece q → q.reading.fault ≡ Some e → rise ≡ 0 → EndsInFault p piece q e rise
  SourceFailed : q.reading ≡ gives_from (BreaksOff Io) p [] → e ≡ failing p → piece ≡ [] → rise ≡ 1 →
      EndsInFault p piece q e rise

-- the reader took the next piece of the source: true, or false at its end, or a fault
pub record TakesPiece (s : Input) (p : Progress) (r : Result Bool DimacsError) (t : Input) (q : Progress) : Type 0 where
  pub piece : List ℕ
  pub reads : Reads s piece t
  pub good : (more : Bool) → r ≡ Ok more → AdvancesBy p piece q × (q.reading.fault ≡ None) × (t.faults ≡ s.faults)
  pub goes : r ≡ Ok true → (piece ≢ []) × (t.pieces < s.pieces)
  pub ends : r ≡ Ok false → (piece ≡ []) × HasEnded t
  pub bad : (e : DimacsError) → r ≡ Err e → (rise : ℕ) × EndsInFault p piece q e rise × (t.faults ≡ s.faults + rise)

-- a token ends before these bytes, which are the rest of what the source gave
abbrev pub EndsToken : List ℕ → Input → Type 0
EndsToken [] t = HasEnded t
EndsToken (b ∷ bs) t = is_blank b ≡ true

-- memory ran out behind this front of the text, where a token ends that was to be kept
pub record RunsOutAt (front rest : List ℕ) (t : Input) : Type 0 where
  pub ends : EndsToken rest t
  pub wants : KeepsToken (so_far front) (so_far (front ++ 32 ∷ []))

-- what a text gives, over what a source gave meanwhile
pub data GivesReading (s : Input) (reading : Reading) (t : Input) : Type 0 where
  -- the source ended, and this is the whole text
  Whole : (text : List ℕ) → Reads s text t → HasEnded t → t.faults ≡ s.faults → reading ≡ dimacs text →
      GivesReading s reading t
  -- the text has a fault, whatever comes behind
  FaultInText : (text : List ℕ) → Reads s text t → t.faults ≡ s.faults →
      ((rest : List ℕ) → dimacs (text ++ rest) ≡ reading) →
      reading.fault ≢ None → GivesReading s reading t
  -- the source failed behind the text
  TextFailed : (text : List ℕ) → Reads s text t → t.faults ≡ s.faults + 1 → reading ≡ broken Io text →
      GivesReading s reading t
  -- memory ran out in the reader behind this front of it
  ReaderRanOut : (front rest : List ℕ) → Reads s (front ++ rest) t → RunsOutAt front rest t → t.faults ≡ s.faults →
      reading ≡ broken OutOfMemory front → GivesReading s reading t

-- the formula or the fault is what was read
abbrev pub ReturnsReading : Reading → Result Formula DimacsError → Type 0
ReturnsReading reading (Ok f) =
    (f ≡ record { var_count = reading.highest; clauses = reading.clauses }) × (reading.fault ≡ None)
ReturnsReading reading (Err e) = reading.fault ≡ Some e

-- the formula or the fault is what the text gives
pub record Parses (s : Input) (r : Result Formula DimacsError) (t : Input) : Type 0 where
  pub reading : Reading
  pub gives : GivesReading s reading t
  pub tells : ReturnsReading reading r

-- how a source, a reader and a caller's function stand
pub record ParseState (F P : Type 0) : Type 0 where
  pub source : Input
  pub reader : P
  pub function : F

-- a piece that goes on, or a fault
abbrev pub going_on : Result (Unit {0}) DimacsError → Result Bool DimacsError
going_on (Ok u) = Ok true
going_on (Err e) = Err e

-- What reading with a caller's function goes by: how far a reader has come; the calls that the function may have, by its state,
-- the reader, what it returns, and what it leaves of both; and the errors that are made of a fault.
pub record Calling (F P E : Type 0) : Type 1 where
  pub progress : P → Progress
  pub calls : F → P → Result (Unit {0}) E → F → P → Type 0
  pub made : DimacsError → E → Type 0

-- what reading goes by with a function that may change what it keeps, and that is lent the reader
abbrev pub reading_with : {F P E : Type 0} → (P → Progress) →
    Mut F (MutBor P × Unit {0}) (Result (Unit {0}) E × (MutBor P × Unit {0})) →
    (DimacsError → E → Type 0) → Calling F P E
reading_with progress function made = record { progress = progress; calls = CalledAtMut function; made = made }

module _ {F P E : Type 0} (by : Calling F P E) where
  -- the reader takes a piece of the source, which has bytes, without a fault, and then the function returns Ok
  pub record Turn (s : ParseState F P) (piece : List ℕ) (t : ParseState F P) : Type 0 where
    pub read : P
    pub takes : TakesPiece s.source (by.progress s.reader) (Ok true) t.source (by.progress read)
    pub piece_is : takes.piece ≡ piece
    pub calls : by.calls s.function read (Ok tt) t.function t.reader

  -- the turns so far, from the beginning of a text on
  pub record Turns (source : Input) (f : F) (now : ParseState F P) : Type 0 where
    pub start : P
    pub begins : by.progress start ≡ begin
    pub pieces : List (List ℕ)
    pub turns : FoldsTo Turn (record { source = source; reader = start; function = f }) pieces now

  -- the source gives no more, and the reader ends the text
  pub record TakesEnd (s : ParseState F P) (r : Result (Unit {0}) DimacsError) (t : Input) (read : P) : Type 0 where
    pub behind : P
    pub takes : TakesPiece s.source (by.progress s.reader) (Ok false) t (by.progress behind)
    pub reads : IsEnding (by.progress s.reader) (by.progress read)
    pub answer : fault_of r ≡ (by.progress read).reading.fault
    pub over : (by.progress read).over ≡ true

  -- all of a source was read in pieces, with a turn for each, and then, behind the end, the function returned Ok once more
  pub record Finishes (source : Input) (f : F) (after : Input) (reader : P) : Type 0 where
    pub last : ParseState F P
    pub turns : Turns source f last
    pub read : P
    pub ends : TakesEnd last (Ok tt) after read
    pub whole : (by.progress read).reading ≡ dimacs_from (by.progress last.reader) []
    pub function : F
    pub calls : by.calls last.function read (Ok tt) function reader

  -- the reader took the next piece, or the end, behind these turns
  abbrev pub Takes : ParseState F P → Result (Unit {0}) DimacsError → Input → P → Type 0
  Takes s r t read = TakesPiece s.source (by.progress s.reader) (going_on r) t (by.progress read) ⊎ TakesEnd s r t read

  -- it had a fault, of which the error was made
  pub record HasFault (s : ParseState F P) (t : Input) (e : E) : Type 0 where
    pub fault : DimacsError
    pub read : P
    pub takes : Takes s (Err fault) t read
    pub made : by.made fault e

  -- it had none, and the function returned the error
  pub record IsRefused (s : ParseState F P) (t : Input) (e : E) : Type 0 where
    pub read : P
    pub takes : Takes s (Ok tt) t read
    pub function : F
    pub reader : P
    pub calls : by.calls s.function read (Err e) function reader

  -- behind some turns, the next piece or the end had a fault, or the function refused it
  pub record Refuses (source : Input) (f : F) (after : Input) (e : E) : Type 0 where
    pub last : ParseState F P
    pub turns : Turns source f last
    pub why : HasFault last after e ⊎ IsRefused last after e
