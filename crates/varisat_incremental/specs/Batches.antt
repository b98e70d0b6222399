-- Batches of clauses that are taken at once or simplified in parts.
use Rattle.std.specs.Prelude.{◌≡◌, Option, Some, None, true, List, [], ◌++◌}
use Rattle.varisat_theory.specs.promises.Literals.{Literal, Clause}
use Rattle.varisat_formula.specs.promises.Formulas.{Formula}
use Rattle.varisat_simplify.specs.inside.Parts.{Simplification, IsBegunOf, GoesOn}
use Rattle.varisat_incremental.specs.Flags.{AllClear}
use Rattle.varisat_incremental.specs.Reconstructions.{Reconstruction, no_clauses, HasTaken, KeepsValues}

-- A batch that is being simplified, and the clauses that were restored as it was begun.
pub record Batch : Type 0 where
  pub restored : List Clause
  pub simplification : Simplification

-- What was eliminated; the batch that is open, if one is; and the clauses that are to be returned of those that ended.
pub record Batches : Type 0 where
  pub reconstruction : Reconstruction
  pub open_batch : Option Batch
  pub ended : List Clause

-- nothing was taken yet
abbrev pub no_batches : Batches
no_batches = record { reconstruction = no_clauses; open_batch = None; ended = [] }

-- No batch is open, and all was returned of those that ended.
pub record IsClosed (b : Batches) : Type 0 where
  pub none_open : b.open_batch ≡ None
  pub none_ended : b.ended ≡ []

-- The batch was begun of the formula, which names no eliminated variable.
pub record IsBatchOf (f : Formula) (o : Batch) (r : Reconstruction) : Type 0 where
  pub clear : AllClear r.eliminated f.clauses
  pub begun : IsBegunOf f r.frozen true o.simplification

-- The batch is begun of the formula, and its restored clauses are some that were taken before.
pub record BeginsBatch (f : Formula) (o : Batch) (r s : Reconstruction) : Type 0 where
  pub taken : (P Q : List Clause) → HasTaken P Q r → HasTaken P (Q ++ o.restored) s
  pub batch : IsBatchOf f o s

-- A part of the simplification is done.
pub record ContinuesBatch (o p : Batch) : Type 0 where
  pub restored : p.restored ≡ o.restored
  pub simplification : GoesOn o.simplification p.simplification

-- The batch ends: behind the clauses E, which are to be returned, come those that were restored and what is left of its
-- own, which makes G.
abbrev pub EndsBatch : Batch → List Clause → List Clause → Reconstruction → Reconstruction → Type 0
EndsBatch o E G r s =
    (P Q : List Clause) (f : Formula) → HasTaken P ((Q ++ E) ++ o.restored) r → IsBatchOf f o r →
    HasTaken (P ++ f.clauses) (Q ++ G) s

-- The clauses P were taken, and Q were returned for them. Of an open batch nothing was returned yet, nor of those that
-- ended since.
pub data HasBegun (P Q : List Clause) (b : Batches) : Type 0 where
  Closed : b.open_batch ≡ None → HasTaken P (Q ++ b.ended) b.reconstruction → HasBegun P Q b
  Open : (o : Batch) (before : List Clause) (f : Formula) → b.open_batch ≡ Some o → P ≡ before ++ f.clauses →
      HasTaken before ((Q ++ b.ended) ++ o.restored) b.reconstruction → IsBatchOf f o b.reconstruction → HasBegun P Q b

-- Nothing is taken or returned.
abbrev pub KeepsBegun : Batches → Batches → Type 0
KeepsBegun b c = (P Q : List Clause) → HasBegun P Q b → HasBegun P Q c

-- Of the pending clauses F those of a batch are taken, G are pending still, and nothing is returned.
abbrev pub TakesPart : List Clause → List Clause → Batches → Batches → Type 0
TakesPart F G b c =
    (P Q : List Clause) → HasBegun P Q b → (more : List Clause) × (P ++ F ≡ more ++ G) × HasBegun more Q c

-- The open batch ends, if one is.
abbrev pub Closes : Batches → Batches → Type 0
Closes b c = (c.open_batch ≡ None) × ((P Q : List Clause) → HasBegun P Q b → HasTaken P (Q ++ c.ended) c.reconstruction)

-- What it is to take the clauses F, and the literals A that are to be assumed, so that all is returned: the clauses G.
-- Whatever assumptions come next, no extension changes the values of these until more is taken.
abbrev pub TakesAll : List Clause → List Literal → List Clause → Batches → Batches → Type 0
TakesAll F A G b c =
    (P Q : List Clause) → HasBegun P Q b →
    HasTaken (P ++ F) (Q ++ G) c.reconstruction × IsClosed c × KeepsValues A c.reconstruction.stack
