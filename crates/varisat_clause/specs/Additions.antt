-- What a store does with a clause that is to be added.
use Rattle.std.specs.Prelude.{◌≡◌, ℕ, ◌+◌, ◌^◌, ◌≤◌, ◌<◌, ◌↔◌, length, Result, IfOk, IfErr, OnErr}
use Rattle.varisat_theory.specs.promises.Literals.{Clause}
use Rattle.varisat_clause.specs.declared.alloc.StoreError.{StoreError}
use Rattle.varisat_clause.specs.declared.alloc.StoreError.TheVariants.{Full}
use Rattle.varisat_clause.specs.Headers.{Header}
use Rattle.varisat_clause.specs.Stored.{new_clause}
use Rattle.varisat_clause.specs.Stores.{Store, AddsStored}

-- The clause of the header and the literals stands behind the others. Or it was refused, and the store is as it was:
-- as full where the words would be more than 2^32 - 1, and else since a growth was refused.
pub record AddsOrRefuses (old new : Store) (header : Header) (lits : Clause)
    (result : Result ℕ StoreError) : Type 0 where
  pub added : IfOk result (λ cref. AddsStored old new (new_clause cref header lits))
  pub room : IfOk result (λ cref. length old.words + 3 + length lits < 2 ^ 32)
  pub full : IfErr result (λ error. (error ≡ Full) ↔ (2 ^ 32 ≤ length old.words + 3 + length lits))
  pub refused : OnErr result (new ≡ old)
