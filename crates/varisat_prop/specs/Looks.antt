-- What propagation does.
use Rattle.std.specs.Prelude.{◌≡◌, ℕ, ◌<◌, Bool, Option, List, length, slice_index_or}
use Rattle.varisat_theory.specs.promises.Membership.{◌∈◌}
use Rattle.varisat_theory.specs.promises.Literals.{Literal, Clause, opposite, variable_of}
use Rattle.varisat_prop.specs.Parts.{IsMadeTrue}
use Rattle.varisat_prop.specs.View.{View, WellFormed, GrowsTrail}

-- The search went on without a decision. Each literal that was added has its reason, since the view is well formed; the queue's
-- head does not fall, since the view grows.
pub record Propagates (s t : View) : Type 0 where
  pub well : WellFormed t
  pub grows : GrowsTrail s t
  pub decisions : t.decisions ≡ s.decisions

-- each variable of the clause may have a value
abbrev pub IsInRange : List (Option Bool) → Clause → Type 0
IsInRange values c = (l : Literal) → l ∈ c → variable_of l < length values

-- the clause's literal at the place is false
abbrev pub IsFalseAt : List (Option Bool) → Clause → ℕ → Type 0
IsFalseAt values c i = IsMadeTrue values (opposite (slice_index_or c i 0))
