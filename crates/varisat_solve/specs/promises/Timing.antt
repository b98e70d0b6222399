-- What a limit of the time does to a run: all is as if the steps had been limited that were allowed when it was spent.
use Rattle.std.specs.Prelude.{◌≡◌, ◌≤◌, ◌⊎◌, ℕ, Bool, if◌then◌else◌, Option, Some, None}
use Rattle.varisat_formula.specs.promises.Streams.{Input, Taken}
use Rattle.varisat.specs.promises.Decided.{allowed_steps}
use Rattle.varisat_solve.specs.declared.options.ProgramOptions.{ProgramOptions}
use Rattle.varisat_solve.specs.declared.options.Simplification.TheVariants.{Never}
use Rattle.varisat_solve.specs.promises.Solving.{SolvesFirst}

-- the options; or, once the time is spent, those that let nothing be simplified and no step be made
abbrev pub options_left : ProgramOptions → Bool → ProgramOptions
options_left o is_spent =
    if is_spent
    then record o { search = record o.search { max_steps = Some 0 }; simplification = Never }
    else o

-- a limit of steps becomes another one: it allows no more, and is the same unless the time is limited
abbrev pub IsLimitInTime : Option ℕ → Option ℕ → Option ℕ → Type 0
IsLimitInTime max_seconds old new =
    (allowed_steps new ≤ allowed_steps old) × (max_seconds ≡ None → new ≡ old)

-- The options that a run is kept to which is asked for others: the same unless the time is limited. Else no more steps are allowed, and
-- no step is where nothing is simplified though that was asked for. All others are the same.
pub record IsInTime (asked kept : ProgramOptions) : Type 0 where
  pub unlimited : asked.max_seconds ≡ None → kept ≡ asked
  pub limit : allowed_steps kept.search.max_steps ≤ allowed_steps asked.search.max_steps
  pub simplification : (kept.simplification ≡ asked.simplification)
      ⊎ ((kept.simplification ≡ Never) × (allowed_steps kept.search.max_steps ≡ 0))
  pub others : kept
      ≡ record asked {
        search = record asked.search { max_steps = kept.search.max_steps };
        simplification = kept.simplification;
      }

-- What the program's `solve` does: what it does by the options to which the time keeps it.
abbrev pub SolvesInTime : {W : Type 0} → (W → Taken) → ProgramOptions → Input → Input → Option W → Option W → Taken →
    Taken → ℕ → Type 0
SolvesInTime taken asked old new target back before printed status =
    (kept : ProgramOptions) × IsInTime asked kept × SolvesFirst taken kept old new target back before printed status
