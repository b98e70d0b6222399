-- The numbers by which callers name formats, settings and modes, and by which they are given answers.
use Rattle.std.specs.Prelude.{ℕ, nat_eq, if◌then◌else◌, Bool, true, false, Option, Some, None, Result, Ok, Err}
use Rattle.varisat_names.specs.declared.config.ConfigField.{ConfigField}
use Rattle.varisat_names.specs.declared.config.ConfigField.TheVariants.{VsidsDecay, ClauseActivityDecay, ReduceLocalsInterval, ReduceMidsInterval, LubyRestartIntervalScale, RestartGlue}
use Rattle.varisat_names.specs.declared.variables.data.SamplingMode.{SamplingMode}
use Rattle.varisat_names.specs.declared.variables.data.SamplingMode.TheVariants.{Sample, Witness, Hide}
use Rattle.varisat_lines.specs.declared.format.ProofFormat.{ProofFormat}
use Rattle.varisat_lines.specs.declared.format.ProofFormat.TheVariants.{Drat, BinaryDrat, Marked}
use Rattle.varisat_solver.specs.promises.Refusals.{refusal_number}
use Rattle.varisat_solver.specs.declared.solver.SolverError.{SolverError}

-- the setting of a number, if it is one of a setting
abbrev pub field_numbered : ℕ → Option ConfigField
field_numbered n =
    if nat_eq n 0 then Some VsidsDecay else
    (if nat_eq n 1 then Some ClauseActivityDecay else
    (if nat_eq n 2 then Some ReduceLocalsInterval else
    (if nat_eq n 3 then Some ReduceMidsInterval else
    (if nat_eq n 4 then Some LubyRestartIntervalScale else
    (if nat_eq n 5 then Some RestartGlue else None)))))

-- the format of a number
abbrev pub format_numbered : ℕ → Option ProofFormat
format_numbered n =
    if nat_eq n 0 then Some Drat else
    (if nat_eq n 1 then Some BinaryDrat else
    (if nat_eq n 2 then Some Marked else None))

-- the mode of a number
abbrev pub mode_numbered : ℕ → Option SamplingMode
mode_numbered n =
    if nat_eq n 0 then Some Sample else
    (if nat_eq n 1 then Some Witness else
    (if nat_eq n 2 then Some Hide else None))

-- the number of an answer: 0, or that of its refusal
abbrev pub answer_number : Result (Unit {0}) SolverError → ℕ
answer_number (Ok _) = 0
answer_number (Err e) = refusal_number e

-- the number of an answer of `solve`: 10 where the clauses are satisfiable under the assumptions, 20 where they are not
abbrev pub verdict_number : Result Bool SolverError → ℕ
verdict_number (Ok true) = 10
verdict_number (Ok false) = 20
verdict_number (Err e) = refusal_number e

-- the same answer, with the number of its refusal in place of it
abbrev pub numbered : {X : Type 0} → Result X SolverError → Result X ℕ
numbered (Ok x) = Ok x
numbered (Err e) = Err (refusal_number e)
