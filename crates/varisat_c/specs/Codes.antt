-- The numbers by which a C program is given a number or a refusal.
use Rattle.std.specs.Prelude.{◌≡◌, ℕ, ◌-◌, ◌^◌, min, ℤ, pos, ◌-ℤ◌, Result, Ok, Err}
use Rattle.varisat_literals.specs.promises.Numbers.{variable_number}
use Rattle.varisat_calls.specs.Callers.{Caller, NamesNew}
use Rattle.varisat_calls.specs.Texts.{EndsGivenText}

-- a variable's number, or the opposite of a refusal's
abbrev pub variable_answer : Result ℕ ℕ → ℤ
variable_answer (Ok u) = variable_number u
variable_answer (Err n) = pos 0 -ℤ pos n

-- a count, or the opposite of a refusal's number; counts end at 2^63-1
abbrev pub count_answer : Result ℕ ℕ → ℤ
count_answer (Ok n) = pos (min n (2 ^ 63 - 1))
count_answer (Err n) = pos 0 -ℤ pos n

-- the number speaks of the variable that came into use
abbrev pub NamesBy : Caller → ℤ → Caller → Type 0
NamesBy g n h = (r : Result ℕ ℕ) × (n ≡ variable_answer r) × NamesNew g r h

-- the number speaks of the text that ended
abbrev pub AnswersEnd : Caller → ℤ → Caller → Type 0
AnswersEnd g n h = (r : Result ℕ ℕ) × (n ≡ count_answer r) × EndsGivenText g r h
