-- The DIMACS numbers of variables and literals.
use Rattle.std.specs.Prelude.{List, ℕ, ◌+◌, ◌*◌, ◌-◌, ◌/◌, ◌%◌, ◌≤◌, ◌^◌, nat_eq, if◌then◌else◌, Bool, ℤ, pos, negsuc}
use Rattle.std.specs.Fmt.{signed_decimal}
use Rattle.varisat_theory.specs.promises.Literals.{Literal}

-- how many variables a solver takes, and the highest number of a variable in DIMACS text
abbrev pub variable_limit : ℕ
variable_limit = 2 ^ 28

-- a variable's number is its index and one more
abbrev pub variable_number : ℕ → ℤ
variable_number v = pos (v + 1)

-- the variable of a number, which is positive
abbrev pub variable_numbered : ℤ → ℕ
variable_numbered (pos n) = n - 1
variable_numbered (negsuc n) = 0

-- a literal's number is its variable's, with a minus where it is negative
abbrev pub literal_number : Literal → ℤ
literal_number l = if nat_eq (l % 2) 0 then pos (l / 2 + 1) else negsuc (l / 2)

-- the literal of a number, which is not 0
abbrev pub literal_numbered : ℤ → Literal
literal_numbered (pos n) = 2 * (n - 1)
literal_numbered (negsuc n) = 2 * n + 1

-- a number that a literal has
abbrev pub IsLiteralNumber : ℤ → Type 0
IsLiteralNumber (pos n) = (1 ≤ n) × (n ≤ 0x8000_0000)
IsLiteralNumber (negsuc n) = n + 1 ≤ 0x8000_0000

-- whether the literal is its variable itself
abbrev pub polarity_of : Literal → Bool
polarity_of l = nat_eq (l % 2) 0

-- a number as it is printed, in decimal digits with a minus in front of a negative one
abbrev pub number_text : ℤ → List ℕ
number_text n = signed_decimal n

-- how a variable and a literal are written
abbrev pub variable_text : ℕ → List ℕ
variable_text v = number_text (variable_number v)

-- a literal as its DIMACS number
abbrev pub literal_text : Literal → List ℕ
literal_text l = number_text (literal_number l)
