-- Literals as the numbers of 32 bits by which a caller is given them.
use Rattle.std.specs.Prelude.{ℕ, ◌-◌, ◌^◌, nat_eq, if◌then◌else◌, true, ℤ, pos, List, map}
use Rattle.varisat_theory.specs.promises.Literals.{Literal, literal_of}
use Rattle.varisat_literals.specs.promises.Numbers.{literal_number}

-- A literal's number. That of the last variable of all is 2^31, which such a number can't be: it is returned as 0, and
-- no solver has it.
abbrev pub returned_number : Literal → ℤ
returned_number l = if nat_eq l (2 ^ 32 - 2) then pos 0 else literal_number l

-- the numbers of a list
abbrev pub returned_numbers : List Literal → List ℤ
returned_numbers ls = map returned_number ls

-- the numbers of the variables of a list
abbrev pub returned_names : List ℕ → List ℤ
returned_names us = map (λ u. returned_number (literal_of u true)) us
