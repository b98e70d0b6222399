-- How many names are in use, where these are the ones below a count.
use Rattle.std.specs.Prelude.{ℕ, ◌+◌, max, List, [], ◌∷◌}
use Rattle.varisat_theory.specs.promises.Literals.{Literal, variable_of}

-- how many names are in use once those of the clause are
abbrev pub count_with : ℕ → List Literal → ℕ
count_with n [] = n
count_with n (l ∷ c) = count_with (max n (variable_of l + 1)) c
