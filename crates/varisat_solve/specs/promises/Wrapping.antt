-- How a model is printed on lines of a bounded length.
use Rattle.std.specs.Prelude.{ℕ, suc, ◌-◌, nat_lt, if◌then◌else◌, List, [], ◌∷◌, ◌++◌, length, codes}
use Rattle.varisat_theory.specs.promises.Literals.{Literal}
use Rattle.varisat_literals.specs.promises.Numbers.{literal_text}

-- how many bytes a line has behind the `v` that it begins with: with that it has 78
abbrev pub line_room : ℕ
line_room = 77

-- what stands before a number of so many digits, where the line has so much room: if it has none for both, they begin the next line
abbrev pub parting : ℕ → ℕ → List ℕ
parting room digits = if nat_lt digits room then codes " " else codes "\nv "

-- the number with that before it
abbrev pub placed : ℕ → List ℕ → List ℕ
placed room number = parting room (length number) ++ number

-- how much room there is behind a number of so many digits
abbrev pub room_behind : ℕ → ℕ → ℕ
room_behind room digits = (if nat_lt digits room then room else line_room) - suc digits

-- the numbers of the literals and 0, where the line has so much room
abbrev pub wrapped_text : ℕ → List Literal → List ℕ
wrapped_text room [] = placed room (codes "0")
wrapped_text room (l ∷ ls) = placed room (literal_text l) ++ wrapped_text (room_behind room (length (literal_text l))) ls

-- what is printed where a model was found
abbrev pub wrapped_model_text : List Literal → List ℕ
wrapped_model_text model = codes "s SATISFIABLE\nv" ++ wrapped_text line_room model ++ codes "\n"
