-- Clauses one behind the other in one list of literals, by where each ends.
use Rattle.std.specs.Prelude.{◌≡◌, ℕ, zero, suc, ◌≤◌, List, [], ◌∷◌, slice_range}
use Rattle.varisat_theory.specs.promises.Literals.{Literal, Clause}

-- the clauses, of which the first begins at the place
abbrev pub cut_from : ℕ → List ℕ → List Literal → List Clause
cut_from start [] ls = []
cut_from start (end ∷ ends) ls = slice_range ls start end ∷ cut_from end ends ls

-- where the clause at the index begins
abbrev pub start_of : ℕ → List ℕ → ℕ → ℕ
start_of start [] k = start
start_of start (end ∷ ends) zero = start
start_of start (end ∷ ends) (suc k) = start_of end ends k

-- none ends before it begins, and the last ends where the literals do
abbrev pub AreEnds : ℕ → List ℕ → ℕ → Type 0
AreEnds start [] size = start ≡ size
AreEnds start (end ∷ ends) size = (start ≤ end) × AreEnds end ends size
