-- What is present after entries, where nothing is checked; and that clauses which a checker may hold go on as what it has.
use Rattle.std.specs.Prelude.{◌≡◌, List, [], ◌∷◌, ◌++◌}
use Rattle.varisat_theory.specs.promises.Literals.{Clause}
use Rattle.varisat_theory.specs.promises.Held.{without}
use Rattle.varisat_theory.specs.promises.Derivations.{Add, Delete, TakesOut}
use Rattle.varisat_theory.specs.promises.Journals.{Entry, Accepts, Writes, Assumes, Fails, Retires}

-- Where P is present before the entries, Q is present after them.
abbrev pub IsLeftAfter : List Clause → List Entry → List Clause → Type 0
IsLeftAfter P [] Q = P ≡ Q
IsLeftAfter P (Accepts c ∷ es) Q = IsLeftAfter (P ++ c ∷ []) es Q
IsLeftAfter P (Writes (Add c) ∷ es) Q = IsLeftAfter (P ++ c ∷ []) es Q
IsLeftAfter P (Writes (Delete c) ∷ es) Q = (R : List Clause) × TakesOut P c R × IsLeftAfter R es Q
IsLeftAfter P (Assumes a ∷ es) Q = IsLeftAfter P es Q
IsLeftAfter P (Fails core ∷ es) Q = IsLeftAfter P es Q
IsLeftAfter P (Retires v ∷ es) Q = IsLeftAfter (without v P) es Q
