-- The numbers by which a C program is given how a search ended, and why calls are refused.
use Rattle.std.specs.Prelude.{◌≡◌, ℕ, Option, Some, None}
use Rattle.varisat_client.specs.declared.client.SearchEnd.{SearchEnd}
use Rattle.varisat_client.specs.declared.client.SearchEnd.TheVariants.{Satisfiable, Unsatisfiable, Interrupted, Refused}
use Rattle.varisat_client.specs.declared.refusal.Refusal.{Refusal}
use Rattle.varisat_client.specs.declared.refusal.Refusal.TheVariants.{OutOfMemory, VariableLimit, ClauseStoreFull}
use Rattle.varisat_client.specs.promises.Pasts.{ClientPast, IsSearchEnd}

-- the number of an end
abbrev pub end_code : SearchEnd → ℕ
end_code Satisfiable = 10
end_code Unsatisfiable = 20
end_code Interrupted = 0
end_code Refused = 1

-- the number of a reason, if there is one
abbrev pub refusal_code : Option Refusal → ℕ
refusal_code None = 0
refusal_code (Some OutOfMemory) = 1
refusal_code (Some VariableLimit) = 2
refusal_code (Some ClauseStoreFull) = 3

-- the search that the number speaks of moves the past so
abbrev pub SearchesBy : ℕ → ClientPast → ClientPast → Type 0
SearchesBy code p q = (end : SearchEnd) × (code ≡ end_code end) × IsSearchEnd end p q
