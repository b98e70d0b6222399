-- What the calls of a client alone say of how its searches end.
use Rattle.std.specs.Prelude.{zero, suc, ℤ, pos, negsuc, Bool, true, false, if◌then◌else◌, List, [], ◌∷◌, ◌++◌}
use Rattle.varisat_theory.specs.promises.Literals.{Literal, Clause, IsSatisfiableWith}
use Rattle.varisat_literals.specs.promises.Numbers.{literal_numbered}
use Rattle.varisat_client.specs.declared.session.Call.{Call}
use Rattle.varisat_client.specs.declared.session.Answer.{Answer}
use Rattle.varisat_client.specs.declared.session.Call.TheVariants as call
use Rattle.varisat_client.specs.declared.session.Answer.TheVariants as answer
use Rattle.varisat_client.specs.declared.client.SearchEnd.TheVariants as end

-- The clauses that were given to their end, and what was given of the next one; the assumptions for the next search,
-- and those of the search that was begun last.
pub record Given : Type 0 where
  pub clauses : List Clause
  pub clause : List Literal
  pub assumptions : List Literal
  pub assumed : List Literal

-- before the first call
abbrev pub none_given : Given
none_given = record { clauses = []; clause = []; assumptions = []; assumed = [] }

-- whether the number is 0
abbrev pub is_zero : ℤ → Bool
is_zero (pos zero) = true
is_zero (pos (suc n)) = false
is_zero (negsuc n) = false

-- what is given once the call was made
abbrev pub give : Call → Given → Given
give (call.Add n) g =
    if is_zero n then record g { clauses = g.clauses ++ g.clause ∷ []; clause = [] }
    else record g { clause = g.clause ++ literal_numbered n ∷ [] }
give (call.Assume n) g = if is_zero n then g else record g { assumptions = g.assumptions ++ literal_numbered n ∷ [] }
give call.Begin g = record g { assumed = g.assumptions; assumptions = [] }
give _ g = g

-- A search is satisfiable only where some assignment satisfies the clauses and makes the assumptions true, and
-- unsatisfiable only where none does.
abbrev pub IsRightAnswer : Given → Answer → Type 0
IsRightAnswer g (answer.Search end.Satisfiable) = IsSatisfiableWith g.clauses g.assumed
IsRightAnswer g (answer.Search end.Unsatisfiable) = IsSatisfiableWith g.clauses g.assumed → ⊥
IsRightAnswer g _ = Unit {0}

-- so are all searches of the calls, each by what was given before it
abbrev pub AreDecided : Given → List Call → List Answer → Type 0
AreDecided g [] [] = Unit {0}
AreDecided g (c ∷ cs) (a ∷ answers) = IsRightAnswer g a × AreDecided (give c g) cs answers
AreDecided g _ _ = ⊥
