-- What contracts see of the parts.
use Rattle.std.specs.Prelude.{◌≡◌, ℕ, Bool, true, false, Option, Some, None, List, [], length, take, option_map, slice_index, slice_index_or, slice_set}
use Rattle.std.specs.Bool.{beq}
use Rattle.varisat_theory.specs.promises.Literals.{Literal, variable_of}
use Rattle.varisat_literals.specs.promises.Numbers.{polarity_of}
use Rattle.varisat_prop.specs.declared.prop.lit_value.LitValue.{LitValue}
use Rattle.varisat_prop.specs.declared.prop.lit_value.LitValue.TheVariants as lit_value

-- For each variable the value that it has, and the value that `release_lit` remembered last, false at first.
pub record Values : Type 0 where
  pub current : List (Option Bool)
  pub last : List Bool

-- no variable
abbrev pub no_values : Values
no_values = record { current = []; last = [] }

-- the variable has no value any more, and the last one that it had is the given one
abbrev pub without_value : ℕ → Bool → Values → Values
without_value v last values = record { current = slice_set values.current v None; last = slice_set values.last v last }

-- the literal's variable has the value that makes it true
abbrev pub IsMadeTrue : List (Option Bool) → Literal → Type 0
IsMadeTrue values l = slice_index_or values (variable_of l) None ≡ Some (polarity_of l)

-- what the value of its variable makes of the literal
abbrev pub value_in : List (Option Bool) → Literal → Option Bool
value_in values l = option_map (λ b. beq b (polarity_of l)) (slice_index_or values (variable_of l) None)

-- the value of a literal, where its variable makes this of it
abbrev pub literal_value : Option Bool → LitValue
literal_value None = lit_value.Unknown
literal_value (Some true) = lit_value.True
literal_value (Some false) = lit_value.False

-- the value of the opposite literal
abbrev pub negated : LitValue → LitValue
negated lit_value.Unknown = lit_value.Unknown
negated lit_value.True = lit_value.False
negated lit_value.False = lit_value.True

-- the list has each literal's value
abbrev pub AreValuesOf : List (Option Bool) → List LitValue → Type 0
AreValuesOf values told = (l : Literal) → slice_index_or told l lit_value.Unknown ≡ literal_value (value_in values l)

-- the variable has a value, and is true
abbrev pub is_true_value : Option Bool → Bool
is_true_value None = false
is_true_value (Some b) = b

-- The true literals, oldest first; how many of them were propagated; and the places of the decisions, oldest first.
pub record TrailParts : Type 0 where
  pub literals : List Literal
  pub queue_head : ℕ
  pub decisions : List ℕ

-- before the first literal
abbrev pub empty_trail : TrailParts
empty_trail = record { literals = []; queue_head = 0; decisions = [] }

-- what is left of the trail at the level, up to which it was propagated
abbrev pub backtracked : TrailParts → ℕ → TrailParts
backtracked t level =
    record t {
      literals = take (slice_index t.decisions level) t.literals;
      queue_head = slice_index t.decisions level;
      decisions = take level t.decisions;
    }

-- how many literals stand before the first decision
abbrev pub top_level_count : TrailParts → ℕ
top_level_count t = slice_index_or t.decisions 0 (length t.literals)
