-- What a search is once it forgets variables: `gone` says of each variable whether it leaves.
use Rattle.std.specs.Prelude.{◌≡◌, ◌≢◌, ◌↔◌, ◌⊎◌, ℕ, Bool, false, not, None, List, [], length, slice_index_or}
use Rattle.std.specs.List.{filter, list_any}
use Rattle.varisat_theory.specs.promises.Membership.{◌∈◌}
use Rattle.varisat_theory.specs.promises.Literals.{Literal, Clause, variable_of}
use Rattle.varisat_theory.specs.promises.Searches.{Search}
use Rattle.varisat_prop.specs.Leaving.{leaves, staying, cleared, AreRenumbered}
use Rattle.varisat_prop.specs.View.{View, kept}
use Rattle.varisat_analysis.specs.Flags.{IsFlagged}
use Rattle.varisat_vsids.specs.Activities.{Activities}

-- no literal is of a variable that leaves
abbrev pub AreStaying : List Bool → List Literal → Type 0
AreStaying gone ls = (l : Literal) → l ∈ ls → leaves gone (variable_of l) ≡ false

-- The variables that leave have no value any more, and their literals are not on the trail. Of what stays there only the places changed.
pub record IsWithout (gone : List Bool) (s t : View) : Type 0 where
  pub nodes : AreRenumbered (staying gone s.trail) s.nodes t.nodes
  pub rest : t
      ≡ record s {
        values = cleared gone None s.values;
        trail = staying gone s.trail;
        queue_head =
            length (staying gone s.trail);
        nodes = t.nodes;
      }

-- the variables that leave have activity 0 and are not available
abbrev pub forgotten_activities : List Bool → Activities → Activities
forgotten_activities gone a =
    record a { activity = cleared gone 0 a.activity; available = cleared gone false a.available }

-- the search without the literals of variables that leave
abbrev pub search_without : List Bool → Search → Search
search_without gone x = record x { fixed = staying gone x.fixed; proved = staying gone x.proved }

-- the clauses that name no variable that leaves
abbrev pub clauses_without : List Bool → List Clause → List Clause
clauses_without gone P = filter (λ c. not (list_any (λ l. leaves gone (variable_of l)) c)) P

-- one of the clauses names the variable
abbrev pub IsMentioned : List Clause → ℕ → Type 0
IsMentioned P v = (c : Clause) × (c ∈ P) × (l : Literal) × (l ∈ c) × (variable_of l ≡ v)

-- no literal is of the variable
abbrev pub AreNotOf : List Literal → ℕ → Type 0
AreNotOf ls v = (l : Literal) → l ∈ ls → variable_of l ≢ v

-- no clause names the variable
abbrev pub IsUnmentioned : List Clause → ℕ → Type 0
IsUnmentioned P v = (c : Clause) → c ∈ P → AreNotOf c v

-- For each variable it says whether a kept clause names it.
pub record FlagsMentioned (s : View) (flags : List Bool) : Type 0 where
  pub count : length flags ≡ length s.values
  pub flagged : (v : ℕ) → IsFlagged flags v ↔ IsMentioned (kept s) v

-- The flags of just those variables were set that one of the clauses names.
pub record FlagsAlso (P : List Clause) (old new : List Bool) : Type 0 where
  pub count : length new ≡ length old
  pub flagged : (v : ℕ) → IsFlagged new v ↔ (IsFlagged old v ⊎ IsMentioned P v)

-- The flags of just those variables were set of which a literal implies others.
pub record FlagsImplying (B : List (List Literal)) (old new : List Bool) : Type 0 where
  pub count : length new ≡ length old
  pub flagged : (v : ℕ) →
      IsFlagged new v ↔ (IsFlagged old v ⊎ ((l m : Literal) × (m ∈ slice_index_or B l []) × (variable_of l ≡ v)))
