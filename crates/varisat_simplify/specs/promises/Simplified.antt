-- What a simplified formula is.
use Rattle.std.specs.Prelude.{◌≡◌, ℕ, ◌+◌, ◌-◌, ◌/◌, ◌≤◌, Bool, false, List, [], ◌∷◌, ◌++◌, ◌⊎◌, length, take, slice_index_or}
use Rattle.varisat_theory.specs.promises.Literals.{Clause, Assignment, SatisfiesAll}
use Rattle.varisat_theory.specs.promises.Derivations.{Line, IsDerivation, Refutes, SpeakOf}
use Rattle.varisat_theory.specs.promises.Held.{SameClauses}
use Rattle.varisat_formula.specs.promises.Formulas.{Formula, no_clauses, with_more, AreBelow}
use Rattle.varisat_rules.specs.promises.Leading.{LeadsTo, IsNamedBy, AreNamedBy, HasVariable, HasVariablesOf}
use Rattle.varisat_formula.specs.promises.Values.{assignment_of}
use Rattle.varisat_rules.specs.promises.Stacks.{extended}
use Rattle.varisat_database.specs.Databases.{DatabaseState}
use Rattle.varisat_rules.specs.inside.States.{live_clauses, DerivesFrom, IsLaterState}

-- the formula of the clauses over this count of variables, or a greater one where they have more
abbrev pub formula_over : ℕ → List Clause → Formula
formula_over n cs = with_more (record no_clauses { var_count = n }) cs

-- how many literals the clauses have
abbrev pub literal_count : List Clause → ℕ
literal_count [] = 0
literal_count (c ∷ cs) = length c + literal_count cs

-- The clauses Q have at least one of 20 of the literals of P fewer, rounded down: for P of fewer than 20 literals Q may have as many.
abbrev pub IsShorter : List Clause → List Clause → Type 0
IsShorter Q P = literal_count Q ≤ literal_count P - literal_count P / 20

-- The clauses P were loaded, so many of them, and the state was made of that.
pub record IsReduced (P : List Clause) (n : ℕ) (frozen : List Bool) (both : Bool) (count : ℕ) (t : DatabaseState) : Type 0 where
  pub loaded : DatabaseState
  pub reduces : DerivesFrom P loaded
  pub same : SameClauses loaded.clauses P
  pub empty : loaded.stack ≡ []
  pub fewer : literal_count loaded.clauses ≤ literal_count P
  pub becomes : IsLaterState loaded t
  pub vars : loaded.var_count ≡ n
  pub flags : loaded.frozen ≡ frozen
  pub saves : loaded.saves_both ≡ both
  pub whole : count ≡ length loaded.clauses

-- What is handed out is what is live, where that is shorter than the first clauses, or these as they are.
abbrev pub Finishes : DatabaseState → ℕ → Formula → List Clause → List Line → Type 0
Finishes s count g stack lines =
    ((g ≡ formula_over s.var_count (live_clauses s)) × (stack ≡ s.stack) × (lines ≡ s.lines)
    × IsShorter (live_clauses s) (take count s.clauses)) ⊎
    ((g ≡ formula_over s.var_count (take count s.clauses)) × (stack ≡ []) × (lines ≡ []))

-- The formula g was made of f. The stack extends its models, and the lines are a proof that leads to it.
pub record IsMadeOf (f g : Formula) (stack : List Clause) (lines : List Line) : Type 0 where
  -- g counts the variables up to the highest that f names
  pub below : AreBelow g.var_count f.clauses
  pub least : (n : ℕ) → AreBelow n f.clauses → g.var_count ≤ n
  -- what satisfies f satisfies g
  pub keeps : (a : Assignment) → SatisfiesAll a f.clauses → SatisfiesAll a g.clauses
  -- values for all variables that f names that satisfy g are extended to ones that satisfy f
  pub extends : (vs : List Bool) → AreBelow (length vs) f.clauses → SatisfiesAll (assignment_of vs) g.clauses →
      SatisfiesAll (assignment_of (extended stack vs)) f.clauses
  -- The lines are a derivation from the clauses of f: each added clause follows where its line stands, each deletion names a clause
  -- that is present, and in the end just the clauses of g are present.
  pub leads : LeadsTo f.clauses lines g.clauses
  -- the literals of g and of the lines are some of f
  pub named : AreNamedBy f.clauses g.clauses
  pub spoken : SpeakOf (IsNamedBy f.clauses) lines
  -- no extension changes the value of a variable that g names
  pub kept : (vs : List Bool) (v : ℕ) → HasVariable g.clauses v →
      slice_index_or (extended stack vs) v false ≡ slice_index_or vs v false
  -- the variables of the stack are some of f
  pub saved : HasVariablesOf f.clauses stack

-- Behind the lines each derivation from the clauses of g is one from those of f.
abbrev pub DerivesBehind : Type 0
DerivesBehind =
    (f g : Formula) (stack : List Clause) (lines more : List Line) → IsMadeOf f g stack lines →
    IsDerivation g.clauses more →
    IsDerivation f.clauses (lines ++ more)

-- Behind the lines each refutation of g is one of f.
abbrev pub RefutesBehind : Type 0
RefutesBehind =
    (f g : Formula) (stack : List Clause) (lines more : List Line) → IsMadeOf f g stack lines → Refutes g.clauses more →
    Refutes f.clauses (lines ++ more)

-- No extension changes the value of a variable that f does not name.
abbrev pub KeepsOthers : Type 0
KeepsOthers =
    (f g : Formula) (stack : List Clause) (lines : List Line) → IsMadeOf f g stack lines → (vs : List Bool) (v : ℕ) →
    (HasVariable f.clauses v → ⊥) →
    slice_index_or (extended stack vs) v false ≡ slice_index_or vs v false
