-- Steps whose variables are renamed.
use Rattle.std.specs.Prelude.{◌≡◌, ℕ, List, [], ◌∷◌}
use Rattle.varisat_theory.specs.promises.Literals.{Literal, variable_of, literal_of}
use Rattle.varisat_literals.specs.promises.Numbers.{polarity_of}
use Rattle.varisat_steps.specs.declared.step.ProofStep.{ProofStep}
use Rattle.varisat_steps.specs.declared.step.ProofStep.TheVariants.{AtClause, UnitClauses, DeleteClause, DeleteVar, FailedAssumptions}

-- the literal of the same sign whose variable is what the relation gives for this one's
abbrev pub MapsLit : (ℕ → ℕ → Type 0) → Literal → Literal → Type 0
MapsLit renames l m = (v : ℕ) × renames (variable_of l) v × (m ≡ literal_of v (polarity_of l))

-- the literals one by one
abbrev pub MapsLits : (ℕ → ℕ → Type 0) → List Literal → List Literal → Type 0
MapsLits renames [] ms = ms ≡ []
MapsLits renames (l ∷ ls) [] = ⊥
MapsLits renames (l ∷ ls) (m ∷ ms) = MapsLit renames l m × MapsLits renames ls ms

-- a step of the same kind with the literals renamed; the variable of a step that deletes it stays
abbrev pub MapsStep : (ℕ → ℕ → Type 0) → ProofStep → ProofStep → Type 0
MapsStep renames (AtClause c) (AtClause d) = MapsLits renames c.now d.now
MapsStep renames (UnitClauses c) (UnitClauses d) = MapsLits renames c.now d.now
MapsStep renames (DeleteClause c) (DeleteClause d) = MapsLits renames c.now d.now
MapsStep renames (DeleteVar v) (DeleteVar w) = w ≡ v
MapsStep renames (FailedAssumptions c) (FailedAssumptions d) = MapsLits renames c.now d.now
MapsStep renames _ _ = ⊥
