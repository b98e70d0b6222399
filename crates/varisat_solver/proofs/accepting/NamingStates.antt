-- What is said of a clause or a list of assumptions whose names were looked at before they come into use.
use Rattle.std.proofs.Common.{◌≡◌, ℕ, Some, None, List, ⊎_elim, sym, ap, ◌∙◌, refl, Err, true, ◌⊎◌, inl, inr}
use Rattle.varisat_theory.specs.promises.Literals.{Literal, variable_of}
use Rattle.varisat_names.specs.promises.VarMap.{at}
use Rattle.varisat_names.specs.promises.VarData.{data_at}
use Rattle.varisat_names.specs.declared.variables.data.SamplingMode.{SamplingMode}
use Rattle.varisat_names.proofs.Maps.{chain-none, chain-some, is-some}
use Rattle.varisat_solver.specs.promises.States.{State}
use Rattle.varisat_solver.specs.promises.Names.{Mode, Sample, Witness, name_all, IsWitness, NameNoWitness, IsFirstWitness}
use Rattle.varisat_solver.specs.promises.Calls.{HasTooManyVariables, IsPastLimit, MayConstrain, MayAccept, AddsClause, Assumes, by_state}
use Rattle.varisat_solver.specs.inside.Spaces.{Carrying, ModeFits, Links}
use Rattle.varisat_solver.specs.promises.Summaries.{Summary}
use Rattle.varisat_solver.specs.inside.Representations.{spaces, Represents}
use Rattle.varisat_solver.specs.inside.Accepting.{mode_of, naming_of, CanBeNamed, ChecksNames}
use Rattle.varisat_solver.proofs.accepting.NamesComing.{AreAlike, all-alike, alike-too-many}
use Rattle.varisat_solver.specs.declared.solver.SolverError.{SolverError}
use Rattle.varisat_solver.specs.declared.solver.SolverError.TheVariants.{WitnessVar, VariableLimit}
use Rattle.varisat_solver.specs.promises.OpenProofs.{BarsAssumptions}
use Rattle.varisat_solver.proofs.calls.CallStates.{represents-valid}
use Rattle.varisat_names.specs.declared.variables.data.SamplingMode.TheVariants as sampling

-- What is found out over the tables of names is so over the names of a state for which they stand.

pub fits-mode : (a : SamplingMode) (b : Mode) → ModeFits a b → mode_of a ≡ b
fits-mode sampling.Sample Sample f = refl
fits-mode sampling.Sample Witness f = absurd f
fits-mode sampling.Witness Sample f = absurd f
fits-mode sampling.Witness Witness f = refl
fits-mode sampling.Hide Sample f = absurd f
fits-mode sampling.Hide Witness f = absurd f

module _ (w : Carrying) (g : Summary) (s : State) (k : Links w (spaces g) s) where
  -- the name of a variable has its mode
  named-mode : (u x : ℕ) → at g.tables.users.forward u ≡ Some x → (i : ℕ) × (s.naming.names u ≡ Some i)
      × (mode_of (data_at g.tables.kept x).sampling_mode ≡ s.naming.modes i)
  named-mode u x e =
      let (i, is) = k.names.live u x e in (
        i,
        k.names.agree u ∙ chain-some (at g.tables.users.forward) w.identity u x e
            ∙ is,
        fits-mode (data_at g.tables.kept x).sampling_mode (s.naming.modes i) (k.modes.mode u x i e is),
      )

  -- where it is free, it is free in the state
  free-there : (u : ℕ) → at g.tables.users.forward u ≡ None → s.naming.names u ≡ None
  free-there u e = k.names.agree u ∙ chain-none (at g.tables.users.forward) w.identity u e

  pub alike-state : AreAlike (naming_of g.tables) s.naming
  alike-state = record {
    watermark = k.watermark;
    free = λ u. (
      free-there u,
      λ e. ⊎_elim (λ f. f) (λ (x, f). let (i, a, b) = named-mode u x f in let z : Some i ≡ None = sym a ∙ e in absurd cc)
          (is-some (at g.tables.users.forward u)),
    );
    made = k.globals;
  }

  is-witness : (u : ℕ) → IsWitness (naming_of g.tables) u → IsWitness s.naming u
  is-witness u (x, e, m) = let (i, a, b) = named-mode u x e in (i, a, sym b ∙ m)

  was-witness : (u : ℕ) → IsWitness s.naming u → IsWitness (naming_of g.tables) u
  was-witness u (j, e, m) =
      ⊎_elim
      (λ f. let z : Some j ≡ None = sym e ∙ free-there u f in absurd cc)
      (λ (x, f). let (i, a, b) = named-mode u x f in let z : Some i ≡ Some j = sym a ∙ e in let same : i ≡ j = cc in (x, f, b ∙ ap s.naming.modes same ∙ m))
      (is-some (at g.tables.users.forward u))

  pub too-many-state : (d : List Literal) → HasTooManyVariables (name_all d (naming_of g.tables)) → HasTooManyVariables (name_all d s.naming)
  too-many-state d c = alike-too-many (name_all d (naming_of g.tables)) (name_all d s.naming) (all-alike d (naming_of g.tables) s.naming alike-state) c

  pub no-witness-state : (d : List Literal) → NameNoWitness (naming_of g.tables) d → NameNoWitness s.naming d
  no-witness-state d n l h a = n l h (was-witness (variable_of l) a)

  pub witness-state : (d : List Literal) (u : ℕ) → IsFirstWitness (naming_of g.tables) d u → IsFirstWitness s.naming d u
  witness-state d u (front, l, rest, e, n, v, a) = (front, l, rest, e, no-witness-state front n, v, is-witness u a)

module _ (g : Summary) (s : State) (st : Represents g s) (valid : g.ledger.valid ≡ true) (d : List Literal) where
  -- the names may be constrained
  pub may-constrain : CanBeNamed d g.tables → NameNoWitness (naming_of g.tables) d → MayConstrain s.naming d
  may-constrain c n = let (w, k) = st.fits valid in record { in_range = c.in_range; sampled = no-witness-state w g s k d n }

  limit-passed : IsPastLimit d ⊎ HasTooManyVariables (name_all d (naming_of g.tables)) → IsPastLimit d ⊎ HasTooManyVariables (name_all d s.naming)
  limit-passed c = let (w, k) = st.fits valid in ⊎_elim (λ a. inl a) (λ b. inr (too-many-state w g s k d b)) c

  pub clause-refused : MayAccept by_state s → (e : SolverError) → ChecksNames g.tables d (Err e) → AddsClause s d (Err e) s
  clause-refused n VariableLimit c = (represents-valid g s st valid, n, limit-passed c, refl)
  clause-refused n (WitnessVar u) c = let (w, k) = st.fits valid in (represents-valid g s st valid, n, c.0.in_range, witness-state w g s k d u c.1, refl)
  clause-refused n e c = absurd c

  pub list-refused : (BarsAssumptions s.proof → ⊥) → (e : SolverError) → ChecksNames g.tables d (Err e) → Assumes s d (Err e) s
  list-refused n VariableLimit c = (represents-valid g s st valid, n, limit-passed c, refl)
  list-refused n (WitnessVar u) c = let (w, k) = st.fits valid in (represents-valid g s st valid, n, c.0.in_range, witness-state w g s k d u c.1, refl)
  list-refused n e c = absurd c
