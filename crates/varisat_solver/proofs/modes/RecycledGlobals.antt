-- A global variable without a name may be used again.
use Rattle.std.proofs.Common.{◌≡◌, ◌≢◌, ◌↔◌, ℕ, ◌<◌, true, false, Option, Some, None, List, [], ◌∷◌, ◌++◌, ◌⊎◌, inl, inr, ⊎_elim, sym, ap, ◌∙◌, subst, refl}
use Rattle.varisat_theory.specs.promises.Membership.{◌∈◌}
use Rattle.varisat_theory.specs.promises.Literals.{Literal, Clause, variable_of}
use Rattle.varisat_proof.specs.promises.Calls.{CheckerState}
use Rattle.varisat_proof.specs.promises.Proving.{IsCheckedIf}
use Rattle.varisat_tracer.specs.promises.Carried.{carry}
use Rattle.varisat_solver.proofs.calls.Carried.{carry-at}
use Rattle.varisat_solver.proofs.entries.CheckedHeld.{all-live, checker-without}
use Rattle.varisat_theory.proofs.clauses.Members.{equal_or_not}
use Rattle.varisat_names.specs.promises.Maps.{updated, chain}
use Rattle.varisat_names.specs.promises.VarData.{dead}
use Rattle.varisat_names.specs.declared.variables.data.VarData.{VarData}
use Rattle.varisat_names.specs.declared.variables.data.SamplingMode.TheVariants as sampling
use Rattle.varisat_names.proofs.Maps.{updated-at, updated-other, updated-all, parted, chain-same, chain-through}
use Rattle.varisat_solver.specs.promises.States.{State}
use Rattle.varisat_solver.specs.inside.Spaces.{Spaces, Carrying, ModeFits, IdentitiesFit, NamesFit, ModesFit, UnitsFit, IsolationCase, NotIsolated, Apart, Forced, IsolationFits, MarksFit, without_core, Translation, translation, Links, SpacesFit}
use Rattle.varisat_solver.proofs.calls.SpacesAgree.{working-same, holds-same, verdict-moved}
use Rattle.varisat_theory.specs.promises.Journals.{Retires, Leads}
use Rattle.varisat_theory.specs.inside.Outcomes as outcome
use Rattle.varisat_solver.specs.promises.Journals.{with_entries}
use Rattle.varisat_solver.proofs.modes.VariableMoves.{recycle}
use Rattle.varisat_solver.proofs.calls.CallStates.{logged-well}
use Rattle.varisat_solver.proofs.entries.ReachedHeld.{logged-gone}
use Rattle.varisat_solver.proofs.entries.LoggedEntries.{logged-left}

module _ (w : Carrying) (p : Spaces) (s : State) (x i : ℕ) (k : Links w p s) (at : w.identity x ≡ Some i) (unnamed : p.user_from_global x ≡ None)
    (unsolved : p.solver_from_global x ≡ None) (alone : (p.kept x).isolated ≡ true) where
  id' : ℕ → Option ℕ
  id' = updated w.identity x None

  kept' : ℕ → VarData
  kept' = updated p.kept x dead

  left : (y j : ℕ) → w.identity y ≡ Some j → (y ≡ x → ⊥) → id' y ≡ Some j
  unfolding id'
  left y j h n = updated-other w.identity x None y n ∙ h

  kept-other : (y : ℕ) → (y ≡ x → ⊥) → kept' y ≡ p.kept y
  unfolding kept'
  kept-other y n = updated-other p.kept x dead y n

  named-other : (v y : ℕ) → p.global_from_user v ≡ Some y → y ≡ x → ⊥
  named-other v y h e = let q : None ≡ Some v = sym unnamed ∙ ap p.user_from_global (sym e) ∙ k.names.one_to_one.there v y h in cc

  solver-other : (v y : ℕ) → p.global_from_solver v ≡ Some y → y ≡ x → ⊥
  solver-other v y h e = let q : None ≡ Some v = sym unsolved ∙ ap p.solver_from_global (sym e) ∙ k.solvers.one_to_one.back y v h in cc

  left-identities : IdentitiesFit id' (updated w.global i None) kept' s.naming.made
  unfolding id' kept'
  left-identities = record {
    one_to_one = parted w.identity w.global x i k.identities.one_to_one at;
    live = λ y j. updated-all (λ y o. o ≡ Some j → (kept' y).deleted ≡ false) w.identity x None (λ e. absurd cc) y
        (λ n h. ap (λ d. d.deleted) (kept-other y n) ∙ k.identities.live y j h);
    deleted = λ y. updated-all (λ y o. o ≡ None → (kept' y).deleted ≡ true) w.identity x None
        (λ e. ap (λ d. d.deleted) (updated-at p.kept x dead)) y (λ n h. ap (λ d. d.deleted) (kept-other y n) ∙ k.identities.deleted y h);
    below = λ y j. updated-all (λ y o. o ≡ Some j → j < s.naming.made) w.identity x None (λ e. absurd cc) y (λ n h. k.identities.below y j h);
  }

  left-names : NamesFit id' p.global_from_user p.user_from_global s.naming.names s.naming.watermark
  unfolding id'
  left-names = record {
    one_to_one = k.names.one_to_one;
    agree = λ v. k.names.agree v ∙ chain-same p.global_from_user w.identity id' v (λ y h. sym (updated-other w.identity x None y (named-other v y h)));
    live = λ v y h. let (j, e) = k.names.live v y h in (j, left y j e (named-other v y h));
    free = k.names.free;
  }

  left-modes : ModesFit id' p.global_from_user p.user_from_global kept' s.naming.modes
  unfolding id' kept'
  left-modes = record {
    mode = λ v y j h e. let n = named-other v y h in subst (λ d. ModeFits d.sampling_mode (s.naming.modes j)) (sym (kept-other y n))
        (k.modes.mode v y j h (sym (updated-other w.identity x None y n) ∙ e));
    unnamed = λ y. updated-all (λ y d. p.user_from_global y ≡ None → d.sampling_mode ≡ sampling.Hide) p.kept x dead (λ _. refl) y (λ n h. k.modes.unnamed y h);
  }

  left-units : UnitsFit id' w.forced kept' s.counted
  unfolding id' kept'
  left-units = record {
    unit = λ y j. updated-all (λ y o. o ≡ Some j → w.forced j ≡ (kept' y).unit) w.identity x None (λ e. absurd cc) y
        (λ n h. k.units.unit y j h ∙ ap (λ d. d.unit) (sym (kept-other y n)));
    is_counted = k.units.is_counted;
  }

  left-isolation : IsolationFits id' w.forced kept' s.clauses s.naming.made
  unfolding id' kept'
  left-isolation j h = go (k.isolation j h)
    where
      go : IsolationCase w.identity w.forced p.kept s.clauses j → IsolationCase id' w.forced kept' s.clauses j
      go (NotIsolated y e o) = let n : y ≡ x → ⊥ = (λ q. let z : true ≡ false = sym alone ∙ ap (λ a. (p.kept a).isolated) (sym q) ∙ o in cc) in
          NotIsolated y (left y j e n) (ap (λ d. d.isolated) (kept-other y n) ∙ o)
      go (Apart a) = Apart a
      go (Forced b e) = Forced b e

  left-marks : MarksFit p.global_from_user kept' p.assumptions
  unfolding kept'
  left-marks = record {
    marked = λ l y h e. ap (λ d. d.assumed) (kept-other y (named-other (variable_of l) y e)) ∙ k.marks.marked l y h e;
    only = λ y. updated-all (λ y d. d.assumed ≡ true → (l : Literal) × (l ∈ p.assumptions) × (p.global_from_user (variable_of l) ≡ Some y)) p.kept x
        dead (λ e. absurd cc) y (λ n h. k.marks.only y h);
  }

  identity-same : (v : ℕ) → chain p.global_from_solver id' v ≡ chain p.global_from_solver w.identity v
  unfolding id'
  identity-same v = chain-same p.global_from_solver id' w.identity v (λ y h. updated-other w.identity x None y (solver-other v y h))

  none-for : (v : ℕ) → chain p.global_from_solver w.identity v ≡ Some i → ⊥
  none-for v e =
      let (y, f, g) = chain-through p.global_from_solver w.identity v i e in
      let z : Some y ≡ Some x = sym (k.identities.one_to_one.there y i g) ∙ k.identities.one_to_one.there x i at in
      solver-other v y f (let q : y ≡ x = cc in q)

  -- a variable that had no name was hidden
  pub was-hidden : s.ever_hidden ≡ false → ⊥
  was-hidden e = let z : true ≡ false = sym (k.shown e x unnamed) ∙ k.identities.live x i at in cc

  -- a literal of what is held is of the variable just where it is of the identity
  same-left : without_core p.outcome ≢ outcome.Unsat → (held : List Clause) → Leads [] s.logged held → (c : Clause) (l : Literal) → c ∈ held → l ∈ c →
      (variable_of (carry w.global l) ≡ x) ↔ (variable_of l ≡ i)
  same-left n held led c l h j =
      let (y, e) = all-live w p s k n held led c l h j in
      let there = carry-at w.global l y e in (
        λ q. let a : Some i ≡ Some (variable_of l) = sym at ∙ ap w.identity (sym (sym there ∙ q)) ∙ k.identities.one_to_one.back y (variable_of l) e in cc,
        λ q. let a : Some y ≡ Some x = sym e ∙ ap w.global q ∙ k.identities.one_to_one.there x i at in there ∙ (let z : y ≡ x = cc in z),
      )

  -- just its identity is gone too
  gone-too : (j : ℕ) → ((j < s.naming.made) × (updated w.global i None j ≡ None)) ↔ (((j < s.naming.made) × (w.global j ≡ None)) ⊎ (j ≡ i))
  gone-too j = (
    λ (h, e). ⊎_elim (λ q. inr q) (λ n. inl (h, sym (updated-other w.global i None j n) ∙ e)) (equal_or_not j i),
    λ g. ⊎_elim
        (λ (h, e). (h, updated-all (λ j o. w.global j ≡ None → o ≡ None) w.global i None (λ _. refl) j (λ n q. q) e))
        (λ q. (subst (λ j. j < s.naming.made) (sym q) (k.identities.below x i at), ap (updated w.global i None) q ∙ updated-at w.global i None))
        g,
  )

  -- It is gone from each state, under no verdict that lets nothing more be logged.
  pub recycled : without_core p.outcome ≢ outcome.Unsat → (checker : Option CheckerState) → IsCheckedIf p.checker (Retires x ∷ []) checker →
      SpacesFit (record (recycle x p) { checker = checker }) (with_entries (s.logged ++ Retires i ∷ []) s)
  unfolding id' kept'
  recycled undecided checker gone =
      let before = translation w p s.logged in
      let after : Translation = record {
        identity = chain p.global_from_solver id';
        global = updated w.global i None;
        forced = w.forced;
        logged =
            s.logged ++ Retires i ∷ [];
      } in (
        record { identity = id'; global = updated w.global i None; forced = w.forced },
        record {
          identities = left-identities;
          names = left-names;
          modes = left-modes;
          watermark = k.watermark;
          globals = k.globals;
          units = left-units;
          isolation = left-isolation;
          solvers = record {
            one_to_one = k.solvers.one_to_one;
            live = λ v y h. let (j, e, c) = k.solvers.live v y h in
                (j, left y j e (solver-other v y h), c);
          };
          holds = holds-same s.clauses before after p.search (without_core p.outcome) identity-same (λ j. refl)
              (λ share q. logged-gone before after i none-for identity-same (λ j. refl)
              (λ j y. updated-all (λ j o. o ≡ Some y → (j ≡ i → ⊥) × (w.global j ≡ Some y)) w.global i None (λ e. absurd cc) j (λ n e. (n, e)))
              (λ j y n e. updated-other w.global i None j n ∙ e) p.search.fixed share (without_core p.outcome) undecided refl q)
              k.holds;
          assumptions = k.assumptions;
          marks = left-marks;
          working = working-same s.clauses (chain p.global_from_solver w.identity) (chain p.global_from_solver id') s.assumptions p.working
              (λ l h. identity-same (variable_of l)) k.working;
          verdict = verdict-moved w.identity id' p.model (updated p.model x false) p.outcome s.verdict
              (λ a e f y j. updated-all (λ y o. o ≡ Some j → a j ≡ updated p.model x false y) w.identity x None (λ q. absurd cc) y
              (λ n h. f y j h ∙ sym (updated-other p.model x false y n)))
              k.verdict;
          core = k.core;
          right = k.right;
          well_formed = logged-well s (with_entries (s.logged ++ Retires i ∷ []) s) k.well_formed;
          few = k.few;
          shown = λ e y. updated-all (λ y d. p.user_from_global y ≡ None → d.deleted ≡ true) p.kept x dead (λ _. refl) y (λ n h. k.shown e y h);
          plain = λ e. absurd (was-hidden e);
          variables = λ j y e. k.variables j y (updated-all (λ j o. o ≡ Some y → w.global j ≡ Some y) w.global i None (λ q. absurd cc) j (λ n q. q) e);
          numbered = k.numbered;
          checked = checker-without w.global (updated w.global i None) s.logged i x p.checker checker (same-left undecided)
              (λ j o. sym (updated-other w.global i None j o)) gone k.checked;
          logged = logged-left s.logged s.clauses s.assumptions s.counted s.ever_hidden i was-hidden gone-too k.logged;
        },
      )
