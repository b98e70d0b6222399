-- A hidden variable comes back under a free name, and what is said of those that stay hidden.
use Rattle.std.proofs.Common.{◌≡◌, ◌⊎◌, ℕ, ◌+◌, ◌<◌, max, true, false, List, Some, None, inl, inr, ⊎_elim, sym, ap, ◌∙◌, subst, refl, arith}
use Rattle.varisat_theory.specs.promises.Membership.{◌∈◌}
use Rattle.varisat_theory.specs.promises.Literals.{Literal, Clause, Assignment, variable_of, SatisfiesAll}
use Rattle.varisat_names.specs.promises.Maps.{updated, onward, chain}
use Rattle.varisat_names.specs.declared.variables.data.VarData.{VarData}
use Rattle.varisat_names.specs.declared.variables.data.SamplingMode.TheVariants as sampling
use Rattle.varisat_names.proofs.Maps.{updated-at, updated-other, updated-all, joined, chain-some, chain-through, is-some}
use Rattle.varisat_solver.specs.promises.States.{State, IsWellFormed}
use Rattle.varisat_solver.specs.promises.Names.{Witness, give_name, IsUnnamed}
use Rattle.varisat_solver.specs.promises.Calls.{with_naming}
use Rattle.varisat_tracer.specs.promises.Carried.{carry}
use Rattle.varisat_solver.specs.inside.Spaces.{Spaces, Carrying, ModeFits, NamesFit, ModesFit, IsolationCase, NotIsolated, Apart, Forced, AssumptionsFit, MarksFit, Links}
use Rattle.varisat_solver.specs.promises.Usage.{IsApart}
use Rattle.varisat_solver.proofs.calls.SpacesAgree.{identities-same, units-same, isolation-same, carry-same, map-same, core-same}
use Rattle.varisat_solver.proofs.modes.VariableMoves.{in_mode, show}
use Rattle.varisat_solver.proofs.modes.HiddenStates.{field-same}

show-well : (u i : ℕ) (s : State) → i < s.naming.made → IsUnnamed s.naming i → IsWellFormed s → IsWellFormed (with_naming (give_name u i s.naming) s)
show-well u i s b o f = record {
  one_to_one = λ u' v j. updated-all (λ u' a. a ≡ Some j → updated s.naming.names u (Some i) v ≡ Some j → u' ≡ v) s.naming.names u (Some i)
      (λ e. updated-all (λ v a. a ≡ Some j → u ≡ v) s.naming.names u (Some i) (λ _. refl) v (λ n h. absurd (o v (h ∙ sym e))))
      u'
      (λ n h. updated-all (λ v a. a ≡ Some j → u' ≡ v) s.naming.names u (Some i) (λ e. absurd (o u' (h ∙ sym e))) v (λ m g. f.one_to_one u' v j h g));
  free = λ v h. updated-other s.naming.names u (Some i) v (λ e. absurd (omega arith)) ∙ f.free v (omega arith);
  named = λ v j. updated-all (λ v a. a ≡ Some j → j < s.naming.made) s.naming.names u (Some i) (λ e. let q : i ≡ j = cc in omega (arith, b, q)) v
      (λ n h. f.named v j h);
  accepted = f.accepted;
  assumed = f.assumed;
  counted = f.counted;
  once = f.once;
}

module _ (w : Carrying) (p : Spaces) (s : State) (u x i : ℕ) (k : Links w p s) (free : p.global_from_user u ≡ None) (at : w.identity x ≡ Some i)
    (unnamed : p.user_from_global x ≡ None) where
  d : VarData
  d = in_mode sampling.Witness (p.kept x)

  kept' : ℕ → VarData
  kept' = updated p.kept x d

  -- no name leads to the hidden variable
  not-shown : (v y : ℕ) → p.global_from_user v ≡ Some y → y ≡ x → ⊥
  not-shown v y h e = let q : None ≡ Some v = sym unnamed ∙ ap p.user_from_global (sym e) ∙ k.names.one_to_one.there v y h in cc

  same-variable : (y : ℕ) → w.identity y ≡ Some i → y ≡ x
  same-variable y e = let q : Some y ≡ Some x = sym (k.identities.one_to_one.there y i e) ∙ k.identities.one_to_one.there x i at in cc

  pub no-name : IsUnnamed s.naming i
  no-name v e = let (y, h, z) = chain-through p.global_from_user w.identity v i (sym (k.names.agree v) ∙ e) in not-shown v y h (same-variable y z)

  -- a name that leads somewhere is not the free one
  other-name : (v y : ℕ) → p.global_from_user v ≡ Some y → v ≡ u → ⊥
  other-name v y h e = let z : None ≡ Some y = sym free ∙ ap p.global_from_user (sym e) ∙ h in cc

  name-stays : (v j : ℕ) → s.naming.names v ≡ Some j → updated s.naming.names u (Some i) v ≡ Some j
  name-stays v j e = let (y, h, z) = chain-through p.global_from_user w.identity v j (sym (k.names.agree v) ∙ e) in
      updated-other s.naming.names u (Some i) v (other-name v y h) ∙ e

  assumed-other : (l : Literal) → l ∈ p.assumptions → variable_of l ≡ u → ⊥
  assumed-other l h = let (v, c) = k.assumptions.taken l h in let (y, f, g) =
      chain-through p.global_from_user p.solver_from_global (variable_of l) v c in other-name (variable_of l) y f

  shown-names : NamesFit w.identity (updated p.global_from_user u (Some x)) (updated p.user_from_global x (Some u))
      (updated s.naming.names u (Some i)) (max s.naming.watermark (u + 1))
  shown-names = record {
    one_to_one = joined p.global_from_user p.user_from_global u x k.names.one_to_one free unnamed;
    agree = λ v. updated-all (λ v o. o ≡ chain (updated p.global_from_user u (Some x)) w.identity v) s.naming.names u (Some i)
        (sym at ∙ sym (chain-some (updated p.global_from_user u (Some x)) w.identity u x (updated-at p.global_from_user u (Some x))))
        v
        (λ n. k.names.agree v ∙ ap (λ o. onward o w.identity) (sym (updated-other p.global_from_user u (Some x) v n)));
    live = λ v y. updated-all (λ v o. o ≡ Some y → (j : ℕ) × (w.identity y ≡ Some j)) p.global_from_user u (Some x)
        (λ e. (i, let q : x ≡ y = cc in ap w.identity (sym q) ∙ at))
        v
        (λ n h. k.names.live v y h);
    free = λ v h. updated-other p.global_from_user u (Some x) v (λ e. absurd (omega arith)) ∙ k.names.free v (omega arith);
  }

  shown-modes : ModesFit w.identity (updated p.global_from_user u (Some x)) (updated p.user_from_global x (Some u)) kept' (updated s.naming.modes i Witness)
  unfolding kept' d
  shown-modes = record {
    mode = λ v y j. updated-all (λ v o. o ≡ Some y → w.identity y ≡ Some j → ModeFits (kept' y).sampling_mode (updated s.naming.modes i Witness j))
        p.global_from_user u (Some x)
        (λ e q. let z : x ≡ y = cc in
        let b : Some i ≡ Some j = sym at ∙ ap w.identity z ∙ q in
        let c : i ≡ j = cc in
        subst (λ m. ModeFits (kept' y).sampling_mode m) (sym (updated-at s.naming.modes i Witness) ∙ ap (updated s.naming.modes i Witness) c)
        (subst (λ y. ModeFits (kept' y).sampling_mode Witness) z (subst (λ a. ModeFits a.sampling_mode Witness) (sym (updated-at p.kept x d)) tt)))
        v
        (λ n h q. let o = not-shown v y h in
        subst (λ a. ModeFits a.sampling_mode (updated s.naming.modes i Witness j)) (sym (updated-other p.kept x d y o))
        (subst (λ m. ModeFits (p.kept y).sampling_mode m)
        (sym (updated-other s.naming.modes i Witness j (λ z. o (same-variable y (q ∙ ap Some z))))) (k.modes.mode v y j h q)));
    unnamed = λ y. updated-all (λ y o. o ≡ None → (kept' y).sampling_mode ≡ sampling.Hide) p.user_from_global x (Some u) (λ e. absurd cc) y
        (λ n h. ap (λ a. a.sampling_mode) (updated-other p.kept x d y n) ∙ k.modes.unnamed y h);
  }

  shown-assumptions : AssumptionsFit (updated p.global_from_user u (Some x)) p.solver_from_global
      (updated s.naming.names u (Some i)) p.assumptions s.assumptions
  shown-assumptions = record {
    agree = k.assumptions.agree ∙ map-same (carry s.naming.names) (carry (updated s.naming.names u (Some i))) p.assumptions
        (λ l h. carry-same s.naming.names (updated s.naming.names u (Some i)) l
        (sym (updated-other s.naming.names u (Some i) (variable_of l) (assumed-other l h))));
    taken = λ l h. let (v, c) = k.assumptions.taken l h in
        (v, ap (λ o. onward o p.solver_from_global) (updated-other p.global_from_user u (Some x) (variable_of l) (assumed-other l h)) ∙ c);
  }

  shown-marks : MarksFit (updated p.global_from_user u (Some x)) kept' p.assumptions
  unfolding kept' d
  shown-marks = record {
    marked = λ l y h e. field-same (λ a. a.assumed) p.kept x d refl y
        ∙ k.marks.marked l y h (sym (updated-other p.global_from_user u (Some x) (variable_of l) (assumed-other l h)) ∙ e);
    only = λ y h. let (l, a, b) = k.marks.only y (sym (field-same (λ a. a.assumed) p.kept x d refl y) ∙ h) in
        (l, a, updated-other p.global_from_user u (Some x) (variable_of l) (assumed-other l a) ∙ b);
  }

  pub shown : Links w (show u x p) (with_naming (give_name u i s.naming) s)
  unfolding kept' d
  shown = record {
    identities = identities-same w.identity w.global p.kept kept' s.naming.made (field-same (λ a. a.deleted) p.kept x d refl) k.identities;
    names = shown-names;
    modes = shown-modes;
    watermark = ap (λ n. max n (u + 1)) k.watermark;
    globals = k.globals;
    units = units-same w.identity w.forced p.kept kept' s.counted (field-same (λ a. a.unit) p.kept x d refl) k.units;
    isolation = isolation-same w.identity w.forced p.kept kept' s.clauses s.naming.made (field-same (λ a. a.isolated) p.kept x d refl) k.isolation;
    solvers = k.solvers;
    holds = k.holds;
    assumptions = shown-assumptions;
    marks = shown-marks;
    working = k.working;
    verdict = k.verdict;
    core = core-same s.naming.names (updated s.naming.names u (Some i)) p.core s.verdict name-stays k.core;
    right = k.right;
    well_formed = show-well u i s (k.identities.below x i at) no-name k.well_formed;
    few = k.few;
    shown = λ e y. updated-all (λ y o. o ≡ None → (kept' y).deleted ≡ true) p.user_from_global x (Some u) (λ q. absurd cc) y
        (λ n h. ap (λ a. a.deleted) (updated-other p.kept x d y n) ∙ k.shown e y h);
    plain = k.plain;
    variables = k.variables;
    numbered = k.numbered;
    logged = k.logged;
    checked = k.checked;
  }

-- No wide clause names the identity, or all assignments that satisfy the clauses agree on it.
abbrev pub LetStayHidden : List Clause → ℕ → Type 0
LetStayHidden P i = IsApart P i ⊎ ((a b : Assignment) → SatisfiesAll a P → SatisfiesAll b P → a i ≡ b i)

-- Where each live variable has a name, an identity without one may stay hidden.
pub may-stay : (w : Carrying) (p : Spaces) (s : State) → Links w p s → ((x : ℕ) → p.user_from_global x ≡ None → (p.kept x).deleted ≡ true) →
    (i : ℕ) → i < s.naming.made → IsUnnamed s.naming i → LetStayHidden s.clauses i
may-stay w p s k named i h out = go (k.isolation i h)
  where
    no-variable : (x : ℕ) → w.identity x ≡ Some i → ⊥
    no-variable x e =
        ⊎_elim
        (λ n. let q : true ≡ false = sym (named x n) ∙ k.identities.live x i e in cc)
        (λ (u, q). out u (k.names.agree u ∙ chain-some p.global_from_user w.identity u x (k.names.one_to_one.back u x q) ∙ e))
        (is-some (p.user_from_global x))

    go : IsolationCase w.identity w.forced p.kept s.clauses i → LetStayHidden s.clauses i
    go (NotIsolated x e o) = absurd (no-variable x e)
    go (Apart a) = inl a
    go (Forced v e) = inr (λ a b m n. k.holds.known a m i v e ∙ sym (k.holds.known b n i v e))
