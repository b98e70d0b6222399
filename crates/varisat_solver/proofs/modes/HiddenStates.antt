-- A name is freed, and its variable is hidden.
use Rattle.std.proofs.Common.{◌≡◌, ℕ, ◌<◌, true, false, Option, Some, None, List, sym, ap, ◌∙◌, subst, refl}
use Rattle.varisat_theory.specs.promises.Membership.{◌∈◌}
use Rattle.varisat_theory.specs.promises.Literals.{Literal, Clause, variable_of}
use Rattle.varisat_theory.proofs.journals.Renaming.{∈-map, map-∈}
use Rattle.varisat_names.specs.promises.Maps.{updated, IsInverse, onward, chain}
use Rattle.varisat_names.specs.declared.variables.data.VarData.{VarData}
use Rattle.varisat_names.specs.declared.variables.data.SamplingMode.TheVariants as sampling
use Rattle.varisat_names.proofs.Maps.{updated-at, updated-other, updated-all, parted, chain-some, chain-none, chain-through}
use Rattle.varisat_solver.specs.promises.States.{State, Verdict, Unknown, Sat, Unsat, UnsatUnderAssumptions, IsRight, IsWellFormed}
use Rattle.varisat_solver.specs.promises.Usage.{hide_name}
use Rattle.varisat_tracer.specs.promises.Carried.{carry}
use Rattle.varisat_solver.specs.inside.Spaces.{Spaces, Carrying, ModeFits, NamesFit, ModesFit, AssumptionsFit, MarksFit, CoreFits, Links}
use Rattle.varisat_solver.proofs.calls.Carried.{carry-at}
use Rattle.varisat_solver.proofs.calls.SpacesAgree.{identities-same, units-same, isolation-same, carry-same, map-same}
use Rattle.varisat_solver.proofs.modes.VariableMoves.{in_mode, hide}

-- a field that the changed entry keeps
pub field-same : {X : Type 0} (F : VarData → X) (k : ℕ → VarData) (x : ℕ) (d : VarData) → F d ≡ F (k x) → (y : ℕ) → F (updated k x d y) ≡ F (k y)
field-same F k x d e y = updated-all (λ y a. F a ≡ F (k y)) k x d e y (λ n. refl)

-- no two names lead to one variable
pub one-name : (f g : ℕ → Option ℕ) (u v x : ℕ) → IsInverse f g → f u ≡ Some x → f v ≡ Some x → v ≡ u
one-name f g u v x h a b = let q : Some v ≡ Some u = sym (h.there v x b) ∙ h.there u x a in cc

-- the identity of a name in use
pub identity-named : (w : Carrying) (p : Spaces) (s : State) (u x : ℕ) → Links w p s → p.global_from_user u ≡ Some x → (i : ℕ)
    × (w.identity x ≡ Some i) × (s.naming.names u ≡ Some i)
identity-named w p s u x k e = let (i, r) = k.names.live u x e in (i, r, k.names.agree u ∙ chain-some p.global_from_user w.identity u x e ∙ r)

free-well : (u : ℕ) (s : State) → IsWellFormed s → IsWellFormed (hide_name u s)
free-well u s f = record {
  one_to_one = λ u' v i. updated-all (λ u' o. o ≡ Some i → updated s.naming.names u None v ≡ Some i → u' ≡ v) s.naming.names u None
      (λ e. absurd cc)
      u'
      (λ n h. updated-all (λ v o. o ≡ Some i → u' ≡ v) s.naming.names u None (λ e. absurd cc) v (λ m g. f.one_to_one u' v i h g));
  free = λ v h. updated-all (λ v o. o ≡ None) s.naming.names u None refl v (λ n. f.free v h);
  named = λ v i. updated-all (λ v o. o ≡ Some i → i < s.naming.made) s.naming.names u None (λ e. absurd cc) v (λ n h. f.named v i h);
  accepted = f.accepted;
  assumed = f.assumed;
  counted = f.counted;
  once = f.once;
}

-- the literals of a core that is logged have other names
core-left : (names after : ℕ → Option ℕ) (P : List Clause) (assumptions : List Literal) (C : List ℕ) (logged : List Literal) (v : Verdict) →
    ((l : Literal) (i : ℕ) → carry names l ∈ assumptions → names (variable_of l) ≡ Some i → after (variable_of l) ≡ Some i) →
    IsRight P assumptions C v → CoreFits names logged v → CoreFits after logged v
core-left names after P assumptions C logged Unknown n r f = tt
core-left names after P assumptions C logged (Sat a) n r f = tt
core-left names after P assumptions C logged Unsat n r f = tt
core-left names after P assumptions C logged (UnsatUnderAssumptions core) n r (named, e) = (
  λ l h. let (i, q, z) = stays l h in (i, z),
  e ∙ map-same (carry names) (carry after) logged (λ l h. let (i, q, z) = stays l h in carry-same names after l (q ∙ sym z)),
)
  where
    stays : (l : Literal) → l ∈ logged → (i : ℕ) × (names (variable_of l) ≡ Some i) × (after (variable_of l) ≡ Some i)
    stays l h = let (i, q) = named l h in (i, q, n l i (r.0 (carry names l) (subst (λ c. carry names l ∈ c) (sym e) (∈-map (carry names) l logged h))) q)

module _ (w : Carrying) (p : Spaces) (s : State) (u x : ℕ) (k : Links w p s) (at : p.global_from_user u ≡ Some x) (unassumed : (p.kept x).assumed ≡ false) where
  d : VarData
  d = in_mode sampling.Hide (p.kept x)

  kept' : ℕ → VarData
  kept' = updated p.kept x d

  -- a variable that is not assumed is none of the assumptions'
  other-name : (l : Literal) → l ∈ p.assumptions → variable_of l ≡ u → ⊥
  other-name l h e = let q : true ≡ false = sym (k.marks.marked l x h (ap p.global_from_user e ∙ at)) ∙ unassumed in cc

  -- nor is the identity
  other-identity : (l : Literal) (i : ℕ) → carry s.naming.names l ∈ s.assumptions → s.naming.names (variable_of l) ≡ Some i → variable_of l ≡ u → ⊥
  other-identity l i h e q =
      let (g, b, c) = map-∈ (carry s.naming.names) (carry s.naming.names l) p.assumptions (subst (λ a. carry s.naming.names l ∈ a) k.assumptions.agree h) in
      let (v, t) = k.assumptions.taken g b in
      let (y, f, m) = chain-through p.global_from_user p.solver_from_global (variable_of g) v t in
      let (j, z, n) = identity-named w p s (variable_of g) y k f in
      let same : i ≡ j = sym (carry-at s.naming.names l i e) ∙ ap variable_of c ∙ carry-at s.naming.names g j n in
      other-name g b (k.well_formed.one_to_one (variable_of g) u i (n ∙ ap Some (sym same)) (ap s.naming.names (sym q) ∙ e))

  hidden-names : NamesFit w.identity (updated p.global_from_user u None) (updated p.user_from_global x None) (updated s.naming.names u None) s.naming.watermark
  hidden-names = record {
    one_to_one = parted p.global_from_user p.user_from_global u x k.names.one_to_one at;
    agree = λ v. updated-all (λ v o. o ≡ chain (updated p.global_from_user u None) w.identity v) s.naming.names u None
        (sym (chain-none (updated p.global_from_user u None) w.identity u (updated-at p.global_from_user u None)))
        v
        (λ n. k.names.agree v ∙ ap (λ o. onward o w.identity) (sym (updated-other p.global_from_user u None v n)));
    live = λ v y. updated-all (λ v o. o ≡ Some y → (i : ℕ) × (w.identity y ≡ Some i)) p.global_from_user u None (λ e. absurd cc) v (λ n h. k.names.live v y h);
    free = λ v h. updated-all (λ v o. o ≡ None) p.global_from_user u None refl v (λ n. k.names.free v h);
  }

  hidden-modes : ModesFit w.identity (updated p.global_from_user u None) (updated p.user_from_global x None) kept' s.naming.modes
  unfolding kept' d
  hidden-modes = record {
    mode = λ v y i. updated-all (λ v o. o ≡ Some y → w.identity y ≡ Some i → ModeFits (kept' y).sampling_mode (s.naming.modes i)) p.global_from_user u None
        (λ e. absurd cc)
        v
        (λ n h j. subst (λ a. ModeFits a.sampling_mode (s.naming.modes i))
        (sym (updated-other p.kept x d y (λ e. n (one-name p.global_from_user p.user_from_global u v x k.names.one_to_one at (h ∙ ap Some e)))))
        (k.modes.mode v y i h j));
    unnamed = λ y. updated-all (λ y o. o ≡ None → (kept' y).sampling_mode ≡ sampling.Hide) p.user_from_global x None
        (λ e. ap (λ a. a.sampling_mode) (updated-at p.kept x d))
        y
        (λ n h. ap (λ a. a.sampling_mode) (updated-other p.kept x d y n) ∙ k.modes.unnamed y h);
  }

  hidden-assumptions : AssumptionsFit (updated p.global_from_user u None) p.solver_from_global (updated s.naming.names u None) p.assumptions s.assumptions
  hidden-assumptions = record {
    agree = k.assumptions.agree ∙ map-same (carry s.naming.names) (carry (updated s.naming.names u None)) p.assumptions
        (λ l h. carry-same s.naming.names (updated s.naming.names u None) l (sym (updated-other s.naming.names u None (variable_of l) (other-name l h))));
    taken = λ l h. let (v, c) = k.assumptions.taken l h in
        (v, ap (λ o. onward o p.solver_from_global) (updated-other p.global_from_user u None (variable_of l) (other-name l h)) ∙ c);
  }

  hidden-marks : MarksFit (updated p.global_from_user u None) kept' p.assumptions
  unfolding kept' d
  hidden-marks = record {
    marked = λ l y h e. field-same (λ a. a.assumed) p.kept x d refl y
        ∙ k.marks.marked l y h (sym (updated-other p.global_from_user u None (variable_of l) (other-name l h)) ∙ e);
    only = λ y h. let (l, a, b) = k.marks.only y (sym (field-same (λ a. a.assumed) p.kept x d refl y) ∙ h) in
        (l, a, updated-other p.global_from_user u None (variable_of l) (other-name l a) ∙ b);
  }

  pub hidden : Links w (hide u x p) (hide_name u s)
  unfolding kept' d
  hidden = record {
    identities = identities-same w.identity w.global p.kept kept' s.naming.made (field-same (λ a. a.deleted) p.kept x d refl) k.identities;
    names = hidden-names;
    modes = hidden-modes;
    watermark = k.watermark;
    globals = k.globals;
    units = units-same w.identity w.forced p.kept kept' s.counted (field-same (λ a. a.unit) p.kept x d refl) k.units;
    isolation = isolation-same w.identity w.forced p.kept kept' s.clauses s.naming.made (field-same (λ a. a.isolated) p.kept x d refl) k.isolation;
    solvers = k.solvers;
    holds = k.holds;
    assumptions = hidden-assumptions;
    marks = hidden-marks;
    working = k.working;
    verdict = k.verdict;
    core = core-left s.naming.names (updated s.naming.names u None) s.clauses s.assumptions s.counted p.core s.verdict
        (λ l i h e. updated-other s.naming.names u None (variable_of l) (other-identity l i h e) ∙ e) k.right k.core;
    right = k.right;
    well_formed = free-well u s k.well_formed;
    few = k.few;
    shown = λ e. absurd cc;
    plain = λ e. absurd cc;
    variables = k.variables;
    numbered = k.numbered;
    logged = record {
      accepted = k.logged.accepted;
      assumed = k.logged.assumed;
      cores = k.logged.cores;
      spoken = k.logged.spoken;
      left = k.logged.left;
      stays = λ e. absurd cc;
    };
    checked = k.checked;
  }
