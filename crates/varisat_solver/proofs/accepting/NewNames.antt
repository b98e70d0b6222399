-- A name gets a variable.
use Rattle.std.proofs.Common.{[], ◌≡◌, ◌↔◌, ℕ, ◌+◌, ◌<◌, ◌≤◌, max, true, false, Option, Some, None, List, ⊎_elim, sym, ap, ◌∙◌, subst, refl, arith}
use Rattle.std.proofs.lemmas.Bool.{cases_lt}
use Rattle.varisat_theory.specs.promises.Membership.{◌∈◌}
use Rattle.varisat_theory.specs.promises.Literals.{Literal, Clause, Assignment, variable_of}
use Rattle.varisat_theory.specs.promises.Journals.{Retires}
use Rattle.varisat_theory.proofs.clauses.Members.{equal_or_not}
use Rattle.varisat_names.specs.promises.Maps.{updated, onward, chain}
use Rattle.varisat_names.specs.promises.VarData.{fresh}
use Rattle.varisat_names.specs.declared.variables.data.VarData.{VarData}
use Rattle.varisat_names.specs.declared.variables.data.SamplingMode.TheVariants as sampling
use Rattle.varisat_solver.specs.promises.States.{State, with_variables, Verdict, Sat, IsRight, IsWellFormed}
use Rattle.varisat_solver.specs.promises.Names.{Sample, bring}
use Rattle.varisat_solver.specs.promises.Calls.{with_naming}
use Rattle.varisat_tracer.specs.promises.Carried.{carry}
use Rattle.varisat_solver.specs.inside.Spaces.{Spaces, Carrying, IsCounted, ModeFits, IdentitiesFit, NamesFit, ModesFit, UnitsFit, IsolationCase, NotIsolated, Apart, Forced, IsolationFits, AssumptionsFit, MarksFit, without_core, translation, IsPlain, Links, SpacesFit}
use Rattle.varisat_solver.proofs.entries.CheckedHeld.{checker-alike}
use Rattle.varisat_solver.proofs.entries.LoggedEntries.{held-spoken}
use Rattle.varisat_solver.proofs.calls.SpacesAgree.{give, carry-same, map-same, working-same, core-same, holds-same, logged-same, verdict-moved}
use Rattle.varisat_names.proofs.Maps.{updated-at, updated-other, updated-all, joined, chain-same, chain-some, chain-none, chain-through, is-some}

-- what follows from the links

-- a variable that is not live has no identity
pub unlinked : (w : Carrying) (p : Spaces) (s : State) (x : ℕ) → Links w p s → (p.kept x).deleted ≡ true → w.identity x ≡ None
unlinked w p s x k d = ⊎_elim (λ e. e) (λ (i, e). let q : true ≡ false = sym d ∙ k.identities.live x i e in absurd cc) (is-some (w.identity x))

-- a live one has one
pub linked : (w : Carrying) (p : Spaces) (s : State) (x : ℕ) → Links w p s → (p.kept x).deleted ≡ false → (i : ℕ) × (w.identity x ≡ Some i)
linked w p s x k d = ⊎_elim (λ e. let q : false ≡ true = sym d ∙ k.identities.deleted x e in absurd cc) (λ r. r) (is-some (w.identity x))

-- a variable that has an identity is not one that has none
pub differ : (id : ℕ → Option ℕ) (x y i : ℕ) → id x ≡ None → id y ≡ Some i → y ≡ x → ⊥
differ id x y i n e q = let z : None ≡ Some i = sym n ∙ ap id (sym q) ∙ e in cc

pub bring-well : (u : ℕ) (s : State) → IsWellFormed s → IsWellFormed (with_naming (bring u s.naming) s)
bring-well u s f = record {
  one_to_one = λ u' v i. updated-all (λ u' o. o ≡ Some i → updated s.naming.names u (Some s.naming.made) v ≡ Some i → u' ≡ v) s.naming.names u
      (Some s.naming.made)
      (λ e. updated-all (λ v o. o ≡ Some i → u ≡ v) s.naming.names u (Some s.naming.made) (λ _. refl) v
      (λ n h. let b = f.named v i h in let q : s.naming.made ≡ i = cc in absurd (omega (arith, b, q))))
      u'
      (λ n h. updated-all (λ v o. o ≡ Some i → u' ≡ v) s.naming.names u (Some s.naming.made)
      (λ e. let b = f.named u' i h in let q : s.naming.made ≡ i = cc in absurd (omega (arith, b, q))) v (λ m g. f.one_to_one u' v i h g));
  free = λ v h. updated-other s.naming.names u (Some s.naming.made) v (λ e. absurd (omega (arith))) ∙ f.free v (omega arith);
  named = λ v i. updated-all (λ v o. o ≡ Some i → i < s.naming.made + 1) s.naming.names u (Some s.naming.made)
      (λ e. let q : s.naming.made ≡ i = cc in omega (arith, q)) v (λ n h. let b = f.named v i h in omega (arith, b));
  accepted = λ c l h i. let b = f.accepted c l h i in omega (arith, b);
  assumed = λ l h. let b = f.assumed l h in omega (arith, b);
  counted = λ i h. let b = f.counted i h in omega (arith, b);
  once = f.once;
}

varied-well : (variables : ℕ → Option ℕ) (s : State) → IsWellFormed s → IsWellFormed (with_variables variables s)
varied-well variables s f = record {
  one_to_one = f.one_to_one;
  free = f.free;
  named = f.named;
  accepted = f.accepted;
  assumed = f.assumed;
  counted = f.counted;
  once = f.once;
}

-- under Sat an identity that is not counted is false
uncounted : (P : List Clause) (A : List Literal) (C : List ℕ) (v : Verdict) (i : ℕ) → (i ∈ C → ⊥) → IsRight P A C v → (a : Assignment) → v ≡ Sat a → a i ≡ false
uncounted P A C v i n r a e = (subst (IsRight P A C) e r).2 i n

module _ (w : Carrying) (p : Spaces) (s : State) (u x : ℕ) (k : Links w p s) (free : p.global_from_user u ≡ None) (dead : (p.kept x).deleted ≡ true)
    (lowest : (y : ℕ) → y < x → (p.kept y).deleted ≡ false) (near : x ≤ p.globals) where
  id' : ℕ → Option ℕ
  id' = updated w.identity x (Some s.naming.made)

  kept' : ℕ → VarData
  kept' = updated p.kept x fresh

  none : w.identity x ≡ None
  none = unlinked w p s x k dead

  apart : (y i : ℕ) → w.identity y ≡ Some i → y ≡ x → ⊥
  apart y i = differ w.identity x y i none

  stays : (y i : ℕ) → w.identity y ≡ Some i → id' y ≡ Some i
  unfolding id'
  stays y i h = updated-other w.identity x (Some s.naming.made) y (apart y i h) ∙ h

  kept-stays : (y i : ℕ) → w.identity y ≡ Some i → kept' y ≡ p.kept y
  unfolding kept'
  kept-stays y i h = updated-other p.kept x fresh y (apart y i h)

  unused : w.global s.naming.made ≡ None
  unused = ⊎_elim (λ e. e) (λ (y, e). let b = k.identities.below y s.naming.made (k.identities.one_to_one.back y s.naming.made e) in
      absurd (omega (arith, b))) (is-some (w.global s.naming.made))

  unnamed : p.user_from_global x ≡ None
  unnamed = ⊎_elim (λ e. e) (λ (v, e). let r = k.names.live v x (k.names.one_to_one.back v x e) in absurd (apart x r.0 r.1 refl))
      (is-some (p.user_from_global x))

  unforced : w.forced s.naming.made ≡ None
  unforced = ⊎_elim (λ e. e) (λ (b, e). let h = k.well_formed.counted s.naming.made (k.units.is_counted s.naming.made b e) in
      absurd (omega (arith, h))) (is-some (w.forced s.naming.made))

  new-identities : IdentitiesFit id' (updated w.global s.naming.made (Some x)) kept' (s.naming.made + 1)
  unfolding id' kept'
  new-identities = record {
    one_to_one = joined w.identity w.global x s.naming.made k.identities.one_to_one none unused;
    live = λ y i. updated-all (λ y o. o ≡ Some i → (kept' y).deleted ≡ false) w.identity x (Some s.naming.made)
        (λ _. ap (λ d. d.deleted) (updated-at p.kept x fresh)) y (λ n h. ap (λ d. d.deleted) (kept-stays y i h) ∙ k.identities.live y i h);
    deleted = λ y. updated-all (λ y o. o ≡ None → (kept' y).deleted ≡ true) w.identity x (Some s.naming.made) (λ e. absurd cc) y
        (λ n h. ap (λ d. d.deleted) (updated-other p.kept x fresh y n) ∙ k.identities.deleted y h);
    below = λ y i. updated-all (λ y o. o ≡ Some i → i < s.naming.made + 1) w.identity x (Some s.naming.made)
        (λ e. let q : s.naming.made ≡ i = cc in omega (arith, q)) y (λ n h. let b = k.identities.below y i h in omega (arith, b));
  }

  mode-new : ModeFits (kept' x).sampling_mode (updated s.naming.modes s.naming.made Sample s.naming.made)
  unfolding kept'
  mode-new = subst (λ m. ModeFits (kept' x).sampling_mode m) (sym (updated-at s.naming.modes s.naming.made Sample))
      (subst (λ d. ModeFits d.sampling_mode Sample) (sym (updated-at p.kept x fresh)) tt)

  new-names : NamesFit id' (updated p.global_from_user u (Some x)) (updated p.user_from_global x (Some u))
      (updated s.naming.names u (Some s.naming.made)) (max s.naming.watermark (u + 1))
  unfolding id'
  new-names = record {
    one_to_one = joined p.global_from_user p.user_from_global u x k.names.one_to_one free unnamed;
    agree = λ v. updated-all (λ v o. o ≡ chain (updated p.global_from_user u (Some x)) id' v) s.naming.names u (Some s.naming.made)
        (sym (chain-some (updated p.global_from_user u (Some x)) id' u x (updated-at p.global_from_user u (Some x))
        ∙ updated-at w.identity x (Some s.naming.made)))
        v
        (λ n. k.names.agree v ∙ chain-same p.global_from_user w.identity id' v (λ y h. let r = k.names.live v y h in r.1 ∙ sym (stays y r.0 r.1))
        ∙ ap (λ o. onward o id') (sym (updated-other p.global_from_user u (Some x) v n)));
    live = λ v y. updated-all (λ v o. o ≡ Some y → (i : ℕ) × (id' y ≡ Some i)) p.global_from_user u (Some x)
        (λ e. (s.naming.made, let q : x ≡ y = cc in subst (λ z. id' z ≡ Some s.naming.made) q (updated-at w.identity x (Some s.naming.made))))
        v
        (λ n h. let r = k.names.live v y h in (r.0, stays y r.0 r.1));
    free = λ v h. updated-other p.global_from_user u (Some x) v (λ e. absurd (omega arith)) ∙ k.names.free v (omega arith);
  }

  new-modes : ModesFit id' (updated p.global_from_user u (Some x)) (updated p.user_from_global x (Some u)) kept' (updated s.naming.modes s.naming.made Sample)
  unfolding id' kept'
  new-modes = record {
    mode = λ v y i. updated-all (λ v o. o ≡ Some y → id' y ≡ Some i →
        ModeFits (kept' y).sampling_mode (updated s.naming.modes s.naming.made Sample i)) p.global_from_user u (Some x)
        (λ e q. let z : x ≡ y = cc in
        let at : Some i ≡ Some s.naming.made = sym q ∙ ap id' (sym z) ∙ updated-at w.identity x (Some s.naming.made) in
        let j : s.naming.made ≡ i = cc in
        subst (λ i. ModeFits (kept' y).sampling_mode (updated s.naming.modes s.naming.made Sample i)) j
        (subst (λ y. ModeFits (kept' y).sampling_mode (updated s.naming.modes s.naming.made Sample s.naming.made)) z mode-new))
        v
        (λ n h q. let r = k.names.live v y h in
        let same : Some r.0 ≡ Some i = sym (stays y r.0 r.1) ∙ q in
        let j : r.0 ≡ i = cc in
        let b = k.identities.below y r.0 r.1 in
        subst (λ m. ModeFits (kept' y).sampling_mode m) (sym (updated-other s.naming.modes s.naming.made Sample i (λ e. absurd (omega (arith, b, e, j)))))
        (subst (λ d. ModeFits d.sampling_mode (s.naming.modes i)) (sym (kept-stays y r.0 r.1)) (k.modes.mode v y i h (r.1 ∙ ap Some j))));
    unnamed = λ y. updated-all (λ y o. o ≡ None → (kept' y).sampling_mode ≡ sampling.Hide) p.user_from_global x (Some u) (λ e. absurd cc) y
        (λ n h. ap (λ d. d.sampling_mode) (updated-other p.kept x fresh y n) ∙ k.modes.unnamed y h);
  }

  new-units : UnitsFit id' w.forced kept' s.counted
  unfolding id' kept'
  new-units = record {
    unit = λ y i. updated-all (λ y o. o ≡ Some i → w.forced i ≡ (kept' y).unit) w.identity x (Some s.naming.made)
        (λ e. let q : s.naming.made ≡ i = cc in ap w.forced (sym q) ∙ unforced ∙ ap (λ d. d.unit) (sym (updated-at p.kept x fresh)))
        y
        (λ n h. k.units.unit y i h ∙ ap (λ d. d.unit) (sym (kept-stays y i h)));
    is_counted = k.units.is_counted;
  }

  new-isolation : IsolationFits id' w.forced kept' s.clauses (s.naming.made + 1)
  unfolding id' kept'
  new-isolation i h =
      ⊎_elim
      (λ e. Apart (λ c l m q j z. let b = k.well_formed.accepted c l m j in absurd (omega (arith, b, z, e))))
      (λ n. go (k.isolation i (omega (arith, h, n))))
      (equal_or_not i s.naming.made)
    where
      go : IsolationCase w.identity w.forced p.kept s.clauses i → IsolationCase id' w.forced kept' s.clauses i
      go (NotIsolated y e o) = NotIsolated y (stays y i e) (ap (λ d. d.isolated) (kept-stays y i e) ∙ o)
      go (Apart a) = Apart a
      go (Forced b e) = Forced b e

  -- an assumption's name is in use before
  not-new : (l : Literal) → l ∈ p.assumptions → variable_of l ≡ u → ⊥
  not-new l h e =
      let (v, c) = k.assumptions.taken l h in
      let (y, f, g) = chain-through p.global_from_user p.solver_from_global (variable_of l) v c in
      let z : None ≡ Some y = sym free ∙ ap p.global_from_user (sym e) ∙ f in
      cc

  -- what a name in use stood for it stands for still
  name-stays : (v i : ℕ) → s.naming.names v ≡ Some i → updated s.naming.names u (Some s.naming.made) v ≡ Some i
  name-stays v i e = updated-other s.naming.names u (Some s.naming.made) v
      (λ q. let z : None ≡ Some i = sym (chain-none p.global_from_user w.identity u free) ∙ sym (k.names.agree u) ∙ ap s.naming.names (sym q) ∙ e in cc) ∙ e

  new-assumptions : AssumptionsFit (updated p.global_from_user u (Some x)) p.solver_from_global
      (updated s.naming.names u (Some s.naming.made)) p.assumptions s.assumptions
  new-assumptions = record {
    agree = k.assumptions.agree ∙ map-same (carry s.naming.names) (carry (updated s.naming.names u (Some s.naming.made))) p.assumptions
        (λ l h. carry-same s.naming.names (updated s.naming.names u (Some s.naming.made)) l
        (sym (updated-other s.naming.names u (Some s.naming.made) (variable_of l) (not-new l h))));
    taken = λ l h. let (v, c) = k.assumptions.taken l h in
        (v, ap (λ o. onward o p.solver_from_global) (updated-other p.global_from_user u (Some x) (variable_of l) (not-new l h)) ∙ c);
  }

  new-marks : MarksFit (updated p.global_from_user u (Some x)) kept' p.assumptions
  unfolding kept'
  new-marks = record {
    marked = λ l y h e.
        let f = sym (updated-other p.global_from_user u (Some x) (variable_of l) (not-new l h)) ∙ e in
        let r = k.names.live (variable_of l) y f in
        ap (λ d. d.assumed) (kept-stays y r.0 r.1) ∙ k.marks.marked l y h f;
    only = λ y. updated-all (λ y d. d.assumed ≡ true → (l : Literal) × (l ∈ p.assumptions)
        × (updated p.global_from_user u (Some x) (variable_of l) ≡ Some y)) p.kept x fresh (λ e. absurd cc) y
        (λ n h. let (l, a, b) = k.marks.only y h in (l, a, updated-other p.global_from_user u (Some x) (variable_of l) (not-new l a) ∙ b));
  }

  -- where nothing was ever hidden the variable has the number of the new identity
  new-number : IsPlain w.identity s.naming.made → s.naming.made ≡ x
  new-number f =
      ⊎_elim
      (λ (h : s.naming.made < x). let (i, e) = linked w p s s.naming.made k (lowest s.naming.made h) in
      let b = k.identities.below s.naming.made i e in let q = f.only s.naming.made i e in absurd (omega (arith, b, q)))
      (λ (h : x ≤ s.naming.made).
      ⊎_elim
      (λ (l : x < s.naming.made). let z : None ≡ Some x = sym none ∙ f.all x l in absurd cc)
      (λ (l : s.naming.made ≤ x). omega (arith, h, l))
      (cases_lt x s.naming.made))
      (cases_lt s.naming.made x)

  new-plain : IsPlain w.identity s.naming.made → IsPlain id' (s.naming.made + 1)
  unfolding id'
  new-plain f =
      let n = new-number f in
      record {
        all = λ i h. updated-all (λ i o. i < s.naming.made + 1 → o ≡ Some i) w.identity x (Some s.naming.made) (λ _. ap Some n) i
            (λ m l. f.all i (omega (arith, l, m, n))) h;
        only = λ y i. updated-all (λ y o. o ≡ Some i → i ≡ y) w.identity x (Some s.naming.made) (λ e. let q : s.naming.made ≡ i = cc in sym q ∙ n) y
            (λ m. f.only y i);
      }

  identity-same : (v : ℕ) → chain p.global_from_solver id' v ≡ chain p.global_from_solver w.identity v
  unfolding id'
  identity-same v = chain-same p.global_from_solver id' w.identity v (λ y h. let r = k.solvers.live v y h in stays y r.0 r.1 ∙ sym r.1)

  -- no identity is gone that was not before
  new-gone : (i : ℕ) → (Retires i ∈ s.logged) ↔ ((i < s.naming.made + 1) × (updated w.global s.naming.made (Some x) i ≡ None))
  new-gone i = (
    λ h.
        let (b, e) = (k.logged.left i).0 h in
        let apart : i ≡ s.naming.made → ⊥ = (λ q. omega (arith, b, q)) in
        (omega (arith, b), updated-other w.global s.naming.made (Some x) i apart ∙ e),
    λ (h, e).
        let apart : i ≡ s.naming.made →
        ⊥ = (λ q. let z : Some x ≡ None = sym (updated-at w.global s.naming.made (Some x))
        ∙ ap (updated w.global s.naming.made (Some x)) (sym q) ∙ e in cc) in
        (k.logged.left i).1 (omega (arith, h, apart), sym (updated-other w.global s.naming.made (Some x) i apart) ∙ e),
  )

  pub given : SpacesFit (give u x p) (with_variables (updated s.variables s.naming.made (Some x)) (with_naming (bring u s.naming) s))
  unfolding id' kept'
  given = (
    record { identity = id'; global = updated w.global s.naming.made (Some x); forced = w.forced },
    record {
      identities = new-identities;
      names = new-names;
      modes = new-modes;
      watermark = ap (λ n. max n (u + 1)) k.watermark;
      globals = let b = k.globals in omega (arith, b, near);
      units = new-units;
      isolation = new-isolation;
      solvers = record { one_to_one = k.solvers.one_to_one; live = λ v y h. let r = k.solvers.live v y h in (r.0, stays y r.0 r.1, r.2) };
      holds = holds-same s.clauses (translation w p s.logged)
          (record { identity = chain p.global_from_solver id'; global = updated w.global s.naming.made (Some x); forced = w.forced; logged = s.logged })
          p.search (without_core p.outcome)
          identity-same (λ i. refl)
          (λ share q. logged-same (translation w p s.logged)
          (record {
            identity = chain p.global_from_solver id';
            global = updated w.global s.naming.made (Some x);
            forced = w.forced;
            logged =
                s.logged;
          }) p.search.fixed share (without_core p.outcome) identity-same (λ i. refl)
          (λ i y b e g. (
            y,
            sym (updated-other w.global s.naming.made (Some x) i
                (λ o. let z : None ≡ Some b = sym unforced ∙ ap w.forced (sym o) ∙ e in absurd cc)) ∙ g,
          ))
          (λ i y. updated-all (λ i o. w.global i ≡ Some y → (z : ℕ) × (o ≡ Some z)) w.global s.naming.made (Some x) (λ e. (x, refl)) i (λ n e. (y, e))) refl q)
          k.holds;
      assumptions = new-assumptions;
      marks = new-marks;
      working = working-same s.clauses (chain p.global_from_solver w.identity) (chain p.global_from_solver id') s.assumptions p.working
          (λ l h. identity-same (variable_of l)) k.working;
      core = core-same s.naming.names (updated s.naming.names u (Some s.naming.made)) p.core s.verdict name-stays k.core;
      verdict = verdict-moved w.identity id' p.model (updated p.model x false) p.outcome s.verdict
          (λ a e f y i. updated-all (λ y o. o ≡ Some i → a i ≡ updated p.model x false y) w.identity x (Some s.naming.made)
          (λ q. let z : s.naming.made ≡ i = cc in ap a (sym z) ∙ uncounted s.clauses s.assumptions s.counted s.verdict s.naming.made
          (λ h. let b = k.well_formed.counted s.naming.made h in absurd (omega (arith, b))) k.right a e ∙ sym (updated-at p.model x false))
          y
          (λ n h. f y i h ∙ sym (updated-other p.model x false y n)))
          k.verdict;
      right = k.right;
      well_formed = varied-well (updated s.variables s.naming.made (Some x)) (with_naming (bring u s.naming) s) (bring-well u s k.well_formed);
      few = k.few;
      shown = λ e y. updated-all (λ y o. o ≡ None → (kept' y).deleted ≡ true) p.user_from_global x (Some u) (λ q. absurd cc) y
          (λ n h. ap (λ d. d.deleted) (updated-other p.kept x fresh y n) ∙ k.shown e y h);
      plain = λ e. new-plain (k.plain e);
      variables = λ i y. updated-all (λ i o. o ≡ Some y → updated s.variables s.naming.made (Some x) i ≡ Some y) w.global s.naming.made (Some x)
          (λ e. updated-at s.variables s.naming.made (Some x) ∙ e) i (λ n e. updated-other s.variables s.naming.made (Some x) i n ∙ k.variables i y e);
      numbered = λ i y. updated-all (λ i o. o ≡ Some y → y < max p.globals (x + 1)) s.variables s.naming.made (Some x)
          (λ e. let q : x ≡ y = cc in omega (arith, q)) i (λ n e. let b = k.numbered i y e in omega (arith, b));
      logged = record {
        accepted = k.logged.accepted;
        assumed = k.logged.assumed;
        cores = k.logged.cores;
        spoken = k.logged.spoken;
        left = new-gone;
        stays = k.logged.stays;
      };
      checked = checker-alike w.global (updated w.global s.naming.made (Some x)) s.logged p.checker
          (λ held led c l h i. sym (updated-other w.global s.naming.made (Some x) (variable_of l) (λ q.
          let b = k.well_formed.counted (variable_of l) (held-spoken (IsCounted s.counted) [] s.logged held (λ d m j. absurd j) led k.logged.spoken c l h i) in
          absurd (omega (arith, b, q))))) k.checked;
    },
  )
