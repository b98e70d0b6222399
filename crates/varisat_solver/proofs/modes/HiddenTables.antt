-- What the calls that hide, show and change a variable do to the tables, said of the states.
use Rattle.std.proofs.Common.{◌≡◌, ℕ, Some, None, sym, ap, ◌∙◌, subst, refl, ◌≢◌, ◌<◌, ◌≤◌, Bool, true, false, if◌then◌else◌, Option, ◌⊎◌, ⊎_elim, length, arith, List, [], ◌∷◌, ◌++◌}
use Rattle.varisat_names.specs.promises.Maps.{updated}
use Rattle.varisat_names.specs.declared.variables.data.VarData.{VarData}
use Rattle.varisat_names.specs.declared.variables.data.SamplingMode.{SamplingMode}
use Rattle.varisat_names.proofs.Maps.{updated-at, updated-other, updated-all, chain-none, chain-through, is-some}
use Rattle.varisat_solver.specs.promises.States.{State}
use Rattle.varisat_solver.specs.promises.Names.{Mode, identity_of, give_name, IsLeastFree, IsUnnamed}
use Rattle.varisat_solver.specs.promises.Usage.{with_mode, IsAssumed, hide_name}
use Rattle.varisat_solver.specs.inside.Spaces.{Spaces, Carrying, ModeFits, ModesFit, Links, without_core, SpacesFit}
use Rattle.varisat_solver.proofs.calls.SpacesAgree.{identities-same, units-same, isolation-same, marks-same}
use Rattle.varisat_solver.proofs.modes.VariableMoves.{in_mode, set_mode, kept-most, hide, show, recycle}
use Rattle.varisat_solver.proofs.modes.HiddenStates.{field-same, identity-named, one-name, hidden}
use Rattle.varisat_theory.specs.promises.Membership.{◌∈◌}
use Rattle.varisat_theory.specs.promises.Literals.{variable_of, Literal}
use Rattle.varisat_theory.proofs.journals.Renaming.{∈-map, map-∈}
use Rattle.varisat_search.specs.Steps.{assignment_of}
use Rattle.varisat_names.specs.promises.VarMap.{at}
use Rattle.varisat_names.specs.promises.VarBiMap.{BiMap}
use Rattle.varisat_names.specs.promises.VarData.{dead, data_at, IsDataAt}
use Rattle.varisat_names.specs.promises.Variables.{Tables, IsChangedTo, unused, IsHidden, IsRetiredIfUnused, IsShown}
use Rattle.varisat_solver.specs.promises.Calls.{with_naming}
use Rattle.varisat_tracer.specs.promises.Carried.{carry}
use Rattle.varisat_solver.specs.inside.Carried.{value_or}
use Rattle.varisat_theory.specs.promises.Journals.{Entry, Retires}
use Rattle.varisat_prop.specs.View.{View}
use Rattle.varisat_proof.specs.promises.Proving.{ProofParts, IsCheckedIf, IsLogged}
use Rattle.varisat_tracer.specs.inside.Tracing.{retires_if_deleted}
use Rattle.varisat_search.specs.Seen.{outcome_of}
use Rattle.varisat_search.specs.declared.state.SatState.{SatState}
use Rattle.varisat_solver.specs.promises.Journals.{with_entries, LogsRetired}
use Rattle.varisat_solver.proofs.entries.LoggedProofs.{leaving-none, leaving-one}
use Rattle.varisat_solver.specs.promises.Summaries.{Summary}
use Rattle.varisat_solver.specs.inside.Representations.{spaces}
use Rattle.varisat_solver.proofs.calls.Carried.{carry-at}
use Rattle.varisat_solver.proofs.steps.SolveVerdict.{maps-same}
use Rattle.varisat_solver.proofs.accepting.AcceptClause.{with_tables}
use Rattle.varisat_solver.proofs.accepting.NewNames.{linked}
use Rattle.varisat_proof.specs.promises.Calls.{CheckerState}
use Rattle.varisat_solver.proofs.entries.CheckedHeld.{checked-nothing}
use Rattle.varisat_solver.proofs.modes.RecycledGlobals.{recycled}
use Rattle.varisat_solver.proofs.modes.ShownStates.{no-name, shown}
use Rattle.varisat_names.specs.declared.variables.data.SamplingMode.TheVariants as sampling
use Rattle.varisat_theory.specs.inside.Outcomes as outcome
use Rattle.varisat_search.specs.declared.state.SatState.TheVariants as verdict

-- The mode of a name in use is set.

module _ (w : Carrying) (p : Spaces) (s : State) (u x : ℕ) (k : Links w p s) (at : p.global_from_user u ≡ Some x) (m : SamplingMode) (n : Mode)
    (fit : ModeFits m n) where
  d : VarData
  d = in_mode m (p.kept x)

  kept' : ℕ → VarData
  kept' = updated p.kept x d

  named-modes : (i : ℕ) → w.identity x ≡ Some i → ModesFit w.identity p.global_from_user p.user_from_global kept' (updated s.naming.modes i n)
  unfolding kept' d
  named-modes i is = record {
    mode = λ v y j h e. updated-all
        (λ y a. w.identity y ≡ Some j → ((y ≡ x → ⊥) → ModeFits a.sampling_mode (s.naming.modes j)) →
        ModeFits a.sampling_mode (updated s.naming.modes i n j)) p.kept x d
        (λ q _. let b : Some i ≡ Some j = sym is ∙ q in let z : i ≡ j = cc in
        subst (λ b. ModeFits m b) (sym (updated-at s.naming.modes i n) ∙ ap (updated s.naming.modes i n) z) fit)
        y
        (λ o q f. subst (λ b. ModeFits (p.kept y).sampling_mode b)
        (sym (updated-other s.naming.modes i n j
        (λ z. let b : Some y ≡ Some x = sym (k.identities.one_to_one.there y j q) ∙ ap w.global z ∙ k.identities.one_to_one.there x i is in
        o cc))) (f o))
        e
        (λ o. subst (λ a. ModeFits a.sampling_mode (s.naming.modes j)) (sym (updated-other p.kept x d y o)) (k.modes.mode v y j h e));
    unnamed = λ y h. updated-all (λ y a. p.user_from_global y ≡ None → a.sampling_mode ≡ sampling.Hide) p.kept x d
        (λ q. let b : None ≡ Some u = sym q ∙ k.names.one_to_one.there u x at in absurd cc)
        y
        (λ o q. k.modes.unnamed y q)
        h;
  }

  pub mode-set : Links w (set_mode x m p) (with_mode u n s)
  unfolding kept' d
  mode-set =
      let (i, is, named) = identity-named w p s u x k at in
      let of-name : identity_of (s.naming.names u) ≡ i = ap identity_of named in
      record {
        identities = identities-same w.identity w.global p.kept kept' s.naming.made (field-same (λ a. a.deleted) p.kept x d refl) k.identities;
        names = k.names;
        modes = named-modes (identity_of (s.naming.names u)) (is ∙ ap Some (sym of-name));
        watermark = k.watermark;
        globals = k.globals;
        units = units-same w.identity w.forced p.kept kept' s.counted (field-same (λ a. a.unit) p.kept x d refl) k.units;
        isolation = isolation-same w.identity w.forced p.kept kept' s.clauses s.naming.made (field-same (λ a. a.isolated) p.kept x d refl) k.isolation;
        solvers = k.solvers;
        holds = k.holds;
        assumptions = k.assumptions;
        marks = marks-same p.global_from_user p.global_from_user p.kept kept' p.assumptions (λ v. refl) (field-same (λ a. a.assumed) p.kept x d refl) k.marks;
        working = k.working;
        verdict = k.verdict;
        core = k.core;
        right = k.right;
        well_formed = record {
          one_to_one = k.well_formed.one_to_one;
          free = k.well_formed.free;
          named = k.well_formed.named;
          accepted =
              k.well_formed.accepted;
          assumed = k.well_formed.assumed;
          counted = k.well_formed.counted;
          once = k.well_formed.once;
        };
        few = k.few;
        shown = λ e y h. field-same (λ a. a.deleted) p.kept x d refl y ∙ k.shown e y h;
        plain = k.plain;
        variables = k.variables;
        numbered = k.numbered;
        logged = k.logged;
        checked = k.checked;
      }

-- 1. What the marks and the maps say of the state.

-- a variable is marked as assumed just where its name is assumed
pub marked-assumed : (w : Carrying) (p : Spaces) (s : State) (u x : ℕ) → Links w p s → p.global_from_user u ≡ Some x → (p.kept x).assumed ≡ true → IsAssumed s u
marked-assumed w p s u x k at e =
    let (l, h, f) = k.marks.only x e in
    let (i, is, named) = identity-named w p s u x k at in
    let same : variable_of l ≡ u = one-name p.global_from_user p.user_from_global u (variable_of l) x k.names.one_to_one at f in (
      carry s.naming.names l,
      subst (λ a. carry s.naming.names l ∈ a) (sym k.assumptions.agree) (∈-map (carry s.naming.names) l p.assumptions h),
      named ∙ ap Some (sym (carry-at s.naming.names l i (ap s.naming.names same ∙ named))),
    )

pub assumed-marked : (w : Carrying) (p : Spaces) (s : State) (u x : ℕ) → Links w p s → p.global_from_user u ≡ Some x → IsAssumed s u → (p.kept x).assumed ≡ true
assumed-marked w p s u x k at (l, h, e) =
    let (g, b, c) = map-∈ (carry s.naming.names) l p.assumptions (subst (λ a. l ∈ a) k.assumptions.agree h) in
    let (v, t) = k.assumptions.taken g b in
    let (y, f, m) = chain-through p.global_from_user p.solver_from_global (variable_of g) v t in
    let (j, z, n) = identity-named w p s (variable_of g) y k f in
    let same : variable_of g ≡ u = k.well_formed.one_to_one (variable_of g) u j n (e ∙ ap Some (ap variable_of c ∙ carry-at s.naming.names g j n)) in
    k.marks.marked g x b (ap p.global_from_user same ∙ at)

-- the least name that leads nowhere is the least free one
pub least-free : (w : Carrying) (p : Spaces) (s : State) (u : ℕ) → Links w p s → p.global_from_user u ≡ None →
    ((v : ℕ) → v < u → p.global_from_user v ≢ None) → IsLeastFree s.naming u
least-free w p s u k none below = (
  k.names.agree u ∙ chain-none p.global_from_user w.identity u none,
  λ v h e. ⊎_elim (below v h) (λ (x, f). let (i, is, named) = identity-named w p s v x k f in let z : None ≡ Some i = sym e ∙ named in cc)
      (is-some (p.global_from_user v)),
)

-- the variable of a name is live
named-live : (w : Carrying) (p : Spaces) (s : State) (u x : ℕ) → Links w p s → p.global_from_user u ≡ Some x → (p.kept x).deleted ≡ false
named-live w p s u x k at = let (i, is) = k.names.live u x at in k.identities.live x i is

-- 2. The tables.

-- the value of a variable in the model, where what is kept of one changes and its unit stays
model-kept : (g : Summary) (new : Tables) (x : ℕ) (d : VarData) → IsDataAt g.tables.kept x d new.kept → d.unit ≡ (data_at g.tables.kept x).unit →
    new.solvers ≡ g.tables.solvers → (y : ℕ) → (spaces (with_tables new g)).model y ≡ (spaces g).model y
model-kept g new x d n e q y =
    let f = assignment_of g.search in
    ap (λ (o : Option Bool). value_or o f (at new.solvers.forward y))
    (ap (λ (a : VarData). a.unit) (n.at_each y) ∙ field-same (λ a. a.unit) (data_at g.tables.kept) x d e y)
    ∙ ap (λ (m : BiMap). value_or (data_at g.tables.kept y).unit f (at m.forward y)) q

pub mode-spaces : (g : Summary) (s : State) (new : Tables) (u x : ℕ) (m : SamplingMode) (n : Mode) → SpacesFit (spaces g) s →
    at g.tables.users.forward u ≡ Some x → ModeFits m n → IsChangedTo g.tables new x (in_mode m (data_at g.tables.kept x)) →
    SpacesFit (spaces (with_tables new g)) (with_mode u n s)
mode-spaces g s new u x m n (w, k) at-name fit c =
    let users = ap (λ (t : Tables). t.users) c.rest in
    let solvers = ap (λ (t : Tables). t.solvers) c.rest in
    maps-same (set_mode x m (spaces g)) (spaces (with_tables new g)) (with_mode u n s) (record {
      global_from_user = λ v. ap (λ (b : BiMap). at b.forward v) users;
      user_from_global = λ y. ap (λ (b : BiMap). at b.backward y) users;
      watermark = ap (λ (b : BiMap). length b.forward) users;
      globals = kept-most g.tables.kept new.kept x (in_mode m (data_at g.tables.kept x)) (named-live w (spaces g) s u x k at-name) c.kept;
      solver_from_global = λ y. ap (λ (b : BiMap). at b.forward y) solvers;
      global_from_solver = λ v. ap (λ (b : BiMap). at b.backward v) solvers;
      kept = c.kept.at_each;
      model = λ a e y. model-kept g new x (in_mode m (data_at g.tables.kept x)) c.kept refl solvers y;
    }) refl (w, mode-set w (spaces g) s u x k at-name m n fit)

pub shown-spaces : (g : Summary) (s : State) (new : Tables) (x u : ℕ) → SpacesFit (spaces g) s → (data_at g.tables.kept x).deleted ≡ false →
    at g.tables.users.backward x ≡ None → IsShown g.tables new x sampling.Witness u →
    IsLeastFree s.naming u × ((i : ℕ) × (i < s.naming.made) × IsUnnamed s.naming i
    × SpacesFit (spaces (with_tables new g)) (with_naming (give_name u i s.naming) s))
shown-spaces g s new x u (w, k) live unnamed n =
    let p = spaces g in
    let (i, is) = linked w p s x k live in (
      least-free w p s u k n.least.0 n.least.1,
      (
        i,
        k.identities.below x i is,
        no-name w p s u x i k n.least.0 is unnamed,
        maps-same (show u x p) (spaces (with_tables new g)) (with_naming (give_name u i s.naming) s) (record {
          global_from_user = n.users.forward.at_each;
          user_from_global = n.users.backward.at_each;
          watermark = n.users.forward.watermark;
          globals = kept-most g.tables.kept new.kept x (in_mode sampling.Witness (data_at g.tables.kept x)) live n.kept;
          solver_from_global = λ y. ap (λ (b : BiMap). at b.forward y) n.solvers;
          global_from_solver = λ v. ap (λ (b : BiMap). at b.backward v) n.solvers;
          kept = n.kept.at_each;
          model = λ a e y. model-kept g new x (in_mode sampling.Witness (data_at g.tables.kept x)) n.kept refl n.solvers y;
        }) refl (w, shown w p s u x i k n.least.0 is unnamed),
      ),
    )

-- 3. A name is freed.
pub hidden-spaces : (g : Summary) (s : State) (new : Tables) (u x : ℕ) → SpacesFit (spaces g) s → at g.tables.users.forward u ≡ Some x →
    (data_at g.tables.kept x).assumed ≡ false → IsHidden g.tables new u x → SpacesFit (spaces (with_tables new g)) (hide_name u s)
hidden-spaces g s new u x (w, k) named unassumed n =
    let d = in_mode sampling.Hide (data_at g.tables.kept x) in
    maps-same (hide u x (spaces g)) (spaces (with_tables new g)) (hide_name u s) (record {
      global_from_user = n.users.forward.at_each;
      user_from_global = n.users.backward.at_each;
      watermark = same-watermark;
      globals = kept-most g.tables.kept new.kept x d (named-live w (spaces g) s u x k named) n.kept;
      solver_from_global = λ y. ap (λ (b : BiMap). at b.forward y) n.solvers;
      global_from_solver = λ v. ap (λ (b : BiMap). at b.backward v) n.solvers;
      kept = n.kept.at_each;
      model = λ a e y. model-kept g new x d n.kept refl n.solvers y;
    }) refl (w, hidden w (spaces g) s u x k named unassumed)
  where
    over-or : (a b : ℕ) → (a ≤ b) ⊎ (b < a)
    over-or a b = grind arith

    same-watermark : length new.users.forward ≡ length g.tables.users.forward
    same-watermark =
        let a = n.users.forward.watermark in
        let b = k.watermark in
        ⊎_elim
        (λ h. let z : None ≡ Some x = sym (k.names.free u (omega (arith, h, b))) ∙ named in absurd cc)
        (λ h. omega (arith, a, h))
        (over-or (length g.tables.users.forward) u)

-- 4. A hidden variable may be used again where it is unused.

abbrev pub with_checker : Option CheckerState → Summary → Summary
with_checker checker g = record g { checker = checker }

is-unused : (o : Option ℕ) (d : VarData) → unused o d ≡ true → (o ≡ None) × (d.isolated ≡ true)
is-unused None d e = (refl, e)
is-unused (Some y) d e = absurd (let z : false ≡ true = e in cc)

-- a verdict but Unsat
undecided : (search : View) (core : List Literal) (v : SatState) → v ≢ verdict.Unsat → without_core (outcome_of search core v) ≢ outcome.Unsat
undecided search core verdict.Unknown n e = let z : outcome.Unknown ≡ outcome.Unsat = e in cc
undecided search core verdict.Sat n e = let z : outcome.Sat (assignment_of search) ≡ outcome.Unsat = e in cc
undecided search core verdict.Unsat n e = n refl
undecided search core verdict.UnsatUnderAssumptions n e = let z : outcome.Unknown ≡ outcome.Unsat = e in cc

module _ (g : Summary) (s : State) (new : Tables) (x : ℕ) (w : Carrying) (k : Links w (spaces g) s)
    (live : (data_at g.tables.kept x).deleted ≡ false) (unnamed : at g.tables.users.backward x ≡ None) (undecided_before : g.sat_state ≢ verdict.Unsat)
    (n : IsRetiredIfUnused g.tables new x) (p q : ProofParts) (same : p.checker ≡ g.checker) (logged : IsLogged p (retires_if_deleted new x) q) where
  same-users : new.users ≡ g.tables.users
  same-users = ap (λ (t : Tables). t.users) n.rest

  same-solvers : new.solvers ≡ g.tables.solvers
  same-solvers = ap (λ (t : Tables). t.solvers) n.rest

  -- what is kept, by whether the variable is unused
  kept-as : (b : Bool) → unused (at g.tables.solvers.forward x) (data_at g.tables.kept x) ≡ b →
      IsDataAt g.tables.kept x (if b then dead else data_at g.tables.kept x) new.kept
  kept-as b e = subst (λ c. IsDataAt g.tables.kept x (if c then dead else data_at g.tables.kept x) new.kept) e n.kept

  stays-live : IsDataAt g.tables.kept x (data_at g.tables.kept x) new.kept → retires_if_deleted new x ≡ [] →
      SpacesFit (spaces (with_checker q.checker (with_tables new g))) s
  stays-live l none = maps-same (record (spaces g) { checker = q.checker }) (spaces (with_checker q.checker (with_tables new g))) s (record {
    global_from_user = λ v. ap (λ (b : BiMap). at b.forward v) same-users;
    user_from_global = λ y. ap (λ (b : BiMap). at b.backward y) same-users;
    watermark = ap (λ (b : BiMap). length b.forward) same-users;
    globals = kept-most g.tables.kept new.kept x (data_at g.tables.kept x) live l;
    solver_from_global = λ y. ap (λ (b : BiMap). at b.forward y) same-solvers;
    global_from_solver = λ v. ap (λ (b : BiMap). at b.backward v) same-solvers;
    kept = λ y. l.at_each y ∙ updated-all (λ y a. a ≡ data_at g.tables.kept y) (data_at g.tables.kept) x (data_at g.tables.kept x) refl y (λ m. refl);
    model = λ a e y. model-kept g new x (data_at g.tables.kept x) l refl same-solvers y;
  }) refl (subst (λ o. SpacesFit (record (spaces g) { checker = o }) s)
      (sym (checked-nothing p.checker q.checker (subst (λ es. IsCheckedIf p.checker es q.checker) none logged.checked) ∙ same)) (w, k))

  goes : IsDataAt g.tables.kept x dead new.kept → retires_if_deleted new x ≡ Retires x ∷ [] → at g.tables.solvers.forward x ≡ None →
      (data_at g.tables.kept x).isolated ≡ true → (i : ℕ) → w.identity x ≡ Some i →
      SpacesFit (spaces (with_checker q.checker (with_tables new g))) (with_entries (s.logged ++ Retires i ∷ []) s)
  goes l one unsolved alone i is =
      let f = assignment_of g.search in
      maps-same (record (recycle x (spaces g)) { checker = q.checker }) (spaces (with_checker q.checker (with_tables new g)))
      (with_entries (s.logged ++ Retires i ∷ []) s) (record {
        global_from_user = λ v. ap (λ (b : BiMap). at b.forward v) same-users;
        user_from_global = λ y. ap (λ (b : BiMap). at b.backward y) same-users;
        watermark = ap (λ (b : BiMap). length b.forward) same-users;
        globals = kept-most g.tables.kept new.kept x dead live l;
        solver_from_global = λ y. ap (λ (b : BiMap). at b.forward y) same-solvers;
        global_from_solver = λ v. ap (λ (b : BiMap). at b.backward v) same-solvers;
        kept = l.at_each;
        model = λ a e y. updated-all (λ y b. value_or (data_at new.kept y).unit f (at new.solvers.forward y) ≡ b) (spaces g).model x false
            (ap (λ (d : VarData). value_or d.unit f (at new.solvers.forward x)) (l.at_each x ∙ updated-at (data_at g.tables.kept) x dead)
            ∙ ap (value_or None f) (ap (λ (b : BiMap). at b.forward x) same-solvers ∙ unsolved))
            y
            (λ m. ap (λ (d : VarData). value_or d.unit f (at new.solvers.forward y))
            (l.at_each y ∙ updated-other (data_at g.tables.kept) x dead y m)
            ∙ ap (λ (b : BiMap). value_or (data_at g.tables.kept y).unit f (at b.forward y)) same-solvers);
      }) refl (recycled w (spaces g) s x i k is unnamed unsolved alone (undecided g.search g.assumed.failed_core g.sat_state undecided_before) q.checker
      (subst (λ o. IsCheckedIf o (Retires x ∷ []) q.checker) same (subst (λ es. IsCheckedIf p.checker es q.checker) one logged.checked)))

  -- the proof logs that
  gone : unused (at g.tables.solvers.forward x) (data_at g.tables.kept x) ≡ true → retires_if_deleted new x ≡ Retires x ∷ []
  gone e = ap (λ (b : Bool). if b then Retires x ∷ [] else [])
      (ap (λ (d : VarData). d.deleted) ((kept-as true e).at_each x ∙ updated-at (data_at g.tables.kept) x dead))

  by-use : (b : Bool) → unused (at g.tables.solvers.forward x) (data_at g.tables.kept x) ≡ b → (after : List Entry)
      × LogsRetired s.variables s.logged after p q × SpacesFit (spaces (with_checker q.checker (with_tables new g))) (with_entries after s)
  by-use true e =
      let (unsolved, alone) = is-unused (at g.tables.solvers.forward x) (data_at g.tables.kept x) e in
      let (i, is) = linked w (spaces g) s x k live in (
        s.logged ++ Retires i ∷ [],
        leaving-one s.variables s.logged i x p q (retires_if_deleted new x) (k.variables i x (k.identities.one_to_one.there x i is)) (gone e) logged,
        goes (kept-as true e) (gone e) unsolved alone i is,
      )
  by-use false e =
      let kept = kept-as false e in
      let none = ap (λ (b : Bool). if b then Retires x ∷ [] else [])
      (ap (λ (d : VarData). d.deleted) (kept.at_each x ∙ updated-at (data_at g.tables.kept) x (data_at g.tables.kept x)) ∙ live) in
      (s.logged, leaving-none s.variables s.logged p q (retires_if_deleted new x) none logged, stays-live kept none)

  links-left : (after : List Entry) × LogsRetired s.variables s.logged after p q
      × SpacesFit (spaces (with_checker q.checker (with_tables new g))) (with_entries after s)
  links-left = by-use (unused (at g.tables.solvers.forward x) (data_at g.tables.kept x)) refl

pub left-spaces : (g : Summary) (s : State) (new : Tables) (x : ℕ) (p q : ProofParts) → SpacesFit (spaces g) s →
    (data_at g.tables.kept x).deleted ≡ false → at g.tables.users.backward x ≡ None → g.sat_state ≢ verdict.Unsat →
    IsRetiredIfUnused g.tables new x → p.checker ≡ g.checker → IsLogged p (retires_if_deleted new x) q →
    (after : List Entry) × LogsRetired s.variables s.logged after p q × SpacesFit (spaces (with_checker q.checker (with_tables new g))) (with_entries after s)
left-spaces g s new x p q (w, k) live unnamed undecided_before n same logged = links-left g s new x w k live unnamed undecided_before n p q same logged
