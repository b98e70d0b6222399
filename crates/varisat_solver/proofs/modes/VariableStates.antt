-- What the calls that set modes, hide and show variables do to the states that the solver represents.
use Rattle.std.proofs.Common.{◌≡◌, ℕ, ◌<◌, true, None, List, ◌≢◌, Bool, false, Result, Err, Option, Some, [], ◌∷◌, inl, inr, ⊎_elim, length, sym, ap, ◌∙◌, subst, refl}
use Rattle.std.specs.Option.{is_some}
use Rattle.varisat_theory.specs.promises.Membership.{◌∈◌}
use Rattle.varisat_literals.specs.promises.Numbers.{variable_limit}
use Rattle.varisat_names.specs.promises.VarMap.{at}
use Rattle.varisat_names.specs.promises.VarData.{data_at}
use Rattle.varisat_solver.specs.promises.States.{State, with_variables}
use Rattle.varisat_solver.specs.promises.Names.{Naming, AreShown, Mode, name_one, give_name}
use Rattle.varisat_solver.specs.promises.Calls.{with_naming, HasTooManyVariables}
use Rattle.varisat_solver.specs.promises.Usage.{AreAllShown, ChangesVar, SetsMode, name_var, IsAssumed, with_mode, hide_name}
use Rattle.varisat_solver.specs.inside.Spaces.{SpacesFit, Carrying, ModeFits, Links, KeepVariables, FitWithNew}
use Rattle.varisat_solver.specs.promises.Summaries.{Summary}
use Rattle.varisat_solver.specs.inside.Representations.{spaces, IsValidSolver}
use Rattle.varisat_solver.proofs.modes.ShownStates.{may-stay}
use Rattle.varisat_theory.specs.promises.Literals.{variable_of, literal_of}
use Rattle.varisat_theory.proofs.clauses.Values.{variable-literal}
use Rattle.varisat_search.specs.declared.context.Context.{Context}
use Rattle.varisat_search.specs.Contexts.{view}
use Rattle.varisat_names.specs.promises.VarBiMap.{BiMap}
use Rattle.varisat_names.specs.promises.Variables.{Tables, AreLinked}
use Rattle.varisat_names.specs.declared.variables.data.SamplingMode.{SamplingMode}
use Rattle.varisat_names.proofs.Maps.{chain-none, is-some, some-of}
use Rattle.varisat_names.specs.inside.NamesAndModes.{AreShownInTurn, ShowsAllHidden}
use Rattle.varisat_solver.specs.inside.VariableChanges.{IsMarkedAssumed, IsMarkedName, ChecksChange, StaysValid, SetsNamedMode, HidesNamed}
use Rattle.varisat_solver.specs.inside.Accepting.{AreBounded, naming_of}
use Rattle.varisat_theory.specs.promises.Journals.{Entry}
use Rattle.varisat_names.specs.declared.variables.data.VarData.{VarData}
use Rattle.varisat_proof.specs.promises.Proving.{ProofParts}
use Rattle.varisat_tracer.specs.inside.Tracing.{TracerState}
use Rattle.varisat_solver.specs.promises.Journals.{with_entries, LogsRetired}
use Rattle.varisat_solver.proofs.entries.LoggedProofs.{leaving-nothing}
use Rattle.varisat_solver.specs.declared.solver.SolverError.{SolverError}
use Rattle.varisat_solver.specs.declared.solver.SolverError.TheVariants.{OutOfMemory, VariableLimit, AssumedVar}
use Rattle.varisat_solver.proofs.accepting.AcceptClause.{with_tables, named-one}
use Rattle.varisat_solver.proofs.calls.CallStates.{Begins}
use Rattle.varisat_solver.proofs.accepting.NamingStates.{too-many-state}
use Rattle.varisat_solver.proofs.modes.HiddenTables.{marked-assumed, assumed-marked, mode-spaces, hidden-spaces, with_checker, left-spaces, shown-spaces}
use Rattle.varisat_solver.proofs.modes.VariableChanges.{hidden-unnamed, hidden-keeps, unsat-or-not, turns-stay}
use Rattle.varisat_solver.proofs.modes.VariableMoves.{tables-in-use}
use Rattle.varisat_names.specs.declared.variables.data.SamplingMode.TheVariants as sampling
use Rattle.varisat_search.specs.declared.state.SatState.TheVariants as verdict

-- Hidden variables come back one after the other, each under the least free name.

-- The names came into use, and what is held stands for the state with them.
abbrev pub HaveShown : List ℕ → Summary → State → Type 0
HaveShown us g s = (m : Naming) × AreShown us s.naming m × SpacesFit (spaces g) (with_naming m s)

-- Once each live variable has a name, all that must be shown is.
pub all-shown : (us : List ℕ) (g : Summary) (s : State) → HaveShown us g s → ((u : ℕ) → u ∈ us → u < variable_limit) →
    ((x : ℕ) → at g.tables.users.backward x ≡ None → (data_at g.tables.kept x).deleted ≡ true) → (m : Naming) × AreAllShown us s.clauses s.naming m
    × SpacesFit (spaces g) (with_naming m s)
all-shown us g s (m, turns, f) in-range named =
    let (w, k) = f in
    (m, record { in_turn = turns; in_range = in-range; rest = λ i h n. may-stay w (spaces g) (with_naming m s) k named i h n }, f)

-- 1. What is found out of a name.

assumed-state : (w : Carrying) (g : Summary) (s : State) (u : ℕ) → Links w (spaces g) s → IsMarkedName g.tables u → IsAssumed s u
assumed-state w g s u k (x, e, m) = marked-assumed w (spaces g) s u x k e m

pub unassumed-state : {g : Summary} {s : State} (u : ℕ) → Begins g s → (IsMarkedName g.tables u → ⊥) → IsAssumed s u → ⊥
unassumed-state {g} {s} u b n (l, h, e) =
    let (w, k) = b.fits in
    ⊎_elim
    (λ f. let z : None ≡ Some (variable_of l) = sym (k.names.agree u ∙ chain-none (at g.tables.users.forward) w.identity u f) ∙ e in absurd cc)
    (λ (x, f). n (x, f, assumed-marked w (spaces g) s u x k f (l, h, e)))
    (is-some (at g.tables.users.forward u))

pub free-state : {g : Summary} {s : State} (u : ℕ) → Begins g s → at g.tables.users.forward u ≡ None → s.naming.names u ≡ None
free-state {g} {s} u b f = let (w, k) = b.fits in k.names.agree u ∙ chain-none (at g.tables.users.forward) w.identity u f

too-many-one : (w : Carrying) (g : Summary) (s : State) (u : ℕ) → Links w (spaces g) s → HasTooManyVariables (name_one u (naming_of g.tables)) →
    HasTooManyVariables (name_one u s.naming)
too-many-one w g s u k c =
    let e = variable-literal u true in
    subst (λ v. HasTooManyVariables (name_one v s.naming)) e
    (too-many-state w g s k (literal_of u true ∷ []) (subst (λ v. HasTooManyVariables (name_one v (naming_of g.tables))) (sym e) c))

-- a change that is refused changes nothing
pub change-refused : (may_leave : Bool) (change : State → State) {g : Summary} {s : State} (u : ℕ) (e : SolverError) → Begins g s →
    ChecksChange g.tables u (Err e) → ChangesVar may_leave change s u (Err e) s
change-refused may_leave change {g} {s} u VariableLimit b c = let (w, k) = b.fits in (b.valid, ⊎_elim inl (λ m. inr (too-many-one w g s u k m)) c, refl)
change-refused may_leave change {g} {s} u (AssumedVar x) b (h, q, m) = let (w, k) = b.fits in (b.valid, h, q, assumed-state w g s u k m, refl)
change-refused may_leave change {g} {s} u e b c = absurd c

-- memory is not what it is refused for
no-memory : (t : Tables) (u : ℕ) (r : Result (Unit {0}) SolverError) → ChecksChange t u r → r ≡ Err OutOfMemory → ⊥
no-memory t u r c q = subst (ChecksChange t u) q c

pub mode-refused : (n : Mode) {g : Summary} {s : State} (u : ℕ) (e : SolverError) → Begins g s → ChecksChange g.tables u (Err e) →
    SetsMode n s u (Err e) s
mode-refused n {g} {s} u e b c = (change-refused false (with_mode u n) u e b c, λ q. absurd (no-memory g.tables u (Err e) c q))

-- 2. What is changed.

pub not-hide : (m : SamplingMode) (n : Mode) → ModeFits m n → m ≢ sampling.Hide
not-hide sampling.Sample n fit e = cc
not-hide sampling.Witness n fit e = cc
not-hide sampling.Hide n fit e = absurd fit

pub mode-state : (g : Summary) (s : State) (new : Tables) (u x : ℕ) (m : SamplingMode) (n : Mode) → SpacesFit (spaces g) s → ModeFits m n →
    SetsNamedMode u m g.tables x new → FitWithNew (spaces (with_tables new g)) s (with_mode u n (name_var u s))
mode-state g s new u x m n b fit c =
    let (variables, keep, fits) = named-one g s c.mid u b c.named.named in
    let t = with_variables variables (with_naming (name_one u s.naming) s) in
    (variables, keep, mode-spaces (with_tables c.mid g) t new u x m n fits c.named.leads fit (c.changed (not-hide m n fit)))

-- the name is free, and its variable left or not
module _ (g : Summary) (s : State) (u : ℕ) (p : ProofParts) (q : TracerState) (same : p.checker ≡ g.checker)
    (h : HidesNamed u g.sat_state (record { tables = g.tables; proof = p }) q) (variables : ℕ → Option ℕ)
    (b : SpacesFit (spaces (with_tables h.set.mid g)) (with_variables variables (with_naming (name_one u s.naming) s))) where
  after : State
  after = with_variables variables (hide_name u (name_var u s))

  freed : SpacesFit (spaces (with_tables h.mid g)) after
  unfolding after
  freed = let c = h.set in hidden-spaces (with_tables c.mid g) (with_variables variables (with_naming (name_one u s.naming) s)) h.mid u h.global
      b c.named.leads c.named.unassumed (c.hidden refl)

  gone : g.sat_state ≢ verdict.Unsat → (logged : List Entry) × LogsRetired variables s.logged logged p q.proof
      × SpacesFit (spaces (with_checker q.proof.checker (with_tables q.tables g))) (with_entries logged after)
  unfolding after
  gone n =
      let l = h.left n in
      let hides = h.set.hidden refl in
      left-spaces (with_tables h.mid g) after q.tables h.global p q.proof freed
      (hidden-keeps (λ (d : VarData). d.deleted) h.set.mid h.mid u h.global refl hides ∙ h.set.named.live)
      (hidden-unnamed h.set.mid h.mid u h.global hides) n l.deleted same l.logged

  left-or-not : (logged : List Entry) × LogsRetired variables s.logged logged p q.proof
      × SpacesFit (spaces (with_checker q.proof.checker (with_tables q.tables g)))
      (with_variables variables (with_entries logged (hide_name u (name_var u s))))
  unfolding after
  left-or-not = ⊎_elim
      (λ e. subst (λ (t : TracerState). (logged : List Entry) × LogsRetired variables s.logged logged p t.proof
      × SpacesFit (spaces (with_checker t.proof.checker (with_tables t.tables g))) (with_entries logged after)) (sym (h.stays e))
      (s.logged, leaving-nothing variables s.logged p, subst (λ o. SpacesFit (spaces (with_checker o (with_tables h.mid g))) after) (sym same) freed))
      (λ n. gone n)
      (unsat-or-not g.sat_state)

pub hide-state : (g : Summary) (s : State) (u : ℕ) (p : ProofParts) (q : TracerState) → p.checker ≡ g.checker → SpacesFit (spaces g) s →
    HidesNamed u g.sat_state (record { tables = g.tables; proof = p }) q →
    (variables : ℕ → Option ℕ) × (logged : List Entry) × KeepVariables s.naming.made s.variables variables × LogsRetired variables s.logged logged p q.proof
    × SpacesFit (spaces (with_checker q.proof.checker (with_tables q.tables g)))
    (with_variables variables (with_entries logged (hide_name u (name_var u s))))
hide-state g s u p q same b h =
    let (variables, keep, fits) = named-one g s h.set.mid u b h.set.named.named in
    let (logged, more, all) = left-or-not g s u p q same h variables fits in
    (variables, logged, keep, more, all)

turns-state : (us : List ℕ) (g : Summary) (s : State) (new : Tables) → SpacesFit (spaces g) s → AreShownInTurn us g.tables new →
    HaveShown us (with_tables new g) s
turns-state [] g s new f e = (s.naming, refl, subst (λ t. SpacesFit (spaces (with_tables t g)) s) (sym e) f)
turns-state (u ∷ us) g s new f (mid, x, live, unnamed, n, rest) =
    let (l, (i, b, o, fit)) = shown-spaces g s mid x u f live unnamed n in
    let (m, turns, k) = turns-state us (with_tables mid g) (with_naming (give_name u i s.naming) s) new fit rest in
    (m, (l, (i, b, o, turns)), k)

pub show-state : (us : List ℕ) (g : Summary) (s : State) (new : Tables) → SpacesFit (spaces g) s → AreLinked g.tables → AreBounded g.tables →
    ShowsAllHidden us g.tables new → (m : Naming) × AreAllShown us s.clauses s.naming m × SpacesFit (spaces (with_tables new g)) (with_naming m s)
show-state us g s new b l bounded d =
    all-shown us (with_tables new g) s (turns-state us g s new b d.in_turn) (turns-stay us g.tables new l bounded d.in_turn).1 d.all

-- 3. What a valid solver keeps.

pub kept-after : {A : Type 0} (c : Context A) (old new : Tables) → IsValidSolver old c → StaysValid old new → IsValidSolver new c
kept-after c old new k s = record {
  bounded = s.bounded;
  ready = k.ready;
  count = k.count ∙ ap (λ (m : BiMap). length m.backward) (sym s.solvers);
  decidable = tables-in-use old new (view c) c.vsids s.solvers k.decidable;
  assumed = λ l h. let (x, e) = some-of (at old.users.forward (variable_of l)) (k.assumed l h) in ap is_some (s.named (variable_of l) x e (k.marked l x h e)).0;
  marked = λ l y h f.
      let (x, e) = some-of (at old.users.forward (variable_of l)) (k.assumed l h) in
      let (a, m) = s.named (variable_of l) x e (k.marked l x h e) in
      let q : Some x ≡ Some y = sym a ∙ f in
      let z : x ≡ y = cc in
      subst (IsMarkedAssumed new) z m;
  working = λ l h. let (x, u, a, b, m) = k.working l h in let (n, i) = s.names x u b m in
      (x, u, ap (λ (m : BiMap). at m.backward (variable_of l)) s.solvers ∙ a, n, i);
}
