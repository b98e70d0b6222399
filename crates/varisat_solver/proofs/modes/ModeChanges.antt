-- The calls that set the mode of a variable and hide it, as one.
use Rattle.std.proofs.Common.{◌≡◌, ◌≢◌, ◌<◌, ℕ, Bool, true, false, Option, None, List, Ok, Err, refl, sym, subst}
use Rattle.varisat_theory.specs.promises.Journals.{Entry}
use Rattle.varisat_literals.specs.promises.Numbers.{variable_limit}
use Rattle.varisat_names.specs.promises.VarMap.{at}
use Rattle.varisat_names.specs.declared.variables.data.SamplingMode.{SamplingMode}
use Rattle.varisat_names.specs.declared.variables.data.SamplingMode.TheVariants as sampling
use Rattle.varisat_proof.specs.promises.Proving.{ProofParts}
use Rattle.varisat_search.specs.declared.state.SatState.{SatState}
use Rattle.varisat_tracer.specs.inside.Tracing.{TracerState, CanLog}
use Rattle.varisat_tracer.proofs.Logging.{logs-logged}
use Rattle.varisat_solver.specs.promises.Names.{Mode, Sample, Witness, Naming, name_one, set_mode, free_name}
use Rattle.varisat_solver.specs.promises.Calls.{is_valid, IsValid, Invalidates, count_anew}
use Rattle.varisat_solver.specs.promises.Journals.{with_entries, LogsRetired}
use Rattle.varisat_solver.specs.promises.OpenProofs.{OpenProof, lines_over, GoesOnWriting}
use Rattle.varisat_solver.specs.inside.Spaces.{KeepVariables, ModeFits, SpacesFit}
use Rattle.varisat_solver.specs.promises.States.{State, with_variables}
use Rattle.varisat_solver.specs.promises.Summaries.{Summary}
use Rattle.varisat_solver.specs.inside.Representations.{spaces}
use Rattle.varisat_solver.specs.promises.Usage.{name_var, with_mode, hide_name, IsAssumed, ChangesMode}
use Rattle.varisat_solver.specs.inside.VariableChanges.{ChecksChange, StaysValid, SetsNamedMode, ChangesNamed}
use Rattle.varisat_solver.specs.declared.solver.SolverError.{SolverError}
use Rattle.varisat_solver.specs.declared.solver.SolverError.TheVariants.{OutOfMemory, Invalid}
use Rattle.varisat_solver.proofs.entries.StepEntries.{leaving-derived}
use Rattle.varisat_solver.proofs.accepting.AcceptClause.{with_tables}
use Rattle.varisat_solver.proofs.calls.CallStates.{Begins, like-logged, like-with_entries}
use Rattle.varisat_solver.proofs.modes.HiddenTables.{with_checker}
use Rattle.varisat_solver.proofs.entries.LoggedEntries.{stays-nothing}
use Rattle.varisat_solver.proofs.entries.LoggedProofs.{leaving-nothing}
use Rattle.varisat_solver.proofs.modes.VariableChanges.{hides-stay, hides-logged}
use Rattle.varisat_solver.proofs.modes.VariableStates.{mode-state, hide-state, free-state, mode-refused, change-refused}

-- 1. The tables and the proof.

pub changed-stays : (u : ℕ) (m : SamplingMode) (v : SatState) (p q : TracerState) → ChangesNamed u m v p q → StaysValid p.tables q.tables
changed-stays u sampling.Sample v p q h = let (x, set) = h.sets (λ e. cc) in set.stays
changed-stays u sampling.Witness v p q h = let (x, set) = h.sets (λ e. cc) in set.stays
changed-stays u sampling.Hide v p q h = hides-stay u v p q (h.hides refl)

pub changed-logs : (u : ℕ) (m : SamplingMode) (v : SatState) (p q : TracerState) → ChangesNamed u m v p q → CanLog p.proof → CanLog q.proof
changed-logs u sampling.Sample v p q h t = subst CanLog (sym (h.unlogged (λ e. cc))) t
changed-logs u sampling.Witness v p q h t = subst CanLog (sym (h.unlogged (λ e. cc))) t
changed-logs u sampling.Hide v p q h t = let (given, logged, opened) = hides-logged u v p q (h.hides refl) in logs-logged p.proof q.proof given logged t

-- 2. The state.

-- its names then: as Hide the name is free
abbrev renamed : SamplingMode → ℕ → Naming → Naming
renamed sampling.Sample u n = set_mode u Sample n
renamed sampling.Witness u n = set_mode u Witness n
renamed sampling.Hide u n = free_name u n

-- whether a variable was ever hidden then
abbrev hides : SamplingMode → Bool → Bool
hides sampling.Sample b = b
hides sampling.Witness b = b
hides sampling.Hide b = true

-- the state once the name was named and its variable has the mode
abbrev pub with_changed : SamplingMode → ℕ → State → State
with_changed m u s = record (count_anew s) { naming = renamed m u (name_one u s.naming); ever_hidden = hides m s.ever_hidden }

-- What the solver holds stands for that state, to which more was logged, and the call may lead there.
pub record ModeChanged (m : SamplingMode) (g : Summary) (s : State) (u : ℕ) (p : ProofParts) (q : TracerState) : Type 0 where
  pub variables : ℕ → Option ℕ
  pub logged : List Entry
  pub keep : KeepVariables s.naming.made s.variables variables
  pub more : LogsRetired variables s.logged logged p q.proof
  pub fits : SpacesFit (spaces (with_checker q.proof.checker (with_tables q.tables g))) (with_variables variables (with_entries logged (with_changed m u s)))
  pub leads : (proof : Option OpenProof) → lines_over variables s.logged ≡ lines_over s.variables s.logged → GoesOnWriting s.proof proof → IsValid s →
      u < variable_limit → (IsAssumed s u → ⊥) →
      ChangesMode m s u (Ok tt) (record (with_changed m u s) { logged = logged; variables = variables; proof = proof })

module _ (g : Summary) (s : State) (u : ℕ) (p : ProofParts) (q : TracerState) (same : p.checker ≡ g.checker) (b : SpacesFit (spaces g) s) where
  set-changed : (m : SamplingMode) (n : Mode) → ModeFits m n → (x : ℕ) → SetsNamedMode u m g.tables x q.tables → q.proof ≡ p →
      (variables : ℕ → Option ℕ) × KeepVariables s.naming.made s.variables variables × LogsRetired variables s.logged s.logged p q.proof
      × SpacesFit (spaces (with_checker q.proof.checker (with_tables q.tables g))) (with_variables variables (with_mode u n (name_var u s)))
  set-changed m n fit x set e =
      let (variables, keep, fits) = mode-state g s q.tables u x m n b fit set in
      let t = with_variables variables (with_mode u n (name_var u s)) in (
        variables,
        keep,
        subst (LogsRetired variables s.logged s.logged p) (sym e) (leaving-nothing variables s.logged p),
        subst (λ (o : ProofParts). SpacesFit (spaces (with_checker o.checker (with_tables q.tables g))) t) (sym e)
            (subst (λ o. SpacesFit (spaces (with_checker o (with_tables q.tables g))) t) (sym same) fits),
      )

  pub mode-changed : (m : SamplingMode) → ChangesNamed u m g.sat_state (record { tables = g.tables; proof = p }) q → ModeChanged m g s u p q
  mode-changed sampling.Sample h =
      let (x, set) = h.sets (λ e. cc) in
      let (variables, keep, more, fits) = set-changed sampling.Sample Sample tt x set (h.unlogged (λ e. cc)) in
      record {
        variables = variables;
        logged = s.logged;
        keep = keep;
        more = more;
        fits = fits;
        leads = λ proof alike grows v i n. (
          (v, i, n, like-logged (with_mode u Sample (name_var u s)) s.logged variables proof s.words (stays-nothing s.logged) alike grows),
          λ e. absurd cc,
        );
      }
  mode-changed sampling.Witness h =
      let (x, set) = h.sets (λ e. cc) in
      let (variables, keep, more, fits) = set-changed sampling.Witness Witness tt x set (h.unlogged (λ e. cc)) in
      record {
        variables = variables;
        logged = s.logged;
        keep = keep;
        more = more;
        fits = fits;
        leads = λ proof alike grows v i n. (
          (v, i, n, like-logged (with_mode u Witness (name_var u s)) s.logged variables proof s.words (stays-nothing s.logged) alike grows),
          λ e. absurd cc,
        );
      }
  mode-changed sampling.Hide h =
      let (variables, logged, keep, more, fits) = hide-state g s u p q same b (h.hides refl) in
      record {
        variables = variables;
        logged = logged;
        keep = keep;
        more = more;
        fits = fits;
        leads = λ proof alike grows v i n.
            (v, i, n, like-with_entries (hide_name u (name_var u s)) logged variables proof more.more (leaving-derived more.more.entries more.leaving) alike grows);
      }

-- 3. The call is refused, or runs out of memory.

pub mode-invalid : (m : SamplingMode) (s : State) (u : ℕ) → is_valid s ≡ false → ChangesMode m s u (Err Invalid) s
mode-invalid sampling.Sample s u f = ((f, refl), λ e. absurd cc)
mode-invalid sampling.Witness s u f = ((f, refl), λ e. absurd cc)
mode-invalid sampling.Hide s u f = (f, refl)

pub mode-not-changed : (m : SamplingMode) {g : Summary} {s : State} (u : ℕ) (e : SolverError) → Begins g s → ChecksChange g.tables u (Err e) →
    ChangesMode m s u (Err e) s
mode-not-changed sampling.Sample u e k c = mode-refused Sample u e k c
mode-not-changed sampling.Witness u e k c = mode-refused Witness u e k c
mode-not-changed sampling.Hide u e k c = change-refused true (hide_name u) u e k c

pub mode-broken : (m : SamplingMode) {g : Summary} {s : State} (t : State) (u : ℕ) → Begins g s → u < variable_limit → (IsAssumed s u → ⊥) →
    (m ≢ sampling.Hide → at g.tables.users.forward u ≡ None) → Invalidates 0 s t → ChangesMode m s u (Err OutOfMemory) t
mode-broken sampling.Sample t u k i n f v = ((i, n, v), λ e. free-state u k (f (λ e. cc)))
mode-broken sampling.Witness t u k i n f v = ((i, n, v), λ e. free-state u k (f (λ e. cc)))
mode-broken sampling.Hide t u k i n f v = (i, n, v)
