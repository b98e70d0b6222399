use Rattle.std.proofs.Common.{◌≡◌, ◌<◌, ◌∙◌, ℕ, Bool, Ok, inl, inr, refl, not, sym, subst, ap, arith, true, length, Err}
use Rattle.varisat_theory.specs.promises.Literals.{variable_of}
use Rattle.varisat_literals.specs.promises.Numbers.{variable_limit}
use Rattle.varisat_names.specs.promises.VarMap.{at}
use Rattle.varisat_names.specs.promises.Variables.{Tables}
use Rattle.varisat_search.specs.declared.context.Context.{Context}
use Rattle.varisat_search.specs.Contexts.{view}
use Rattle.varisat_names.proofs.NamedVariables.{unmapped-near, unmapped-same}
use Rattle.varisat_tracer.specs.inside.Tracing.{TracerState, tracer_state}
use Rattle.varisat_solver.specs.promises.OpenProofs.{entries_over}
use Rattle.varisat_solver.specs.inside.Changes.{CountsAnew}
use Rattle.varisat_solver.specs.inside.Spaces.{FitWithNew}
use Rattle.varisat_solver.specs.inside.Representations.{Represents, spaces}
use Rattle.varisat_solver.specs.promises.States.{State, Ledger, with_variables}
use Rattle.varisat_solver.specs.promises.Names.{Naming, name_one, IsLeastFree}
use Rattle.varisat_solver.specs.promises.Calls.{with_naming, start, MakesVar}
use Rattle.varisat_solver.specs.inside.Accepting.{AreBounded}
use Rattle.varisat_solver.proofs.accepting.AcceptClause.{with_tables, ledger-free}
use Rattle.varisat_search.proofs.variables.KeptNames.{given-keeps}
use Rattle.varisat_search.proofs.variables.SolverVariables.{some-is, is-there}
use Rattle.varisat_solver.proofs.modes.TableMarks.{assumed-keeps, marked-keeps}
use Rattle.varisat_solver.proofs.modes.VariableMoves.{given-most, tables-in-use}
use Rattle.varisat_solver.proofs.calls.CallStates.{Begins, begins, ledger-is, none-since, represents-valid, flags-started, like-varied, broken, broken-unlogged}
use Rattle.varisat_solver.proofs.entries.OpenProofs.{goes-on-none, fits-alike, lines-of-entries, written-alike}
use Rattle.varisat_solver.proofs.accepting.Additions.{logged-error}
use Rattle.varisat_solver.proofs.calls.ChangeEnds.{kept-changed, represents-broken, represents-invalid, invalid-logged}
use Rattle.varisat_solver.proofs.calls.SettingsCalls.{summary_of, represents-same}
use Rattle.varisat_solver.proofs.calls.SolverCalls.{least-free, named-alone, new-named}
use Rattle.varisat_solver.proofs.solver.Solver.new_var.Given.{Over}
use Rattle.varisat_solver.proofs.solver.Solver.new_var.Goals.{In_ok-user, then-index-max_count-via-then-index-max_count, then-index-max_count-via-else-index-max_count+then-global_watermark-max_count}
use Rattle.varisat_solver.proofs.solver.Solver.new_var.Goals as goal

-- no number is past the limit then
still-bounded : (g : Over) (c : In_ok-user g) → AreBounded c.new_user_var-made.new.variables
still-bounded g c =
    let (is, counted) = c.in_ok-user.ensures in
    let k = (c.self.invariant c.in_ok-ensure_valid.ensures).kept in
    let least = rw is at c.new_user_var-made.ensures.given in
    let t = least.given in
    let old = c.self.inside.tracer.tables in
    let new = c.new_user_var-made.new.variables in
    let u = c.in_ok-user.user in
    let same = unmapped-same old.users.forward u c.next_unmapped_user-next.result least.least c.next_unmapped_user-next.ensures.least in
    let w = t.users.forward.watermark in
    let m = given-most old new u least.global t in
    record {
      users = omega (arith, w, k.bounded.users, same, c.index.ensures.index, c.max_count.ensures, c.if-index-max_count.false);
      globals = omega (arith, m, c.global_watermark.ensures, c.max_count-else-index-max_count.ensures, c.if-global_watermark-max_count.false);
      solvers = let q = ap (λ m. length m.backward) t.solvers in omega (arith, q, k.bounded.solvers);
    }

pub invariant_of-self-2 : goal.invariant_of-self-2
invariant_of-self-2 g c v =
    let (is, counted) = c.in_ok-user.ensures in
    let i = c.self.invariant c.in_ok-ensure_valid.ensures in
    let k = i.kept in
    let least = rw is at c.new_user_var-made.ensures.given in
    let t = least.given in
    let old = c.self.inside.tracer.tables in
    let new = c.new_user_var-made.new.variables in
    let u = c.in_ok-user.user in
    let x = least.global in
    let keeps = given-keeps old new u x least.least.0 t in
    kept-changed new c.self.inside.tracer.proof c.self.inside.ctx c.end_change.new.ctx true c.end_change.new.changed_at counted (record {
      bounded = still-bounded g (goal.at.invariant_of-self-2 g c).In_ok-user;
      ready = k.ready;
      count = k.count ∙ ap (λ m. length m.backward) (sym t.solvers);
      decidable = tables-in-use old new (view c.self.inside.ctx) c.self.inside.ctx.vsids t.solvers k.decidable;
      assumed = λ l h. let (y, e) = is-there (at old.users.forward (variable_of l)) (k.assumed l h) in
          some-is (at new.users.forward (variable_of l)) y (keeps.named (variable_of l) y e);
      marked = λ l y h f. let (z, e) = is-there (at old.users.forward (variable_of l)) (k.assumed l h) in
          marked-keeps old new (variable_of l) y z c.prove_linked.ensures keeps e (k.marked l z h e) f;
      working = λ l h. assumed-keeps old new (variable_of l) c.prove_linked.ensures keeps (k.working l h);
    }) i.logs (
    let (s, f, fresh) = i.represents in
    let (variables, keep, fits) = new-named
    (summary_of (tracer_state c.self.inside.tracer) c.self.inside.started c.self.inside.changed_at c.self.inside.ctx) s new u x f
    least.least (unmapped-near old.users.forward u least.least) t in
    (_, fits, λ e. absurd cc)
    )

-- the name is below the limit
small-name : (u v index limit : ℕ) → u ≡ v → index ≡ v → limit ≡ variable_limit → index < limit → u < variable_limit
small-name u v index limit same is most below = omega (arith, same, is, most, below)

-- What the solver represents once the name is in use, over plain values.
module _ {A : Type 0} (o : TracerState) (new : Tables) (started : Bool) (changed_at now : ℕ) (x : Context A) (s : State) (u : ℕ)
    (k : Begins (summary_of o started changed_at x) s)
    (fit : FitWithNew (spaces (with_tables new (summary_of o started changed_at x))) s (with_naming (name_one u s.naming) s)) where
  abbrev named : State
  named = with_naming (name_one u s.naming) s

  abbrev after : State
  after = start (with_variables fit.0 named)

  represents : now ≡ x.schedule.steps → AreBounded new → entries_over fit.0 s.logged ≡ entries_over s.variables s.logged →
      Represents (summary_of (record { tables = new; proof = o.proof }) true now x) after
  represents steps bounded alike = record {
    ledger = ledger-is _ _ _ _ _ _ _ (ap (λ (l : Ledger). l.valid) k.ledger) refl (ap (λ (l : Ledger). l.steps) k.ledger)
        (none-since now x.schedule.steps steps) (ap (λ (l : Ledger). l.settings) k.ledger) (ap (λ (l : Ledger). l.checking) k.ledger);
    fits = λ _. let (variables, keep, (w, n)) = fit in (
      w,
      ledger-free w (spaces (with_tables new (summary_of o started changed_at x))) (with_variables variables named)
          (record s.ledger { started = true; since = 0 }) n,
    );
    words = k.words;
    same = k.proof.same;
    written = λ _. (fits-alike _ s.variables fit.0 s.logged s.proof alike k.proof).written;
    bounded = λ _. bounded;
    flags = λ _. flags-started s after k.flags refl refl (goes-on-none s.proof);
  }

  named-call : (y : Context A) → CountsAnew x y now → AreBounded new → IsLeastFree s.naming u → u < variable_limit →
      (t : State) × MakesVar s (Ok u) t × Represents (summary_of (record { tables = new; proof = o.proof }) true now y) t
  named-call y counted bounded least room =
      let (before, links) = k.fits in
      let (variables, keep, stand) = fit in
      let alike = written-alike before _ s links variables keep in (
        after,
        (k.valid, least, room, like-varied (start named) variables s.words (lines-of-entries s.variables variables s.logged alike)),
        represents-same (record { tables = new; proof = o.proof }) true now x y after counted.same (represents counted.steps bounded alike),
      )

pub returns : goal.returns
returns g c s st =
    let (is, counted) = c.in_ok-user.ensures in
    let k = begins (rw (← c.self.view_is) at st) (ap not c.in_ok-ensure_valid.ensures) in
    let inside = c.self.inside in
    let old = summary_of (tracer_state inside.tracer) inside.started inside.changed_at inside.ctx in
    let u = c.in_ok-user.user in
    let new = c.new_user_var-made.new.variables in
    let t = rw is at c.new_user_var-made.ensures.given in
    let same = unmapped-same old.tables.users.forward u c.next_unmapped_user-next.result t.least c.next_unmapped_user-next.ensures.least in
    let small = small-name u c.next_unmapped_user-next.result c.index.result c.max_count.result same c.index.ensures.index c.max_count.ensures
    c.if-index-max_count.false in
    named-call (tracer_state inside.tracer) new inside.started inside.changed_at c.end_change.new.changed_at inside.ctx s u k
    (new-named old s new u t.global k.fits t.least (unmapped-near old.tables.users.forward u t.least) t.given)
    c.end_change.new.ctx counted (still-bounded g (goal.at.returns g c).In_ok-user) (least-free old s u k.fits t.least)
    small

pub returns-in_err-user : goal.returns-in_err-user
returns-in_err-user g c s st =
    let (error, is, logged, made, count) = c.in_err-user.ensures in
    let q = rw (← c.self.view_is) at st in
    let inside = c.self.inside in
    let f = q.fits (ap not c.in_ok-ensure_valid.ensures) in
    let words = length inside.ctx.clause_alloc.words in
    let least = least-free (summary_of (tracer_state inside.tracer) inside.started inside.changed_at inside.ctx) s
    c.next_unmapped_user-next.result f c.next_unmapped_user-next.ensures.least in
    let refused = logged-error c.from_residual-in_err-user.result c.in_err-user.field-0.0 c.from_residual-in_err-user.ensures ∙ ap Err logged in (
      broken s.proof words s,
      subst (λ r. MakesVar s r (broken s.proof words s)) (sym refused) (
        (c.next_unmapped_user-next.result, least, omega (arith, c.index.ensures.index, c.max_count.ensures, c.if-index-max_count.false)),
        broken-unlogged s words (represents-valid _ s q (ap not c.in_ok-ensure_valid.ensures)),
      ),
      represents-broken (tracer_state inside.tracer) (record { tables = c.new_user_var-made.new.variables; proof = inside.tracer.proof })
          inside.started inside.changed_at c.end_change.new.changed_at inside.ctx inside.ctx c.end_change.new.ctx s s.proof q made count
          refl refl refl q.same,
    )

pub returns-then-index-max_count : goal.returns-then-index-max_count
returns-then-index-max_count g c s st =
    let q = rw (← c.self.view_is) at st in
    let ok = ap not c.in_ok-ensure_valid.ensures in
    let old = summary_of (tracer_state c.self.inside.tracer) c.self.inside.started c.self.inside.changed_at c.self.inside.ctx in
    let f = q.fits ok in
    let u = c.next_unmapped_user-next.result in
    let least = least-free old s u f c.next_unmapped_user-next.ensures.least in
    let near = unmapped-near old.tables.users.forward u c.next_unmapped_user-next.ensures.least in
    let watermark = f.1.watermark in
    let alone = named-alone u s.naming least.0 (omega (arith, near, watermark)) in (
      s,
      (
        represents-valid _ s q ok,
        (
          u,
          least,
          elim c.then-index-max_count.branch [
            | then-index-max_count-via-then-index-max_count w ↦ inl
                (let a = c.index.ensures.index in let b = c.max_count.ensures in let d = w.if-index-max_count.true in omega (arith, a, b, d))
            | then-index-max_count-via-else-index-max_count+then-global_watermark-max_count w ↦
                inr (let a = w.global_watermark.ensures in let b = w.max_count-else-index-max_count.ensures in
                let d = w.if-global_watermark-max_count.true in let made = f.1.globals in let one = ap (λ (m : Naming). m.made) alone in
                omega (arith, a, b, d, made, one))
          ],
        ),
        refl,
      ),
      st,
    )

pub returns-in_err-ensure_valid : goal.returns-in_err-ensure_valid
returns-in_err-ensure_valid g c s st =
    let q = rw (← c.self.view_is) at st in
    let refused = invalid-logged c.from_residual.result c.in_err-ensure_valid.field-0.0 c.from_residual.ensures c.in_err-ensure_valid.ensures.0 in
    (s, subst (λ r. MakesVar s r s) (sym refused) (represents-invalid _ s q (ap not c.in_err-ensure_valid.ensures.1), refl), st)
