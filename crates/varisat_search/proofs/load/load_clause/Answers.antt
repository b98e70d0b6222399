use Rattle.std.proofs.Common.{◌≡◌, List, [], ◌∷◌, ◌++◌, ◌⊎◌, inl, inr, ⊎_elim, refl, sym, ap, ◌∙◌, subst, ◌*◌, ◌<◌, ◌≤◌, false, replicate, length, arith}
use Rattle.varisat_theory.specs.promises.Membership.{SameSet, IsDistinct, ◌∈◌}
use Rattle.varisat_theory.specs.promises.Literals.{Literal, Clause}
use Rattle.varisat_prop.specs.View.{View}
use Rattle.varisat_search.specs.declared.context.Context.{Context}
use Rattle.varisat_search.specs.declared.state.SatState.{SatState}
use Rattle.varisat_search.specs.Contexts.{view, KeepsSchedule}
use Rattle.varisat_search.specs.Loading.{IsAdded, LoadsUnit}
use Rattle.varisat_search.proofs.loading.LoadView.{restarted-kept, Restarted, restarted}
use Rattle.varisat_search.proofs.loading.LoadContext.{Loading, loading-restarted, Loaded, loading-other, loading-propagated, loading-inside, loaded-tautology, loaded-satisfied, loaded-deleted, loaded-added}
use Rattle.varisat_steps.proofs.Broken.{breaks-not}
use Rattle.varisat_search.proofs.stepping.StepErrors.{ends-unfilled, memory-unfilled, trace-unfilled, memory-broken, trace-broken, store-broken, if-full}
use Rattle.varisat_search.proofs.stepping.Frames.{schedule-through}
use Rattle.varisat_search.specs.StepErrors.{step_error_of_trace}
use Rattle.varisat_search.specs.declared.error.StepError.TheVariants as step
use Rattle.std.specs.List.Sorted.{IsPermutation}
use Rattle.std.specs.Vec.{with_items}
use Rattle.std.proofs.lemmas.Bool.{cases_lt}
use Rattle.varisat_clause.specs.Databases.{Tracks}
use Rattle.varisat_search.proofs.assuming.AssumptionContexts.{cut-assumed, cut-same-list}
use Rattle.varisat_search.proofs.loading.ClauseLengths.{clause-short}
use Rattle.varisat_search.proofs.loading.LoadedTrue.{can-delete-loaded}
use Rattle.varisat_search.specs.Seen.{search_of}
use Rattle.varisat_theory.specs.promises.Derivations.{Line}
use Rattle.varisat_steps.specs.Traces.{TakesLines}
use Rattle.varisat_search.proofs.load.load_clause.Given.{Over}
use Rattle.varisat_search.proofs.load.load_clause.Goals.{After-full_restart, After-collect_distinct, In_ok-collect_distinct, In_ok-trace_satisfied}
use Rattle.varisat_search.proofs.load.load_clause.Goals as goal

-- What loading a single literal does to the view.
unit-same : (s : View) (l : Literal) → LoadsUnit s s l
unit-same s l = record { clauses = refl; head = λ n. refl; trail = λ n. inl refl }

-- one of a set of one is this one
one-is : (c : Clause) (l m : Literal) → SameSet (m ∷ c) (l ∷ []) → m ≡ l
one-is c l m e = ⊎_elim (λ f. f) (λ z. absurd z) (e.0 m (inl refl))

-- a literal that is added on its own
unit-added : (s t : View) (c : Clause) (l : Literal) (before after : SatState) → IsDistinct c → SameSet c (l ∷ []) →
    IsAdded s t c before after → LoadsUnit s t l
unit-added s t [] l before after d e (f, v) = subst (λ z. LoadsUnit s z l) (sym f) (unit-same s l)
unit-added s t (m ∷ []) l before after d e a =
    ⊎_elim
    (λ (o, f, v). subst (λ z. LoadsUnit s z l) (sym f) (unit-same s l))
    (λ (o, f, v). subst (λ z. LoadsUnit s z l)
    (sym f) record { clauses = refl; head = λ n. refl; trail = λ n. inr (ap (λ x. s.trail ++ x ∷ []) (one-is [] l m e)) })
    a
unit-added s t (m ∷ k ∷ c) l before after d e a =
    absurd (d.0 (inl (one-is (k ∷ c) l m e ∙ sym (⊎_elim (λ f. f) (λ z. absurd z) (e.0 k (inr (inl refl)))))))

module _ {A : Type 0} {x0 x1 : Context A} {c lits : Clause} (d : Loading x0 x1 c lits) (l : Literal) (one : c ≡ l ∷ []) where
  -- the literal is true already, so that nothing is added
  loaded-none : LoadsUnit (view x0) (view x1) l
  loaded-none = record {
    clauses = restarted-kept (view x0) (view x1) (loading-restarted d);
    head = λ n. ap (λ (v : View). v.queue_head) (d.same n);
    trail = λ n. inl (ap (λ (v : View). v.trail) (d.same n));
  }

  loaded-one : (z : Context A) (before after : SatState) → IsAdded (view x1) (view z) lits before after → LoadsUnit (view x0) (view z) l
  loaded-one z before after a =
      let u = unit-added (view x1) (view z) lits l before after d.distinct (subst (SameSet lits) one d.literals) a in
      let r = loading-restarted d in
      record {
        clauses = u.clauses ∙ restarted-kept (view x0) (view x1) r;
        head = λ n. u.head r.undecided ∙ ap (λ (v : View). v.queue_head) (d.same n);
        trail = λ n. subst (λ (xs : List Literal). (z.trail.literals ≡ xs) ⊎ (z.trail.literals ≡ xs ++ l ∷ []))
            (ap (λ (v : View). v.trail) (d.same n)) (u.trail r.undecided);
      }

abbrev copied : (g : Over) (c : In_ok-collect_distinct g) → Context g.row.A.Denot
copied g c = c.collect_distinct.new.ctx

-- the context whose decisions were undone
abbrev before : (g : Over) (c : In_ok-collect_distinct g) → Context g.row.A.Denot
before g c = record c.args.ctx.now { solver_state = c.accept_clause.new.self }

-- how all decisions were undone
undone : (g : Over) (c : After-full_restart g) → Restarted (view c.args.ctx.now) (view c.full_restart.new.ctx)
undone g c =
    restarted (view c.args.ctx.now) (view c.full_restart.new.ctx) c.requires.ready.well
    (λ e. ap (λ (x : Context g.row.A.Denot). view x) (c.full_restart.ensures.undone.same (let n = ap length e in omega (arith, n))))
    c.full_restart.ensures.undone.cut

loading : (g : Over) (c : In_ok-collect_distinct g) → Loading c.args.ctx.now (copied g c) c.args.lits.now c.collect_distinct.new.ctx.tmp_data.lits.items
loading g c =
    subst (λ (x : Context g.row.A.Denot). Loading c.args.ctx.now x c.args.lits.now c.collect_distinct.new.ctx.tmp_data.lits.items)
    (sym c.collect_distinct.ensures.frame.0) record {
      ready = c.requires.ready;
      in_range = c.requires.in_range;
      same = λ e. ap (λ (x : Context g.row.A.Denot). view x) (c.full_restart.ensures.undone.same (let n = ap length e in omega (arith, n)));
      cut = c.full_restart.ensures.undone.cut;
      decidable = c.requires.decidable;
      entries = c.full_restart.ensures.undone.entries;
      stay_decidable = c.full_restart.ensures.undone.decidable;
      decay = c.full_restart.ensures.undone.decay;
      last = (
        λ e. ap (λ (x : Context g.row.A.Denot). x.assignment.last)
            (c.full_restart.ensures.undone.same (let n = ap length e in omega (arith, n))),
        c.full_restart.ensures.undone.saved,
      );
      state = ap (λ (x : Context g.row.A.Denot). x.solver_state) c.full_restart.ensures.undone.kept ∙ c.accept_clause.ensures;
      analysis = ap (λ (x : Context g.row.A.Denot). x.analyze_conflict.var_count) c.full_restart.ensures.undone.kept;
      flags = c.collect_distinct.ensures.frame.1 ∙ ap (λ (x : Context g.row.A.Denot). x.tmp_flags.flags.items) c.full_restart.ensures.undone.kept;
      watches = ap (λ (x : Context g.row.A.Denot). x.watchlists) c.full_restart.ensures.undone.kept;
      tracks = subst (λ (x : Context g.row.A.Denot). Tracks x.clause_db x.clause_alloc) (sym c.full_restart.ensures.undone.kept) c.requires.ready.tracks;
      schedule = record {
        schedule = ap (λ (x : Context g.row.A.Denot). x.schedule) c.full_restart.ensures.undone.kept;
        solver_config =
            ap (λ (x : Context g.row.A.Denot). x.solver_config) c.full_restart.ensures.undone.kept;
      };
      same_list = cut-same-list 0 (before g c) c.full_restart.new.ctx c.full_restart.ensures.undone.same c.full_restart.ensures.undone.assumptions;
      assumed = cut-assumed 0 (before g c) c.full_restart.new.ctx c.full_restart.ensures.undone.same c.full_restart.ensures.undone.assumptions
          c.requires.ready.well c.full_restart.ensures.undone.cut c.requires.ready.assumed;
      distinct = c.in_ok-collect_distinct.ensures.distinct;
      literals = c.in_ok-collect_distinct.ensures.same;
    }

pub collect_distinct-requires : goal.collect_distinct-requires
collect_distinct-requires g c =
    let n = (undone g (goal.at.collect_distinct-requires g c).After-full_restart).count in
    record {
      flags = ap (λ (x : Context g.row.A.Denot). x.tmp_flags.flags.items) c.full_restart.ensures.undone.kept ∙ c.requires.ready.flags
          ∙ ap (λ m. replicate (2 * m) false) (sym n);
      in_range = λ l h. let i = c.requires.in_range l h in omega (arith, i, n);
    }

pub returns-then-branch : goal.returns-then-branch
returns-then-branch g c =
    let taut = c.in_ok-collect_distinct.ensures.tautology.0 c.if-branch.true in
    let p = c.args.proof.now in
    let o = loaded-tautology (loading g (goal.at.returns-then-branch g c).In_ok-collect_distinct) (g.P.ProofTracer.in_order p)
    (λ lines. TakesLines g.P.ProofTracer.takes p lines p) (g.met.P.ProofTracer.takes_none p) taut in
    record {
      broken = tt;
      ready = o.ready;
      unsat = λ e. absurd (c.in_default.not-Unsat e);
      loads = λ n. record {
        lines = o.lines n;
        undecided = o.undecided;
        last = o.last;
        assumptions = o.assumptions;
        state = o.state;
      };
      verdict = o.kept_verdict;
      keeps = o.keeps;
      ends = record { schedule = o.schedule; full = tt };
      single =
          λ l e. loaded-none (loading g (goal.at.returns-then-branch g c).In_ok-collect_distinct) l e;
    }

pub is_satisfied-requires : goal.is_satisfied-requires
is_satisfied-requires g c l h =
    loading-inside (loading g (goal.at.is_satisfied-requires g c).In_ok-collect_distinct) l (subst (λ ys. l ∈ ys) c.deref.ensures.value h)

pub trace_satisfied-requires : goal.trace_satisfied-requires
trace_satisfied-requires g c =
    can-delete-loaded (g.P.ProofTracer.holds c.args.proof.now) (search_of (view c.args.ctx.now)) c.args.lits.now
    c.collect_distinct.new.ctx.tmp_data.lits.items c.deref_mut.result.now c.deref_mut.ensures.value c.in_ok-collect_distinct.ensures.same
    (c.requires.holds c.in_default.not-Unsat)

-- the context once the literals were ordered
abbrev ordered : (g : Over) (c : In_ok-trace_satisfied g) → Context g.row.A.Denot
ordered g c =
    let x = c.collect_distinct.new.ctx in
    record x { tmp_data = record x.tmp_data { lits = with_items x.tmp_data.lits c.trace_satisfied.new.lits } }

-- whether there is a line or none
satisfied : (g : Over) (c : In_ok-trace_satisfied g) → Loading c.args.ctx.now
    (ordered g c) c.args.lits.now c.collect_distinct.new.ctx.tmp_data.lits.items →
    Loaded (g.P.ProofTracer.in_order c.args.proof.now)
    (λ lines. TakesLines g.P.ProofTracer.takes c.args.proof.now lines c.trace_satisfied.new.proof) c.args.ctx.now (ordered g c) c.args.lits.now
satisfied g c d =
    let found = c.if-is_satisfied.ensures.0 refl in
    let lits = c.collect_distinct.new.ctx.tmp_data.lits.items in
    let i : found.0 ∈ lits = subst (λ ys. found.0 ∈ ys) c.deref.ensures.value found.1 in
    let value = c.deref_mut.ensures.value in
    let e = c.in_ok-trace_satisfied.ensures in
    let in_order = g.P.ProofTracer.in_order c.args.proof.now in
    let are : List Line → Type 0 = λ lines. TakesLines g.P.ProofTracer.takes c.args.proof.now lines c.trace_satisfied.new.proof in
    ⊎_elim
    (λ n. loaded-satisfied d in_order are (e.unit (subst (λ ys. length ys < 2) (sym value) n)) found.0 i found.2 n)
    (λ n.
    let f = e.longer (subst (λ ys. 2 ≤ length ys) (sym value) n) in
    loaded-deleted d in_order are found.0 i found.2 (λ t. let b = c.in_ok-collect_distinct.ensures.tautology.1 t in absurd cc) n
    c.trace_satisfied.new.lits (subst (λ ys. IsPermutation ys c.trace_satisfied.new.lits) value f.0) f.1 f.2)
    (cases_lt (length lits) 2)

pub returns-then-is_satisfied : goal.returns-then-is_satisfied
returns-then-is_satisfied g c =
    let d = loading-other (ordered g c).tmp_data (loading g (goal.at.returns-then-is_satisfied g c).In_ok-collect_distinct) in
    let o = satisfied g c d in
    record {
      broken = tt;
      ready = o.ready;
      unsat = λ e. absurd (c.in_default.not-Unsat e);
      loads = λ n. record {
        lines = o.lines n;
        undecided = o.undecided;
        last = o.last;
        assumptions = o.assumptions;
        state = o.state;
      };
      verdict = o.kept_verdict;
      keeps = o.keeps;
      ends = record { schedule = o.schedule; full = tt };
      single = λ l e. loaded-none d l e;
    }

pub add_distinct-requires : goal.add_distinct-requires
add_distinct-requires g c =
    let d = loading g (goal.at.add_distinct-requires g c).In_ok-collect_distinct in
    record {
      well = (loading-restarted d).well;
      propagated = loading-propagated d;
      tracks = d.tracks;
      undecided = (loading-restarted d).undecided;
      distinct = d.distinct;
      in_range = loading-inside d;
      untrue = λ l i t. let b = c.if-is_satisfied.ensures.1 (l, subst (λ ys. l ∈ ys) (sym c.deref.ensures.value) i, t) in cc;
    }

pub returns : goal.returns
returns g c =
    let e = c.in_ok-add_distinct.ensures in
    let k = c.add_distinct.ensures.frame in
    let p = c.args.proof.now in
    let o = loaded-added (loading g (goal.at.returns g c).In_ok-collect_distinct) (g.P.ProofTracer.in_order p)
    (λ lines. TakesLines g.P.ProofTracer.takes p lines p) (g.met.P.ProofTracer.takes_none p)
    (λ l i t. let b = c.if-is_satisfied.ensures.1 (l, subst (λ ys. l ∈ ys) (sym c.deref.ensures.value) i, t) in absurd cc)
    c.add_distinct.new.ctx k e.propagated e.tracks e.added.1 e.added.0 in
    record {
      broken = tt;
      ready = o.ready;
      unsat = λ e. absurd (c.in_default.not-Unsat e);
      loads = λ n. record {
        lines = o.lines n;
        undecided = o.undecided;
        last = o.last;
        assumptions = o.assumptions;
        state = o.state;
      };
      verdict = o.kept_verdict;
      keeps = o.keeps;
      ends = record { schedule = o.schedule; full = tt };
      single =
          λ l i. loaded-one (loading g (goal.at.returns g c).In_ok-collect_distinct) l i c.add_distinct.new.ctx
          c.collect_distinct.new.ctx.solver_state.sat_state c.add_distinct.new.ctx.solver_state.sat_state e.added.0;
    }

-- the schedule stays while the literals are copied
planned : (g : Over) (c : After-collect_distinct g) → KeepsSchedule c.args.ctx.now c.collect_distinct.new.ctx
planned g c =
    let k = c.full_restart.ensures.undone.kept in
    subst (KeepsSchedule c.args.ctx.now) (sym c.collect_distinct.ensures.frame.0)
    (record { schedule = ap (λ (x : Context g.row.A.Denot). x.schedule) k; solver_config = ap (λ (x : Context g.row.A.Denot). x.solver_config) k })

pub returns-in_err-collect_distinct-clause-ends : goal.returns-in_err-collect_distinct-clause-ends
returns-in_err-collect_distinct-clause-ends g c =
    ends-unfilled c.from_residual.result step.Memory c.from_residual.ensures memory-unfilled
    (planned g (goal.at.returns-in_err-collect_distinct-clause-ends g c).After-collect_distinct)

pub returns-in_err-trace_satisfied-clause-ends : goal.returns-in_err-trace_satisfied-clause-ends
returns-in_err-trace_satisfied-clause-ends g c =
    let e = c.in_err-trace_satisfied.field-0.0 in
    let k = planned g (goal.at.returns-in_err-trace_satisfied-clause-ends g c).After-collect_distinct in
    ends-unfilled c.from_residual-in_err-trace_satisfied.result (step_error_of_trace e) c.from_residual-in_err-trace_satisfied.ensures
    (trace-unfilled e) (record { schedule = k.schedule; solver_config = k.solver_config })

pub returns-in_err-add_distinct-clause-ends : goal.returns-in_err-add_distinct-clause-ends
returns-in_err-add_distinct-clause-ends g c =
    let here = goal.at.returns-in_err-add_distinct-clause-ends g c in
    let d = loading g here.In_ok-collect_distinct in
    let x = c.collect_distinct.new.ctx in
    record {
      schedule = schedule-through (planned g here.After-collect_distinct)
          (subst (KeepsSchedule x) (sym c.add_distinct.ensures.frame) (record { schedule = refl; solver_config = refl }));
      full = if-full c.from_residual-in_err-add_distinct.result c.in_err-add_distinct.field-0.0 _ c.from_residual-in_err-add_distinct.ensures (λ h.
          let (room, same) = c.in_err-add_distinct.ensures.full h in
          let short = clause-short x.tmp_data.lits.items (length x.assignment.current) d.distinct
          (λ t. let b = c.in_ok-collect_distinct.ensures.tautology.1 t in absurd cc) (loading-inside d) in
          let count = ap length same in (
            omega (arith, room, short, count),
            count ∙ ap (λ (x : Context g.row.A.Denot). length x.assignment.current) c.collect_distinct.ensures.frame.0
                ∙ (undone g here.After-full_restart).count,
          ));
    }

pub returns-in_err-collect_distinct-clause-broken : goal.returns-in_err-collect_distinct-clause-broken
returns-in_err-collect_distinct-clause-broken g c =
    memory-broken g.P.ProofTracer.breaks_off c.args.proof.now c.args.proof.now c.from_residual.result c.from_residual.ensures
    (breaks-not g.P.ProofTracer.breaks_off g.met.P.ProofTracer.breaks_none c.args.proof.now)

pub returns-in_err-trace_satisfied-clause-broken : goal.returns-in_err-trace_satisfied-clause-broken
returns-in_err-trace_satisfied-clause-broken g c =
    trace-broken g.P.ProofTracer.breaks_off c.args.proof.now c.trace_satisfied.new.proof c.from_residual-in_err-trace_satisfied.result
    c.in_err-trace_satisfied.field-0.0 c.from_residual-in_err-trace_satisfied.ensures
    c.in_err-trace_satisfied.ensures.broken

pub returns-in_err-add_distinct-clause-broken : goal.returns-in_err-add_distinct-clause-broken
returns-in_err-add_distinct-clause-broken g c =
    store-broken g.P.ProofTracer.breaks_off c.args.proof.now c.args.proof.now c.from_residual-in_err-add_distinct.result
    c.in_err-add_distinct.field-0.0 c.from_residual-in_err-add_distinct.ensures
    (breaks-not g.P.ProofTracer.breaks_off g.met.P.ProofTracer.breaks_none c.args.proof.now)
