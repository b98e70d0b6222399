use Rattle.varisat_steps.proofs.Broken.{breaks-on, breaks-not}
use Rattle.varisat_search.proofs.stepping.StepErrors.{memory-broken, trace-broken, store-broken, if-full, ends-unfilled, memory-unfilled, trace-unfilled}
use Rattle.std.proofs.Common.{◌≡◌, ◌<◌, List, [], ◌∷◌, ◌++◌, refl, sym, ap, ◌∙◌, subst, length, arith}
use Rattle.varisat_theory.specs.promises.Literals.{Literal, Clause}
use Rattle.varisat_theory.specs.promises.Derivations.{Line, Add}
use Rattle.varisat_search.proofs.stepping.ViewSearch.{view_reads}
use Rattle.varisat_clause.specs.declared.header.Tier.TheVariants as tier
use Rattle.varisat_clause.specs.Tiers.{is_tier}
use Rattle.varisat_clause.specs.Headers.{Header}
use Rattle.varisat_clause.specs.Stores.{Store}
use Rattle.varisat_prop.specs.declared.prop.graph.ImplNode.{ImplNode}
use Rattle.varisat_search.specs.declared.context.Context.{Context}
use Rattle.varisat_search.specs.Contexts.{view, KeepsSchedule}
use Rattle.varisat_search.specs.Frames.{ChangesClauses}
use Rattle.varisat_search.specs.StepErrors.{step_error_of_trace}
use Rattle.varisat_search.specs.declared.error.StepError.TheVariants as step
use Rattle.varisat_analysis.specs.Learned.{Analysis, AreInvolved}
use Rattle.varisat_search.specs.Steps.{SavesSome}
use Rattle.varisat_search.specs.Learning.{BumpsVariables, BumpsAndStores}
use Rattle.varisat_search.specs.Progress.{AddOne, IsStepFurther}
use Rattle.varisat_analysis.specs.Assessments.{glue_of, assessed}
use Rattle.varisat_search.specs.Conflicts.{IsStoredAsReason}
use Rattle.varisat_vsids.specs.Activities.{Activities}
use Rattle.varisat_analysis.proofs.BumpedClauses.{tier-redundant}
use Rattle.varisat_search.proofs.stepping.Frames.{schedule-through, cut-activities}
use Rattle.varisat_search.proofs.learning.LearnContext.{analysis-ready, analysis-met, bumps-learned, Analyzed, analyzed-bumped, analyzed-well, analyzed-tracks, analyzed-clear, learned-assigned, analyzed-named, analyzed-assigned, with_store, analyzed-noted, noted-further, noted-saves, noted-bumps, analyzed-flags, Backtracked, learned-length, learned-count, saves-some, learned-listed, learned-paired, learned-tracks, Learning, learning-fits, learning-free, learning-node, learning-further, learning-activities, learning-fixed, refuted-undecided, refuted-further}
use Rattle.varisat_search.proofs.cdcl.learn_from_conflict.Given.{Over}
use Rattle.varisat_search.proofs.cdcl.learn_from_conflict.Goals.{After-backtrack, In_ok-reason, After-count_learned}
use Rattle.varisat_search.proofs.cdcl.learn_from_conflict.Goals as goal
use Rattle.varisat_steps.specs.Traces.{TakesLines}

pub bump_involved-requires-clause-ready : goal.bump_involved-requires-clause-ready
bump_involved-requires-clause-ready g c = analysis-ready c.analyze.ensures.frame c.requires.ready

pub bump_involved-requires-clause-met : goal.bump_involved-requires-clause-met
bump_involved-requires-clause-met g c = analysis-met c.args.ctx.now c.analyze.new.ctx c.analyze.ensures.frame c.in_ok-level.ensures.met

pub bump_involved_clauses-requires : goal.bump_involved_clauses-requires
bump_involved_clauses-requires g c =
    let analysis : (x : Context g.row.A.Denot) → Analysis = λ x. x.analyze_conflict in
    let d = analyzed-bumped
    (record {
      ready = c.requires.ready;
      unknown = c.requires.unknown;
      kept = c.analyze.ensures.frame;
      learned =
          c.in_ok-level.ensures.learned;
    })
    c.bump_involved.ensures.frame
    c.bump_involved.ensures.entries in
    let a = subst (λ (x : Analysis). AreInvolved (view c.args.ctx.now) c.args.conflict x.involved)
    (sym (ap analysis c.bump_involved.ensures.frame)) c.in_ok-level.ensures.involved in
    record {
      well = analyzed-well d;
      tracks = analyzed-tracks d;
      clear = analyzed-clear d;
      named =
          analyzed-named d c.requires.conflict a;
      assigned = analyzed-assigned d c.requires.conflict a;
    }

pub assess_learned-header-requires : goal.assess_learned-header-requires
assess_learned-header-requires g c =
    let d = analyzed-bumped
    (record {
      ready = c.requires.ready;
      unknown = c.requires.unknown;
      kept = c.analyze.ensures.frame;
      learned =
          c.in_ok-level.ensures.learned;
    })
    c.bump_involved.ensures.frame
    c.bump_involved.ensures.entries in
    let e = analyzed-noted c.bump_involved_clauses.new.ctx d c.bump_involved_clauses.ensures.tracks c.bump_involved_clauses.ensures.headers
    c.bump_involved_clauses.ensures.frame in
    record { well = analyzed-well e; clear = analyzed-clear e; assigned = learned-assigned e }

pub backtrack-requires-clause-well : goal.backtrack-requires-clause-well
backtrack-requires-clause-well g c =
    let d = analyzed-bumped
    (record {
      ready = c.requires.ready;
      unknown = c.requires.unknown;
      kept = c.analyze.ensures.frame;
      learned =
          c.in_ok-level.ensures.learned;
    })
    c.bump_involved.ensures.frame
    c.bump_involved.ensures.entries in
    let e = analyzed-noted c.bump_involved_clauses.new.ctx d c.bump_involved_clauses.ensures.tracks c.bump_involved_clauses.ensures.headers
    c.bump_involved_clauses.ensures.frame in
    analyzed-well (analyzed-flags e c.assess_learned-header.ensures.frame)

-- after analysis and the bumps of variables; as it were with the clauses that were bumped; and after backtracking
begun : (g : Over) (c : After-backtrack g) → Analyzed c.args.ctx.now c.bump_involved.new.ctx c.args.conflict c.in_ok-level.level
begun g c =
    analyzed-bumped
    (record {
      ready = c.requires.ready;
      unknown = c.requires.unknown;
      kept = c.analyze.ensures.frame;
      learned =
          c.in_ok-level.ensures.learned;
    })
    c.bump_involved.ensures.frame c.bump_involved.ensures.entries

undone : (g : Over) (c : After-backtrack g) → Backtracked (with_store c.args.ctx.now c.bump_involved_clauses.new.ctx)
    c.assess_learned-header.new.ctx c.backtrack.new.ctx c.args.conflict c.in_ok-level.level
undone g c =
    let d = begun g c in
    let e = analyzed-noted c.bump_involved_clauses.new.ctx d c.bump_involved_clauses.ensures.tracks c.bump_involved_clauses.ensures.headers
    c.bump_involved_clauses.ensures.frame in
    record {
      begun = analyzed-flags e c.assess_learned-header.ensures.frame;
      same = c.backtrack.ensures.same;
      cut = c.backtrack.ensures.cut;
      saved = c.backtrack.ensures.saved;
      entries = c.backtrack.ensures.entries;
      decidable = c.backtrack.ensures.decidable;
      decay = c.backtrack.ensures.decay;
      levels = c.backtrack.ensures.assumptions;
      back = c.backtrack.ensures.kept;
    }

-- the lines that were taken
abbrev taken : (g : Over) (c : After-backtrack g) → List Line → Type 0
taken g c lines = AddOne lines × TakesLines g.P.ProofTracer.takes c.args.proof.now lines c.trace_learned.new.proof

further : (g : Over) (c : After-backtrack g) (z : Context g.row.A.Denot) →
    IsStepFurther (taken g c) (with_store c.args.ctx.now c.bump_involved_clauses.new.ctx) z → IsStepFurther (taken g c) c.args.ctx.now z
further g c z p = noted-further c.bump_involved_clauses.new.ctx
    (begun g c) c.bump_involved_clauses.ensures.tracks c.bump_involved_clauses.ensures.headers z (taken g c) p

pub trace_learned-requires : goal.trace_learned-requires
trace_learned-requires g c =
    let (held, h, f) = c.requires.holds in
    let d = c.analyze.new.ctx.analyze_conflict.clause in
    (held, held ++ d ∷ [], h, (c.in_ok-level.ensures.learned.follows held (view_reads (view c.args.ctx.now) held c.requires.ready.well f), refl))

saves : (g : Over) (c : After-backtrack g) → SavesSome (view c.args.ctx.now) c.args.ctx.now.assignment.last c.backtrack.new.ctx.assignment.last
saves g c =
    noted-saves c.bump_involved_clauses.new.ctx (begun g c) c.bump_involved_clauses.ensures.tracks c.bump_involved_clauses.ensures.headers
    c.args.ctx.now.assignment.last c.backtrack.new.ctx.assignment.last (saves-some (undone g c))

-- the clauses that took part stay those that analysis listed
analysis-stays : (g : Over) (c : After-backtrack g) → c.backtrack.new.ctx.analyze_conflict ≡ c.analyze.new.ctx.analyze_conflict
analysis-stays g c =
    let analysis : (x : Context g.row.A.Denot) → Analysis = λ x. x.analyze_conflict in
    ap analysis c.backtrack.ensures.kept ∙ ap analysis c.assess_learned-header.ensures.frame.0 ∙ ap analysis c.bump_involved_clauses.ensures.frame.0
    ∙ ap analysis c.bump_involved.ensures.frame

-- the line that was taken is that of the clause that is kept
taken-is : (g : Over) (c : After-backtrack g) (d : Clause) → c.backtrack.new.ctx.analyze_conflict.clause ≡ d → taken g c (Add d ∷ [])
taken-is g c d e =
    subst (λ (x : Clause). taken g c (Add x ∷ [])) (sym (ap (λ (a : Analysis). a.clause) (analysis-stays g c)) ∙ e)
    ((_, refl), c.in_ok-trace_learned.ensures {u = tt})

learning : (g : Over) (c : In_ok-reason g) → Backtracked (with_store c.args.ctx.now c.bump_involved_clauses.new.ctx) c.assess_learned-header.new.ctx
    c.backtrack.new.ctx c.args.conflict c.in_ok-level.level → Learning
    (with_store c.args.ctx.now c.bump_involved_clauses.new.ctx) c.assess_learned-header.new.ctx c.backtrack.new.ctx c.keep_learned.new.ctx
    c.args.conflict c.in_ok-level.level c.in-Some.first c.in-Some.ensures.0 c.in_ok-reason.reason
learning g c b = record {
  before = b;
  split = sym c.clause.ensures
      ∙ c.in-Some.ensures.1;
  tracks = c.in_ok-reason.ensures.tracks;
  stored = c.keep_learned.ensures.frame;
  kept =
      c.in_ok-reason.ensures.reason;
  watched = c.in_ok-reason.ensures.watched;
}

abbrev last : (g : Over) (c : After-count_learned g) → Context g.row.A.Denot
last g c = record c.keep_learned.new.ctx
    { assignment = c.enqueue_assignment.new.assignment; counters = c.count_learned.new.self; impl_graph = c.enqueue_assignment.new.impl_graph; trail = c.enqueue_assignment.new.trail }

pub keep_learned-requires : goal.keep_learned-requires
keep_learned-requires g c =
    let d = undone g (goal.at.keep_learned-requires g c).After-backtrack in
    let e = sym c.clause.ensures ∙ c.in-Some.ensures.1 in
    let h = c.assess_learned-header.ensures.header in
    record {
      redundant = ap (λ (x : Header). is_tier x.tier tier.Irred) h
          ∙ tier-redundant (glue_of c.bump_involved_clauses.new.ctx.impl_graph.nodes.items c.bump_involved_clauses.new.ctx.analyze_conflict.clause);
      live = ap (λ (x : Header). x.deleted) h;
      listed = learned-listed d c.in-Some.first c.in-Some.ensures.0 e;
      paired = learned-paired d c.in-Some.first c.in-Some.ensures.0 e;
      tracks = learned-tracks d;
    }

pub enqueue_assignment-requires : goal.enqueue_assignment-requires
enqueue_assignment-requires g c =
    let here = goal.at.enqueue_assignment-requires g c in
    let d = learning g here.In_ok-reason (undone g here.After-backtrack) in
    let f = learning-free d in
    let fits = learning-fits d in
    record { assignable = (f.0, learning-node d, f.1); level = omega (arith, fits.0); depth = fits.1 }

-- What comes of a clause that has literals.
learned-further : (g : Over) (c : After-count_learned g) → IsStepFurther
    (λ lines. AddOne lines × TakesLines g.P.ProofTracer.takes c.args.proof.now lines c.trace_learned.new.proof) c.args.ctx.now (last g c)
learned-further g c =
    let here = goal.at.returns-clause-learned g c in
    let d = learning g here.In_ok-reason (undone g here.After-backtrack) in
    further g here.After-backtrack (last g here.After-count_learned)
    (learning-further d (last g here.After-count_learned) refl
    (c.in_ok-enqueue_assignment.ensures.view c.keep_learned.new.ctx.clause_alloc c.keep_learned.new.ctx.binary_clauses)
    (taken g here.After-backtrack) (taken-is g here.After-backtrack (c.in-Some.first ∷ c.in-Some.ensures.0)
    (sym c.clause.ensures ∙ c.in-Some.ensures.1)))

learned-bumps : (g : Over) (c : After-count_learned g) → 0 < length c.args.ctx.now.trail.decisions → BumpsVariables c.args.ctx.now (last g c)
learned-bumps g c h =
    let here = goal.at.returns-clause-learned g c in
    let d = learning g here.In_ok-reason (undone g here.After-backtrack) in
    let analysis : (x : Context g.row.A.Denot) → Analysis = λ x. x.analyze_conflict in
    let activities : (x : Context g.row.A.Denot) → Activities = λ x. x.vsids in
    let x1 = c.bump_involved.new.ctx in
    let y = c.assess_learned-header.new.ctx in
    let w = c.backtrack.new.ctx in
    let z = last g here.After-count_learned in
    let same : y.vsids ≡ x1.vsids = ap activities c.assess_learned-header.ensures.frame.0 ∙ ap activities c.bump_involved_clauses.ensures.frame.0 in (
      x1.vsids,
      bumps-learned c.args.ctx.now c.analyze.new.ctx x1 z c.analyze.ensures.frame c.bump_involved.ensures.bumps
          (ap analysis c.keep_learned.ensures.frame ∙ analysis-stays g here.After-backtrack) h,
      learning-activities d z refl (c.in_ok-enqueue_assignment.ensures.view c.keep_learned.new.ctx.clause_alloc c.keep_learned.new.ctx.binary_clauses) x1.vsids
          (cut-activities y w c.in_ok-level.level c.backtrack.ensures.same c.backtrack.ensures.available
          ∙ ap (λ (v : Activities). record v { available = w.vsids.available }) same),
    )

learned-stored : (g : Over) (c : After-count_learned g) → 0 < length c.args.ctx.now.trail.decisions → BumpsAndStores c.args.ctx.now (last g c)
learned-stored g c h =
    let here = goal.at.returns-clause-learned g c in
    let b = here.After-backtrack in
    let analysis : (x : Context g.row.A.Denot) → Analysis = λ x. x.analyze_conflict in
    let x0 = c.args.ctx.now in
    let y = c.bump_involved_clauses.new.ctx in
    let w = c.backtrack.new.ctx in
    let z = c.keep_learned.new.ctx in
    let keeps : z.analyze_conflict ≡ w.analyze_conflict = ap analysis c.keep_learned.ensures.frame in
    let read : z.analyze_conflict ≡ c.bump_involved.new.ctx.analyze_conflict = keeps ∙ analysis-stays g b ∙ sym (ap analysis c.bump_involved.ensures.frame) in
    let before : w.analyze_conflict ≡ y.analyze_conflict = ap analysis c.backtrack.ensures.kept ∙ ap analysis c.assess_learned-header.ensures.frame.0 in
    let store : w.clause_alloc ≡ y.clause_alloc = ap (λ (x : Context g.row.A.Denot). x.clause_alloc) c.backtrack.ensures.kept
    ∙ ap (λ (x : Context g.row.A.Denot). x.clause_alloc) c.assess_learned-header.ensures.frame.0 in
    let scale : z.clause_activity ≡ y.clause_activity = ap (λ (x : Context g.row.A.Denot). x.clause_activity) c.keep_learned.ensures.frame
    ∙ ap (λ (x : Context g.row.A.Denot). x.clause_activity) c.backtrack.ensures.kept
    ∙ ap (λ (x : Context g.row.A.Denot). x.clause_activity) c.assess_learned-header.ensures.frame.0 in
    let nodes : y.impl_graph.nodes.items ≡ x0.impl_graph.nodes.items =
    ap (λ (x : Context g.row.A.Denot). x.impl_graph.nodes.items) c.bump_involved_clauses.ensures.frame.0
    ∙ ap (λ (x : Context g.row.A.Denot). x.impl_graph.nodes.items) c.bump_involved.ensures.frame
    ∙ ap (λ (x : Context g.row.A.Denot). x.impl_graph.nodes.items) c.analyze.ensures.frame in
    let clause : y.analyze_conflict.clause ≡ z.analyze_conflict.clause = sym (ap (λ (a : Analysis). a.clause) (keeps ∙ before)) in
    let header : c.assess_learned-header.result ≡ assessed (glue_of x0.impl_graph.nodes.items z.analyze_conflict.clause) =
    c.assess_learned-header.ensures.header
    ∙ ap (λ (ns : List ImplNode). assessed (glue_of ns y.analyze_conflict.clause)) nodes
    ∙ ap (λ (ls : List Literal). assessed (glue_of x0.impl_graph.nodes.items ls)) clause in (
      y.clause_alloc,
      noted-bumps y (begun g b) c.bump_involved_clauses.ensures.tracks c.bump_involved_clauses.ensures.headers z.analyze_conflict.involved
          z.clause_activity (ap (λ (a : Analysis). a.involved) read) scale c.in_ok-bump_involved_clauses.ensures.bumped h,
      (
        c.in_ok-reason.reason,
        subst (λ (s : Store). IsStoredAsReason s z.clause_alloc (assessed (glue_of x0.impl_graph.nodes.items z.analyze_conflict.clause))
            z.analyze_conflict.clause c.in_ok-reason.reason) store
            (subst (λ (k : Header). IsStoredAsReason w.clause_alloc z.clause_alloc k z.analyze_conflict.clause c.in_ok-reason.reason) header
            (subst (λ (ls : List Literal). IsStoredAsReason w.clause_alloc z.clause_alloc c.assess_learned-header.result ls c.in_ok-reason.reason)
            (sym (ap (λ (a : Analysis). a.clause) keeps)) c.in_ok-reason.ensures.stored)),
      ),
    )

pub returns-clause-learned : goal.returns-clause-learned
returns-clause-learned g c =
    let here = goal.at.returns-clause-learned g c in
    let b = here.After-backtrack in
    let x0 = c.args.ctx.now in
    let analysis : (x : Context g.row.A.Denot) → Analysis = λ x. x.analyze_conflict in
    let e = c.in_ok-enqueue_assignment.ensures.last ∙ ap (λ (x : Context g.row.A.Denot). x.assignment.last) c.keep_learned.ensures.frame in
    record {
      further = learned-further g c;
      involved = subst (λ (a : Analysis). AreInvolved (view x0) c.args.conflict a.involved)
          (sym (ap analysis c.keep_learned.ensures.frame ∙ analysis-stays g b)) c.in_ok-level.ensures.involved;
      bumps = learned-bumps g c;
      stored = learned-stored g c;
      last = subst (λ xs. SavesSome (view x0) x0.assignment.last xs) (sym e) (saves g b);
      fixed = λ n. learning-fixed (learning g here.In_ok-reason (undone g b)) (last g here.After-count_learned) refl
          (c.in_ok-enqueue_assignment.ensures.view c.keep_learned.new.ctx.clause_alloc c.keep_learned.new.ctx.binary_clauses);
    }

-- What comes of the empty clause: no decision was made.
pub returns-in_default-clause-learned : goal.returns-in_default-clause-learned
returns-in_default-clause-learned g c =
    let b = (goal.at.returns-in_default-clause-learned g c).After-backtrack in
    let e = sym c.clause.ensures ∙ c.in_default.ensures in
    let none = refuted-undecided (undone g b) e in
    record {
      further = further g b _ (refuted-further (undone g b) e (taken g b) (taken-is g b [] e));
      involved = subst (λ (a : Analysis). AreInvolved (view c.args.ctx.now) c.args.conflict a.involved)
          (sym (analysis-stays g b)) c.in_ok-level.ensures.involved;
      bumps = λ h. absurd (omega (arith, h, none));
      stored = λ h. absurd (omega (arith, h, none));
      last = saves g b;
      fixed = λ n. absurd (n refl);
    }

-- the schedule stays until levels are undone, and while the clause is kept
planned : (g : Over) (c : After-backtrack g) → KeepsSchedule c.args.ctx.now c.backtrack.new.ctx
planned g c =
    schedule-through (subst (KeepsSchedule c.args.ctx.now) (sym c.analyze.ensures.frame) (record { schedule = refl; solver_config = refl }))
    (schedule-through (subst (KeepsSchedule c.analyze.new.ctx) (sym c.bump_involved.ensures.frame) (record { schedule = refl; solver_config = refl }))
    (schedule-through (subst (KeepsSchedule c.bump_involved.new.ctx) (sym c.bump_involved_clauses.ensures.frame.0)
    (record { schedule = refl; solver_config = refl }))
    (schedule-through (subst (KeepsSchedule c.bump_involved_clauses.new.ctx) (sym c.assess_learned-header.ensures.frame.0)
    (record { schedule = refl; solver_config = refl }))
    (subst (KeepsSchedule c.assess_learned-header.new.ctx) (sym c.backtrack.ensures.kept) (record { schedule = refl; solver_config = refl })))))

keeping : {A : Type 0} {x y z : Context A} → KeepsSchedule x y → ChangesClauses y z → KeepsSchedule x z
keeping {y = y} a k = schedule-through a (subst (KeepsSchedule y) (sym k) (record { schedule = refl; solver_config = refl }))

pub returns-in_err-level-clause-ends : goal.returns-in_err-level-clause-ends
returns-in_err-level-clause-ends g c =
    ends-unfilled c.from_residual.result step.Memory c.from_residual.ensures memory-unfilled
    (subst (KeepsSchedule c.args.ctx.now) (sym c.analyze.ensures.frame) (record { schedule = refl; solver_config = refl }))

pub returns-in_err-trace_learned-clause-ends : goal.returns-in_err-trace_learned-clause-ends
returns-in_err-trace_learned-clause-ends g c =
    let e = c.in_err-trace_learned.field-0.0 in
    ends-unfilled c.from_residual-in_err-trace_learned.result (step_error_of_trace e) c.from_residual-in_err-trace_learned.ensures (trace-unfilled e)
    (subst (KeepsSchedule c.args.ctx.now) (sym c.analyze.ensures.frame) (record { schedule = refl; solver_config = refl }))

pub returns-in_err-bump_involved_clauses-clause-ends : goal.returns-in_err-bump_involved_clauses-clause-ends
returns-in_err-bump_involved_clauses-clause-ends g c =
    ends-unfilled c.from_residual-in_err-bump_involved_clauses.result step.Memory c.from_residual-in_err-bump_involved_clauses.ensures memory-unfilled
    (schedule-through (subst (KeepsSchedule c.args.ctx.now) (sym c.analyze.ensures.frame) (record { schedule = refl; solver_config = refl }))
    (schedule-through (subst (KeepsSchedule c.analyze.new.ctx) (sym c.bump_involved.ensures.frame) (record { schedule = refl; solver_config = refl }))
    (subst (KeepsSchedule c.bump_involved.new.ctx) (sym c.bump_involved_clauses.ensures.frame.0) (record { schedule = refl; solver_config = refl }))))

pub returns-in_default-clause-ends : goal.returns-in_default-clause-ends
returns-in_default-clause-ends g c =
    let k = planned g (goal.at.returns-in_default-clause-ends g c).After-backtrack in
    record { schedule = record { schedule = k.schedule; solver_config = k.solver_config }; full = tt }

pub returns-in_err-reason-clause-ends : goal.returns-in_err-reason-clause-ends
returns-in_err-reason-clause-ends g c =
    let here = (goal.at.returns-in_err-reason-clause-ends g c).After-backtrack in
    let split = sym c.clause.ensures ∙ c.in-Some.ensures.1 in
    let count = ap (λ (x : Context g.row.A.Denot). length x.assignment.current) c.keep_learned.ensures.frame in
    record {
      schedule = keeping (planned g here) c.keep_learned.ensures.frame;
      full = if-full c.from_residual-in_err-reason.result c.in_err-reason.field-0.0 _ c.from_residual-in_err-reason.ensures (λ h.
          let room = c.in_err-reason.ensures.full h in
          let short = learned-length (undone g here) c.in-Some.first c.in-Some.ensures.0 split in
          (omega (arith, room, short, count), count ∙ learned-count (undone g here) c.in-Some.first c.in-Some.ensures.0 split));
    }

pub returns-in_err-enqueue_assignment-clause-ends : goal.returns-in_err-enqueue_assignment-clause-ends
returns-in_err-enqueue_assignment-clause-ends g c =
    let k = keeping (planned g (goal.at.returns-in_err-enqueue_assignment-clause-ends g c).After-backtrack) c.keep_learned.ensures.frame in
    ends-unfilled c.from_residual-in_err-enqueue_assignment.result step.Memory c.from_residual-in_err-enqueue_assignment.ensures memory-unfilled
    (record { schedule = k.schedule; solver_config = k.solver_config })

pub returns-clause-ends : goal.returns-clause-ends
returns-clause-ends g c =
    let k = keeping (planned g (goal.at.returns-clause-ends g c).After-backtrack) c.keep_learned.ensures.frame in
    record { schedule = record { schedule = k.schedule; solver_config = k.solver_config }; full = tt }

pub returns-in_err-level-clause-broken : goal.returns-in_err-level-clause-broken
returns-in_err-level-clause-broken g c =
    memory-broken g.P.ProofTracer.breaks_off c.args.proof.now c.args.proof.now c.from_residual.result c.from_residual.ensures
    (breaks-not g.P.ProofTracer.breaks_off g.met.P.ProofTracer.breaks_none c.args.proof.now)

pub returns-in_err-trace_learned-clause-broken : goal.returns-in_err-trace_learned-clause-broken
returns-in_err-trace_learned-clause-broken g c =
    trace-broken g.P.ProofTracer.breaks_off c.args.proof.now c.trace_learned.new.proof c.from_residual-in_err-trace_learned.result
    c.in_err-trace_learned.field-0.0 c.from_residual-in_err-trace_learned.ensures
    (c.in_err-trace_learned.ensures {u = tt})

pub returns-in_err-bump_involved_clauses-clause-broken : goal.returns-in_err-bump_involved_clauses-clause-broken
returns-in_err-bump_involved_clauses-clause-broken g c =
    memory-broken g.P.ProofTracer.breaks_off c.args.proof.now c.trace_learned.new.proof c.from_residual-in_err-bump_involved_clauses.result
    c.from_residual-in_err-bump_involved_clauses.ensures
    (breaks-on g.P.ProofTracer.takes g.P.ProofTracer.breaks_off g.met.P.ProofTracer.breaks_behind (c.in_ok-trace_learned.ensures {u = tt})
    (breaks-not g.P.ProofTracer.breaks_off g.met.P.ProofTracer.breaks_none c.trace_learned.new.proof))

pub returns-in_err-reason-clause-broken : goal.returns-in_err-reason-clause-broken
returns-in_err-reason-clause-broken g c =
    store-broken g.P.ProofTracer.breaks_off c.args.proof.now c.trace_learned.new.proof c.from_residual-in_err-reason.result
    c.in_err-reason.field-0.0 c.from_residual-in_err-reason.ensures
    (breaks-on g.P.ProofTracer.takes g.P.ProofTracer.breaks_off g.met.P.ProofTracer.breaks_behind (c.in_ok-trace_learned.ensures {u = tt})
    (breaks-not g.P.ProofTracer.breaks_off g.met.P.ProofTracer.breaks_none c.trace_learned.new.proof))

pub returns-in_err-enqueue_assignment-clause-broken : goal.returns-in_err-enqueue_assignment-clause-broken
returns-in_err-enqueue_assignment-clause-broken g c =
    memory-broken g.P.ProofTracer.breaks_off c.args.proof.now c.trace_learned.new.proof c.from_residual-in_err-enqueue_assignment.result
    c.from_residual-in_err-enqueue_assignment.ensures
    (breaks-on g.P.ProofTracer.takes g.P.ProofTracer.breaks_off g.met.P.ProofTracer.breaks_behind (c.in_ok-trace_learned.ensures {u = tt})
    (breaks-not g.P.ProofTracer.breaks_off g.met.P.ProofTracer.breaks_none c.trace_learned.new.proof))
