-- The contexts of `learn_from_conflict`.
use Rattle.std.proofs.Common.{◌≡◌, ℕ, ◌*◌, ◌-◌, ◌^◌, ◌<◌, ◌≤◌, Bool, false, replicate, Some, List, [], ◌∷◌, ◌++◌, length, length-set, ◌⊎◌, inl, inr, ⊎_elim, refl, sym, ap, ◌∙◌, subst, arith}
use Rattle.std.proofs.lemmas.Bool.{cases_lt}
use Rattle.varisat_clause.specs.Databases.{Tracks}
use Rattle.varisat_clause.proofs.StoreSound.{sound-is}
use Rattle.varisat_theory.specs.promises.Membership.{◌∈◌, ◌⊆◌}
use Rattle.varisat_theory.specs.promises.Literals.{Literal, Clause, variable_of, opposite}
use Rattle.varisat_theory.proofs.clauses.Places.{place_in}
use Rattle.varisat_theory.proofs.clauses.Held.{same_clauses_find, same_clauses-back}
use Rattle.varisat_literals.specs.promises.Numbers.{polarity_of}
use Rattle.varisat_prop.specs.declared.prop.graph.Reason.{Reason}
use Rattle.varisat_prop.specs.declared.prop.graph.Reason.TheVariants as reason
use Rattle.varisat_prop.specs.declared.prop.graph.Conflict.{Conflict}
use Rattle.varisat_theory.proofs.clauses.Values.{variable-opposite}
use Rattle.varisat_prop.proofs.trails.LiteralValues.{made-inside}
use Rattle.varisat_prop.proofs.trails.TrailValues.{trail-true, fits-node}
use Rattle.varisat_prop.proofs.watching.LongVisited.{listed}
use Rattle.varisat_prop.specs.View.{View, kept, WellFormed, PropagatedBeforeDecisions}
use Rattle.varisat_prop.specs.Watches.{Watches, IsPropagated}
use Rattle.varisat_prop.specs.Changes.{enqueued, NamesPlace, IsConflicting}
use Rattle.varisat_vsids.specs.Activities.{Activities}
use Rattle.varisat_search.specs.declared.context.Context.{Context}
use Rattle.varisat_search.specs.declared.state.SatState.TheVariants as verdict
use Rattle.varisat_search.specs.declared.state.SolverState.{SolverState}
use Rattle.varisat_analysis.specs.Learned.{Analysis, IsLearned, IsAsserting, AreInvolved}
use Rattle.varisat_search.specs.AssumptionParts.{with_levels_to, HasAssumptions}
use Rattle.varisat_search.specs.Contexts.{view, IsReady}
use Rattle.varisat_search.specs.Frames.{ChangesAnalysis, ChangesAnalyzed, ChangesBumped, ChangesClauses, ChangesLevels, ChangesTrail, ClearsFlags}
use Rattle.varisat_search.proofs.assuming.AssumptionLevels.{has-same-decisions}
use Rattle.varisat_search.proofs.assuming.AssumptionContexts.{IsSameList, still-assumable, same-working, cut-assumed, cut-same-list}
use Rattle.varisat_search.proofs.stepping.Backtrack.{cut-well}
use Rattle.varisat_search.specs.Conflicts.{Keeping, keeping_of, IsKeptAsReason, IsWatchedAsReason}
use Rattle.varisat_search.specs.Decisions.{HasActivities, AreDecidable, SameDecidable}
use Rattle.varisat_clause.specs.Stores.{Store}
use Rattle.varisat_clause.specs.Collected.{live_clauses}
use Rattle.varisat_clause.specs.ClauseActivities.{ActivityScale}
use Rattle.varisat_analysis.specs.Bumps.{AreVariablesAbove, literals_among}
use Rattle.varisat_search.specs.Learning.{BumpsAndDecays}
use Rattle.varisat_analysis.specs.Assessments.{BumpsClauses, IsAssigned}
use Rattle.varisat_analysis.specs.HeaderChanges.{SameButHeaders, ChangesHeaders}
use Rattle.varisat_search.proofs.simplifying.HeaderChanges.{header-seen, store-view, headers-ready}
use Rattle.varisat_search.proofs.learning.LearnedHeaders.{learned-there}
use Rattle.varisat_analysis.proofs.AssignedLevels.{involved-assigned}
use Rattle.varisat_analysis.proofs.WellFormedViews.{named-place, no-clash, inside}
use Rattle.varisat_search.proofs.loading.ClauseLengths.{clause-short}
use Rattle.varisat_search.specs.Steps.{IsCut, Saves, SavesSome, IsFree}
use Rattle.varisat_theory.specs.promises.Derivations.{Line, Add}
use Rattle.varisat_theory.specs.inside.Outcomes.{Unknown, Unsat, Steps}
use Rattle.varisat_theory.proofs.steps.StepEnds.{contradiction_is_found}
use Rattle.varisat_search.specs.Progress.{GoesAStep, IsStepFurther}
use Rattle.varisat_search.specs.Seen.{search_of, outcome_of}
use Rattle.varisat_search.specs.RootSimplified.{KeepsFixed}
use Rattle.varisat_search.proofs.stepping.FixedLiterals.{fixed-learned}
use Rattle.varisat_search.proofs.stepping.ViewSearch.{view_reads}
use Rattle.varisat_search.proofs.loading.AddedClause.{last-one}
use Rattle.varisat_search.proofs.variables.DecidableVariables.{can-decide, same-read, same-trans, at-valued, enqueued-same}
use Rattle.varisat_search.proofs.learning.LearnLines.{steps_kept, steps_unit}
use Rattle.varisat_search.proofs.learning.LearnClause.{keeping, Result, second-level, first-inside, first-free, unit-result, unit-propagated, joins, kept-result, kept-propagated}
use Rattle.varisat_search.proofs.stepping.ReadyAfter.{ready-with}

same-first : (l m : Literal) (c d : Clause) → (l ∷ c) ≡ (m ∷ d) → l ≡ m
same-first l m c d e = cc

same-others : (l m : Literal) (c d : Clause) → (l ∷ c) ≡ (m ∷ d) → c ≡ d
same-others l m c d e = cc

-- a clause with a literal was learned above level 0
pub is-above : (s : View) (i : Conflict) (level : ℕ) (l : Literal) (others : Clause) → IsLearned s i (l ∷ others) level → 0 < length s.decisions
is-above s i level l others d = ⊎_elim (λ h. h) (λ h. let e = (d.at_zero (omega (arith, h))).0 in absurd cc) (cases_lt 0 (length s.decisions))

module _ (s t : View) (i : Conflict) (level : ℕ) (l : Literal) (others : Clause) (w : WellFormed s) (v : PropagatedBeforeDecisions s)
    (d : IsLearned s i (l ∷ others) level) (cut : level < length s.decisions → IsCut s t level) where
  deep : 0 < length s.decisions
  deep = is-above s i level l others d

  asserting : IsAsserting s i (l ∷ others) level
  asserting = d.above deep

  pub below : level < length s.decisions
  below = (second-level s asserting.others level (length s.decisions) asserting.second asserting.lower deep).0

  first-is : l ≡ asserting.first
  first-is = same-first l asserting.first others asserting.others asserting.split

  others-are : others ≡ asserting.others
  others-are = same-others l asserting.first others asserting.others asserting.split

  -- the first literal may be made true once the levels are undone
  pub learned-free : IsFree t l
  learned-free = subst (IsFree t) (sym first-is)
      (first-inside s t i level (l ∷ others) w v asserting deep (cut below), first-free s t i level (l ∷ others) w v asserting deep (cut below))

  pub learned-node : variable_of l < length t.nodes
  learned-node =
      let a = learned-free.0 in
      let ct = cut below in
      let n = ct.count in
      let m = w.nodes_are in
      let k = ap (λ (x : View). length x.nodes) ct.rest in
      omega (arith, a, n, m, k)

  here : (K : Keeping) (r : Reason) (o : Clause) → IsKeptAsReason (keeping_of t) K (l ∷ o) r → IsKeptAsReason (keeping_of t) K (asserting.first ∷ o) r
  here K r o = subst (λ x. IsKeptAsReason (keeping_of t) K (x ∷ o) r) first-is

  unit-is : (z : View) (K : Keeping) (r : Reason) → K ≡ keeping_of t → r ≡ reason.Unit → z ≡ enqueued (keeping t K) l r →
      z ≡ enqueued t asserting.first reason.Unit
  unit-is z K r f g h = h ∙ ap (λ x. enqueued (keeping t x) l r) f ∙ ap (λ x. enqueued t l x) g ∙ ap (λ x. enqueued t x reason.Unit) first-is

  first-here : (z : View) (K : Keeping) (r : Reason) → z ≡ enqueued (keeping t K) l r → z ≡ enqueued (keeping t K) asserting.first r
  first-here z K r h = h ∙ ap (λ x. enqueued (keeping t K) x r) first-is

  module _ (W : Watches) (p : IsPropagated W s) where
    -- what is made of the learned clause
    pub learned-result : (z : View) (K : Keeping) (r : Reason) (o : Clause) → others ≡ o → IsKeptAsReason (keeping_of t) K (l ∷ o) r →
        z ≡ enqueued (keeping t K) l r → Result s z
    learned-result z K r [] e (f, g) h =
        subst (Result s) (sym (unit-is z K r f g h)) (unit-result s t i level (l ∷ others) w v asserting deep (cut below) (sym others-are ∙ e))
    learned-result z K r (m ∷ ms) e k h =
        subst (Result s) (sym (first-here z K r h))
        (kept-result s t i level (l ∷ others) w v asserting deep (cut below) m ms (sym others-are ∙ e) W p K r (here K r (m ∷ ms) k))

    -- the clause is watched
    pub learned-propagated : (V : Watches) (z : View) (K : Keeping) (r : Reason) (o : Clause) → others ≡ o →
        IsKeptAsReason (keeping_of t) K (l ∷ o) r → IsWatchedAsReason W V (l ∷ o) r → z ≡ enqueued (keeping t K) l r → IsPropagated V z
    learned-propagated V z K r [] e (f, g) q h =
        let same : V ≡ W = subst (IsWatchedAsReason W V (l ∷ [])) g q in
        subst (λ X. IsPropagated X z) (sym same)
        (subst (IsPropagated W) (sym (unit-is z K r f g h)) (unit-propagated s t i level (l ∷ others) w v asserting deep (cut below) W p))
    learned-propagated V z K r (m ∷ ms) e k q h =
        let watched : IsWatchedAsReason W V (asserting.first ∷ m ∷ ms) r = subst (λ x. IsWatchedAsReason W V (x ∷ m ∷ ms) r) first-is q in
        subst (IsPropagated V) (sym (first-here z K r h))
        (kept-propagated s t i level (l ∷ others) w v asserting deep (cut below) m ms (sym others-are ∙ e) W p V K r (here K r (m ∷ ms) k) watched)

    -- the line that is written
    pub learned-steps : (z : View) (K : Keeping) (r : Reason) (o : Clause) → others ≡ o → IsKeptAsReason (keeping_of t) K (l ∷ o) r →
        z ≡ enqueued (keeping t K) l r → Steps (search_of s) (search_of z) Unknown (Add (l ∷ others) ∷ [])
    learned-steps z K r [] e (f, g) h =
        subst (λ y. Steps (search_of s) (search_of y) Unknown (Add (l ∷ others) ∷ [])) (sym (unit-is z K r f g h))
        (steps_unit s t i level (l ∷ others) w v asserting deep (cut below) d.follows d.of_kept (sym others-are ∙ e))
    learned-steps z K r (m ∷ ms) e k h =
        subst (λ y. Steps (search_of s) (search_of y) Unknown (Add (l ∷ others) ∷ [])) (sym (first-here z K r h))
        (steps_kept s t i level (l ∷ others) w v asserting deep (cut below) d.follows d.of_kept W p m ms (sym others-are ∙ e) K r (here K r (m ∷ ms) k))

    -- a clause that is kept was so before, as a set, or is the learned one
    pub kept-or-learned : (z : View) (K : Keeping) (r : Reason) (o : Clause) → others ≡ o → IsKeptAsReason (keeping_of t) K (l ∷ o) r →
        z ≡ enqueued (keeping t K) l r → (c : Clause) → c ∈ kept z → (x : Clause) × ((x ∈ kept t) ⊎ (x ≡ l ∷ others)) × (c ⊆ x)
    kept-or-learned z K r [] e (f, g) h c q = (c, inl (subst (λ ks. c ∈ ks) (ap kept (unit-is z K r f g h)) q), λ y j. j)
    kept-or-learned z K r (m ∷ ms) e k h c q =
        let j = joins s t i level (l ∷ others) w v asserting deep (cut below) m ms (sym others-are ∙ e) W p K r (here K r (m ∷ ms) k) in
        let clause : Clause = asserting.first ∷ m ∷ ms in
        let is : clause ≡ l ∷ others = ap (λ x. x ∷ m ∷ ms) (sym first-is) ∙ ap (λ o. l ∷ o) (sym e) in
        let (x, a, u) = same_clauses_find (kept (keeping t K)) (kept t ++ clause ∷ [])
        (same_clauses-back (kept t ++ clause ∷ []) (kept (keeping t K)) j.same) c (subst (λ ks. c ∈ ks) (ap kept h) q) in
        (x, ⊎_elim inl (λ y. inr (y ∙ is)) (last-one (kept t) clause x a), u.1)

-- The contexts before and after analysis and bumps.
pub record Analyzed {A : Type 0} (x0 x1 : Context A) (i : Conflict) (level : ℕ) : Type 0 where
  pub ready : IsReady x0
  pub unknown : x0.solver_state.sat_state ≡ verdict.Unknown
  pub analyzed : ChangesAnalyzed x0 x1
  pub flags : x1.tmp_flags.flags.items ≡ x0.tmp_flags.flags.items
  pub available : x1.vsids.available ≡ x0.vsids.available
  pub decay : x1.vsids.decay ≡ x0.vsids.decay
  pub entries : HasActivities (view x1) x1.vsids
  pub room : x1.analyze_conflict.var_count ≡ x0.analyze_conflict.var_count
  pub learned : IsLearned (view x0) i x1.analyze_conflict.clause level

-- The context between analysis and bumps.
pub record Analysing {A : Type 0} (x0 x : Context A) (i : Conflict) (level : ℕ) : Type 0 where
  pub ready : IsReady x0
  pub unknown : x0.solver_state.sat_state ≡ verdict.Unknown
  pub kept : ChangesAnalysis x0 x
  pub learned : IsLearned (view x0) i x.analyze_conflict.clause level

pub analyzed-bumped : {A : Type 0} {x0 x x1 : Context A} {i : Conflict} {level : ℕ} → Analysing x0 x i level →
    x1 ≡ record x { vsids = record x.vsids { activity = x1.vsids.activity; increment = x1.vsids.increment } } →
    HasActivities (view x1) x1.vsids → Analyzed x0 x1 i level
analyzed-bumped {A} {x0} {x} {x1} {i} {level} d k e =
    let analysis : x1.analyze_conflict ≡ x.analyze_conflict = ap (λ (y : Context A). y.analyze_conflict) k in
    record {
      ready = d.ready;
      unknown = d.unknown;
      analyzed = subst (λ (y : Context A). ChangesAnalyzed x0 y) (sym k)
          (subst (λ (y : Context A). ChangesAnalyzed x0 (record y
          { vsids = record y.vsids { activity = x1.vsids.activity; increment = x1.vsids.increment } })) (sym d.kept) refl);
      flags = ap (λ (y : Context A). y.tmp_flags.flags.items) k ∙ ap (λ (y : Context A). y.tmp_flags.flags.items) d.kept;
      available = ap (λ (y : Context A). y.vsids.available) k ∙ ap (λ (y : Context A). y.vsids.available) d.kept;
      decay = ap (λ (y : Context A). y.vsids.decay) k ∙ ap (λ (y : Context A). y.vsids.decay) d.kept;
      entries = e;
      room = ap (λ (y : Analysis). y.var_count) analysis ∙ ap (λ (y : Context A). y.analyze_conflict.var_count) d.kept;
      learned = subst (λ (y : Analysis). IsLearned (view x0) i y.clause level) (sym analysis) d.learned;
    }

-- analysis writes what it found alone
pub analysis-ready : {A : Type 0} {x0 x : Context A} → ChangesAnalysis x0 x → IsReady x0 → IsReady x
analysis-ready {x0 = x0} {x = x} k r = subst IsReady (sym k)
    (ready-with x0 (record x0
    { analyze_conflict = record x.analyze_conflict { var_count = x0.analyze_conflict.var_count }; counters = x.counters })
    r refl refl refl r.propagated r.decidable r.assumed r.assumable)

-- so that the variables that it met are those of the view after it too
pub analysis-met : {A : Type 0} (x0 x : Context A) → ChangesAnalysis x0 x →
    AreVariablesAbove (view x0).nodes (literals_among (view x0).clauses x.analyze_conflict.involved) x.analyze_conflict.met →
    AreVariablesAbove (view x).nodes (literals_among (view x).clauses x.analyze_conflict.involved) x.analyze_conflict.met
analysis-met {A} x0 x k m =
    subst (λ s. AreVariablesAbove s.nodes (literals_among s.clauses x.analyze_conflict.involved) x.analyze_conflict.met)
    (sym (ap (λ (y : Context A). view y) k)) m

pub bumps-learned : {A : Type 0} (x0 x x1 z : Context A) → ChangesAnalysis x0 x →
    (0 < length x.trail.decisions →
    BumpsAndDecays x.solver_config.restart_glue (view x) x.analyze_conflict.involved x.vsids x1.vsids) → z.analyze_conflict ≡ x.analyze_conflict →
    0 < length x0.trail.decisions → BumpsAndDecays x0.solver_config.restart_glue (view x0) z.analyze_conflict.involved x0.vsids x1.vsids
bumps-learned {A} x0 x x1 z k b e h =
    let n = ap (λ (y : Context A). length y.trail.decisions) k in
    subst (λ g. BumpsAndDecays g (view x0) z.analyze_conflict.involved x0.vsids x1.vsids) (ap (λ (y : Context A). y.solver_config.restart_glue) k)
    (subst (λ s. BumpsAndDecays x.solver_config.restart_glue s z.analyze_conflict.involved x0.vsids x1.vsids) (ap (λ (y : Context A). view y) k)
    (subst (λ a. BumpsAndDecays x.solver_config.restart_glue (view x) z.analyze_conflict.involved a x1.vsids) (ap (λ (y : Context A). y.vsids) k)
    (subst (λ ps. BumpsAndDecays x.solver_config.restart_glue (view x) ps x.vsids x1.vsids) (sym (ap (λ (y : Analysis). y.involved) e))
    (b (omega (arith, h, n))))))

-- What the bumps of clauses and the learned clause's header need of the context after analysis and bumps.
module _ {A : Type 0} {x0 x1 : Context A} {i : Conflict} {level : ℕ} (d : Analyzed x0 x1 i level) where
  pub analyzed-well : WellFormed (view x1)
  analyzed-well = subst (λ (x : Context A). WellFormed (view x)) (sym d.analyzed) d.ready.well

  pub analyzed-tracks : Tracks x1.clause_db x1.clause_alloc
  analyzed-tracks = subst (λ (x : Context A). Tracks x.clause_db x.clause_alloc) (sym d.analyzed) d.ready.tracks

  pub analyzed-clear : x1.tmp_flags.flags.items ≡ replicate (2 * length x1.assignment.current) false
  analyzed-clear = d.flags ∙ d.ready.flags ∙ ap (λ (x : Context A). replicate (2 * length x.assignment.current) false) (sym d.analyzed)

  -- the literals of the learned clause are assigned
  pub learned-assigned : (l : Literal) → l ∈ x1.analyze_conflict.clause → IsAssigned (view x1) l
  learned-assigned =
      subst (λ (x : Context A). (l : Literal) → l ∈ x1.analyze_conflict.clause → IsAssigned (view x) l) (sym d.analyzed)
      (λ l h. ⊎_elim
      (λ o. inr ((d.learned.above o).false_now l h))
      (λ z. absurd (subst (λ c. l ∈ c) (d.learned.at_zero (omega (arith, z))).0 h))
      (cases_lt 0 (length (view x0).decisions)))

  -- and those of the clauses that took part
  module _ (f : IsConflicting (view x0) i) (a : AreInvolved (view x0) i x1.analyze_conflict.involved) where
    pub analyzed-named : (g : Conflict) → g ∈ x1.analyze_conflict.involved → NamesPlace (live_clauses x1.clause_alloc) g
    analyzed-named =
        subst (λ (x : Context A). (g : Conflict) → g ∈ x1.analyze_conflict.involved → NamesPlace (live_clauses x.clause_alloc) g) (sym d.analyzed)
        (λ g h. ⊎_elim
        (λ o. named-place (view x0) g ((a.above o).named g h))
        (λ z. absurd (subst (λ gs. g ∈ gs) (a.at_zero (omega (arith, z))) h))
        (cases_lt 0 (length (view x0).decisions)))

    pub analyzed-assigned : (l : Literal) → l ∈ literals_among (live_clauses x1.clause_alloc) x1.analyze_conflict.involved → IsAssigned (view x1) l
    analyzed-assigned =
        subst (λ (x : Context A). (l : Literal) → l ∈ literals_among (live_clauses x.clause_alloc) x1.analyze_conflict.involved →
        IsAssigned (view x) l) (sym d.analyzed)
        (λ l h. involved-assigned (view x0) d.ready.well i x1.analyze_conflict.involved l f a h)

-- the same with the clauses of the other context
abbrev pub with_store : {A : Type 0} → Context A → Context A → Context A
with_store x y = record x { clause_activity = y.clause_activity; clause_alloc = y.clause_alloc; clause_db = y.clause_db }

-- Clauses were bumped, so that it is as if their headers had been other ones before.
module _ {A : Type 0} {x0 x1 : Context A} {i : Conflict} {level : ℕ} (y : Context A) (d : Analyzed x0 x1 i level)
    (t : Tracks y.clause_db y.clause_alloc) (h : SameButHeaders (live_clauses x1.clause_alloc) (live_clauses y.clause_alloc)) where
  changes : ChangesHeaders (view x0) (view (with_store x0 y))
  changes = record {
    clauses = subst (λ (s : Store). SameButHeaders (live_clauses s) (live_clauses y.clause_alloc)) (ap (λ (x : Context A). x.clause_alloc) d.analyzed) h;
    rest = store-view x0 (with_store x0 y) d.ready.tracks.sound t.sound refl;
  }

  pub analyzed-noted : ChangesBumped x1 y → Analyzed (with_store x0 y) y i level
  analyzed-noted (k, f) =
      let analysis : (x : Context A) → Analysis = λ x. x.analyze_conflict in
      record {
        ready = headers-ready x0 (with_store x0 y) d.ready changes t refl refl;
        unknown = d.unknown;
        analyzed = subst (λ (x : Context A). ChangesAnalyzed (with_store x0 y) x) (sym k)
            (subst (λ (x : Context A). ChangesAnalyzed (with_store x0 y) (record x
            { clause_activity = y.clause_activity; clause_alloc = y.clause_alloc; clause_db = y.clause_db; tmp_flags = y.tmp_flags })) (sym d.analyzed) refl);
        flags = f ∙ d.flags;
        available = ap (λ (x : Context A). x.vsids.available) k ∙ d.available;
        decay = ap (λ (x : Context A). x.vsids.decay) k ∙ d.decay;
        entries =
            let count = ap (λ (x : Context A). length x.assignment.current) k in
            record {
              activity = ap (λ (x : Context A). length x.vsids.activity) k ∙ d.entries.activity ∙ sym count;
              available = ap (λ (x : Context A). length x.vsids.available) k ∙ d.entries.available ∙ sym count;
            };
        room = ap (λ (x : Context A). x.analyze_conflict.var_count) k ∙ d.room;
        learned = subst (λ (a : Analysis). IsLearned (view (with_store x0 y)) i a.clause level) (sym (ap analysis k))
            (learned-there (view x0) (view (with_store x0 y)) i x1.analyze_conflict.clause level d.ready.well changes d.learned);
      }

  -- a step from there is one from before
  pub noted-further : (z : Context A) (P : List Line → Type 0) → IsStepFurther P (with_store x0 y) z → IsStepFurther P x0 z
  noted-further z P p =
      let g = p.goes in
      record {
        goes = record {
          ready = g.ready;
          steps =
              let (lines, q, j) = g.steps in (
                lines,
                subst (λ u. Steps u (search_of (view z)) (outcome_of (view z) z.assumptions.failed_core z.solver_state.sat_state) lines)
                    (header-seen (view x0) (view (with_store x0 y)) d.ready.well changes) q,
                j,
              );
          rises = g.rises;
          keeps = record { decidable = g.keeps.decidable; decay = g.keeps.decay; count = g.keeps.count };
          state = g.state;
        };
        known = p.known;
        assumptions = p.assumptions;
      }

  pub noted-saves : (old new : List Bool) → SavesSome (view (with_store x0 y)) old new → SavesSome (view x0) old new
  noted-saves old new (inl e) = inl e
  noted-saves old new (inr (n, h, v)) = inr (n, h, record { count = v.count; left = v.left; stays = v.stays })

  -- the clauses that were bumped are those that took part
  pub noted-bumps : (names : List Conflict) (b : ActivityScale) → names ≡ x1.analyze_conflict.involved → b ≡ y.clause_activity →
      (0 < length x1.trail.decisions → BumpsClauses x1.impl_graph.nodes.items x1.analyze_conflict.involved x1.clause_alloc y.clause_alloc
      x1.clause_activity y.clause_activity) → 0 < length x0.trail.decisions →
      BumpsClauses x0.impl_graph.nodes.items names x0.clause_alloc y.clause_alloc x0.clause_activity b
  noted-bumps names b e g q o =
      subst (λ (fs : List Conflict). BumpsClauses x0.impl_graph.nodes.items fs x0.clause_alloc y.clause_alloc x0.clause_activity b) (sym e)
      (subst (λ (a : ActivityScale). BumpsClauses x0.impl_graph.nodes.items x1.analyze_conflict.involved x0.clause_alloc y.clause_alloc
      x0.clause_activity a) (sym g)
      (subst (λ (x : Context A). 0 < length x.trail.decisions → BumpsClauses x.impl_graph.nodes.items x1.analyze_conflict.involved x.clause_alloc
      y.clause_alloc x.clause_activity y.clause_activity) d.analyzed q o))

-- flags were used and cleared
pub analyzed-flags : {A : Type 0} {x0 x1 y : Context A} {i : Conflict} {level : ℕ} → Analyzed x0 x1 i level →
    (y ≡ record x1 { tmp_flags = y.tmp_flags }) × ClearsFlags x1 y → Analyzed x0 y i level
analyzed-flags {A} {x0} {x1} {y} {i} {level} d (k, f) =
    let analysis : (x : Context A) → Analysis = λ x. x.analyze_conflict in
    let count = ap (λ (x : Context A). length x.assignment.current) k in
    record {
      ready = d.ready;
      unknown = d.unknown;
      analyzed = subst (λ (x : Context A). ChangesAnalyzed x0 x) (sym k)
          (subst (λ (x : Context A). ChangesAnalyzed x0 (record x { tmp_flags = y.tmp_flags })) (sym d.analyzed) refl);
      flags = f ∙ d.flags;
      available = ap (λ (x : Context A). x.vsids.available) k ∙ d.available;
      decay = ap (λ (x : Context A). x.vsids.decay) k ∙ d.decay;
      entries = record {
        activity = ap (λ (x : Context A). length x.vsids.activity) k ∙ d.entries.activity ∙ sym count;
        available = ap (λ (x : Context A). length x.vsids.available) k ∙ d.entries.available ∙ sym count;
      };
      room = ap (λ (x : Context A). x.analyze_conflict.var_count) k ∙ d.room;
      learned = subst (λ (a : Analysis). IsLearned (view x0) i a.clause level) (sym (ap analysis k)) d.learned;
    }

-- The contexts of learning from a conflict: before, after analysis and bumps, and after backtracking to the level.
pub record Backtracked {A : Type 0} (x0 x1 x2 : Context A) (i : Conflict) (level : ℕ) : Type 0 where
  pub begun : Analyzed x0 x1 i level
  pub same : length x1.trail.decisions ≤ level → x2 ≡ x1
  pub cut : level < length x1.trail.decisions → IsCut (view x1) (view x2) level
  pub saved : level < length x1.trail.decisions → Saves (view x1) level x1.assignment.last x2.assignment.last
  pub entries : HasActivities (view x2) x2.vsids
  pub decidable : SameDecidable (view x1) x1.vsids (view x2) x2.vsids
  pub decay : x2.vsids.decay ≡ x1.vsids.decay
  pub levels : level < length x1.trail.decisions → x2.assumptions ≡ with_levels_to level x1.assumptions
  pub back : ChangesLevels x1 x2

module _ {A : Type 0} {x0 x1 x2 : Context A} {i : Conflict} {level : ℕ} (d : Backtracked x0 x1 x2 i level) where
  same-view : view x1 ≡ view x0
  same-view = ap (λ (x : Context A). view x) d.begun.analyzed

  room-is : x2.analyze_conflict.var_count ≡ length x0.assignment.current
  room-is = ap (λ (x : Context A). x.analyze_conflict.var_count) d.back ∙ d.begun.room ∙ d.begun.ready.analysis

  flags-are : x2.tmp_flags.flags.items ≡ replicate (2 * length x0.assignment.current) false
  flags-are = ap (λ (x : Context A). x.tmp_flags.flags.items) d.back ∙ d.begun.flags ∙ d.begun.ready.flags

  state-is : x2.solver_state ≡ x0.solver_state
  state-is =
      let state : (x : Context A) → SolverState = λ x. x.solver_state in
      ap state d.back ∙ ap state d.begun.analyzed

  pairs-are : x2.binary_clauses ≡ x0.binary_clauses
  pairs-are = ap (λ (x : Context A). (view x).binary) d.back ∙ ap (λ (x : Context A). (view x).binary) d.begun.analyzed

  kept-before : kept (view x2) ≡ kept (view x0)
  kept-before = ap (λ (x : Context A). kept (view x)) d.back ∙ ap (λ (x : Context A). kept (view x)) d.begun.analyzed

  -- the database still fits the store
  pub learned-tracks : Tracks x2.clause_db x2.clause_alloc
  learned-tracks = subst (λ (x : Context A). Tracks x.clause_db x.clause_alloc) (sym d.back)
      (subst (λ (x : Context A). Tracks x.clause_db x.clause_alloc) (sym d.begun.analyzed) d.begun.ready.tracks)

  watches-are : x2.watchlists ≡ x0.watchlists
  watches-are = ap (λ (x : Context A). x.watchlists) d.back ∙ ap (λ (x : Context A). x.watchlists) d.begun.analyzed

  -- what is remembered of the values that were undone
  pub saves-some : SavesSome (view x0) x0.assignment.last x2.assignment.last
  saves-some =
      let l : x1.assignment.last ≡ x0.assignment.last = ap (λ (x : Context A). x.assignment.last) d.begun.analyzed in
      ⊎_elim
      (λ h. inr (
        level,
        subst (λ (y : View). level < length y.decisions) same-view h,
        subst
            (λ (y : View). Saves y level x0.assignment.last x2.assignment.last) same-view
            (subst (λ xs. Saves (view x1) level xs x2.assignment.last) l (d.saved h)),
      ))
      (λ h. inl (ap (λ (x : Context A). x.assignment.last) (d.same h) ∙ l))
      (cases_lt level (length x1.trail.decisions))

  clause-is : (c : Clause) → x2.analyze_conflict.clause ≡ c → IsLearned (view x0) i c level
  clause-is c e = subst (λ c. IsLearned (view x0) i c level) (sym (ap (λ (x : Context A). x.analyze_conflict.clause) d.back) ∙ e) d.begun.learned

  cut-is : level < length (view x0).decisions → IsCut (view x0) (view x2) level
  cut-is h = subst (λ s. IsCut s (view x2) level) same-view (d.cut (subst (λ (s : View). level < length s.decisions) (sym same-view) h))

  -- the learned clause has no more literals than there are variables
  pub learned-length : (l : Literal) (others : Clause) → x2.analyze_conflict.clause ≡ l ∷ others →
      length x2.analyze_conflict.clause ≤ length x2.assignment.current
  learned-length l others e =
      let f = clause-is (l ∷ others) e in
      let s = view x0 in
      let w = d.begun.ready.well in
      let deep = is-above s i level l others f in
      let b = f.above deep in
      let below = (second-level s b.others level (length s.decisions) b.second b.lower deep).0 in
      let short = clause-short (l ∷ others) (length s.values) b.distinct
      (λ (m, h, k). no-clash s w (opposite m) (b.false_now m h) (b.false_now (opposite m) k))
      (λ m h. let r = inside s w m (b.false_now m h) in let n = w.nodes_are in omega (arith, r, n)) in
      let count = (cut-is below).count in
      let same = ap (λ (c : Clause). length c) e in
      omega (arith, short, count, same)

  -- and of these there are as many as before
  pub learned-count : (l : Literal) (others : Clause) → x2.analyze_conflict.clause ≡ l ∷ others →
      length x2.assignment.current ≡ length x0.assignment.current
  learned-count l others e =
      let f = clause-is (l ∷ others) e in
      let s = view x0 in
      let deep = is-above s i level l others f in
      let b = f.above deep in
      (cut-is (second-level s b.others level (length s.decisions) b.second b.lower deep).0).count

  -- the same variables are decidable once the levels are undone
  still-decidable : SameDecidable (view x0) x0.vsids (view x2) x2.vsids
  still-decidable = same-trans (view x0) x0.vsids (view x1) x1.vsids (view x2) x2.vsids
      (same-read (view x0) x0.vsids (view x1) x1.vsids (ap (λ (x : View). x.values) same-view) d.begun.available) d.decidable

  -- of the assumptions as many have a level as there are levels left
  assumed-first : HasAssumptions (view x1) x1.assumptions
  assumed-first = subst (λ (x : Context A). HasAssumptions (view x) x.assumptions) (sym d.begun.analyzed) d.begun.ready.assumed

  first-well : WellFormed (view x1)
  first-well = subst WellFormed (sym same-view) d.begun.ready.well

  cut-assumptions : HasAssumptions (view x2) x2.assumptions
  cut-assumptions = cut-assumed level x1 x2 d.same d.levels first-well d.cut assumed-first

  cut-list : IsSameList x0.assumptions x2.assumptions
  cut-list = subst (λ x. IsSameList x x2.assumptions) (ap (λ (x : Context A). x.assumptions) d.begun.analyzed) (cut-same-list level x1 x2 d.same d.levels)

  backtracked-well : WellFormed (view x2)
  backtracked-well =
      ⊎_elim
      (λ h. cut-well (view x1) (view x2) level first-well h (d.cut h))
      (λ h. subst (λ (x : Context A). WellFormed (view x)) (sym (d.same h)) first-well)
      (cases_lt level (length x1.trail.decisions))

  -- each of its literals has a watch list, and a list of what it implies
  literal-listed : (l : Literal) (others : Clause) → x2.analyze_conflict.clause ≡ l ∷ others → (m : Literal) → m ∈ x2.analyze_conflict.clause →
      opposite m < 2 * length (view x0).values
  literal-listed l others e m h =
      let s = view x0 in
      let learned = clause-is (l ∷ others) e in
      let on = (learned.above (is-above s i level l others learned)).false_now m (subst (λ c. m ∈ c) e h) in
      let a = made-inside s.values (opposite m) (trail-true s d.begun.ready.well (opposite m) on) in
      let v = variable-opposite m in
      listed m (length s.values) (omega (arith, a, v))

  pub learned-listed : (l : Literal) (others : Clause) → x2.analyze_conflict.clause ≡ l ∷ others → (m : Literal) → m ∈ x2.analyze_conflict.clause →
      opposite m < length x2.watchlists.lists
  learned-listed l others e m h =
      let b = literal-listed l others e m h in
      let n = d.begun.ready.propagated.lists in
      let o = ap (λ (X : Watches). length X.lists) watches-are in
      omega (arith, b, n, o)

  pub learned-paired : (l : Literal) (others : Clause) → x2.analyze_conflict.clause ≡ l ∷ others → (m : Literal) → m ∈ x2.analyze_conflict.clause →
      opposite m < length (view x2).binary
  learned-paired l others e m h =
      let b = literal-listed l others e m h in
      let n = d.begun.ready.propagated.binary in
      let o = ap (λ (B : List (List Literal)). length B) pairs-are in
      omega (arith, b, n, o)

-- The clause with a literal was learned, and kept unless it is a unit clause.
pub record Learning {A : Type 0} (x0 x1 x2 x3 : Context A) (i : Conflict) (level : ℕ) (l : Literal) (others : Clause) (r : Reason) : Type 0 where
  pub before : Backtracked x0 x1 x2 i level
  pub split : x2.analyze_conflict.clause ≡ l ∷ others
  pub tracks : Tracks x3.clause_db x3.clause_alloc
  pub stored : ChangesClauses x2 x3
  pub kept : IsKeptAsReason (keeping_of (view x2)) (keeping_of (view x3)) x2.analyze_conflict.clause r
  pub watched : IsWatchedAsReason x2.watchlists x3.watchlists x2.analyze_conflict.clause r

module _ {A : Type 0} {x0 x1 x2 x3 : Context A} {i : Conflict} {level : ℕ} {l : Literal} {others : Clause} {r : Reason}
    (d : Learning x0 x1 x2 x3 i level l others r) where
  abbrev b : Backtracked x0 x1 x2 i level
  b = d.before

  learned-is : IsLearned (view x0) i (l ∷ others) level
  learned-is = clause-is b (l ∷ others) d.split

  stored-view : view x3 ≡ keeping (view x2) (keeping_of (view x3))
  stored-view =
      ap (λ (x : Context A). view x) d.stored
      ∙ ap (λ (y : Bool). record (view x3) {
        sound = y;
        values = (view x2).values;
        trail = (view x2).trail;
        queue_head = (view x2).queue_head;
        decisions =
            (view x2).decisions;
        nodes = (view x2).nodes;
      })
      (sound-is x3.clause_alloc d.tracks.sound ∙ sym (sound-is x2.clause_alloc (learned-tracks b).sound))

  kept-is : IsKeptAsReason (keeping_of (view x2)) (keeping_of (view x3)) (l ∷ others) r
  kept-is = subst (λ c. IsKeptAsReason (keeping_of (view x2)) (keeping_of (view x3)) c r) d.split d.kept

  watched-is : IsWatchedAsReason x0.watchlists x3.watchlists (l ∷ others) r
  watched-is = subst (λ W. IsWatchedAsReason W x3.watchlists (l ∷ others) r) (watches-are b)
      (subst (λ c. IsWatchedAsReason x2.watchlists x3.watchlists c r) d.split d.watched)

  pub learning-free : IsFree (view x3) l
  learning-free = subst (λ (s : View). IsFree s l) (sym stored-view)
      (learned-free (view x0) (view x2) i level l others b.begun.ready.well b.begun.ready.settled learned-is (cut-is b))

  pub learning-node : variable_of l < length (view x3).nodes
  learning-node = subst (λ (s : View). variable_of l < length s.nodes) (sym stored-view)
      (learned-node (view x0) (view x2) i level l others b.begun.ready.well b.begun.ready.settled learned-is (cut-is b))

  pub learning-fits : (length x3.trail.decisions < 2 ^ 32 - 1) × (length x3.trail.literals < 2 ^ 32 - 1)
  learning-fits = subst (λ (s : View). (length s.decisions < 2 ^ 32 - 1) × (length s.trail < 2 ^ 32 - 1)) (sym stored-view)
      (fits-node (view x2) (backtracked-well b))

  -- the learned clause was false
  learned-decidable : AreDecidable (view x0) x0.vsids (l ∷ others)
  learned-decidable m h =
      let on = (learned-is.above (is-above (view x0) i level l others learned-is)).false_now m h in
      let (k, a, e) = place_in (opposite m) (view x0).trail 0 on in
      inl (at-valued (view x0) b.begun.ready.well (variable_of m) k a (ap variable_of e ∙ variable-opposite m))

  -- once the first literal is made true
  module _ (z : Context A) (made : ChangesTrail x3 z)
      (e : view z ≡ enqueued (view x3) l r) where
    last-view : view z ≡ enqueued (keeping (view x2) (keeping_of (view x3))) l r
    last-view = e ∙ ap (λ s. enqueued s l r) stored-view

    vsids-is : z.vsids ≡ x2.vsids
    vsids-is = ap (λ (x : Context A). x.vsids) made ∙ ap (λ (x : Context A). x.vsids) d.stored

    -- the activities after the bumps, but for what became available
    pub learning-activities : (a : Activities) → x2.vsids ≡ record a { available = x2.vsids.available } → z.vsids ≡ record a { available = z.vsids.available }
    learning-activities a f = subst (λ (y : Activities). y ≡ record a { available = y.available }) (sym vsids-is) f

    -- the literals of level 0 stay, or the first literal is one
    pub learning-fixed : (0 < length (view x0).decisions) × KeepsFixed (view x0) (view z)
    learning-fixed =
        let lower = below (view x0) (view x2) i level l others b.begun.ready.well b.begun.ready.settled learned-is (cut-is b) in (
          is-above (view x0) i level l others learned-is,
          fixed-learned (view x0) (view x2) (view z) level l b.begun.ready.well lower (cut-is b lower)
              (ap (λ (x : View). x.trail) last-view) (ap (λ (x : View). x.decisions) last-view) (ap (λ (x : View). x.queue_head) last-view),
        )

    last-count : length (view z).values ≡ length (view x2).values
    last-count = ap (λ (x : View). length x.values) last-view ∙ length-set (view x2).values (variable_of l) (Some (polarity_of l))

    last-entries : HasActivities (view z) z.vsids
    last-entries =
        let n = last-count in
        record {
          activity = ap (λ (a : Activities). length a.activity) vsids-is ∙ b.entries.activity
              ∙ sym n;
          available = ap (λ (a : Activities). length a.available) vsids-is ∙ b.entries.available ∙ sym n;
        }

    last-same : SameDecidable (view x0) x0.vsids (view z) z.vsids
    last-same =
        let t : View = keeping (view x2) (keeping_of (view x3)) in
        let free : variable_of l < length t.values = (subst (λ (s : View). IsFree s l) stored-view learning-free).0 in
        let here : SameDecidable t x2.vsids (enqueued t l r) x2.vsids =
        enqueued-same t x2.vsids l r free ((still-decidable b (variable_of l)).0 (learned-decidable l (inl refl))) in
        same-trans (view x0) x0.vsids (view x2) x2.vsids (view z) z.vsids (still-decidable b)
        (same-trans (view x2) x2.vsids t x2.vsids (view z) z.vsids (same-read (view x2) x2.vsids t x2.vsids refl refl)
        (same-trans t x2.vsids (enqueued t l r) x2.vsids (view z) z.vsids here
        (same-read (enqueued t l r) x2.vsids (view z) z.vsids (ap (λ (x : View). x.values) last-view) (ap (λ (a : Activities). a.available) vsids-is))))

    last-decidable : (c : Clause) → c ∈ kept (view z) → AreDecidable (view x0) x0.vsids c
    last-decidable c h =
        let (x, o, u) = kept-or-learned (view x0) (view x2) i level l others b.begun.ready.well b.begun.ready.settled learned-is
        (cut-is b) x0.watchlists b.begun.ready.propagated (view z) (keeping_of (view x3)) r others refl kept-is last-view c h in
        let decidable : AreDecidable (view x0) x0.vsids x =
        ⊎_elim
        (λ k. b.begun.ready.decidable.decidable x (subst (λ ks. x ∈ ks) (kept-before b) k))
        (λ f. subst (AreDecidable (view x0) x0.vsids) (sym f) learned-decidable)
        o in
        λ m j. decidable m (u m j)

    pub learning-further : (P : List Line → Type 0) → P (Add (l ∷ others) ∷ []) → IsStepFurther P x0 z
    learning-further P handed =
        let q = learned-result (view x0) (view x2) i level l others b.begun.ready.well b.begun.ready.settled learned-is
        (cut-is b) x0.watchlists b.begun.ready.propagated (view z) (keeping_of (view x3)) r others refl kept-is last-view in
        let lines = learned-steps (view x0) (view x2) i level l others b.begun.ready.well b.begun.ready.settled learned-is
        (cut-is b) x0.watchlists b.begun.ready.propagated (view z) (keeping_of (view x3)) r others refl kept-is last-view in
        let watched = learned-propagated (view x0) (view x2) i level l others b.begun.ready.well b.begun.ready.settled learned-is
        (cut-is b) x0.watchlists b.begun.ready.propagated x3.watchlists (view z) (keeping_of (view x3)) r others refl kept-is watched-is last-view in
        let room : (x : Context A) → ℕ = λ x. x.analyze_conflict.var_count in
        let flags : (x : Context A) → List Bool = λ x. x.tmp_flags.flags.items in
        let state : (x : Context A) → SolverState = λ x. x.solver_state in
        let same : z.solver_state ≡ x0.solver_state = ap state made ∙ ap state d.stored ∙ state-is b in
        let list : z.assumptions ≡ x2.assumptions = ap (λ (x : Context A). x.assumptions) made ∙ ap (λ (x : Context A). x.assumptions) d.stored in
        let same-list : IsSameList x0.assumptions z.assumptions = subst (IsSameList x0.assumptions) (sym list) (cut-list b) in
        let still : z.solver_state.sat_state ≡ verdict.Unknown = ap (λ (y : SolverState). y.sat_state) same ∙ b.begun.unknown in
        let further : GoesAStep P x0 z = record {
          ready = record {
            well = q.well;
            settled = q.settled;
            propagated = subst (λ W. IsPropagated W (view z)) (sym (ap (λ (x : Context A). x.watchlists) made)) watched;
            tracks = subst (λ (x : Context A). Tracks x.clause_db x.clause_alloc) (sym made) d.tracks;
            analysis = ap room made ∙ ap room d.stored ∙ room-is b ∙ sym q.count;
            flags = ap flags made ∙ ap flags d.stored ∙ flags-are b ∙ ap (λ n. replicate (2 * n) false) (sym q.count);
            decidable = can-decide (view x0) x0.vsids (view z) z.vsids last-entries last-same last-decidable;
            assumed = subst (HasAssumptions (view z)) (sym list)
                (has-same-decisions (view x2) (view z) x2.assumptions (l ∷ []) (backtracked-well b) (ap (λ (x : View). x.trail) last-view)
                (ap (λ (x : View). x.decisions) last-view) (let n = last-count in omega (arith, n)) (cut-assumptions b));
            assumable = still-assumable (view x0) x0.vsids (view z) z.vsids x0.assumptions.working z.assumptions.working last-same
                (same-working x0.assumptions z.assumptions same-list) b.begun.ready.assumable;
          };
          steps = (
            Add (l ∷ others) ∷ [],
            subst
                (λ v. Steps (search_of (view x0)) (search_of (view z)) (outcome_of (view z) z.assumptions.failed_core v) (Add (l ∷ others) ∷ []))
                (sym still) lines,
            handed,
          );
          rises = λ f. q.rises;
          keeps = record {
            decidable = last-same;
            decay = ap (λ (a : Activities). a.decay) vsids-is ∙ b.decay ∙ b.begun.decay;
            count = q.count;
          };
          state = same ∙ ap (λ v. record x0.solver_state { sat_state = v }) (sym (ap (λ (y : SolverState). y.sat_state) same));
        } in
        record { goes = further; known = inl still; assumptions = same-list }

empty-split : {X : Type 0} (c : Clause) (l : Literal) (o : Clause) → c ≡ [] → c ≡ l ∷ o → X
empty-split c l o e f = absurd cc

-- The empty clause was learned.
module _ {A : Type 0} {x0 x1 x2 : Context A} {i : Conflict} {level : ℕ} (d : Backtracked x0 x1 x2 i level) (empty : x2.analyze_conflict.clause ≡ []) where
  none-learned : IsLearned (view x0) i [] level
  none-learned = clause-is d [] empty

  pub refuted-undecided : length (view x0).decisions ≤ 0
  refuted-undecided = ⊎_elim (λ h. empty-split [] (none-learned.above h).first (none-learned.above h).others refl (none-learned.above h).split)
      (λ h. h) (cases_lt 0 (length (view x0).decisions))

  -- nothing was undone
  refuted-stays : x2 ≡ x1
  refuted-stays =
      let n = ap (λ (s : View). length s.decisions) (same-view d) in
      let zero = refuted-undecided in
      d.same (omega (arith, n, zero))

  refuted-same : view x2 ≡ view x0
  refuted-same = ap (λ (x : Context A). view x) refuted-stays ∙ same-view d

  -- the empty clause is added
  refuted-steps : (t : View) → Steps (search_of (view x0)) (search_of t) Unsat (Add [] ∷ [])
  refuted-steps t =
      (contradiction_is_found (search_of (view x0)) (search_of t) (λ held f. none-learned.follows held (view_reads (view x0) held d.begun.ready.well f))).1

  pub refuted-further : (P : List Line → Type 0) → P (Add [] ∷ []) →
      IsStepFurther P x0 (record x2 { solver_state = record x2.solver_state { sat_state = verdict.Unsat } })
  refuted-further P handed =
      let count = ap (λ (s : View). length s.values) refuted-same in
      let ready = d.begun.ready in
      let further : GoesAStep P x0 (record x2 { solver_state = record x2.solver_state { sat_state = verdict.Unsat } }) = record {
        ready = record {
          well = subst WellFormed (sym refuted-same) ready.well;
          settled = subst PropagatedBeforeDecisions (sym refuted-same) ready.settled;
          propagated = subst (λ W. IsPropagated W (view x2)) (sym (watches-are d)) (subst (IsPropagated x0.watchlists) (sym refuted-same) ready.propagated);
          tracks = learned-tracks d;
          analysis = room-is d ∙ sym count;
          flags = flags-are d ∙ ap (λ n. replicate (2 * n) false) (sym count);
          decidable = can-decide (view x0) x0.vsids (view x2) x2.vsids d.entries (still-decidable d)
              (λ c h. ready.decidable.decidable c (subst (λ (x : View). c ∈ kept x) refuted-same h));
          assumed = cut-assumptions d;
          assumable = still-assumable (view x0) x0.vsids (view x2) x2.vsids x0.assumptions.working x2.assumptions.working (still-decidable d)
              (same-working x0.assumptions x2.assumptions (cut-list d)) ready.assumable;
        };
        steps = (Add [] ∷ [], refuted-steps (view x2), handed);
        rises = λ f. absurd cc;
        keeps = record { decidable = still-decidable d; decay = d.decay ∙ d.begun.decay; count = count };
        state = ap (λ (y : SolverState). record y { sat_state = verdict.Unsat }) (state-is d);
      } in
      record { goes = further; known = inr refl; assumptions = cut-list d }
