-- The contexts of `load_clause`.
use Rattle.std.proofs.Common.{◌≡◌, ◌≢◌, ℕ, ◌<◌, ◌≤◌, false, List, [], ◌∷◌, ◌++◌, length, inl, inr, ⊎_elim, refl, sym, ap, ◌∙◌, subst, arith, ◌⊎◌, ◌*◌, replicate}
use Rattle.std.proofs.lemmas.Bool.{cases_lt}
use Rattle.varisat_theory.specs.promises.Membership.{◌∈◌, SameSet, IsDistinct, ◌⊆◌}
use Rattle.varisat_theory.specs.promises.Literals.{Literal, Clause, opposite, IsUnit, variable_of}
use Rattle.varisat_theory.specs.promises.Derivations.{Line, Delete}
use Rattle.varisat_prop.specs.Pairs.{with_pair}
use Rattle.varisat_prop.specs.View.{View, IsTrueIn, WellFormed, kept}
use Rattle.varisat_prop.specs.Changes.{enqueued}
use Rattle.varisat_theory.proofs.clauses.Values.{variable-opposite}
use Rattle.varisat_prop.proofs.trails.LiteralValues.{made-clash, none-made}
use Rattle.varisat_prop.proofs.trails.EnqueueAssignment.{enqueued-well}
use Rattle.varisat_search.specs.declared.state.SatState.{SatState}
use Rattle.varisat_search.specs.Steps.{IsCut, reopened_state, SavesAll}
use Rattle.varisat_search.specs.Loading.{loaded_at, loaded_outcome, IsAdded, LoadsClause}
use Rattle.varisat_search.specs.Seen.{search_of}
use Rattle.varisat_search.proofs.loading.LoadView.{Restarted, no-decision, MayBeAdded, first-other, restarted, restarted-kept, restarted-propagated, added-well}
use Rattle.varisat_search.proofs.loading.PairSearch.{with_clause, pair-moves, long-moves}
use Rattle.varisat_search.proofs.stepping.ViewSearch.{fixed_from, fixed_to, view_is_grounded}
use Rattle.varisat_search.proofs.learning.LearnLines.{cut_moves, unit_moves}
use Rattle.varisat_theory.specs.promises.Searches.{KeptClause, Search, IsTautology}
use Rattle.varisat_theory.specs.inside.Outcomes.{SearchOutcome, Unknown, Unsat, Proves, Loads, IsContradicted}
use Rattle.varisat_theory.proofs.clauses.Held.{same_set-self}
use Rattle.varisat_theory.proofs.steps.StepParts.{no_part}
use Rattle.varisat_theory.proofs.steps.StepLoads.{loaded_is_kept, loaded_is_unit, loaded_is_discharged, loaded_is_deleted, loaded_is_contradicted, part_load, load_part}
use Rattle.varisat_theory.proofs.clauses.ConflictForms.{never_its_own}
use Rattle.varisat_vsids.specs.Activities.{Activities}
use Rattle.varisat_search.specs.Decisions.{AreDecidable, SameDecidable, HasActivities, CanDecide}
use Rattle.varisat_search.proofs.loading.AddedClause.{kept-cases, pair-cases}
use Rattle.varisat_search.proofs.variables.DecidableVariables.{same-refl, same-read, enqueued-same, can-decide, same-trans}
use Rattle.std.specs.List.Sorted.{IsPermutation}
use Rattle.varisat_clause.specs.Databases.{Tracks}
use Rattle.varisat_prop.specs.Looks.{IsInRange}
use Rattle.varisat_prop.specs.Watches.{IsPropagated}
use Rattle.varisat_prop.proofs.watching.LongVisited.{listed}
use Rattle.varisat_analysis.specs.declared.tmp.TmpData.{TmpData}
use Rattle.varisat_search.specs.declared.context.Context.{Context}
use Rattle.varisat_search.specs.declared.state.SolverState.{SolverState}
use Rattle.varisat_search.specs.Contexts.{view, KeepsSchedule, IsReady}
use Rattle.varisat_search.specs.Frames.{ChangesLoaded, KeepsVariables}
use Rattle.varisat_search.specs.AssumptionParts.{AssumptionParts, HasAssumptions}
use Rattle.varisat_search.proofs.assuming.AssumptionLevels.{has-undecided}
use Rattle.varisat_search.proofs.assuming.AssumptionContexts.{IsSameList, still-assumable, same-working, none-reached}
use Rattle.varisat_search.proofs.loading.LoadedTrue.{permuted-set, loads-tautology, loads-unit, loads-open, loads-true}
use Rattle.varisat_prop.specs.declared.prop.graph.Reason.TheVariants as reason
use Rattle.varisat_prop.proofs.views.SimplifiedView.{settled-undecided}
use Rattle.varisat_search.specs.declared.state.SatState.TheVariants as verdict

-- The lines of `load_clause`.
abbrev pub LoadsAlone : View → View → Clause → SatState → Type 0
LoadsAlone s t c after = Loads (search_of s) (search_of t) c (loaded_outcome after) []

-- All decisions are undone without a line.
pub restart-moves : (s t : View) → WellFormed s → (s.decisions ≡ [] → t ≡ s) → (0 < length s.decisions → IsCut s t 0) → Proves 0 (search_of s) (search_of t) []
restart-moves s t w same cut =
    ⊎_elim
    (λ h. cut_moves s t 0 w h (cut h))
    (λ h. subst (λ x. Proves 0 (search_of s) (search_of x) []) (sym (same (no-length s.decisions h))) (no_part (search_of s)))
    (cases_lt 0 (length s.decisions))
  where
    no-length : (xs : List ℕ) → length xs ≤ 0 → xs ≡ []
    no-length [] h = refl
    no-length (x ∷ xs) h = absurd (omega (arith, h))

pub opened : (b : SatState) → b ≢ verdict.Unsat → loaded_outcome (reopened_state b) ≡ Unknown
opened verdict.Unknown n = refl
opened verdict.Sat n = refl
opened verdict.Unsat n = absurd (n refl)
opened verdict.UnsatUnderAssumptions n = refl

module _ (s t : View) (c lits : Clause) (w : WellFormed s) (r : Restarted s t) (p : Proves 0 (search_of s) (search_of t) []) (d : IsDistinct lits)
    (same : SameSet lits c) where
  now : (x : Literal) → IsTrueIn t x → x ∈ (search_of t).fixed
  now x h = fixed_to t r.well x (h, no-decision t r.well r.undecided x h)

  from-now : (x : Literal) → x ∈ (search_of t).fixed → IsTrueIn t x
  from-now x h = (fixed_from t r.well x h).0

  before-lines : (z : View) (v : SearchOutcome) (lines : List Line) → Loads (search_of t) (search_of z) c v lines → Loads (search_of s) (search_of z) c v lines
  before-lines z v lines q =
      part_load (search_of s) (search_of t) (search_of z) c v lines p
      (λ x h. now x (r.fixed_to x (fixed_from s w x h)))
      (λ x h. fixed_to s w x (r.fixed_from x (from-now x h)))
      q

  before : (z : View) (v : SearchOutcome) → Loads (search_of t) (search_of z) c v [] → Loads (search_of s) (search_of z) c v []
  before z v q = before-lines z v [] q

  open-verdict : (b : SatState) (z : View) → loaded_outcome b ≡ Unknown → Loads (search_of s) (search_of z) c Unknown [] → LoadsAlone s z c b
  open-verdict b z e q = subst (λ v. Loads (search_of s) (search_of z) c v []) (sym e) q

  pub lines-tautology : (b : SatState) → loaded_outcome b ≡ Unknown → IsTautology lits → LoadsAlone s t c b
  lines-tautology b e (x, i, j) =
      open-verdict b t e (before t Unknown (loaded_is_discharged (search_of t) c (inl (x, same.0 x i, same.0 (opposite x) j)) (λ k.
      ⊎_elim
      (λ g. subst (λ y. x ∈ y) g (same.0 x i))
      (λ (l, unit, f). never_its_own x (unit.1 (opposite x) (same.0 (opposite x) j) ∙ sym (unit.1 x (same.0 x i))))
      k)))

  -- a clause with a true literal is not contradicted
  true-open : (x : Literal) → x ∈ lits → IsTrueIn t x → IsContradicted (search_of t) c → ⊥
  true-open x i h k =
      ⊎_elim
      (λ g. subst (λ y. x ∈ y) g (same.0 x i))
      (λ (l, unit, f). made-clash t.values x h (subst (λ y. IsTrueIn t (opposite y)) (sym (unit.1 x (same.0 x i))) (from-now (opposite l) f)))
      k

  pub lines-satisfied : (b : SatState) → loaded_outcome b ≡ Unknown → (x : Literal) → x ∈ lits → IsTrueIn t x → LoadsAlone s t c b
  lines-satisfied b e x i h =
      open-verdict b t e (before t Unknown (loaded_is_discharged (search_of t) c (inr (x, same.0 x i, now x h)) (true-open x i h)))

  pub lines-deleted : (b : SatState) → loaded_outcome b ≡ Unknown → (x : Literal) → x ∈ lits → IsTrueIn t x → (d : Clause) → SameSet d c →
      Loads (search_of s) (search_of t) c (loaded_outcome b) (Delete d ∷ [])
  lines-deleted b e x i h d m =
      subst (λ v. Loads (search_of s) (search_of t) c v (Delete d ∷ [])) (sym e)
      (before-lines t Unknown (Delete d ∷ []) (loaded_is_deleted (search_of t) c d (inr (x, same.0 x i, now x h)) (true-open x i h) m))

  empty-set : lits ≡ [] → c ≡ []
  empty-set e = go c (λ m h. subst (λ y. m ∈ y) e (same.1 m h))
    where
      go : (c : Clause) → ((m : Literal) → m ∈ c → ⊥) → c ≡ []
      go [] n = refl
      go (x ∷ c) n = absurd (n x (inl refl))

  false-now : (z : View) (after : SatState) → after ≡ verdict.Unsat → IsContradicted (search_of t) c → LoadsAlone s z c after
  false-now z after e k =
      subst (LoadsAlone s z c) (sym e) (before z Unsat (loaded_is_contradicted (search_of t) (search_of z) c (view_is_grounded t r.well) k))

  -- a clause of two literals or more is the last that is kept
  kept-first : (l m : Literal) (ms : Clause) → lits ≡ l ∷ m ∷ ms →
      Loads (search_of t) (with_clause (search_of t) (record { clause = lits; learned = false })) c Unknown []
  kept-first l m ms e =
      let in-c : (x : Literal) → x ∈ (l ∷ m ∷ ms) → x ∈ c = λ x h. same.0 x (subst (λ y. x ∈ y) (sym e) h) in
      loaded_is_kept (search_of t) c (record { clause = lits; learned = false }) same refl (λ n.
      ⊎_elim
      (λ x. subst (λ y. l ∈ y) x (in-c l (inl refl)))
      (λ (x, v, y). (subst IsDistinct e d).0 (inl (v.1 l (in-c l (inl refl)) ∙ sym (v.1 m (in-c m (inr (inl refl)))))))
      n)

  -- and then stands among the others
  kept-lines : (z y : View) (l m : Literal) (ms : Clause) (after : SatState) → lits ≡ l ∷ m ∷ ms → z ≡ y → loaded_outcome after ≡ Unknown →
      Proves 0 (with_clause (search_of t) (record { clause = lits; learned = false })) (search_of y) [] → LoadsAlone s z c after
  kept-lines z y l m ms after e f g moved =
      let whole = load_part (search_of t) (with_clause (search_of t) (record { clause = lits; learned = false })) (search_of y) c [] []
      (kept-first l m ms e) moved in
      open-verdict after z g (subst (λ x. Loads (search_of s) (search_of x) c Unknown []) (sym f) (before y Unknown whole))

  pub lines-added : MayBeAdded t lits → (z : View) (o : Clause) (b after : SatState) → loaded_outcome b ≡ Unknown → lits ≡ o →
      IsAdded t z o b after → LoadsAlone s z c after
  lines-added a z [] b after u e (f, g) = false-now z after g (inl (empty-set e))
  lines-added a z (l ∷ []) b after u e q =
      let unit : IsUnit l c = (same.0 l (subst (λ y. l ∈ y) (sym e) (inl refl)), λ m h. ⊎_elim (λ g. g) (λ g. absurd g) (subst (λ y. m ∈ y) e (same.1 m h))) in
      ⊎_elim
      (λ (h, f, g). false-now z after g (inr (l, unit, now (opposite l) h)))
      (λ (free, f, g).
      let z' = enqueued t l reason.Unit in
      let S1 : Search = record (search_of t) { fixed = (search_of t).fixed ++ l ∷ []; proved = (search_of t).proved ++ l ∷ [] } in
      let first : Loads (search_of t) S1 c Unknown [] = loaded_is_unit (search_of t) c l unit
      (λ x. none-made t.values l (opposite l) free.1 (variable-opposite l) (from-now (opposite l) x)) in
      let whole = load_part (search_of t) S1 (search_of z') c [] [] first
      (unit_moves t l r.well free.0 free.1 r.undecided (enqueued-well t l reason.Unit r.well free.0 free.1 r.undecided)) in
      open-verdict after z (ap loaded_outcome g ∙ u) (subst (λ y. Loads (search_of s) (search_of y) c Unknown []) (sym f) (before z' Unknown whole)))
      q
  lines-added a z (l ∷ m ∷ []) b after u e (h, f, g) =
      let q = subst (MayBeAdded t) e a in
      let y = record t { binary = with_pair t.binary l m; queue_head = z.queue_head } in
      let k : KeptClause = record { clause = lits; learned = false } in
      let is : SameSet lits (l ∷ m ∷ []) = subst (SameSet lits) e (same_set-self lits) in
      kept-lines z y l m [] after e f (ap loaded_outcome g ∙ u)
      (pair-moves t y l m k (q.paired l (inl refl)) (q.paired m (inr (inl refl))) (first-other t l m [] q) is refl refl (λ x h. h) (λ x h. h) (λ x h. h))
  lines-added a z (l ∷ m ∷ n ∷ ms) b after u e (p, i, h, f, g) =
      let y = record t { clauses = t.clauses ++ loaded_at p lits ∷ []; queue_head = z.queue_head } in
      let f' : z ≡ y = f ∙ ap (λ x. record t { clauses = x; queue_head = z.queue_head }) i.0
      ∙ ap (λ x. record t { clauses = t.clauses ++ loaded_at p x ∷ []; queue_head = z.queue_head }) (sym e) in
      kept-lines z y l m (n ∷ ms) after e f' (ap loaded_outcome g ∙ u) (long-moves t y (loaded_at p lits) refl refl (λ x h. h) (λ x h. h) (λ x h. h))

-- Which variables stay decidable where a clause is loaded.
pub added-same : (s t : View) (a : Activities) (c : Clause) (before after : SatState) → IsAdded s t c before after → AreDecidable s a c → SameDecidable s a t a
added-same s t a [] before after (e, f) d = subst (λ u. SameDecidable s a u a) (sym e) (same-refl s a)
added-same s t a (l ∷ []) before after (inl (o, e, f)) d = subst (λ u. SameDecidable s a u a) (sym e) (same-refl s a)
added-same s t a (l ∷ []) before after (inr (o, e, f)) d = subst (λ u. SameDecidable s a u a) (sym e) (enqueued-same s a l reason.Unit o.0 (d l (inl refl)))
added-same s t a (l ∷ m ∷ []) before after (h, e, f) d = same-read s a t a (ap (λ (u : View). u.values) e) refl
added-same s t a (l ∷ m ∷ n ∷ c) before after (p, k, h, e, f) d = same-read s a t a (ap (λ (u : View). u.values) e) refl

-- what is kept then was so before, or has literals of the clause alone
pub added-kept : (s t : View) (c : Clause) (before after : SatState) → WellFormed s → IsDistinct c →
    ((l : Literal) → l ∈ c → opposite l < length s.binary) → IsAdded s t c before after → (e : Clause) → e ∈ kept t → (e ∈ kept s) ⊎ (e ⊆ c)
added-kept s t [] before after w d i (q, f) e h = inl (subst (λ (u : View). e ∈ kept u) q h)
added-kept s t (l ∷ []) before after w d i (inl (o, q, f)) e h = inl (subst (λ (u : View). e ∈ kept u) q h)
added-kept s t (l ∷ []) before after w d i (inr (o, q, f)) e h = inl (subst (λ (u : View). e ∈ kept u) q h)
added-kept s t (l ∷ m ∷ []) before after w d i (u, q, f) e h =
    ⊎_elim inl (λ o. inr o.0) (pair-cases s l m (i l (inl refl)) (i m (inr (inl refl))) (λ g. d.0 (inl g)) e (subst (λ (u : View). e ∈ kept u) q h))
added-kept s t (l ∷ m ∷ n ∷ c) before after w d i (p, k, u, q, f) e h =
    ⊎_elim inl (λ o. inr (λ x j. subst (λ y. x ∈ y) o j))
    (kept-cases s (loaded_at p (l ∷ m ∷ n ∷ c)) k.1 w e
    (subst (λ (u : View). e ∈ kept u) (q ∙ ap (λ ks. record s { clauses = ks; queue_head = t.queue_head }) k.0) h))

-- the verdict stays, or is Unsat
added-verdict : (s t : View) (c : Clause) (before after : SatState) → IsAdded s t c before after → (after ≡ before) ⊎ (after ≡ verdict.Unsat)
added-verdict s t [] before after (e, f) = inr f
added-verdict s t (l ∷ []) before after a = ⊎_elim (λ (h, e, f). inr f) (λ (h, e, f). inl f) a
added-verdict s t (l ∷ m ∷ []) before after (h, e, f) = inl f
added-verdict s t (l ∷ m ∷ n ∷ c) before after (p, k, h, e, f) = inl f

-- The contexts of loading a clause: before, and once all decisions are undone and the clause's literals copied, each once.
pub record Loading {A : Type 0} (x0 x1 : Context A) (c lits : Clause) : Type 0 where
  pub ready : IsReady x0
  pub in_range : IsInRange x0.assignment.current c
  pub same : x0.trail.decisions ≡ [] → view x1 ≡ view x0
  pub cut : 0 < length x0.trail.decisions → IsCut (view x0) (view x1) 0
  pub decidable : AreDecidable (view x0) x0.vsids c
  pub entries : HasActivities (view x1) x1.vsids
  pub stay_decidable : SameDecidable (view x0) x0.vsids (view x1) x1.vsids
  pub decay : x1.vsids.decay ≡ x0.vsids.decay
  pub last : SavesAll (view x0) x0.assignment.last x1.assignment.last
  pub state : x1.solver_state ≡ record x0.solver_state { sat_state = reopened_state x0.solver_state.sat_state; formula_is_empty = false }
  pub analysis : x1.analyze_conflict.var_count ≡ x0.analyze_conflict.var_count
  pub flags : x1.tmp_flags.flags.items ≡ x0.tmp_flags.flags.items
  pub watches : x1.watchlists ≡ x0.watchlists
  pub tracks : Tracks x1.clause_db x1.clause_alloc
  pub schedule : KeepsSchedule x0 x1
  pub same_list : IsSameList x0.assumptions x1.assumptions
  pub assumed : HasAssumptions (view x1) x1.assumptions
  pub distinct : IsDistinct lits
  pub literals : SameSet lits c

-- What loading gives where the verdict was not Unsat.
pub record Loaded {A : Type 0} (ordered : Clause → Type 0) (are : List Line → Type 0) (x0 z : Context A) (c : Clause) : Type 0 where
  pub ready : IsReady z
  pub lines : x0.solver_state.sat_state ≢ verdict.Unsat → LoadsClause ordered are (search_of (view x0)) (search_of (view z)) c
      (loaded_outcome z.solver_state.sat_state)
  pub kept_verdict : (z.solver_state.sat_state ≡ reopened_state x0.solver_state.sat_state) ⊎ (z.solver_state.sat_state ≡ verdict.Unsat)
  pub assumptions : z.assumptions ≡ record x0.assumptions { levels = 0 }
  pub last : SavesAll (view x0) x0.assignment.last z.assignment.last
  pub state : z.solver_state ≡ record x0.solver_state { sat_state = z.solver_state.sat_state; formula_is_empty = false }
  pub keeps : KeepsVariables x0 z
  pub undecided : z.trail.decisions ≡ []
  pub schedule : KeepsSchedule x0 z

-- The order of the literals that were copied, and where they stand, matter to nothing else.
pub loading-other : {A : Type 0} {x0 x1 : Context A} {c lits : Clause} (other : TmpData A) → Loading x0 x1 c lits →
    Loading x0 (record x1 { tmp_data = other }) c lits
loading-other other d = record {
  ready = d.ready;
  in_range = d.in_range;
  same = d.same;
  cut = d.cut;
  decidable = d.decidable;
  entries = d.entries;
  stay_decidable = d.stay_decidable;
  decay = d.decay;
  last = d.last;
  state = d.state;
  analysis = d.analysis;
  flags = d.flags;
  watches = d.watches;
  tracks = d.tracks;
  schedule = record { schedule = d.schedule.schedule; solver_config = d.schedule.solver_config };
  same_list = d.same_list;
  assumed = d.assumed;
  distinct = d.distinct;
  literals = d.literals;
}

module _ {A : Type 0} {x0 x1 : Context A} {c lits : Clause} (d : Loading x0 x1 c lits) where
  pub loading-restarted : Restarted (view x0) (view x1)
  loading-restarted = restarted (view x0) (view x1) d.ready.well d.same d.cut

  pub loading-propagated : IsPropagated x1.watchlists (view x1)
  loading-propagated = subst (λ W. IsPropagated W (view x1)) (sym d.watches)
      (restarted-propagated x0.watchlists (view x0) (view x1) d.ready.well d.ready.propagated d.same d.cut)

  pub loading-inside : IsInRange x1.assignment.current lits
  loading-inside l h = let a = d.in_range l (d.literals.0 l h) in let n = loading-restarted.count in omega (arith, a, n)

  loading-may : MayBeAdded (view x1) lits
  loading-may = record {
    distinct = d.distinct;
    inside = loading-inside;
    paired = λ l h. let a = listed l (length x1.assignment.current) (loading-inside l h) in let n = loading-propagated.binary in omega (arith, a, n);
  }

  moves : Proves 0 (search_of (view x0)) (search_of (view x1)) []
  moves = restart-moves (view x0) (view x1) d.ready.well d.same d.cut

  verdict-is : x1.solver_state.sat_state ≡ reopened_state x0.solver_state.sat_state
  verdict-is = ap (λ (x : SolverState). x.sat_state) d.state

  still-decidable : (e : Clause) → e ∈ kept (view x1) → AreDecidable (view x0) x0.vsids e
  still-decidable e h = d.ready.decidable.decidable e (subst (λ P. e ∈ P) (restarted-kept (view x0) (view x1) loading-restarted) h)

  literals-decidable : AreDecidable (view x1) x1.vsids lits
  literals-decidable l h = (d.stay_decidable (variable_of l)).0 (d.decidable l (d.literals.0 l h))

  -- the clause is not kept, since it has a literal and its opposite or is true
  settled : (ordered : Clause → Type 0) (are : List Line → Type 0) →
      (x0.solver_state.sat_state ≢ verdict.Unsat → LoadsClause ordered are (search_of (view x0)) (search_of (view x1)) c
      (loaded_outcome x1.solver_state.sat_state)) → Loaded ordered are x0 x1 c
  settled ordered are p =
      let r = loading-restarted in
      record {
        ready = record {
          well = r.well;
          settled = settled-undecided (view x1) r.undecided;
          propagated = loading-propagated;
          tracks = d.tracks;
          analysis = d.analysis ∙ d.ready.analysis ∙ sym r.count;
          flags = d.flags ∙ d.ready.flags ∙ ap (λ n. replicate (2 * n) false) (sym r.count);
          decidable = can-decide (view x0) x0.vsids (view x1) x1.vsids d.entries d.stay_decidable still-decidable;
          assumed = d.assumed;
          assumable = still-assumable (view x0) x0.vsids (view x1) x1.vsids x0.assumptions.working x1.assumptions.working d.stay_decidable
              (same-working x0.assumptions x1.assumptions d.same_list) d.ready.assumable;
        };
        lines = p;
        kept_verdict = inl verdict-is;
        assumptions = none-reached (view x1) x0.assumptions x1.assumptions d.same_list r.undecided d.assumed;
        last = d.last;
        state = d.state ∙ ap (λ v. record x0.solver_state { sat_state = v; formula_is_empty = false }) (sym verdict-is);
        keeps = record { decidable = d.stay_decidable; decay = d.decay; count = r.count };
        undecided = r.undecided;
        schedule = d.schedule;
      }

  still-open : x0.solver_state.sat_state ≢ verdict.Unsat → loaded_outcome x1.solver_state.sat_state ≡ Unknown
  still-open n = ap loaded_outcome verdict-is ∙ opened x0.solver_state.sat_state n

  pub loaded-tautology : (ordered : Clause → Type 0) (are : List Line → Type 0) → are [] → IsTautology lits → Loaded ordered are x0 x1 c
  loaded-tautology ordered are none t =
      settled ordered are (λ n.
      loads-tautology ordered are (view x0) (view x1) c lits d.ready.well loading-restarted d.distinct d.literals (view x1)
      (loaded_outcome x1.solver_state.sat_state) t
      (lines-tautology (view x0) (view x1) c lits d.ready.well loading-restarted moves d.distinct d.literals x1.solver_state.sat_state (still-open n) t) none)

  -- a unit that is true
  pub loaded-satisfied : (ordered : Clause → Type 0) (are : List Line → Type 0) → are [] → (l : Literal) → l ∈ lits → IsTrueIn (view x1) l →
      length lits < 2 → Loaded ordered are x0 x1 c
  loaded-satisfied ordered are none l i t short =
      settled ordered are (λ n.
      loads-unit ordered are (view x0) (view x1) c lits d.ready.well loading-restarted d.distinct d.literals (view x1)
      (loaded_outcome x1.solver_state.sat_state) l i short
      (lines-satisfied (view x0) (view x1) c lits d.ready.well loading-restarted moves d.distinct d.literals x1.solver_state.sat_state
      (still-open n) l i t) none)

  -- a longer clause with a true literal
  pub loaded-deleted : (ordered : Clause → Type 0) (are : List Line → Type 0) (l : Literal) → l ∈ lits → IsTrueIn (view x1) l →
      (IsTautology lits → ⊥) → 2 ≤ length lits → (e : Clause) → IsPermutation lits e → ordered e → are (Delete e ∷ []) → Loaded ordered are x0 x1 c
  loaded-deleted ordered are l i t open_clause long e m o one =
      settled ordered are (λ n.
      loads-true ordered are (view x0) (view x1) c lits d.ready.well loading-restarted d.distinct d.literals (view x1)
      (loaded_outcome x1.solver_state.sat_state) l i t open_clause long e m o
      (lines-deleted (view x0) (view x1) c lits d.ready.well loading-restarted moves d.distinct d.literals x1.solver_state.sat_state
      (still-open n) l i t e (permuted-set lits e c m d.literals)) one)

  added-stay : (z : Context A) → z.vsids ≡ x1.vsids → IsAdded (view x1) (view z) lits x1.solver_state.sat_state z.solver_state.sat_state →
      SameDecidable (view x0) x0.vsids (view z) z.vsids
  added-stay z e a =
      same-trans (view x0) x0.vsids (view x1) x1.vsids (view z) z.vsids d.stay_decidable
      (subst (λ b. SameDecidable (view x1) x1.vsids (view z) b) (sym e)
      (added-same (view x1) (view z) x1.vsids lits x1.solver_state.sat_state z.solver_state.sat_state a literals-decidable))

  added-decidable : MayBeAdded (view x1) lits → (z : Context A) → z.vsids ≡ x1.vsids →
      IsAdded (view x1) (view z) lits x1.solver_state.sat_state z.solver_state.sat_state →
      length z.assignment.current ≡ length x1.assignment.current → CanDecide (view z) z.vsids
  added-decidable may z e a n =
      can-decide (view x0) x0.vsids (view z) z.vsids
      (record {
        activity = ap (λ (b : Activities). length b.activity) e ∙ d.entries.activity
            ∙ sym n;
        available = ap (λ (b : Activities). length b.available) e ∙ d.entries.available ∙ sym n;
      })
      (added-stay z e a)
      (λ c h. ⊎_elim (still-decidable c) (λ f l i. d.decidable l (d.literals.0 l (f l i)))
      (added-kept (view x1) (view z) lits x1.solver_state.sat_state z.solver_state.sat_state loading-restarted.well d.distinct may.paired a c h))

  -- the clause was added
  pub loaded-added : (ordered : Clause → Type 0) (are : List Line → Type 0) → are [] → ((l : Literal) → l ∈ lits → IsTrueIn (view x1) l → ⊥) →
      (z : Context A) → ChangesLoaded x1 z → IsPropagated z.watchlists (view z) →
      Tracks z.clause_db z.clause_alloc → z.assignment.last ≡ x1.assignment.last →
      IsAdded (view x1) (view z) lits x1.solver_state.sat_state z.solver_state.sat_state → Loaded ordered are x0 z c
  loaded-added ordered are empty untrue z k p t l a =
      let r = loading-restarted in
      let may = loading-may in
      let vsids : z.vsids ≡ x1.vsids = ap (λ (x : Context A). x.vsids) k in
      let list : z.assumptions ≡ x1.assumptions = ap (λ (x : Context A). x.assumptions) k in
      let none = none-reached (view x1) x0.assumptions x1.assumptions d.same_list r.undecided d.assumed in
      let b : IsAdded (view x1) (view z) lits (reopened_state x0.solver_state.sat_state) z.solver_state.sat_state =
      subst (λ b. IsAdded (view x1) (view z) lits b z.solver_state.sat_state) verdict-is a in
      let q = added-well (view x0) (view x1) lits r may (view z) lits (reopened_state x0.solver_state.sat_state) z.solver_state.sat_state refl b in
      record {
        ready = record {
          well = q.0;
          settled = settled-undecided (view z) q.1;
          propagated = p;
          tracks = t;
          analysis = ap (λ (x : Context A). x.analyze_conflict.var_count) k ∙ d.analysis ∙ d.ready.analysis ∙ sym q.2;
          flags = ap (λ (x : Context A). x.tmp_flags.flags.items) k ∙ d.flags ∙ d.ready.flags ∙ ap (λ n. replicate (2 * n) false) (sym q.2);
          decidable = added-decidable may z vsids a (q.2 ∙ sym r.count);
          assumed = subst (HasAssumptions (view z)) (sym (list ∙ none))
              (has-undecided (view z) (record x0.assumptions { levels = 0 }) q.1 refl
              (λ l h. let i = d.ready.assumed.in_range l h in let n = q.2 in omega (arith, i, n)));
          assumable = still-assumable (view x0) x0.vsids (view z) z.vsids x0.assumptions.working z.assumptions.working (added-stay z vsids a)
              (λ l h. subst (λ (x : AssumptionParts). l ∈ x.working) (list ∙ none) h) d.ready.assumable;
        };
        lines = λ n.
            loads-open ordered are (view x0) (view x1) c lits d.ready.well r d.distinct d.literals (view z) (loaded_outcome z.solver_state.sat_state) untrue
            (lines-added (view x0) (view x1) c lits d.ready.well r moves d.distinct d.literals may (view z) lits
            (reopened_state x0.solver_state.sat_state) z.solver_state.sat_state (opened x0.solver_state.sat_state n) refl b)
            empty;
        kept_verdict = added-verdict (view x1) (view z) lits (reopened_state x0.solver_state.sat_state) z.solver_state.sat_state b;
        assumptions = list ∙ none;
        last = subst (SavesAll (view x0) x0.assignment.last) (sym l) d.last;
        state = ap (λ (x : Context A). x.solver_state) k ∙ ap (λ (y : SolverState). record y { sat_state = z.solver_state.sat_state }) d.state;
        keeps = record {
          decidable = added-stay z vsids a;
          decay = ap (λ (b : Activities). b.decay) vsids ∙ d.decay;
          count = q.2;
        };
        undecided = q.1;
        schedule = record {
          schedule = ap (λ (x : Context A). x.schedule) k
              ∙ d.schedule.schedule;
          solver_config = ap (λ (x : Context A). x.solver_config) k ∙ d.schedule.solver_config;
        };
      }
