use Rattle.varisat_steps.proofs.Broken.{error-broken}
use Rattle.std.proofs.lemmas.Grind.{common_steps}
use Rattle.std.proofs.Common.{◌<◌, List, length, refl, sym, subst, arith, ◌≡◌, ℕ, zero, suc, Bool, true, false, not, [], ◌∷◌, ◌++◌, get_or, inl, inr, ⊎_elim, ap, ◌∙◌, length-append}
use Rattle.varisat_theory.specs.promises.Membership.{◌∈◌}
use Rattle.varisat_theory.specs.promises.Literals.{Literal, variable_of, opposite}
use Rattle.varisat_theory.specs.inside.StepLaws.{unit_lines}
use Rattle.varisat_theory.proofs.clauses.Places.{place_in, ∈-get_or}
use Rattle.varisat_search.specs.declared.context.Context.{Context}
use Rattle.varisat_search.specs.Contexts.{view}
use Rattle.varisat_search.specs.Seen.{search_of}
use Rattle.varisat_search.specs.ProvedUnits.{HaveUnits, ProvesUnits, implied_units, units_in}
use Rattle.varisat_search.proofs.simplifying.ProvedUnits.{none-left, units-ready, level-zero, unit-node, zero-level, units-well}
use Rattle.varisat_steps.specs.Traces.{TakesLines, CanTake}
use Rattle.varisat_steps.proofs.Traced.{can_take}
use Rattle.varisat_analysis.proofs.WellFormedViews.{inside-at, reason-kept, reason-first, reason-before}
use Rattle.varisat_search.proofs.unit_simplify.prove_units.Given.{Over}
use Rattle.varisat_search.proofs.unit_simplify.prove_units.Goals.{After-forget_reasons}
use Rattle.std.specs.Prelude.{cond}
use Rattle.std.specs.List.{filter}
use Rattle.std.proofs.lemmas.Bool.{cases_Bool}
use Rattle.varisat_theory.specs.promises.Propagation.{LeavesOnly}
use Rattle.varisat_theory.specs.promises.Searches.{KeptClause, Search, clauses_of}
use Rattle.varisat_theory.specs.inside.Outcomes.{Proves}
use Rattle.varisat_theory.proofs.clauses.Members.{∈-append_left, ∈-append_right}
use Rattle.varisat_theory.proofs.steps.SearchFits.{same_equal, clause_from}
use Rattle.varisat_theory.proofs.steps.StepChanges.{moves_prove}
use Rattle.varisat_theory.proofs.steps.StepRetirements.{units_are_proved}
use Rattle.varisat_theory.proofs.steps.StepParts.{parts_join}
use Rattle.varisat_prop.specs.View.{View, IsTrueIn, literal_at, node_of, node_at, level_of, IsOnTrailBefore, WellFormed, is_clause}
use Rattle.varisat_prop.proofs.views.ViewGrowth.{append-nil}
use Rattle.varisat_prop.proofs.pairs.SimplifiedPairs.{filter-∈}
use Rattle.varisat_prop.proofs.trails.TrailValues.{trail-true}
use Rattle.varisat_analysis.specs.Learned.{implying_clause}
use Rattle.varisat_search.proofs.stepping.ViewSearch.{no_clause, fixed_from, fixed_to, proved_from, proved_to, seen_clauses}
use Rattle.varisat_search.proofs.unit_simplify.prove_units.Goals as goal

-- The lines that prove the units of level 0.

-- A list in which an element of the filtered one stands, and what of it stands before.
pub record IsSplitAt (p : ℕ → Bool) (xs front : List ℕ) (l : ℕ) : Type 0 where
  pub before : List ℕ
  pub behind : List ℕ
  pub whole : xs ≡ before ++ (l ∷ behind)
  pub part : filter p before ≡ front
  pub picked : p l ≡ true

split-filter : (p : ℕ → Bool) (xs front back : List ℕ) (l : ℕ) → filter p xs ≡ front ++ (l ∷ back) → IsSplitAt p xs front l
split-filter p [] [] back l e = absurd cc
split-filter p [] (y ∷ front) back l e = absurd cc
split-filter p (x ∷ xs) front back l e = go (p x) refl front e (λ f. split-filter p xs f back l)
  where
    picks : (b : Bool) → p x ≡ b → (ys : List ℕ) → filter p (x ∷ ys) ≡ cond b (x ∷ filter p ys) (filter p ys)
    picks b f ys = ap (λ (c : Bool). cond c (x ∷ filter p ys) (filter p ys)) f

    go : (b : Bool) → p x ≡ b → (front : List ℕ) → cond b (x ∷ filter p xs) (filter p xs) ≡ front ++ (l ∷ back) →
        ((f : List ℕ) → filter p xs ≡ f ++ (l ∷ back) → IsSplitAt p xs f l) → IsSplitAt p (x ∷ xs) front l
    go true f [] g r = let h : x ≡ l = cc in record { before = []; behind = xs; whole = ap (λ y. y ∷ xs) h; part = refl; picked = ap p (sym h) ∙ f }
    go true f (y ∷ front) g r =
        let h : x ≡ y = cc in
        let t : filter p xs ≡ front ++ (l ∷ back) = cc in
        let d = r front t in
        record {
          before = x ∷ d.before;
          behind = d.behind;
          whole = ap (λ ys. x ∷ ys) d.whole;
          part = picks true f d.before
              ∙ ap (λ ys. x ∷ ys) d.part ∙ ap (λ z. z ∷ front) h;
          picked = d.picked;
        }
    go false f front g r =
        let d = r front g in
        record { before = x ∷ d.before; behind = d.behind; whole = ap (λ ys. x ∷ ys) d.whole; part = picks false f d.before ∙ d.part; picked = d.picked }

at-split : (a b : List ℕ) (l : ℕ) → get_or (a ++ (l ∷ b)) (length a) 0 ≡ l
at-split [] b l = refl
at-split (x ∷ a) b l = at-split a b l

before-split : (a b : List ℕ) (j : ℕ) → j < length a → get_or (a ++ b) j 0 ∈ a
before-split [] b j h = absurd (omega (arith, h))
before-split (x ∷ a) b zero h = inl refl
before-split (x ∷ a) b (suc j) h = inr (before-split a b j (omega (arith, h)))

module _ (s : View) (w : WellFormed s) (none : s.decisions ≡ []) where
  abbrev S : Search
  S = search_of s

  abbrev implied : Literal → Bool
  implied l = is_clause (node_of s l).reason

  -- at level 0 each literal is fixed
  zero-of : (l : Literal) → l ∈ s.trail → level_of s l ≡ 0
  zero-of l h = let (k, a, e) = place_in l s.trail 0 h in sym (ap (level_of s) e) ∙ level-zero s w none k a

  -- those that no clause implied are proved already
  proved-already : (l : Literal) → l ∈ s.trail → implied l ≡ false → l ∈ S.proved
  proved-already l h e = proved_to s w l (h, zero-of l h, no_clause (node_of s l).reason (ap not e))

  -- where a clause implied a literal, its others are proved false before it
  module _ (front back : List Literal) (l : Literal) (e : implied_units s ≡ front ++ (l ∷ back)) where
    split : IsSplitAt implied s.trail front l
    split = split-filter implied s.trail front back l e

    abbrev place : ℕ
    place = length split.before

    inside : place < length s.trail
    inside =
        let n = ap (λ (xs : List ℕ). length xs) split.whole in
        let m = length-append split.before (l ∷ split.behind) in
        omega (arith, n, m)

    stands : literal_at s place ≡ l
    stands = ap (λ (xs : List ℕ). get_or xs place 0) split.whole ∙ at-split split.before split.behind l

    on : l ∈ s.trail
    on = subst (λ x. x ∈ s.trail) stands (∈-get_or s.trail place 0 inside)

    is-clause : is_clause (node_at s place).reason ≡ true
    is-clause = ap implied stands ∙ split.picked

    proved-before : (m : Literal) → IsOnTrailBefore s place m → m ∈ (S.proved ++ front)
    proved-before m (j, h, q) =
        let i : m ∈ split.before = subst (λ x. x ∈ split.before) (sym (ap (λ (xs : List ℕ). get_or xs j 0) split.whole) ∙ q)
        (before-split split.before (l ∷ split.behind) j h) in
        ⊎_elim
        (λ c. ∈-append_right m S.proved front (subst (λ xs. m ∈ xs) split.part (filter-∈ implied split.before m i c)))
        (λ c. ∈-append_left m S.proved front (proved-already m (subst (λ xs. m ∈ xs) (sym split.whole) (∈-append_left m split.before (l ∷ split.behind) i)) c))
        (cases_Bool (implied m))

    fixed : l ∈ S.fixed
    fixed = fixed_to s w l (trail-true s w l on, zero-of l on)

    by-clause : (k : KeptClause) × (k ∈ S.kept) × (l ∈ k.clause) × LeavesOnly (S.proved ++ front) k.clause l
    by-clause =
        let r = (node_at s place).reason in
        let i = w.reason_is place inside in
        let (c, h, q) = reason-kept s w place r is-clause i in
        let (k, o, g) = clause_from S.kept c (subst (λ P. c ∈ P) (sym (seen_clauses s)) h) in (
          k,
          o,
          subst (λ y. l ∈ y) (sym g) (q.1 l (subst (λ y. y ∈ implying_clause s (literal_at s place) r) stands (reason-first s w place r is-clause i))),
          λ m n.
              ⊎_elim
              (λ f. inl (f ∙ stands))
              (λ b. inr (proved-before (opposite m) b))
              (reason-before s w place r m i (q.0 m (subst (λ y. m ∈ y) g n))),
        )

  abbrev pub with_units : Search
  with_units = record S { proved = S.proved ++ implied_units s }

  pub lines-prove : Proves 0 S with_units (unit_lines (implied_units s))
  lines-prove = units_are_proved S (implied_units s) (λ front back l e. (fixed front back l e, by-clause front back l e))

module _ (s t : View) (w : WellFormed s) (none : s.decisions ≡ []) (d : ProvesUnits s t) where
  fixed-stays : (l : Literal) → l ∈ (search_of s).fixed → l ∈ (search_of t).fixed
  fixed-stays l h =
      let f = fixed_from s w l h in
      let v = units-well s t w none d in
      let (k, a, e) = w.stands l f.0 in
      let z : level_of t l ≡ 0 = ap (λ (y : View). level_of y l) d.rest ∙ sym (ap (λ x. level_of (record s { nodes = t.nodes }) x) e)
      ∙ ap (λ n. n.level) (unit-node s t w none d k a) ∙ zero-level s t w none d k a in
      fixed_to t v l (subst (λ (y : View). IsTrueIn y l) (sym d.rest) f.0, z)

  fixed-back : (l : Literal) → l ∈ (search_of t).fixed → l ∈ (search_of s).fixed
  fixed-back l h =
      let f = fixed_from t (units-well s t w none d) l h in
      let true-now : IsTrueIn s l = subst (λ (y : View). IsTrueIn y l) d.rest f.0 in
      let (k, a, e) = w.stands l true-now in
      fixed_to s w l (true-now, ap (level_of s) (sym e) ∙ zero-level s t w none d k a)

  proved-back : (l : Literal) → l ∈ (search_of t).proved → l ∈ ((search_of s).proved ++ implied_units s)
  proved-back l h =
      let i : l ∈ s.trail = subst (λ xs. l ∈ xs) (ap (λ (y : View). y.trail) d.rest) (proved_from t (units-well s t w none d) l h).0 in
      ⊎_elim
      (λ c. ∈-append_right l (search_of s).proved (implied_units s) (filter-∈ (implied s w none) s.trail l i c))
      (λ c. ∈-append_left l (search_of s).proved (implied_units s) (proved-already s w none l i c))
      (cases_Bool (implied s w none l))

  same-kept : (search_of t).kept ≡ (search_of s).kept
  same-kept = ap (λ (y : View). (search_of y).kept) d.rest

  pub units-prove : Proves 0 (search_of s) (search_of t) (unit_lines (implied_units s))
  units-prove =
      subst (Proves 0 (search_of s) (search_of t)) (append-nil (unit_lines (implied_units s)))
      (parts_join 0 0 (search_of s) (with_units s w none) (search_of t) (unit_lines (implied_units s)) [] (lines-prove s w none)
      (moves_prove (with_units s w none) (search_of t)
      (same_equal (clauses_of (search_of s).kept) (clauses_of (search_of t).kept) (ap clauses_of (sym same-kept)))
      (λ k h n. (k, subst (λ ks. k ∈ ks) (sym same-kept) h, n, λ x o. o))
      fixed-stays
      proved-back
      (λ l h. inl (fixed-back l h))))

abbrev after : (g : Over) (c : After-forget_reasons g) → Context g.row.A.Denot
after g c = record c.args.ctx.now { impl_graph = c.forget_reasons.new.impl_graph }

proved : (g : Over) (c : After-forget_reasons g) → ProvesUnits (view c.args.ctx.now) (view (after g c))
proved g c = record {
  nodes = subst (λ ls. HaveUnits ls c.args.ctx.now.impl_graph.nodes.items c.forget_reasons.new.impl_graph.nodes.items)
      c.trail-2.ensures c.forget_reasons.ensures;
  rest = refl;
}

pub trace_units-requires-clause-inside : goal.trace_units-requires-clause-inside
trace_units-requires-clause-inside g c l h =
    let x = c.args.ctx.now in
    let (k, a, e) = place_in l x.trail.literals 0 (subst (λ ls. l ∈ ls) c.trail.ensures h) in
    subst (λ m. variable_of m < length x.impl_graph.nodes.items) e (inside-at (view x) c.requires.ready.well k a)

pub trace_units-requires-clause-able : goal.trace_units-requires-clause-able
trace_units-requires-clause-able g c =
    let x = c.args.ctx.now in
    let none = none-left x.trail.decisions (omega (arith, c.if-current_level-gt0.false, c.current_level.ensures)) in
    subst (λ (ls : List Literal). CanTake (g.P.ProofTracer.holds c.args.proof.now) (unit_lines (units_in x.impl_graph.nodes.items ls))) (sym c.trail.ensures)
    (can_take (g.P.ProofTracer.holds c.args.proof.now) 0 (search_of (view x)) (with_units (view x) c.requires.ready.well none)
    (unit_lines (implied_units (view x))) c.requires.holds (lines-prove (view x) c.requires.ready.well none))

pub forget_reasons-requires : goal.forget_reasons-requires
forget_reasons-requires g c l h =
    let x = c.args.ctx.now in
    let (k, a, e) = place_in l x.trail.literals 0 (subst (λ ls. l ∈ ls) c.trail-2.ensures h) in
    subst (λ m. variable_of m < length x.impl_graph.nodes.items) e (inside-at (view x) c.requires.ready.well k a)

pub returns-clause-takes : goal.returns-clause-takes
returns-clause-takes g c none =
    subst (λ (ls : List Literal). TakesLines g.P.ProofTracer.takes c.args.proof.now (unit_lines (units_in c.args.ctx.now.impl_graph.nodes.items ls))
    c.trace_units.new.proof) c.trail.ensures (c.in_ok-trace_units.ensures {u = tt})

pub returns-clause-proves : goal.returns-clause-proves
returns-clause-proves g c none =
    let here = (goal.at.returns-clause-proves g c).After-forget_reasons in
    units-prove (view c.args.ctx.now) (view (after g here)) c.requires.ready.well none (proved g here)

pub returns-clause-ready : goal.returns-clause-ready
returns-clause-ready g c =
    let here = (goal.at.returns-clause-ready g c).After-forget_reasons in
    let x = c.args.ctx.now in
    units-ready x (after g here) c.requires.ready
    (none-left x.trail.decisions (omega (arith, c.if-current_level-gt0.false, c.current_level.ensures))) (proved g here) refl c.requires.ready.tracks refl

pub returns-in_err-trace_units-clause-broken : goal.returns-in_err-trace_units-clause-broken
returns-in_err-trace_units-clause-broken g c =
    error-broken g.P.ProofTracer.breaks_off c.args.proof.now c.trace_units.new.proof c.from_residual.result c.in_err-trace_units.field-0.0
    c.from_residual.ensures
    (c.in_err-trace_units.ensures {u = tt})

pub returns-clause-found : goal.returns-clause-found
returns-clause-found g c = grind (arith, common_steps)
