use Rattle.std.proofs.Common.{◌≡◌, Bool, true, false, not, ◌||◌, List, [], ◌∷◌, ◌++◌, inl, inr, ⊎_elim, refl, sym, ap, ap₂, ◌∙◌, subst, ◌<◌, ◌↔◌, length, map, arith}
use Rattle.std.specs.Prelude.{cond}
use Rattle.std.specs.List.{filter, list_any}
use Rattle.std.proofs.lemmas.List.Elements.{filter-append}
use Rattle.std.proofs.lemmas.Bool.{cases_Bool}
use Rattle.varisat_theory.specs.promises.Membership.{◌∈◌, SameSet, IsDistinct}
use Rattle.varisat_theory.specs.promises.Literals.{Clause, variable_of, Literal}
use Rattle.varisat_theory.specs.promises.Derivations.{TakesOut}
use Rattle.varisat_theory.specs.promises.Held.{SameClauses}
use Rattle.varisat_theory.specs.promises.Searches.{Search, clauses_of, IsDischarged, Fits}
use Rattle.varisat_prop.specs.Leaving.{leaves}
use Rattle.varisat_prop.proofs.views.Leaving.{staying-was, was-staying, staying-shorter}
use Rattle.varisat_prop.proofs.pairs.SimplifiedPairs.{filter-∈, ∈-filter}
use Rattle.varisat_search.specs.Forgotten.{AreStaying, search_without, clauses_without, IsWithout}
use Rattle.varisat_theory.proofs.clauses.Places.{place_in}
use Rattle.varisat_analysis.proofs.WellFormedViews.{inside-at}
use Rattle.varisat_prop.specs.Parts.{TrailParts, Values}
use Rattle.varisat_prop.specs.View.{View}
use Rattle.varisat_prop.proofs.trails.TrailValues.{fits-node}
use Rattle.varisat_vsids.specs.Activities.{Activities}
use Rattle.varisat_search.specs.declared.context.Context.{Context}
use Rattle.varisat_search.specs.Contexts.{view}
use Rattle.varisat_search.specs.Decisions.{IsDecidable}
use Rattle.varisat_search.specs.Seen.{search_of}
use Rattle.varisat_search.proofs.stepping.ViewSearch.{seen_clauses}
use Rattle.varisat_search.proofs.variables.ForgottenViews.{staying-distinct, without-decidable, without-settled-down, without-seen, without-view, without-ready}
use Rattle.varisat_search.proofs.forgetting.detach_variables.Given.{Over}
use Rattle.varisat_search.proofs.forgetting.detach_variables.Goals.{After-remove_units, After-forget_activities}
use Rattle.varisat_search.proofs.forgetting.detach_variables.Goals as goal

-- What a proof holds of the variables that stay.

-- 1. Clauses that are equal as sets stay together.
module _ (f : Clause → Bool) (same : (c d : Clause) → SameSet c d → f c ≡ f d) where
  at-true : (c : Clause) (P : List Clause) → f c ≡ true → filter f (c ∷ P) ≡ c ∷ filter f P
  at-true c P e = ap (λ b. cond b (c ∷ filter f P) (filter f P)) e

  at-false : (c : Clause) (P : List Clause) → f c ≡ false → filter f (c ∷ P) ≡ filter f P
  at-false c P e = ap (λ b. cond b (c ∷ filter f P) (filter f P)) e

  takes-kept : (Q : List Clause) (c : Clause) (R : List Clause) → f c ≡ true → TakesOut Q c R → TakesOut (filter f Q) c (filter f R)
  takes-kept Q c R e (front, d, back, q, s, r) = (
    filter f front,
    d,
    filter f back,
    ap (filter f) q ∙ filter-append f front (d ∷ back) ∙ ap (λ xs. filter f front ++ xs) (at-true d back (same d c s ∙ e)),
    s,
    ap (filter f) r ∙ filter-append f front back,
  )

  takes-left : (Q : List Clause) (c : Clause) (R : List Clause) → f c ≡ false → TakesOut Q c R → filter f Q ≡ filter f R
  takes-left Q c R e (front, d, back, q, s, r) =
      ap (filter f) q ∙ filter-append f front (d ∷ back) ∙ ap (λ xs. filter f front ++ xs) (at-false d back (same d c s ∙ e))
      ∙ sym (filter-append f front back) ∙ ap (filter f) (sym r)

  same-filtered : (P Q : List Clause) → SameClauses P Q → SameClauses (filter f P) (filter f Q)
  same-filtered [] Q s = ap (filter f) s
  same-filtered (c ∷ P) Q (R, t, s) =
      ⊎_elim
      (λ e. subst (λ X. SameClauses X (filter f Q)) (sym (at-true c P e)) (filter f R, takes-kept Q c R e t, same-filtered P R s))
      (λ e. subst (λ X. SameClauses X (filter f Q)) (sym (at-false c P e))
      (subst (SameClauses (filter f P)) (sym (takes-left Q c R e t)) (same-filtered P R s)))
      (cases_Bool (f c))

  all-stay : (P : List Clause) → ((c : Clause) → c ∈ P → f c ≡ true) → filter f P ≡ P
  all-stay [] h = refl
  all-stay (c ∷ P) h = at-true c P (h c (inl refl)) ∙ ap (λ xs. c ∷ xs) (all-stay P (λ d i. h d (inr i)))

-- 2. Clauses that name no variable that leaves.
module _ (gone : List Bool) where
  abbrev names : Clause → Bool
  names c = list_any (λ l. leaves gone (variable_of l)) c

  abbrev stays : Clause → Bool
  stays c = not (names c)

  first-false : (a b : Bool) → (a || b) ≡ false → (a ≡ false) × (b ≡ false)
  first-false true b e = absurd (let f : true ≡ false = e in cc)
  first-false false b e = (refl, e)

  names-none : (c : Clause) → names c ≡ false → AreStaying gone c
  names-none [] e l h = absurd h
  names-none (m ∷ c) e l (inl i) = ap (λ x. leaves gone (variable_of x)) i ∙ (first-false (leaves gone (variable_of m)) (names c) e).0
  names-none (m ∷ c) e l (inr h) = names-none c (first-false (leaves gone (variable_of m)) (names c) e).1 l h

  none-named : (c : Clause) → AreStaying gone c → names c ≡ false
  none-named [] h = refl
  none-named (m ∷ c) h = ap (λ b. b || names c) (h m (inl refl)) ∙ none-named c (λ l i. h l (inr i))

  not-true : (b : Bool) → not b ≡ true → b ≡ false
  not-true true e = absurd (let f : false ≡ true = e in cc)
  not-true false e = refl

  names-same : (c d : Clause) → SameSet c d → names c ≡ names d
  names-same c d s =
      ⊎_elim
      (λ e. ⊎_elim (λ g. e ∙ sym g) (λ g. let z = none-named c (λ l h. names-none d g l (s.0 l h)) in
      absurd (let x : true ≡ false = sym e ∙ z in cc)) (cases_Bool (names d)))
      (λ e. e ∙ sym (none-named d (λ l h. names-none c e l (s.1 l h))))
      (cases_Bool (names c))

  stays-same : (c d : Clause) → SameSet c d → stays c ≡ stays d
  stays-same c d s = ap not (names-same c d s)

  -- What a proof holds still fits once the clauses are left out that name the variables.
  module _ (s : Search) (unnamed : (c : Clause) → c ∈ clauses_of s.kept → AreStaying gone c) where
    still-settled : (c : Clause) → stays c ≡ true → IsDischarged s c → IsDischarged (search_without gone s) c
    still-settled c e (inl t) = inl t
    still-settled c e (inr (l, i, j)) = inr (l, i, was-staying gone s.fixed l j (names-none c (not-true (names c) e) l i))

    left-out : (P : List Clause) → clauses_without gone (clauses_of s.kept ++ P) ≡ clauses_of s.kept ++ clauses_without gone P
    left-out P =
        filter-append stays (clauses_of s.kept) P
        ∙ ap (λ xs. xs ++ clauses_without gone P) (all-stay stays stays-same (clauses_of s.kept) (λ c h. ap not (none-named c (unnamed c h))))

    fits-without : (held : List Clause) → Fits held s → Fits (clauses_without gone held) (search_without gone s)
    fits-without held f = record {
      others = clauses_without gone f.others;
      same = subst (SameClauses (clauses_without gone held)) (left-out f.others) (same-filtered stays stays-same held (clauses_of s.kept ++ f.others) f.same);
      settled = λ c h. let (i, e) = ∈-filter stays f.others c h in still-settled c e (f.settled c i);
      units = λ l h.
          let (i, e) = staying-was gone s.proved l h in
          let (d, j, u) = f.units l i in
          (d, filter-∈ stays f.others d j (ap not (none-named d (λ m k. ap (λ x. leaves gone (variable_of x)) (u.1 m k) ∙ e))), u);
    }

-- the context afterwards
abbrev after : (g : Over) (c : After-forget_activities g) → Context g.row.A.Denot
after g c = record c.args.ctx.now {
  assignment = c.forget_values.new.assignment;
  counters = record c.args.ctx.now.counters { removed_units = c.count.new.counter };
  impl_graph = c.renumber.new.impl_graph;
  trail = c.remove_units.new.self;
  vsids =
      c.forget_activities.new.vsids;
}

dropped : (g : Over) (c : After-forget_activities g) → IsWithout c.args.gone.now (view c.args.ctx.now) (view (after g c))
dropped g c = without-view c.args.ctx.now (after g c) c.args.gone.now c.trail-2.result.now c.remove_units.ensures c.forget_values.ensures
    c.trail-2.ensures c.renumber.ensures refl

pub renumber-requires-clause-known : goal.renumber-requires-clause-known
renumber-requires-clause-known g c l h =
    let x = c.args.ctx.now in
    let on = subst (λ ls. l ∈ ls) (c.trail-2.ensures ∙ ap (λ (t : TrailParts). t.literals) c.remove_units.ensures) h in
    let (k, a, e) = place_in l x.trail.literals 0 (staying-was c.args.gone.now x.trail.literals l on).0 in
    subst (λ m. variable_of m < length x.impl_graph.nodes.items) e (inside-at (view x) c.requires.ready.well k a)

pub renumber-requires-clause-distinct : goal.renumber-requires-clause-distinct
renumber-requires-clause-distinct g c =
    let x = c.args.ctx.now in
    subst (λ ls. IsDistinct (map variable_of ls)) (sym (c.trail-2.ensures ∙ ap (λ (t : TrailParts). t.literals) c.remove_units.ensures))
    (staying-distinct (view x) c.args.gone.now c.requires.ready.well)

pub renumber-requires-clause-short : goal.renumber-requires-clause-short
renumber-requires-clause-short g c =
    let x = c.args.ctx.now in
    let n = ap (λ (ls : List Literal). length ls) (c.trail-2.ensures ∙ ap (λ (t : TrailParts). t.literals) c.remove_units.ensures) in
    let m = staying-shorter c.args.gone.now x.trail.literals in
    let fits = fits-node (view x) c.requires.ready.well in
    omega (arith, n, m, fits.1)

pub returns-clause-dropped : goal.returns-clause-dropped
returns-clause-dropped g c = dropped g (goal.at.returns-clause-dropped g c).After-forget_activities

pub returns-clause-ready : goal.returns-clause-ready
returns-clause-ready g c =
    let here = (goal.at.returns-clause-ready g c).After-forget_activities in
    without-ready c.args.ctx.now (after g here) c.args.gone.now c.requires.ready c.requires.settled
    (dropped g here) c.requires.unmentioned c.requires.unassumed c.forget_activities.ensures refl

pub returns-clause-frame : goal.returns-clause-frame
returns-clause-frame g c =
    let z = after g (goal.at.returns-clause-frame g c).After-forget_activities in
    ap₂ (λ (bs : List Bool) (b : Activities). record z { assignment = record z.assignment { last = bs }; vsids = b })
    (ap (λ (a : Values). a.last) c.forget_values.ensures) c.forget_activities.ensures

pub returns-clause-settled : goal.returns-clause-settled
returns-clause-settled g c =
    let here = (goal.at.returns-clause-settled g c).After-forget_activities in
    without-settled-down c.args.gone.now (view c.args.ctx.now) (view (after g here)) c.requires.ready.well c.requires.settled (dropped g here)

pub returns-clause-decidable : goal.returns-clause-decidable
returns-clause-decidable g c v =
    let here = (goal.at.returns-clause-decidable g c).After-forget_activities in
    let x = c.args.ctx.now in
    let z = after g here in
    subst (λ (b : Activities). IsDecidable (view z) b v ↔ (IsDecidable (view x) x.vsids v × (leaves c.args.gone.now v ≡ false)))
    (sym c.forget_activities.ensures)
    (without-decidable c.args.gone.now (view x) (view z) x.vsids (ap (λ (y : View). y.values) (dropped g here).rest) v)

pub returns-clause-seen : goal.returns-clause-seen
returns-clause-seen g c =
    let here = (goal.at.returns-clause-seen g c).After-forget_activities in
    without-seen c.args.gone.now (view c.args.ctx.now) (view (after g here)) c.requires.ready.well c.requires.settled (dropped g here)

pub returns-clause-fits : goal.returns-clause-fits
returns-clause-fits g c held f =
    let here = (goal.at.returns-clause-fits g c).After-forget_activities in
    let x = c.args.ctx.now in
    subst (λ (y : Search). Fits (clauses_without c.args.gone.now held) y)
    (sym (without-seen c.args.gone.now (view x) (view (after g here)) c.requires.ready.well c.requires.settled (dropped g here)))
    (fits-without c.args.gone.now (search_of (view x)) (λ d i. c.requires.unmentioned d (subst (λ cs. d ∈ cs) (seen_clauses (view x)) i)) held f)
