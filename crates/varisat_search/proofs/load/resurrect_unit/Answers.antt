use Rattle.std.proofs.Common.{◌≡◌, ℕ, ◌+◌, true, false, nat_eq, Option, Some, None, List, [], ◌∷◌, ◌++◌, length, ◌⊎◌, inl, ⊎_elim, refl, sym, ap, ◌∙◌, subst, arith, length-append, get_or}
use Rattle.std.specs.List.{slice_get}
use Rattle.std.specs.Option.{option_eq}
use Rattle.std.proofs.lemmas.Bool.{eqb-true, eq-eqb}
use Rattle.std.proofs.lemmas.Option.{slice_get_within, slice_get_read}
use Rattle.varisat_theory.specs.promises.Membership.{◌∈◌}
use Rattle.varisat_theory.specs.promises.Literals.{Literal, opposite}
use Rattle.varisat_theory.specs.promises.Searches.{Search}
use Rattle.varisat_theory.specs.inside.Outcomes.{Unknown, Unsat, Loads}
use Rattle.varisat_prop.proofs.trails.TrailExtend.{get_or-last}
use Rattle.varisat_search.specs.declared.context.Context.{Context}
use Rattle.varisat_search.specs.declared.state.SatState.{SatState}
use Rattle.varisat_search.specs.Contexts.{view, KeepsSchedule}
use Rattle.varisat_search.specs.Frames.{KeepsVariables}
use Rattle.varisat_search.specs.Loading.{loaded_outcome}
use Rattle.varisat_search.specs.Seen.{search_of}
use Rattle.varisat_search.specs.Steps.{reopened_state}
use Rattle.varisat_search.proofs.variables.SkippedHead.{with_next_head}
use Rattle.varisat_search.proofs.learning.LeastHeld.{anything-with}
use Rattle.varisat_search.proofs.loading.LoadedTrue.{unit-loads}
use Rattle.varisat_search.proofs.load.resurrect_unit.Given.{Over}
use Rattle.varisat_search.proofs.load.resurrect_unit.Goals.{After-queue_head}
use Rattle.varisat_search.specs.declared.state.SatState.TheVariants as verdict
use Rattle.varisat_search.proofs.load.resurrect_unit.Goals as goal

-- What loading the unit clause of a variable that comes back gives.

-- a unit clause is contradicted just by its literal's opposite
module _ (s t : Search) (l : Literal) (b v : SatState) (free : opposite l ∈ s.fixed → ⊥) (p : Loads s t (l ∷ []) (loaded_outcome v) [])
    (is : (v ≡ b) ⊎ (v ≡ verdict.Unsat)) where
  unit-open : loaded_outcome v ≡ Unknown
  unit-open =
      ⊎_elim
      (λ (k, e). ⊎_elim
      (λ f. absurd (let n = ap length f in omega (arith, n)))
      (λ (m, u, o). absurd (free (subst (λ y. opposite y ∈ s.fixed) (sym (u.1 l (inl refl))) o)))
      k)
      (λ (n, e). e)
      p.verdict

  unit-lines : Loads s t (l ∷ []) Unknown []
  unit-lines = subst (λ o. Loads s t (l ∷ []) o []) unit-open p

  unit-verdict : v ≡ b
  unit-verdict = ⊎_elim (λ e. e) (λ e. let o : Unsat ≡ Unknown = sym (ap loaded_outcome e) ∙ unit-open in absurd cc) is

-- The unit clause is held again, and the verdict is open.
record HoldsUnitAgain {A : Type 0} (x y : Context A) (l : Literal) : Type 0 where
  pub lines : Loads (search_of (view x)) (search_of (view y)) (l ∷ []) Unknown []
  pub state : y.solver_state ≡ record x.solver_state { sat_state = reopened_state x.solver_state.sat_state; formula_is_empty = false }
  pub assumptions : y.assumptions ≡ record x.assumptions { levels = 0 }
  pub keeps : KeepsVariables x y
  pub schedule : KeepsSchedule x y

skipped-back : {A : Type 0} (x y : Context A) (l : Literal) → HoldsUnitAgain x y l → HoldsUnitAgain x (with_next_head y) l
skipped-back x y l b = record {
  lines = b.lines;
  state = b.state;
  assumptions = b.assumptions;
  keeps = record { decidable = b.keeps.decidable; decay = b.keeps.decay; count = b.keeps.count };
  schedule = record { schedule = b.schedule.schedule; solver_config = b.schedule.solver_config };
}

-- The trail got at most this literal, and all before it was propagated.
module _ (xs ys : List ℕ) (p q l : ℕ) (more : (ys ≡ xs) ⊎ (ys ≡ xs ++ l ∷ [])) (same : q ≡ p) (all : p ≡ length xs) where
  next-quiet : slice_get ys q ≡ Some l → q + 1 ≡ length ys
  next-quiet h =
      let a = slice_get_within ys q l h in
      ⊎_elim
      (λ e. let n = ap length e in absurd (omega (arith, a, n, same, all)))
      (λ e. let n = ap length e in let m = length-append xs (l ∷ []) in omega (arith, n, m, same, all))
      more

  none-quiet : (slice_get ys q ≡ Some l → ⊥) → q ≡ length ys
  none-quiet h =
      ⊎_elim
      (λ e. let n = ap length e in omega (arith, n, same, all))
      (λ e. absurd (h (subst (λ zs. slice_get zs q ≡ Some l) (sym e)
      (let m = length-append xs (l ∷ []) in
      slice_get_read (xs ++ l ∷ []) (length (xs ++ l ∷ [])) q l refl (omega (arith, m, same, all))
      (sym (subst (λ k. get_or (xs ++ l ∷ []) k l ≡ l) (sym (same ∙ all)) (get_or-last xs l l)))))))
      more

-- the test for the literal
is-literal : (o : Option ℕ) (l : ℕ) → option_eq nat_eq o (Some l) ≡ true → o ≡ Some l
is-literal None l e = absurd (let f : false ≡ true = e in cc)
is-literal (Some x) l e = ap Some (eqb-true x l e)

literal-is : (o : Option ℕ) (l : ℕ) → o ≡ Some l → option_eq nat_eq o (Some l) ≡ true
literal-is o l e = ap (λ x. option_eq nat_eq x (Some l)) e ∙ eq-eqb l l refl

loaded : (g : Over) (c : After-queue_head g) → HoldsUnitAgain c.args.ctx.now c.load_clause.new.ctx c.args.lit
loaded g c =
    let x = c.args.ctx.now in
    let z = c.load_clause.new.ctx in
    let e = c.in-Ok.ensures in
    let n = c.in_default.not-Unsat in
    let p = unit-loads _ _ (search_of (view x)) (search_of (view z)) c.args.lit (loaded_outcome z.solver_state.sat_state) (e.loads n).lines in
    let v = unit-verdict (search_of (view x)) (search_of (view z)) c.args.lit
    (reopened_state x.solver_state.sat_state) z.solver_state.sat_state c.requires.unopposed p e.verdict in
    record {
      lines = unit-lines (search_of (view x)) (search_of (view z)) c.args.lit
          (reopened_state x.solver_state.sat_state) z.solver_state.sat_state c.requires.unopposed p e.verdict;
      state = (e.loads n).state ∙ ap (λ (b : SatState). record x.solver_state { sat_state = b; formula_is_empty = false }) v;
      assumptions = (e.loads n).assumptions;
      keeps = e.keeps;
      schedule = c.load_clause.ensures.ends.schedule;
    }

pub load_clause-requires-clause-holds : goal.load_clause-requires-clause-holds
load_clause-requires-clause-holds g c n = anything-with (λ held. Unit {0}) (λ held. tt) (view c.args.ctx.now) (c.args.lit ∷ [])

pub skip_unmentioned-requires : goal.skip_unmentioned-requires
skip_unmentioned-requires g c =
    let e = c.in-Ok.ensures in
    record {
      ready = e.ready;
      undecided = (e.loads c.in_default.not-Unsat).undecided;
      head = sym c.queue_head.ensures ∙ is-literal c.queue_head.result c.args.lit (sym c.if-eq.ensures);
      unmentioned = λ d h. c.requires.unmentioned d (subst (λ P. d ∈ P) (e.single c.args.lit refl).clauses h);
    }

pub returns-then-eq : goal.returns-then-eq
returns-then-eq g c =
    let x = c.args.ctx.now in
    let e = c.in-Ok.ensures in
    let k = c.skip_unmentioned.ensures.frame in
    let u = e.single c.args.lit refl in
    let b = subst (λ y. HoldsUnitAgain x y c.args.lit) (sym k)
    (skipped-back x c.load_clause.new.ctx c.args.lit (loaded g (goal.at.returns-then-eq g c).After-queue_head)) in
    record {
      ready = c.skip_unmentioned.ensures.ready;
      unsat = λ s. absurd (c.in_default.not-Unsat s);
      lines = λ n. b.lines;
      state = λ n. b.state;
      assumptions = λ n. b.assumptions;
      keeps = record { schedule = b.schedule; variables = b.keeps };
      quiet = λ n none all. subst (λ (y : Context g.row.A.Denot). y.trail.queue_head ≡ length y.trail.literals) (sym k)
          (next-quiet x.trail.literals c.load_clause.new.ctx.trail.literals x.trail.queue_head c.load_clause.new.ctx.trail.queue_head c.args.lit
          (u.trail none) (u.head none) all (sym c.queue_head.ensures ∙ is-literal c.queue_head.result c.args.lit (sym c.if-eq.ensures)));
    }

pub returns-else-eq : goal.returns-else-eq
returns-else-eq g c =
    let x = c.args.ctx.now in
    let e = c.in-Ok.ensures in
    let u = e.single c.args.lit refl in
    let b = loaded g (goal.at.returns-else-eq g c).After-queue_head in
    record {
      ready = e.ready;
      unsat = λ s. absurd (c.in_default.not-Unsat s);
      lines = λ n. b.lines;
      state = λ n. b.state;
      assumptions = λ n. b.assumptions;
      keeps = record { schedule = b.schedule; variables = b.keeps };
      quiet = λ n none all. none-quiet x.trail.literals c.load_clause.new.ctx.trail.literals x.trail.queue_head
          c.load_clause.new.ctx.trail.queue_head c.args.lit (u.trail none) (u.head none) all
          (λ h. let a : false ≡ true = c.if-eq.ensures ∙ literal-is c.queue_head.result c.args.lit (c.queue_head.ensures ∙ h) in cc);
    }
