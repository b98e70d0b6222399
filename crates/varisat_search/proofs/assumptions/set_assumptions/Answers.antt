use Rattle.std.proofs.Common.{◌≡◌, ℕ, zero, suc, ◌<◌, ◌≤◌, Bool, false, ◌&&◌, not, nat_eq, List, [], ◌∷◌, length, get_or, take, refl, sym, ap, ◌∙◌, ne_eqb, arith, ⊎_elim, subst}
use Rattle.std.specs.Prelude.{cond}
use Rattle.std.specs.List.{filter}
use Rattle.varisat_prop.specs.View.{View, node_of, level_of, decision_at, is_clause, WellFormed}
use Rattle.varisat_search.specs.Seen.{is_fixed, is_proved, search_of}
use Rattle.varisat_search.specs.Steps.{IsCut}
use Rattle.std.proofs.lemmas.Bool.{cases_lt}
use Rattle.varisat_theory.specs.promises.Membership.{◌∈◌, ◌⊆◌}
use Rattle.varisat_theory.specs.promises.Literals.{variable_of}
use Rattle.varisat_search.specs.declared.context.Context.{Context}
use Rattle.varisat_search.specs.AssumptionParts.{AssumptionParts}
use Rattle.varisat_search.specs.Contexts.{view}
use Rattle.varisat_search.proofs.assuming.AssumptionLevels.{has-undecided}
use Rattle.varisat_search.proofs.stepping.ReadyAfter.{backtracked-ready, ready-with}
use Rattle.varisat_search.proofs.assumptions.set_assumptions.Goals as goal

-- What a proof sees stays where all decisions are undone.
filter-none : (p : ℕ → Bool) (xs : List ℕ) → ((k : ℕ) → k < length xs → p (get_or xs k 0) ≡ false) → filter p xs ≡ []
filter-none p [] h = refl
filter-none p (x ∷ xs) h = ap (λ b. cond b (x ∷ filter p xs) (filter p xs)) (h 0 (omega arith)) ∙ filter-none p xs (λ k b. h (suc k) (omega (arith, b)))

-- of the elements from place n on none passes
filter-take : (p : ℕ → Bool) (n : ℕ) (xs : List ℕ) → ((k : ℕ) → n ≤ k → k < length xs → p (get_or xs k 0) ≡ false) → filter p (take n xs) ≡ filter p xs
filter-take p zero xs h = sym (filter-none p xs (λ k b. h k (omega arith) b))
filter-take p (suc n) [] h = refl
filter-take p (suc n) (x ∷ xs) h = ap (λ ys. cond (p x) (x ∷ ys) ys) (filter-take p n xs (λ k a b. h (suc k) (omega (arith, a)) (omega (arith, b))))

above-zero : (n : ℕ) → (n ≤ 0 → ⊥) → nat_eq n 0 ≡ false
above-zero n h = ne_eqb n 0 (λ e. h (omega (arith, e)))

module _ (s t : View) (w : WellFormed s) (h : 0 < length s.decisions) (c : IsCut s t 0) where
  late : (k : ℕ) → decision_at s 0 ≤ k → k < length s.trail → nat_eq (level_of s (get_or s.trail k 0)) 0 ≡ false
  late k a b = above-zero (level_of s (get_or s.trail k 0)) (λ z. let o = w.levels_up k 0 b h z in omega (arith, a, o))

  seen-cut : search_of t ≡ search_of s
  seen-cut =
      ap search_of c.rest
      ∙ ap (λ ls. record (search_of s) { fixed = ls; proved = filter (is_proved s) (take (decision_at s 0) s.trail) })
      (filter-take (is_fixed s) (decision_at s 0) s.trail late)
      ∙ ap (λ ls. record (search_of s) { proved = ls })
      (filter-take (is_proved s) (decision_at s 0) s.trail
      (λ k a b. ap (λ (f : Bool). f && not (is_clause (node_of s (get_or s.trail k 0)).reason)) (late k a b)))

pub returns-clause-ready : goal.returns-clause-ready
returns-clause-ready g c =
    let x = c.args.ctx.now in
    let y = c.full_restart.new.ctx in
    let b = c.full_restart.ensures.undone in
    let given : c.set.new.self.working ⊆ c.args.lits.now = λ l i. subst (λ ws. l ∈ ws)
    (ap (λ (a : AssumptionParts). a.working) c.set.ensures ∙ c.in_ok-working.ensures {u = tt}) i in
    let count : length y.assignment.current ≡ length x.assignment.current = ⊎_elim
    (λ (h : 0 < length x.trail.decisions). (b.cut h).count)
    (λ (h : length x.trail.decisions ≤ 0). ap (λ (z : Context g.row.A.Denot). length z.assignment.current) (b.same h))
    (cases_lt 0 (length x.trail.decisions)) in
    let r = backtracked-ready 0 x y c.requires.ready b in
    ready-with y (record y { assumptions = c.set.new.self; solver_state = c.assume.new.self }) r refl refl refl r.propagated r.decidable
    (has-undecided (view y) c.set.new.self c.full_restart.ensures.undecided (ap (λ (a : AssumptionParts). a.levels) c.set.ensures)
    (λ l i. let h = c.requires.in_range l (given l i) in omega (arith, h, count)))
    (λ l i. (b.decidable (variable_of l)).0 (c.requires.decidable l (given l i)))

pub returns-clause-seen : goal.returns-clause-seen
returns-clause-seen g c =
    let x = c.args.ctx.now in
    let y = c.full_restart.new.ctx in
    let b = c.full_restart.ensures.undone in
    ⊎_elim
    (λ (h : 0 < length x.trail.decisions). seen-cut (view x) (view y) c.requires.ready.well h (b.cut h))
    (λ (h : length x.trail.decisions ≤ 0). ap (λ (z : Context g.row.A.Denot). search_of (view z)) (b.same h))
    (cases_lt 0 (length x.trail.decisions))

pub returns-clause-last : goal.returns-clause-last
returns-clause-last g c =
    let b = c.full_restart.ensures.undone in
    (λ e. ap (λ (z : Context g.row.A.Denot). z.assignment.last) (b.same (let n = ap (λ ds. length ds) e in omega (arith, n))), b.saved)

pub returns-clause-keeps : goal.returns-clause-keeps
returns-clause-keeps g c =
    let x = c.args.ctx.now in
    let b = c.full_restart.ensures.undone in
    record {
      schedule = record {
        schedule = ap (λ (z : Context g.row.A.Denot). z.schedule) b.kept;
        solver_config = ap (λ (z : Context g.row.A.Denot). z.solver_config) b.kept;
      };
      variables = record {
        decidable = b.decidable;
        decay = b.decay;
        count = ⊎_elim
            (λ (h : 0 < length x.trail.decisions). (b.cut h).count)
            (λ (h : length x.trail.decisions ≤ 0). ap (λ (z : Context g.row.A.Denot). length z.assignment.current) (b.same h))
            (cases_lt 0 (length x.trail.decisions));
      };
    }
