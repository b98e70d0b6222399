use Rattle.std.proofs.Common.{◌≡◌, ℕ, ◌-◌, ◌≤◌, Bool, Option, None, ◌++◌, length, get_or, replicate, inl, inr, ⊎_elim, sym, ap, ◌∙◌, subst, arith, length-append, ◌*◌, false, [], refl}
use Rattle.std.proofs.lemmas.List.{length-replicate}
use Rattle.varisat_theory.specs.promises.Membership.{◌∈◌}
use Rattle.varisat_theory.proofs.clauses.Padded.{padded}
use Rattle.varisat_prop.specs.View.{View, kept}
use Rattle.varisat_vsids.specs.Activities.{Activities, is_available, raised_to}
use Rattle.varisat_vsids.proofs.AvailableAfter.{is_available-raised_to, length-raised_to}
use Rattle.varisat_search.specs.Decisions.{CanDecide, SameDecidable}
use Rattle.varisat_search.proofs.variables.SetVarCount.{Grown, grown-flags, grown-propagated, grown-result}
use Rattle.varisat_search.proofs.variables.DecidableVariables.{can-decide}
use Rattle.std.proofs.lemmas.Grind.{common_steps}
use Rattle.varisat_search.specs.Contexts.{view}
use Rattle.varisat_prop.proofs.views.ViewGrowth.{append-nil}
use Rattle.varisat_search.proofs.assuming.AssumptionLevels.{has-same-decisions}
use Rattle.varisat_search.proofs.assuming.AssumptionContexts.{still-assumable}
use Rattle.varisat_search.proofs.context.set_var_count.Given.{Over}
use Rattle.varisat_search.proofs.context.set_var_count.Goals.{In_ok-set_var_count-4}
use Rattle.varisat_search.proofs.context.set_var_count.Goals as goal

-- New variables can't be decided.
module _ (s t : View) (a : Activities) (count : ℕ) where
  raised-same : {b : Activities} → t.values ≡ s.values ++ replicate (count - length s.values) None → b ≡ raised_to count a → SameDecidable s a t b
  raised-same {b} e f v =
      let x : get_or t.values v None ≡ get_or s.values v None = ap (λ xs. get_or xs v None) e ∙ padded None s.values (count - length s.values) v in
      let y : is_available b v ≡ is_available a v = ap (λ (z : Activities). is_available z v) f ∙ is_available-raised_to a count v in
      (⊎_elim (λ n. inl (λ z. n (sym x ∙ z))) (λ z. inr (y ∙ z)), ⊎_elim (λ n. inl (λ z. n (x ∙ z))) (λ z. inr (sym y ∙ z)))

  raised-decidable : {b : Activities} → CanDecide s a → length s.values ≤ count →
      t.values ≡ s.values ++ replicate (count - length s.values) None → b ≡ raised_to count a → kept t ≡ kept s → CanDecide t b
  raised-decidable {b} d h e f k =
      let n = d.entries.activity in
      let long = length-raised_to a count (d.entries.available ∙ sym n) (omega (arith, n, h)) in
      let q = ap (λ xs. length xs) e in
      let p = length-append s.values (replicate (count - length s.values) None) in
      let o = length-replicate {A = Option Bool} (count - length s.values) None in
      let values : length t.values ≡ count = omega (arith, q, p, o, h) in
      can-decide s a t b
      (record {
        activity = ap (λ (z : Activities). length z.activity) f ∙ long.0
            ∙ sym values;
        available = ap (λ (z : Activities). length z.available) f ∙ long.1 ∙ sym values;
      })
      (raised-same e f)
      (λ c i. d.decidable c (subst (λ P. c ∈ P) k i))

abbrev after : (g : Over) (c : In_ok-set_var_count-4 g) → View
after g c = record (view c.args.ctx.now)
    { binary = c.set_var_count-3.new.self; values = c.set_var_count-2.new.self.current; nodes = c.set_var_count-4.new.self.nodes.items }

grown : (g : Over) (c : In_ok-set_var_count-4 g) → Grown (view c.args.ctx.now) (after g c) c.args.count
grown g c =
    grown-result (view c.args.ctx.now) c.set_var_count-3.new.self c.set_var_count-2.new.self.current c.set_var_count-4.new.self.nodes.items
    c.args.count c.requires.ready.well c.requires.ready.settled c.requires.raised c.requires.small
    c.in_ok-set_var_count-3.ensures c.in_ok-set_var_count-2.ensures.current c.in_ok-set_var_count-4.ensures

pub returns-clause-raised : goal.returns-clause-raised
returns-clause-raised g c =
    let x = c.args.ctx.now in
    let here = (goal.at.returns-clause-raised g c).In_ok-set_var_count-4 in
    let r = grown g here in
    record {
      ready = record {
        well = r.well;
        settled = r.settled;
        propagated = grown-propagated x.watchlists c.set_var_count-7.new.self
            (view x) c.set_var_count-3.new.self c.set_var_count-2.new.self.current c.set_var_count-4.new.self.nodes.items c.args.count
            c.in_ok-set_var_count-3.ensures r.count c.requires.raised c.in_ok-set_var_count-7.ensures c.requires.ready.propagated;
        tracks = c.requires.ready.tracks;
        assumed = has-same-decisions (view x) (after g here) x.assumptions [] c.requires.ready.well (sym (append-nil x.trail.literals)) refl
            (let n = r.count in let h = c.requires.raised in omega (arith, n, h)) c.requires.ready.assumed;
        assumable = still-assumable (view x) x.vsids (after g here) c.set_var_count-6.new.self x.assumptions.working x.assumptions.working
            (raised-same (view x) (after g here) x.vsids c.args.count c.in_ok-set_var_count-2.ensures.current
            c.in_ok-set_var_count-6.ensures.raised) (λ l i. i) c.requires.ready.assumable;
        analysis = ap (λ y. y.var_count) c.in_ok-set_var_count.ensures ∙ sym r.count;
        decidable = raised-decidable (view x) (after g here) x.vsids c.args.count c.requires.ready.decidable c.requires.raised
            c.in_ok-set_var_count-2.ensures.current c.in_ok-set_var_count-6.ensures.raised r.same_kept;
        flags = c.in_ok-set_var_count-5.ensures ∙ grown-flags x.tmp_flags.flags.items
            (length x.assignment.current) c.args.count c.requires.ready.flags c.requires.raised ∙ ap (λ n. replicate (2 * n) false) (sym r.count);
      };
      count = r.count;
      seen = r.seen;
    }

pub returns-clause-added : goal.returns-clause-added
returns-clause-added g c =
    let x = c.args.ctx.now in
    record {
      last = c.in_ok-set_var_count-2.ensures.last;
      activities = c.in_ok-set_var_count-6.ensures.raised;
      decidable = raised-same (view x) (after g (goal.at.returns-clause-added g c).In_ok-set_var_count-4) x.vsids c.args.count
          c.in_ok-set_var_count-2.ensures.current c.in_ok-set_var_count-6.ensures.raised;
    }

pub returns-in_err-set_var_count-3-clause-remembered : goal.returns-in_err-set_var_count-3-clause-remembered
returns-in_err-set_var_count-3-clause-remembered g c = grind (arith, common_steps)

pub returns-in_err-set_var_count-4-clause-remembered : goal.returns-in_err-set_var_count-4-clause-remembered
returns-in_err-set_var_count-4-clause-remembered g c = grind (arith, common_steps)

pub set_var_count-requires-5-clause-raised : goal.set_var_count-requires-5-clause-raised
set_var_count-requires-5-clause-raised g c = grind (arith, common_steps)

pub returns-in_err-set_var_count-5-clause-remembered : goal.returns-in_err-set_var_count-5-clause-remembered
returns-in_err-set_var_count-5-clause-remembered g c = grind (arith, common_steps)

pub returns-in_err-set_var_count-6-clause-remembered : goal.returns-in_err-set_var_count-6-clause-remembered
returns-in_err-set_var_count-6-clause-remembered g c = grind (arith, common_steps)

pub returns-in_err-set_var_count-7-clause-remembered : goal.returns-in_err-set_var_count-7-clause-remembered
returns-in_err-set_var_count-7-clause-remembered g c = grind (arith, common_steps)

pub returns-clause-remembered : goal.returns-clause-remembered
returns-clause-remembered g c = grind (arith, common_steps)
