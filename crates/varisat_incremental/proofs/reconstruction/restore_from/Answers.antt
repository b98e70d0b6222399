use Rattle.std.proofs.Common.{◌≡◌, ◌≤◌, ◌<◌, true, false, refl, sym, ap, ◌∙◌, subst}
use Rattle.varisat_formula.specs.promises.Formulas.{Formula}
use Rattle.varisat_incremental.proofs.TakingLemmas.{restores-none, restores-kept, restores-one, restores-all}
use Rattle.varisat_incremental.proofs.reconstruction.restore_from.Goals as goal
use Rattle.varisat_incremental.proofs.reconstruction.restore_from.Goals.{then-keeps+then-is_led_by+in_ok-push, else-keeps+in_ok-add_clause}

pub loop-place-init : goal.loop-place-init
loop-place-init g c = record {
  restores = restores-none c.args.stack.now c.args.restored.now.clauses c.args.restored.now.clauses c.args.flags.now.items c.reserve.new.self (c.reserve.ensures ∙ c.new_in-kept.ensures) refl;
  all = λ e. c.reserve.ensures ∙ c.new_in-kept.ensures;
}

pub loop-place-preserved : goal.loop-place-preserved
loop-place-preserved g c =
    let S = c.args.stack.now in
    let h : c.loop-place.place < _ = subst (λ n. c.loop-place.place < n) c.len-place-end.ensures c.loop-place-test.true in
    elim c.if-keeps.branch [
      | then-keeps+then-is_led_by+in_ok-push w ↦ record {
        restores = restores-kept S c.args.restored.now.clauses c.loop-place.kept c.if-keeps.kept c.loop-place.restored.clauses c.if-keeps.restored.clauses
            c.args.flags.now.items c.loop-place.flags.items c.if-keeps.flags.items c.loop-place.place c.clause-clause.result.now h c.clause-clause.ensures
            (w.kept-is ∙ (w.in_ok-push.ensures {u = tt}).ok) (ap (λ (f : Formula). f.clauses) w.restored-is) (ap (λ v. v.items) w.flags-is)
            c.loop-place.invariant.restores;
        all = λ e. absurd (let z : true ≡ false = sym w.if-keeps.true ∙ e in cc);
      }
      | else-keeps+in_ok-add_clause w ↦ record {
        restores = restores-one S c.args.restored.now.clauses c.loop-place.kept c.if-keeps.kept c.loop-place.restored.clauses c.if-keeps.restored.clauses
            c.args.flags.now.items c.loop-place.flags.items w.clear_flags.new.flags.items c.if-keeps.flags.items c.loop-place.place c.clause-clause.result.now h
            c.clause-clause.ensures (ap (λ (f : Formula). f.clauses) (w.restored-is ∙ w.in_ok-add_clause.ensures {u = tt})) w.kept-is
            (ap (λ v. v.items) w.flags-is) w.clear_flags.ensures.fewer w.clear_flags.ensures.clear c.loop-place.invariant.restores;
        all = λ e. w.kept-is ∙ c.loop-place.invariant.all e;
      }
    ]

pub returns-clause-restores : goal.returns-clause-restores
returns-clause-restores g c =
    restores-all c.args.stack.now c.args.restored.now.clauses c.loop-place.kept c.loop-place.restored.clauses c.args.flags.now.items c.loop-place.flags.items c.loop-place.place
    (subst (λ n. n ≤ c.loop-place.place) c.len-place-end.ensures c.loop-place-test.false) c.loop-place.invariant.restores
