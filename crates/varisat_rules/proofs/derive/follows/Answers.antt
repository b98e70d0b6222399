use Rattle.std.proofs.Common.{get_or, ap, ◌∙◌, ◌++◌}
use Rattle.varisat_theory.specs.promises.Literals.{Clause}
use Rattle.varisat_rules.proofs.DeriveLemmas.{leads_first, leads_same, leads_implied, leads_conflict}
use Rattle.varisat_rules.proofs.derive.follows.Goals as goal
use Rattle.varisat_rules.proofs.derive.follows.Goals.{in-Silent, in-Implies+in_ok-push-in-Implies}

pub loop-place-init : goal.loop-place-init
loop-place-init g c =
    leads_first c.args.db.now c.args.but c.args.clause.now c.extend_from_slice.new.self.items
    (c.in_ok-extend_from_slice.ensures.items ∙ ap (λ (x : Clause). x ++ c.args.clause.now) c.clear.ensures.items)

pub returns-in-Conflict : goal.returns-in-Conflict
returns-in-Conflict g c = λ t.
    leads_conflict c.args.db.now c.args.but c.args.clause.now c.loop-place.falses.items c.deref.result.now
    (get_or c.args.hints.now c.loop-place.place-index 0) c.deref.ensures.value (c.in-Conflict.ensures {u = tt}) c.loop-place.invariant

pub loop-place-preserved : goal.loop-place-preserved
loop-place-preserved g c =
    elim c.match-read_at.branch [
      | in-Silent w ↦ leads_same c.args.db.now c.args.but c.args.clause.now c.loop-place.falses.items c.match-read_at.falses.items
          (ap (λ v. v.items) w.falses-is) c.loop-place.invariant
      | in-Implies+in_ok-push-in-Implies w ↦ leads_implied c.args.db.now c.args.but c.args.clause.now c.loop-place.falses.items
          c.match-read_at.falses.items c.deref.result.now (get_or c.args.hints.now c.loop-place.place-index 0) w.in-Implies.lit w.not.result
          c.deref.ensures.value (w.in-Implies.ensures {u = tt}) w.not.ensures
          (ap (λ v. v.items) w.falses-is ∙ w.in_ok-push-in-Implies.ensures.items) c.loop-place.invariant
    ]
