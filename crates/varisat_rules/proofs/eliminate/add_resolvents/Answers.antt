use Rattle.std.proofs.Common.{get_or, refl, ◌∙◌}
use Rattle.varisat_rules.proofs.EliminateLemmas.{adds_first, adds_row}
use Rattle.varisat_rules.proofs.EliminateSteps.{adds_by_push, adds_by_skip, adds_all, matched_true, matched_false}
use Rattle.varisat_rules.proofs.eliminate.add_resolvents.Goals as goal
use Rattle.varisat_rules.proofs.eliminate.add_resolvents.Goals.{then-branch+in_ok-push, else-branch}

pub rows-init : goal.rows-init
rows-init g c = adds_first c.args.db.now c.args.lit c.args.with.now c.args.against.now c.requires.with c.requires.against

pub pairs-preserved : goal.pairs-preserved
pairs-preserved g c =
    elim c.if-branch.branch [
      | then-branch+in_ok-push w ↦ adds_by_push c.args.db.now c.pairs.db c.if-branch.db c.args.lit c.args.with.now c.args.against.now c.rows.one-index
          c.pairs.other-index (get_or c.args.with.now c.rows.one-index 0) (get_or c.args.against.now c.pairs.other-index 0) c.clause.result.now
          c.clause-in-pairs.result.now c.resolve.new.out.items w.deref.result.now refl refl c.clause.ensures c.clause-in-pairs.ensures
          (matched_true _ _ c.in_ok-resolve.field-0 w.if-branch.true (c.in_ok-resolve.ensures {u = tt})) w.deref.ensures.value
          (w.db-is ∙ (w.in_ok-push.ensures {u = tt}).ok) c.rows-test.true c.pairs-test.true c.pairs.invariant
      | else-branch w ↦ adds_by_skip c.args.db.now c.pairs.db c.if-branch.db c.args.lit c.args.with.now c.args.against.now c.rows.one-index
          c.pairs.other-index (get_or c.args.with.now c.rows.one-index 0) (get_or c.args.against.now c.pairs.other-index 0) c.clause.result.now
          c.clause-in-pairs.result.now refl refl c.clause.ensures c.clause-in-pairs.ensures
          (matched_false _ _ c.in_ok-resolve.field-0 w.if-branch.false (c.in_ok-resolve.ensures {u = tt})) w.db-is c.pairs.invariant
    ]

pub rows-preserved : goal.rows-preserved
rows-preserved g c =
    adds_row c.args.db.now c.pairs.db c.args.lit c.args.with.now c.args.against.now c.rows.one-index c.pairs.other-index c.pairs-test.false c.pairs.invariant

pub returns-clause-adds : goal.returns-clause-adds
returns-clause-adds g c =
    adds_all c.args.db.now c.rows.db c.args.lit c.args.with.now c.args.against.now c.rows.one-index c.rows-test.false c.rows.auto.one-index-end c.rows.invariant
