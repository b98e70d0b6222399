use Rattle.std.proofs.Common.{◌/◌, false, inl, inr, get_or, refl, sym, ◌∙◌}
use Rattle.varisat_rules.proofs.StateLemmas.{continues_then}
use Rattle.varisat_rules.proofs.EliminateSteps.{saves_from, small_opposite, pure_opposite, thawed_opposite}
use Rattle.varisat_rules.proofs.EliminateLemmas.{occurs_resolved, resolved_away}
use Rattle.varisat_rules.proofs.eliminate.resolve_away.Goals as goal
use Rattle.varisat_rules.proofs.eliminate.resolve_away.Goals.{else-is_empty-via-then-is_empty+else-is_empty-2, else-is_empty-via-else-is_empty}

pub save_all-requires-clause-saves : goal.save_all-requires-clause-saves
save_all-requires-clause-saves g c =
    saves_from c.args.db.now c.add_resolvents.new.db c.args.lit c.args.with.now c.args.against.now c.args.with.now c.args.against.now refl refl
    (c.in_ok-add_resolvents.ensures {u = tt}).adds

pub save_others-requires-clause-small : goal.save_others-requires-clause-small
save_others-requires-clause-small g c =
    small_opposite c.args.lit c.not.result c.args.db.now.var_count c.save_all.new.db.var_count (c.args.lit / 2) c.not.ensures refl c.requires.small
    (sym ((c.in_ok-save_all.ensures {u = tt}).becomes.count ∙ c.add_resolvents.ensures.becomes.continues.count))

pub save_others-requires-clause-thawed : goal.save_others-requires-clause-thawed
save_others-requires-clause-thawed g c =
    thawed_opposite c.args.lit c.not.result c.save_all.new.db.frozen c.args.db.now.frozen (get_or c.args.db.now.frozen (c.args.lit / 2) false) c.not.ensures
    ((c.in_ok-save_all.ensures {u = tt}).becomes.frozen ∙ c.add_resolvents.ensures.becomes.continues.frozen) refl c.requires.thawed

pub save_others-requires-clause-pure : goal.save_others-requires-clause-pure
save_others-requires-clause-pure g c =
    pure_opposite c.save_all.new.db c.args.lit c.not.result c.not.ensures (c.in_ok-save_all.ensures {u = tt}).pure

pub save_others-requires-clause-occurs : goal.save_others-requires-clause-occurs
save_others-requires-clause-occurs g c =
    occurs_resolved c.args.db.now c.save_all.new.db c.args.lit c.not.result c.args.with.now c.args.against.now c.not.ensures c.requires.with
    (c.in_ok-save_all.ensures {u = tt}).rest (continues_then c.args.db.now c.add_resolvents.new.db c.save_all.new.db
    c.add_resolvents.ensures.becomes.continues (c.in_ok-save_all.ensures {u = tt}).becomes)
    (elim c.else-is_empty.branch [
      | else-is_empty-via-then-is_empty+else-is_empty-2 w ↦ inr (w.if-is_empty-2.ensures {u = tt})
      | else-is_empty-via-else-is_empty w ↦ inl (w.if-is_empty.ensures {u = tt})
    ])

pub returns : goal.returns
returns g c =
    let saves = c.in_ok-save_all.ensures {u = tt} in
    let drops = c.in_ok-save_others.ensures {u = tt} in
    resolved_away c.args.db.now c.add_resolvents.new.db c.save_all.new.db c.save_others.new.db c.args.lit c.not.result c.not.ensures
    c.add_resolvents.ensures.becomes saves.becomes saves.led drops.becomes drops.led drops.gone
