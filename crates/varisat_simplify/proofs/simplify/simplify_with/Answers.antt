use Rattle.varisat_simplify.proofs.simplify.simplify_with.Goals as goal

pub returns-clause-made : goal.returns-clause-made
returns-clause-made g c =
    ((c.in_ok-made.ensures {u = tt}).made c.args.formula c.args.frozen.now c.args.saves_both
    (c.in_ok-complete.ensures {u = tt} c.args.formula c.args.frozen.now c.args.saves_both (c.in_ok-simplification.ensures {u = tt}))).made

pub returns-clause-frozen : goal.returns-clause-frozen
returns-clause-frozen g c =
    ((c.in_ok-made.ensures {u = tt}).made c.args.formula c.args.frozen.now c.args.saves_both
    (c.in_ok-complete.ensures {u = tt} c.args.formula c.args.frozen.now c.args.saves_both (c.in_ok-simplification.ensures {u = tt}))).kept

pub returns-clause-shorter : goal.returns-clause-shorter
returns-clause-shorter g c =
    ((c.in_ok-made.ensures {u = tt}).made c.args.formula c.args.frozen.now c.args.saves_both
    (c.in_ok-complete.ensures {u = tt} c.args.formula c.args.frozen.now c.args.saves_both (c.in_ok-simplification.ensures {u = tt}))).shorter

pub returns-clause-implied : goal.returns-clause-implied
returns-clause-implied g c =
    ((c.in_ok-made.ensures {u = tt}).made c.args.formula c.args.frozen.now c.args.saves_both
    (c.in_ok-complete.ensures {u = tt} c.args.formula c.args.frozen.now c.args.saves_both (c.in_ok-simplification.ensures {u = tt}))).implied
