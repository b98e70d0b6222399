use Rattle.varisat_rules.proofs.StateLemmas.{becomes_then}
use Rattle.varisat_simplify.proofs.congruence.connect_by_cases.Goals as goal

pub returns-then-not-branch-2 : goal.returns-then-not-branch-2
returns-then-not-branch-2 g c =
    becomes_then c.args.db.now c.split.new.db c.derive_case.new.db (c.in_ok-split.ensures {u = tt}) (c.in_ok-derive_case.ensures {u = tt})

pub returns : goal.returns
returns g c =
    becomes_then c.args.db.now c.derive_case.new.db c.remove_cases.new.db
    (becomes_then c.args.db.now c.split.new.db c.derive_case.new.db (c.in_ok-split.ensures {u = tt}) (c.in_ok-derive_case.ensures {u = tt}))
    (c.in_ok-remove_cases.ensures {u = tt})
