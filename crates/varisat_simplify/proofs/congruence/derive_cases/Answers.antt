use Rattle.varisat_rules.proofs.StateLemmas.{becomes_then}
use Rattle.varisat_simplify.proofs.congruence.derive_cases.Goals as goal

pub returns-then-not-branch-2 : goal.returns-then-not-branch-2
returns-then-not-branch-2 g c =
    becomes_then c.args.db.now c.derive_case.new.db c.derive_case-2.new.db (c.in_ok-derive_case.ensures {u = tt}) (c.in_ok-derive_case-2.ensures {u = tt})

pub returns : goal.returns
returns g c =
    becomes_then c.args.db.now c.derive_case-2.new.db c.derive_case-3.new.db
    (becomes_then c.args.db.now c.derive_case.new.db c.derive_case-2.new.db (c.in_ok-derive_case.ensures {u = tt}) (c.in_ok-derive_case-2.ensures {u = tt}))
    (c.in_ok-is_derived.ensures {u = tt})
