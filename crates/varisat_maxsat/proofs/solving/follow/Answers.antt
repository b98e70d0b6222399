use Rattle.varisat_maxsat.proofs.solving.follow.Goals as goal

pub sums-init : goal.sums-init
sums-init g c = λ p st. st

pub sums-preserved : goal.sums-preserved
sums-preserved g c = λ p st. c.in_ok-add_counter.ensures p (c.sums.invariant p st)

pub rules-init : goal.rules-init
rules-init g c = λ p st. c.sums.invariant p st

pub rules-preserved : goal.rules-preserved
rules-preserved g c = λ p st. c.in_ok-follow.ensures p (c.rules.invariant p st)
