use Rattle.std.proofs.Common.{sym, ap, ◌∙◌, subst}
use Rattle.varisat_rules.specs.inside.Resolving.{LeavesOut}
use Rattle.varisat_database.proofs.ListLemmas.{item_at}
use Rattle.varisat_rules.proofs.ResolveLemmas.{resolves_none, resolves_passed, resolves_same, resolves_added, resolves_all, clash_at}
use Rattle.varisat_rules.proofs.resolve.resolve.Goals as goal
use Rattle.varisat_rules.proofs.resolve.resolve.Goals.{then-code+in-Same, then-code+in-Absent+in_ok-push-in-Absent, else-code}

pub loop-one-init : goal.loop-one-init
loop-one-init g c =
    resolves_none c.args.clause.now c.args.other.now c.args.lit c.without.new.out.items
    (subst (λ l. LeavesOut c.args.other.now l c.without.new.out.items) c.not.ensures (c.in_ok-without.ensures {u = tt}))

pub returns-in-Opposite : goal.returns-in-Opposite
returns-in-Opposite g c =
    clash_at c.args.clause.now c.args.other.now c.args.lit c.loop-one.one-index c.one-item.result c.loop-one-test.true
    (item_at c.args.clause.now c.loop-one.one-index c.one-item.result c.loop-one-test.true c.one-item.is)
    (λ q. c.if-code.true (c.code.ensures.code ∙ q ∙ sym c.code-in-loop-one.ensures.code)) (c.in-Opposite.ensures {u = tt})

pub loop-one-preserved : goal.loop-one-preserved
loop-one-preserved g c =
    let at = item_at c.args.clause.now c.loop-one.one-index c.one-item.result c.loop-one-test.true c.one-item.is in
    elim c.if-code.branch [
      | then-code+in-Same w ↦ resolves_same c.args.clause.now c.args.other.now c.args.lit c.loop-one.out.items c.if-code.out.items c.loop-one.one-index
          c.one-item.result at (w.in-Same.ensures {u = tt}) (ap (λ v. v.items) w.out-is) c.loop-one.invariant
      | then-code+in-Absent+in_ok-push-in-Absent w ↦ resolves_added c.args.clause.now c.args.other.now c.args.lit c.loop-one.out.items c.if-code.out.items
          c.loop-one.one-index c.one-item.result c.loop-one-test.true at (λ q. w.if-code.true (c.code.ensures.code ∙ q ∙ sym c.code-in-loop-one.ensures.code))
          (ap (λ v. v.items) w.out-is ∙ w.in_ok-push-in-Absent.ensures.items) c.loop-one.invariant
      | else-code w ↦ resolves_passed c.args.clause.now c.args.other.now c.args.lit c.loop-one.out.items c.if-code.out.items c.loop-one.one-index
          c.one-item.result at (sym c.code.ensures.code ∙ w.if-code.false ∙ c.code-in-loop-one.ensures.code) (ap (λ v. v.items) w.out-is) c.loop-one.invariant
    ]

pub returns : goal.returns
returns g c = resolves_all c.args.clause.now c.args.other.now c.args.lit c.loop-one.out.items c.loop-one.one-index c.loop-one-test.false c.loop-one.invariant
