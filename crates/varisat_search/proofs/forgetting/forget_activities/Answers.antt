use Rattle.std.proofs.Common.{◌≡◌, Bool, false, List, length, set, take, take_all, ◌∙◌, ap, arith, length-set}
use Rattle.varisat_vsids.specs.Activities.{Activities, with_available}
use Rattle.varisat_prop.proofs.views.Leaving.{cleared-length}
use Rattle.varisat_search.specs.Forgotten.{forgotten_activities}
use Rattle.varisat_search.proofs.variables.ForgottenValues.{activities-none, activities-on, activities-off}
use Rattle.varisat_search.proofs.forgetting.forget_activities.Goals as goal

-- as many activities as before
activities-many : (a b : Activities) (flags : List Bool) → b ≡ forgotten_activities flags a → length b.activity ≡ length a.activity
activities-many a b flags e = ap (λ (x : Activities). length x.activity) e ∙ cleared-length flags 0 a.activity

pub loop-index-init : goal.loop-index-init
loop-index-init g c = activities-none c.args.vsids.now c.args.gone.now

pub loop-index-preserved-then-not-is_gone : goal.loop-index-preserved-then-not-is_gone
loop-index-preserved-then-not-is_gone g c = activities-off c.args.vsids.now c.loop-index.vsids c.args.gone.now c.loop-index.index
    c.if-not-is_gone.true c.loop-index.invariant

pub loop-index-preserved : goal.loop-index-preserved
loop-index-preserved g c =
    c.make_unavailable.ensures ∙ ap (λ (a : Activities). with_available c.from_index-var.result false a) c.reset.ensures
    ∙ ap (λ v. record c.loop-index.vsids { activity = set c.loop-index.vsids.activity v 0; available = set c.loop-index.vsids.available v false })
    c.from_index-var.ensures
    ∙ activities-on c.args.vsids.now c.loop-index.vsids c.args.gone.now c.loop-index.index c.if-not-is_gone.false c.loop-index.invariant

pub returns : goal.returns
returns g c = c.loop-index.invariant ∙ ap (λ (xs : List Bool). forgotten_activities xs c.args.vsids.now)
    (take_all c.loop-index.index c.args.gone.now (omega (arith, c.loop-index-test.false)))

pub reset-requires : goal.reset-requires
reset-requires g c =
    let n = activities-many c.args.vsids.now c.loop-index.vsids (take c.loop-index.index c.args.gone.now) c.loop-index.invariant in
    omega (arith, n, c.loop-index-test.true, c.requires.count, c.from_index-var.ensures)

pub make_unavailable-requires : goal.make_unavailable-requires
make_unavailable-requires g c =
    let n = activities-many c.args.vsids.now c.loop-index.vsids (take c.loop-index.index c.args.gone.now) c.loop-index.invariant in
    let m = ap (λ (a : Activities). length a.activity) c.reset.ensures in
    let l = length-set c.loop-index.vsids.activity c.from_index-var.result 0 in
    omega (arith, n, m, l, c.loop-index-test.true, c.requires.count, c.from_index-var.ensures)
