use Rattle.std.proofs.Common.{ℕ, List, ◌≡◌, ◌+◌, ◌/◌, ◌<◌, ◌^◌, ◌∙◌, ap, arith, get_or, set, length, map, refl, true, false}
use Rattle.std.proofs.lemmas.List.{length-map, with_items_is}
use Rattle.std.specs.Vec.{with_items, with_item}
use Rattle.varisat_vsids.specs.Heaps.{availability}
use Rattle.varisat_vsids.specs.Idle.{AreIdleOutside}
use Rattle.varisat_vsids.proofs.HeapView.{read_at, same_activities, same_heap}
use Rattle.varisat_vsids.proofs.ActivityLimits.{bumped_is, bumped_small, over, raised_below, raised_limits, same_limits, shifted_heap, shifted_limits, under}
use Rattle.varisat_vsids.proofs.IdleVariables.{flag_at, idle_entered, idle_shifted, same_idle}
use Rattle.varisat_vsids.proofs.vsids.Vsids.bump.Goals as goal

pub invariant_of-self : goal.invariant_of-self
invariant_of-self g c =
    let s = c.self.inside in
    let i = c.self.invariant in
    let p = c.enter_risen-self-inside in
    let x : ℕ = c.index.result.now + s.increment in
    let known : c.args.var < length s.activity.items = omega (arith, c.requires, ap (λ a. length a.activity) c.self.view_is) in
    let e = read_at s.activity.items c.index-index.result c.args.var c.index.result.now known c.index-index.ensures.index c.index.ensures in
    let raised : List ℕ = set s.activity.items c.index-index.result x in
    let at_var : raised ≡ set s.activity.items c.args.var x = ap (λ (v : ℕ). set s.activity.items v x) c.index-index.ensures.index in
    let shifts : (with_items (with_item s.activity c.index-index.result x) c.rescale-self-inside.new.activity).items ≡ map (λ x. x / 2 ^ 40) raised =
    with_items_is (with_item s.activity c.index-index.result x) c.rescale-self-inside.new.activity
    (omega (arith, c.rescale-self-inside.auto.activity, c.deref_mut-then-value-ge-ACTIVITY_LIMIT.ensures.len))
    ∙ c.rescale-self-inside.ensures.activity ∙ ap (map (λ (y : ℕ). y / 2 ^ 40)) c.deref_mut-then-value-ge-ACTIVITY_LIMIT.ensures.value in
    let places = with_items_is s.position p.new.position (omega (arith, p.auto.position, c.deref_mut-2.ensures.len)) in
    let below : (v : ℕ) → get_or raised v 0 < 2 ^ 61 = rw c.index-index.ensures.index
    (raised_below s.activity.items c.args.var s.increment s.decay x i.1 known
    (bumped_small s.activity.items c.args.var s.increment s.decay c.index.result.now i.1 e)) in
    let idle : AreIdleOutside (set s.activity.items c.args.var x) (availability p.result p.new.position) s.available.items s.blocks.items s.cursor =
    idle_entered s.activity.items (availability s.len s.position.items) (availability p.result p.new.position) s.available.items s.blocks.items
    s.cursor c.args.var x c.index-is_available.result.now i.2 (rw length-map (omega (arith, known, i.0.known, i.0.linked.count)))
    (omega (arith, known, i.2.count))
    (flag_at s.available.items c.index-index.result c.args.var c.index-is_available.result.now (omega (arith, known, i.2.count))
    c.index-index.ensures.index c.index-is_available.ensures)
    (λ t. p.ensures.enters t ∙ ap (λ (q : List ℕ). set (availability s.len q) c.args.var true) c.deref_mut-2.ensures.value)
    (λ t. p.ensures.stays t ∙ ap (availability s.len) c.deref_mut-2.ensures.value) in (
      same_heap (map (λ x. x / 2 ^ 40) raised) _ p.new.heap _ p.new.position _ p.result
          (shifted_heap raised p.new.heap p.new.position p.result (rw c.deref.ensures.value at p.ensures.heap))
          shifts
          (with_items_is s.heap p.new.heap (omega (arith, p.auto.heap, c.deref_mut.ensures.len)))
          places,
      same_limits (map (λ x. x / 2 ^ 40) raised) _ _ _ s.decay
          (shifted_limits raised s.increment s.decay below (omega (arith, i.1.small)) i.1.slow i.1.fast)
          shifts c.rescale-self-inside.ensures.increment,
      same_idle (map (λ x. x / 2 ^ 40) (set s.activity.items c.args.var x)) _ (availability p.result p.new.position) _ s.available.items _
          s.blocks.items _ s.cursor
          (idle_shifted (set s.activity.items c.args.var x) (availability p.result p.new.position) s.available.items s.blocks.items s.cursor idle)
          (shifts ∙ ap (map (λ (y : ℕ). y / 2 ^ 40)) at_var) (ap (availability p.result) places) refl refl,
    )

pub invariant_of-self-else-value-ge-ACTIVITY_LIMIT : goal.invariant_of-self-else-value-ge-ACTIVITY_LIMIT
invariant_of-self-else-value-ge-ACTIVITY_LIMIT g c =
    let s = c.self.inside in
    let i = c.self.invariant in
    let p = c.enter_risen-self-inside in
    let x : ℕ = c.index.result.now + s.increment in
    let known : c.args.var < length s.activity.items = omega (arith, c.requires, ap (λ a. length a.activity) c.self.view_is) in
    let raised : List ℕ = set s.activity.items c.index-index.result x in
    let at_var : raised ≡ set s.activity.items c.args.var x = ap (λ (v : ℕ). set s.activity.items v x) c.index-index.ensures.index in
    let places = with_items_is s.position p.new.position (omega (arith, p.auto.position, c.deref_mut-2.ensures.len)) in
    let idle : AreIdleOutside (set s.activity.items c.args.var x) (availability p.result p.new.position) s.available.items s.blocks.items s.cursor =
    idle_entered s.activity.items (availability s.len s.position.items) (availability p.result p.new.position) s.available.items s.blocks.items
    s.cursor c.args.var x c.index-is_available.result.now i.2 (rw length-map (omega (arith, known, i.0.known, i.0.linked.count)))
    (omega (arith, known, i.2.count))
    (flag_at s.available.items c.index-index.result c.args.var c.index-is_available.result.now (omega (arith, known, i.2.count))
    c.index-index.ensures.index c.index-is_available.ensures)
    (λ t. p.ensures.enters t ∙ ap (λ (q : List ℕ). set (availability s.len q) c.args.var true) c.deref_mut-2.ensures.value)
    (λ t. p.ensures.stays t ∙ ap (availability s.len) c.deref_mut-2.ensures.value) in (
      same_heap raised _ p.new.heap _ p.new.position _ p.result
          (rw c.deref.ensures.value at p.ensures.heap) refl
          (with_items_is s.heap p.new.heap (omega (arith, p.auto.heap, c.deref_mut.ensures.len)))
          places,
      same_limits (set s.activity.items c.args.var x) _ s.increment _ s.decay
          (raised_limits s.activity.items c.args.var s.increment s.decay x i.1 known (omega (arith, c.if-value-ge-ACTIVITY_LIMIT.false))) at_var refl,
      same_idle (set s.activity.items c.args.var x) _ (availability p.result p.new.position) _ s.available.items _ s.blocks.items _ s.cursor
          idle at_var (ap (availability p.result) places) refl refl,
    )

pub returns-then-value-ge-ACTIVITY_LIMIT-clause-bumped : goal.returns-then-value-ge-ACTIVITY_LIMIT-clause-bumped
returns-then-value-ge-ACTIVITY_LIMIT-clause-bumped g c =
    let s = c.self.inside in
    let x : ℕ = c.index.result.now + s.increment in
    let known : c.args.var < length s.activity.items = omega (arith, c.requires, ap (λ a. length a.activity) c.self.view_is) in
    let e = read_at s.activity.items c.index-index.result c.args.var c.index.result.now known c.index-index.ensures.index c.index.ensures in
    let shifts : (with_items (with_item s.activity c.index-index.result x) c.rescale-self-inside.new.activity).items ≡ map (λ x. x / 2 ^ 40)
    (set s.activity.items c.args.var x) =
    with_items_is (with_item s.activity c.index-index.result x) c.rescale-self-inside.new.activity
    (omega (arith, c.rescale-self-inside.auto.activity, c.deref_mut-then-value-ge-ACTIVITY_LIMIT.ensures.len))
    ∙ c.rescale-self-inside.ensures.activity ∙ ap (map (λ (y : ℕ). y / 2 ^ 40))
    (c.deref_mut-then-value-ge-ACTIVITY_LIMIT.ensures.value ∙ ap (λ (v : ℕ). set s.activity.items v x) c.index-index.ensures.index) in
    rw (← c.self.view_is) (same_activities _ _ s.available.items s.available.items _ _ s.decay shifts refl c.rescale-self-inside.ensures.increment
    ∙ bumped_is true s.activity.items s.available.items c.args.var s.increment s.decay c.index.result.now c.self.invariant.1 known e
    (over x c.if-value-ge-ACTIVITY_LIMIT.true))

pub returns-else-value-ge-ACTIVITY_LIMIT-clause-bumped : goal.returns-else-value-ge-ACTIVITY_LIMIT-clause-bumped
returns-else-value-ge-ACTIVITY_LIMIT-clause-bumped g c =
    let s = c.self.inside in
    let x : ℕ = c.index.result.now + s.increment in
    let known : c.args.var < length s.activity.items = omega (arith, c.requires, ap (λ a. length a.activity) c.self.view_is) in
    let e = read_at s.activity.items c.index-index.result c.args.var c.index.result.now known c.index-index.ensures.index c.index.ensures in
    rw (← c.self.view_is) (same_activities _ _ s.available.items s.available.items _ _ s.decay
    (ap (λ (v : ℕ). set s.activity.items v x) c.index-index.ensures.index) refl refl
    ∙ bumped_is false s.activity.items s.available.items c.args.var s.increment s.decay c.index.result.now c.self.invariant.1 known e
    (under x c.if-value-ge-ACTIVITY_LIMIT.false))
