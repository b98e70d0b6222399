use Rattle.std.proofs.Common.{◌≡◌, ◌<◌, ◌++◌, [], ◌∷◌, length, ap, sym, ◌∙◌, subst, arith, length-set}
use Rattle.varisat_prop.specs.Watches.{Watches, watches_of, literal_in}
use Rattle.varisat_prop.proofs.views.ReadElements.{element, item-∈}
use Rattle.varisat_prop.proofs.watching.WatchKept.{watch-two, watch-whole, watch-off}
use Rattle.varisat_prop.proofs.prop.watch.Watchlists.watch_clause.Goals as goal

pub returns-then-not-enabled : goal.returns-then-not-enabled
returns-then-not-enabled g c = watch-off c.args.self.now c.args.cref c.args.lits.now (sym c.enabled.ensures ∙ c.if-not-enabled.true)

pub add_watch-requires : goal.add_watch-requires
add_watch-requires g c =
    let h = c.requires.listed c.index-lits-0.result (item-∈ c.args.lits.now 0 c.index-lits-0.result (omega (arith, c.requires.several)) c.index-lits-0.is) in
    subst (λ x. x < length c.args.self.now.lists) (sym c.not.ensures) h

pub add_watch-requires-2 : goal.add_watch-requires-2
add_watch-requires-2 g c =
    let W = c.args.self.now in
    let first = c.requires.listed c.index-lits-0.result
    (item-∈ c.args.lits.now 0 c.index-lits-0.result (omega (arith, c.requires.several)) c.index-lits-0.is) in
    let h = c.requires.listed c.index-lits-1.result (item-∈ c.args.lits.now 1 c.index-lits-1.result (omega (arith, c.requires.several)) c.index-lits-1.is) in
    let n = ap (λ (x : Watches). length x.lists) c.in_ok-add_watch.ensures in
    let m = length-set W.lists c.not.result (watches_of W c.not.result ++ record { cref = c.args.cref; blocking = c.index-lits-1.result } ∷ []) in
    let e = c.not-2.ensures in
    let k : c.not-2.result < length W.lists = subst (λ x. x < length W.lists) (sym e) h in
    omega (arith, k, n, m)

pub returns : goal.returns
returns g c =
    let W = c.args.self.now in
    let lits = c.args.lits.now in
    let first : c.index-lits-0.result ≡ literal_in lits 0 = element lits 0 c.index-lits-0.result (omega (arith, c.requires.several)) c.index-lits-0.is in
    let second : c.index-lits-1.result ≡ literal_in lits 1 = element lits 1 c.index-lits-1.result (omega (arith, c.requires.several)) c.index-lits-1.is in
    let h = c.requires.listed c.index-lits-0.result (item-∈ lits 0 c.index-lits-0.result (omega (arith, c.requires.several)) c.index-lits-0.is) in
    let k = c.requires.listed c.index-lits-1.result (item-∈ lits 1 c.index-lits-1.result (omega (arith, c.requires.several)) c.index-lits-1.is) in
    watch-whole W c.add_watch-2.new.self c.args.cref c.index-lits-0.result c.index-lits-1.result lits c.requires.several first second
    (watch-two W c.add_watch.new.self c.add_watch-2.new.self c.args.cref c.index-lits-0.result c.index-lits-1.result c.not.result c.not-2.result
    (sym c.enabled.ensures ∙ c.if-not-enabled.false) c.not.ensures c.not-2.ensures (subst (λ x. x < length W.lists) (sym c.not.ensures) h)
    (subst (λ x. x < length W.lists) (sym c.not-2.ensures) k) c.in_ok-add_watch.ensures c.in_ok-add_watch-2.ensures)
