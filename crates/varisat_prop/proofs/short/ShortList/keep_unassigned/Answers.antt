use Rattle.std.proofs.Common.{◌≡◌, ◌<◌, ◌≤◌, ◌∙◌, true, rules, sym, ap, arith}
use Rattle.std.proofs.lemmas.Fn.{filter_same}
use Rattle.std.proofs.lemmas.Grind.{common_steps}
use Rattle.std.specs.List.{filter}
use Rattle.varisat_prop.specs.Simplified.{is_unassigned, are_unassigned}
use Rattle.varisat_prop.proofs.pairs.ShortLists.{short_few, short_many}
use Rattle.varisat_prop.proofs.pairs.SimplifiedPairs.{filtered-same}
use Rattle.varisat_prop.proofs.short.ShortList.keep_unassigned.Goals as goal

pub returns-then-have_no_value : goal.returns-then-have_no_value
returns-then-have_no_value g c =
    let all : are_unassigned c.args.values.now c.args.self.now ≡ true = ap (are_unassigned c.args.values.now) (sym c.as_slice.ensures)
    ∙ sym c.have_no_value.ensures ∙ c.if-have_no_value.true in
    sym (filtered-same c.args.values.now c.args.self.now all)

pub returns-then-count-le-FEW : goal.returns-then-count-le-FEW
returns-then-count-le-FEW g c =
    let s = c.self.inside in
    let h : s.count ≤ 3 = grind (arith, common_steps) in
    let k : c.compact.result ≤ 3 = grind (arith, common_steps) in
    rw (← c.self.view_is) (short_few 3 c.compact.new.few s.many.items c.compact.result k ∙ c.compact.ensures.kept
    ∙ ap (filter (is_unassigned c.args.values.now)) (sym (short_few 3 s.few s.many.items s.count h)))

pub returns : goal.returns
returns g c =
    let s = c.self.inside in
    let h : 3 < s.count = grind (arith, common_steps) in
    rw (← c.self.view_is) (short_many 3 s.few c.retain.new.self.items s.count h
    ∙ filter_same _ (is_unassigned c.args.values.now) _ (λ x b after called. search rules) _ _ c.retain.ensures.filtered
    ∙ ap (filter (is_unassigned c.args.values.now)) (sym (short_many 3 s.few s.many.items s.count h)))
