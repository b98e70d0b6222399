use Rattle.std.proofs.lemmas.Grind.{common_steps}
use Rattle.std.proofs.Common.{◌++◌, [], ◌∷◌, take, set, true, sym, ap, ◌∙◌, subst, arith}
use Rattle.std.proofs.lemmas.List.{take_more}
use Rattle.varisat_prop.proofs.views.ReadElements.{item-∈}
use Rattle.varisat_search.specs.Forgotten.{FlagsAlso}
use Rattle.varisat_search.proofs.simplifying.MentionedFlags.{clause-more}
use Rattle.varisat_search.proofs.forgetting.flag_clause.Goals as goal

pub bounds-flags-index : goal.bounds-flags-index
bounds-flags-index c =
    let h = c.requires c.lit-item.result (item-∈ c.args.lits.now c.loop-lit.lit-index c.lit-item.result c.loop-lit-test.true c.lit-item.is) in
    let n = c.loop-lit.invariant.count in
    omega (arith, h, n, c.index.ensures.index)

pub loop-lit-preserved : goal.loop-lit-preserved
loop-lit-preserved c =
    let ls = c.args.lits.now in
    let l = c.lit-item.result in
    let k = c.loop-lit.lit-index in
    let h = c.requires l (item-∈ ls k l c.loop-lit-test.true c.lit-item.is) in
    let n = c.loop-lit.invariant.count in
    let more = take_more ls k l c.loop-lit-test.true ∙ ap (λ x. take k ls ++ x ∷ []) (sym c.lit-item.is) in
    subst (λ ks. FlagsAlso (ks ∷ []) c.args.flags.now (set c.loop-lit.flags c.index.result true)) (sym more)
    (clause-more (take k ls) l c.index.result c.args.flags.now c.loop-lit.flags c.index.ensures.index
    (omega (arith, h, n, c.index.ensures.index)) c.loop-lit.invariant)

pub returns : goal.returns
returns c = grind (arith, common_steps)
