use Rattle.std.proofs.Common.{◌<◌, ◌+◌, nat_eq, [], length, get_or, subst, sym, ap, ◌∙◌, arith}
use Rattle.varisat_theory.specs.promises.Literals.{variable_of}
use Rattle.varisat_search.proofs.simplifying.MentionedFlags.{ImplyingBelow, is-empty, is-not-empty, below-empty, below-more, below-all}
use Rattle.varisat_search.proofs.forgetting.flag_implying.Goals.{then-not-is_empty, else-not-is_empty}
use Rattle.varisat_search.proofs.forgetting.flag_implying.Goals as goal

pub loop-code-preserved : goal.loop-code-preserved
loop-code-preserved g c =
    let B = c.args.binary_clauses.now in
    let k = c.loop-code.code in
    let old = c.args.flags.now in
    let i = c.loop-code.invariant in
    let implied = ap (λ ms. nat_eq (length ms) 0) (c.implied.ensures ∙ ap (λ l. get_or B l []) c.from_code-lit.ensures) in
    elim c.if-not-is_empty.branch [
      | then-not-is_empty w ↦
          let e = sym implied ∙ sym c.is_empty.ensures ∙ w.if-not-is_empty.true in
          let n = i.count in
          let below = c.requires.known in
          let v = w.index.ensures.index in
          let m = c.from_code-lit.ensures in
          let h : k < length B = omega (arith, c.loop-code-test.true) in
          let inside : w.index.result < length c.loop-code.flags = omega (arith, n, below, v, m, h) in
          subst (ImplyingBelow (k + 1) B old) (sym w.flags-is)
          (below-more k w.index.result B old c.loop-code.flags (is-not-empty (get_or B k []) e)
          (w.index.ensures.index ∙ ap variable_of c.from_code-lit.ensures) inside i)
      | else-not-is_empty w ↦
          let e = sym implied ∙ sym c.is_empty.ensures ∙ w.if-not-is_empty.false in
          subst (ImplyingBelow (k + 1) B old) (sym w.flags-is) (below-empty k B old c.loop-code.flags (is-empty (get_or B k []) e) i)
    ]

pub returns : goal.returns
returns g c = below-all c.loop-code.code c.args.binary_clauses.now c.args.flags.now c.loop-code.flags
    (omega (arith, c.loop-code-test.false)) c.loop-code.invariant
