use Rattle.std.proofs.Common.{◌≡◌, ◌/◌, ◌<◌, length, get_or, sym, ap, ◌∙◌, arith}
use Rattle.varisat_database.specs.Names.{short_of}
use Rattle.varisat_database.proofs.ListLemmas.{item_at}
use Rattle.varisat_rules.proofs.ResolveLemmas.{found_same, found_opposite}
use Rattle.varisat_rules.proofs.NotingLemmas.{absent_other}
use Rattle.varisat_rules.proofs.positions.sign_noted.Goals as goal

pub returns-then-index-short : goal.returns-then-index-short
returns-then-index-short g c =
    let s : c.index-short.result ≡ short_of c.args.names.now c.args.lit / 2 = c.index-short.ensures.index ∙ ap (λ x. x / 2) c.of.ensures in
    let a = c.if-short-positions.false in
    let b = c.if-position-clause.false in
    absent_other c.args.names.now c.args.positions.now c.args.clause.now c.args.lit c.position_at-position.result c.index-clause-position.result c.requires
    (omega (arith, a, s)) (c.position_at-position.ensures ∙ ap (λ i. get_or c.args.positions.now i 0) s)
    (item_at c.args.clause.now c.position_at-position.result c.index-clause-position.result (omega (arith, b)) c.index-clause-position.is)
    (λ q. c.if-index-short.true (c.index.ensures.index ∙ ap (λ x. x / 2) c.of-2.ensures ∙ q ∙ sym s))

pub returns-then-code : goal.returns-then-code
returns-then-code g c =
    let b = c.if-position-clause.false in
    let h : c.position_at-position.result < length c.args.clause.now = omega (arith, b) in
    found_same c.args.clause.now c.position_at-position.result c.args.lit c.index-clause-position.result h
    (item_at c.args.clause.now c.position_at-position.result c.index-clause-position.result h c.index-clause-position.is)
    (sym c.code.ensures.code ∙ c.if-code.true ∙ c.code-2.ensures.code)

pub returns : goal.returns
returns g c =
    let b = c.if-position-clause.false in
    let h : c.position_at-position.result < length c.args.clause.now = omega (arith, b) in
    found_opposite c.args.clause.now c.position_at-position.result c.args.lit c.index-clause-position.result h
    (item_at c.args.clause.now c.position_at-position.result c.index-clause-position.result h c.index-clause-position.is)
    (sym c.index-2.ensures.index ∙ c.if-index.false ∙ c.index-3.ensures.index)
    (λ q. c.if-code.false (c.code.ensures.code ∙ q ∙ sym c.code-2.ensures.code))
