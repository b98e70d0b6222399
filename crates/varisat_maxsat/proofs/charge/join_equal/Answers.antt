use Rattle.std.proofs.Common.{◌++◌, ap, ◌∙◌, arith}
use Rattle.std.proofs.lemmas.List.{with_items_is}
use Rattle.varisat_maxsat.proofs.Exchanging.{exchanges-ordered}
use Rattle.varisat_maxsat.proofs.charge.join_equal.Goals as goal

pub returns : goal.returns
returns g c =
    exchanges-ordered c.args.charges.now _ c.sort_by_literal.new.charges _ _ _
    (c.deref_mut.ensures.value ∙ c.in_ok-extend_from_slice.ensures.items ∙ ap (λ xs. xs ++ c.args.charges.now) c.new-sorted.ensures.items)
    c.sort_by_literal.ensures
    (c.deref.ensures.value ∙ with_items_is c.extend_from_slice.new.self c.sort_by_literal.new.charges
    (omega (arith, c.sort_by_literal.auto.charges, c.deref_mut.ensures.len)))
    c.in_ok-joined.ensures
