use Rattle.std.proofs.Common.{List, sym, ap, ◌∙◌, slice_set}
use Rattle.varisat_theory.specs.promises.Literals.{Literal}
use Rattle.varisat_prop.proofs.pairs.SimplifiedPairs.{list-left}
use Rattle.varisat_prop.proofs.binary.BinaryClauses.simplify_list.Goals as goal

pub returns-then-has_no_value : goal.returns-then-has_no_value
returns-then-has_no_value g c =
    let values = c.args.values.now in
    ap (λ (ms : List Literal). slice_set c.args.self.now c.args.lit ms)
    (list-left values c.args.lit _ _ _ (sym c.has_no_value.ensures ∙ c.if-has_no_value.true) c.implied_mut-implied.ensures.value c.keep_unassigned.ensures)
