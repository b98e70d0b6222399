use Rattle.std.proofs.Common.{sym, refl, arith}
use Rattle.std.proofs.lemmas.List.{nil_from_length}
use Rattle.std.proofs.lemmas.Bool.{eqb-true}
use Rattle.varisat_maxsat.proofs.Lightening.{core-given-up, core-nothing}
use Rattle.varisat_maxsat.proofs.feeding.give_up_core.Goals as goal

pub returns-then-is_empty : goal.returns-then-is_empty
returns-then-is_empty g c = λ P f.
    core-nothing _ c.in_ok-kept.field-0.kept.items c.in_ok-kept.field-0.failed.items _ P _ c.as_slice.ensures.value
    (nil_from_length c.in_ok-kept.field-0.failed.items (let e = eqb-true _ _ (sym c.if-is_empty.ensures) in let f = c.in_ok-kept.field-0.failed.ok in omega arith))
    c.in_ok-kept.ensures f

pub returns : goal.returns
returns g c = λ P f.
    core-given-up _ _ c.in_ok-kept.field-0.kept.items c.in_ok-kept.field-0.failed.items _ _ _ _ P _ c.as_slice.ensures.value c.deref.ensures.value
    c.in_ok-extend_from_slice.ensures.items refl c.in_ok-kept.ensures f
