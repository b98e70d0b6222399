use Rattle.std.proofs.Common.{ap}
use Rattle.varisat_formula.specs.promises.Streams.{CutText}
use Rattle.varisat_formula.proofs.CutTexts.{given_more, left_less, at_end}
use Rattle.varisat_formula.proofs.io.cut.CutSourceByteSource.fill.Goals as goal

pub returns-clause-bytes : goal.returns-clause-bytes
returns-clause-bytes c = rw (← c.self.view_is, ap (λ (s : CutText). s.text) c.give.ensures.moves) (
  left_less _ _ _ _ _ c.give.ensures.place c.give.ensures.bytes,
  λ z h. at_end _ _ _ _ _ _ _ c.give.ensures.place c.give.ensures.count z h,
)

pub returns-clause-gives : goal.returns-clause-gives
returns-clause-gives c = rw (← c.self.view_is, ap (λ (s : CutText). s.text) c.give.ensures.moves) (
    given_more _ _ _ _ _ c.give.ensures.place c.give.ensures.bytes)
