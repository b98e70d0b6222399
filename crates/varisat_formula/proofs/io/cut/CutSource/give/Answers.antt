use Rattle.std.proofs.Common.{◌≤◌, length, drop, ap, ◌∙◌, arith}
use Rattle.varisat_formula.proofs.CutTexts.{copied_front, left_behind}
use Rattle.varisat_formula.proofs.io.cut.CutSource.give.Goals as goal

pub returns-then-count-gt0-clause-bytes : goal.returns-then-count-gt0-clause-bytes
returns-then-count-gt0-clause-bytes c =
    let text = c.self.inside.text.now in
    let rest = c.split_at.result.1.now in
    let within : c.min-count.result ≤ length rest = omega (arith, c.min-count.ensures, c.min.ensures) in
    rw (← c.self.view_is) (copied_front c.min-count.result c.copy_from_slice.new.self rest _ _
    (c.split_at.ensures.back ∙ ap (λ k. drop k text) c.min-start.ensures ∙ left_behind c.self.inside.place text)
    (c.copy_from_slice.ensures.after ∙ c.split_at-2.ensures.front) within)
