-- A clause is refused, or the text has a fault, or none.
use Rattle.std.proofs.Common.{sym, ap, ◌∙◌}
use Rattle.varisat_proof.specs.promises.Calls.{Added}
use Rattle.varisat_proof.proofs.AddedTexts.{joins_in_turn, refused_reading, text_refused}
use Rattle.varisat_proof.proofs.checker.check.Checker.add_dimacs_cnf.Goals as goal

pub returns-in-Ok-None : goal.returns-in-Ok-None
returns-in-Ok-None g c =
    let w = c.in-Ok-None.ensures.taken in
    Added w.reading w.gives (sym w.reported ∙ c.in-Ok-None.field-0-is, joins_in_turn _ _ _ _ w.takes_all)

pub returns-in-Ok-Some : goal.returns-in-Ok-Some
returns-in-Ok-Some g c =
    let w = c.in-Ok-Some.ensures.taken in
    Added w.reading w.gives
    (refused_reading _ _ _ w.reading c.in-Ok-Some.fault _ (joins_in_turn _ _ _ _ w.takes_all) (sym w.reported ∙ c.in-Ok-Some.field-0-is) c.refuse_text.ensures)

pub returns-in-Err : goal.returns-in-Err
returns-in-Err g c =
    text_refused _ _ _ (sym (ap (λ h. h.spent) c.self.view_is) ∙ c.if-self.false) c.in-Err.ensures.refused
