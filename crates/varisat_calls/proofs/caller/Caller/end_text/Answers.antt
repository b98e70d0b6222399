use Rattle.std.proofs.Common.{◌∙◌, refl, sym, ap, subst, Ok, Err}
use Rattle.varisat_formula.specs.promises.Rest.{IsEnding, fault_of}
use Rattle.varisat_calls.specs.Texts.{Ended, HasFault, Refused}
use Rattle.varisat_calls.proofs.Making.{text-taken}
use Rattle.varisat_calls.proofs.caller.Caller.end_text.Goals as goal

pub returns-in-Err : goal.returns-in-Err
returns-in-Err g c = record {
  read = c.finish-read.new.self;
  ends = subst (λ p. IsEnding p c.finish-read.new.self) c.take_text-parser.ensures.text c.finish-read.ensures.reads;
  adds = Refused c.in-Err.error (ap Err c.refuse.ensures.number)
      (text-taken _ _ _ _ _ _ c.take_text-parser.ensures.taken c.in-Err.ensures.added c.refuse.ensures.frame);
}

pub returns-in-Ok : goal.returns-in-Ok
returns-in-Ok g c = record {
  read = c.finish-read.new.self;
  ends = subst (λ p. IsEnding p c.finish-read.new.self) c.take_text-parser.ensures.text c.finish-read.ensures.reads;
  adds = Ended (sym c.finish-read.ensures.answer ∙ ap fault_of c.in-Ok.is)
      (ap Ok (c.var_count.ensures ∙ ap (λ p. p.reading.highest) c.in_default.ensures.taken))
      (text-taken _ _ _ _ _ _ c.take_text-parser.ensures.taken c.in_default.ensures.added refl);
}

pub returns : goal.returns
returns g c = record {
  read = c.finish-read.new.self;
  ends = subst (λ p. IsEnding p c.finish-read.new.self) c.take_text-parser.ensures.text c.finish-read.ensures.reads;
  adds = HasFault c.in-Err-read.fault c.from_text.result (sym c.finish-read.ensures.answer ∙ ap fault_of c.in-Err-read.is) c.from_text.ensures
      (ap Err c.refuse-in-Err-read.ensures.number)
      (text-taken _ _ _ _ _ _ c.take_text-parser.ensures.taken c.in_default.ensures.added c.refuse-in-Err-read.ensures.frame);
}
