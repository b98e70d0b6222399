use Rattle.std.proofs.Common.{◌∙◌, sym, ap, Some}
use Rattle.varisat_formula.specs.promises.Rest.{fault_of}
use Rattle.varisat_calls.specs.Callers.{Caller}
use Rattle.varisat_calls.specs.Texts.{HasFault, Refused}
use Rattle.varisat_calls.proofs.Making.{read-behind, text-taken, text-goes-on}
use Rattle.varisat_calls.proofs.caller.Caller.feed.Goals as goal

pub returns-in-Err : goal.returns-in-Err
returns-in-Err g c = (
  c.feed-read.new.self,
  read-behind c.args.piece.now _ _ _ c.take_text-parser.ensures.text c.feed-read.ensures.reads,
  Refused c.in-Err.error c.refuse.ensures.number (text-taken _ _ _ _ _ _ c.take_text-parser.ensures.taken c.in-Err.ensures.added c.refuse.ensures.frame),
)

pub returns-in-Ok : goal.returns-in-Ok
returns-in-Ok g c =
    let on : Caller → Caller = λ x. record x { text = Some c.add_read.new.parser } in (
      c.feed-read.new.self,
      read-behind c.args.piece.now _ _ _ c.take_text-parser.ensures.text c.feed-read.ensures.reads,
      text-goes-on _ _ _ _ _ _ c.take_text-parser.ensures.taken c.in_default.ensures.added (sym c.feed-read.ensures.answer ∙ ap fault_of c.in-Ok.is)
          c.in_default.ensures.taken (ap on c.self.view_is),
    )

pub returns-in-Err-read : goal.returns-in-Err-read
returns-in-Err-read g c = (
  c.feed-read.new.self,
  read-behind c.args.piece.now _ _ _ c.take_text-parser.ensures.text c.feed-read.ensures.reads,
  HasFault c.in-Err-read.fault c.from_text.result (sym c.feed-read.ensures.answer ∙ ap fault_of c.in-Err-read.is) c.from_text.ensures
      c.refuse-in-Err-read.ensures.number
      (text-taken _ _ _ _ _ _ c.take_text-parser.ensures.taken c.in_default.ensures.added c.refuse-in-Err-read.ensures.frame),
)
