use Rattle.std.proofs.Common.{◌∙◌, arith, take_all, subst}
use Rattle.std.proofs.lemmas.List.{get_or_read}
use Rattle.varisat_rat.specs.promises.Resolving.{AreNoted}
use Rattle.varisat_rat.proofs.FirstPlaces.{lowered_none, lowered_on, noted_far, noted_more}
use Rattle.varisat_rat.proofs.firsts.note_all.Goals as goal

pub loop-l-init : goal.loop-l-init
loop-l-init g c = record { lowered = lowered_none c.args.firsts.now.items; noted = λ l m. absurd m }

pub loop-l-preserved-then-code-ge-PLACE_LIMIT : goal.loop-l-preserved-then-code-ge-PLACE_LIMIT
loop-l-preserved-then-code-ge-PLACE_LIMIT g c =
    let e = c.code-code.ensures.code ∙ get_or_read c.args.literals.now c.loop-l.l-index c.l-item.result c.loop-l-test.true c.l-item.is 0 in
    record {
      lowered = c.loop-l.invariant.lowered;
      noted = noted_far c.args.literals.now c.loop-l.firsts.items c.loop-l.l-index c.args.place
          (omega (arith, e, c.if-code-ge-PLACE_LIMIT.true)) c.loop-l.invariant.noted;
    }

pub loop-l-preserved : goal.loop-l-preserved
loop-l-preserved g c =
    let e = c.code-code.ensures.code ∙ get_or_read c.args.literals.now c.loop-l.l-index c.l-item.result c.loop-l-test.true c.l-item.is 0 in
    record {
      lowered = lowered_on c.args.firsts.now.items c.loop-l.firsts.items c.lower.new.firsts.items c.loop-l.invariant.lowered c.lower.ensures.lowered;
      noted = noted_more c.args.literals.now c.loop-l.firsts.items c.lower.new.firsts.items c.loop-l.l-index c.code-code.result c.args.place e
          c.lower.ensures.lowered c.in_ok-lower.ensures.noted c.loop-l.invariant.noted;
    }

pub returns-in_err-lower-clause-lowered : goal.returns-in_err-lower-clause-lowered
returns-in_err-lower-clause-lowered g c =
    lowered_on c.args.firsts.now.items c.loop-l.firsts.items c.lower.new.firsts.items c.loop-l.invariant.lowered c.lower.ensures.lowered

pub returns-clause-noted : goal.returns-clause-noted
returns-clause-noted g c =
    subst (λ x. AreNoted x c.args.place c.loop-l.firsts.items) (take_all c.loop-l.l-index c.args.literals.now c.loop-l-test.false) c.loop-l.invariant.noted
