use Rattle.std.proofs.Common.{refl, sym, ap, ◌∙◌, inr, arith}
use Rattle.varisat_formula.specs.inside.Machine.{a_number}
use Rattle.varisat_formula.specs.promises.Rest.{Progress}
use Rattle.varisat_formula.proofs.AllowedLiterals.{reads_number}
use Rattle.varisat_formula.proofs.TokenRuns.{literal_ends}
use Rattle.varisat_formula.proofs.dimacs.parser.DimacsParser.read_literals.Goals as goal

pub literals-preserved : goal.literals-preserved
literals-preserved g c =
    let i = c.literals.self-inside in
    let t = c.in-Some.token in
    let s : Progress = record { line = i.line; place = i.place; over = i.over; reading = i.reader } in
    let now : Progress = record { line = i.line; place = i.place; over = i.over; reading = c.literal_with_room.new.self } in
    let kept = c.if-not-literal_with_room.ensures.taken refl i.line ∙ sym (reads_number i.reader i.line t.number t.minus c.literals.invariant.none) in
    record {
      within = omega (arith, c.in-Some.ensures.within.1);
      so_far = inr (
        omega arith,
        literal_ends c.args.self.now s now (a_number t.minus t.number) c.args.bytes.now c.literals.count t.end
            (c.is_between.ensures c.if-not-is_between.false) c.literals.invariant.open_still c.literals.invariant.so_far c.in-Some.ensures.within.0
            c.in-Some.ensures.within.1 c.in-Some.ensures.first c.in-Some.ensures.word c.in-Some.ensures.space (ap (λ r. record s { reading = r }) kept),
      );
      open_still = c.literals.invariant.open_still;
      none = c.if-not-literal_with_room.ensures.fine ∙ c.literals.invariant.none;
      allows = c.if-not-literal_with_room.ensures.allows;
    }
