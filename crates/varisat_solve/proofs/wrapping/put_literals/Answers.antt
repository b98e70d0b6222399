-- Each number stands behind those before it, and each call that fails took a beginning of its part.
use Rattle.std.proofs.Common.{◌≡◌, ◌++◌, ◌+◌, ap, ◌∙◌, append_assoc, codes, drop, length, sym, rules}
use Rattle.varisat_literals.specs.promises.Numbers.{literal_text}
use Rattle.varisat_formula.proofs.TargetParts.{put_part, puts_behind}
use Rattle.varisat_proof.proofs.PrintedTexts.{failed-part}
use Rattle.varisat_solve.specs.promises.Wrapping.{line_room, placed, room_behind, wrapped_text}
use Rattle.varisat_solve.proofs.WrappedTexts.{one-more, all-put}
use Rattle.varisat_solve.proofs.wrapping.put_literals.Goals as goal

pub returns-in_err-put_number : goal.returns-in_err-put_number
returns-in_err-put_number g c =
    let ls = c.args.literals.now in
    let i = c.loop-literal.literal-index in
    let l = c.literal-item.result in
    let room = c.loop-literal.room in
    let whole = wrapped_text line_room ls in
    let text : c.as_bytes-number.result.now ≡ literal_text l = search rules in
    let (front, bytes, e) = c.loop-literal.invariant.put in
    let more = wrapped_text (room_behind room (length (literal_text l))) (drop (i + 1) ls) in
    failed-part (g.T.ProofTarget.taken c.args.out.now) _ _ c.from_residual.result front (placed room c.as_bytes-number.result.now) more whole
    c.from_residual.ensures.0 bytes c.loop-literal.invariant.quiet
    (ap (λ xs. front ++ (placed room xs ++ more)) text ∙ sym (append_assoc front (placed room (literal_text l)) more)
    ∙ one-more ls i l room front whole c.loop-literal-test.true c.literal-item.is e)
    c.in_err-put_number.ensures.0 c.in_err-put_number.ensures.1

pub loop-literal-preserved : goal.loop-literal-preserved
loop-literal-preserved g c =
    let ls = c.args.literals.now in
    let i = c.loop-literal.literal-index in
    let l = c.literal-item.result in
    let room = c.loop-literal.room in
    let whole = wrapped_text line_room ls in
    let text : c.as_bytes-number.result.now ≡ literal_text l = search rules in
    let left : c.room_behind-room.result ≡ room_behind room (length (literal_text l)) =
    c.room_behind-room.ensures.exact ∙ ap (λ xs. room_behind room (length xs)) text in
    let (front, bytes, e) = c.loop-literal.invariant.put in
    let put = c.in_ok-put_number.ensures {u = tt} in
    record {
      room = c.room_behind-room.ensures.within;
      put = (
        front ++ placed room (literal_text l),
        put_part _ _ _ front (placed room (literal_text l)) bytes (put.0 ∙ ap (λ xs. (g.T.ProofTarget.taken c.loop-literal.out).bytes ++ placed room xs) text),
        ap (λ n. (front ++ placed room (literal_text l)) ++ wrapped_text n (drop (i + 1) ls)) left
            ∙ one-more ls i l room front whole c.loop-literal-test.true c.literal-item.is e,
      );
      quiet = put.1 ∙ c.loop-literal.invariant.quiet;
    }

pub returns : goal.returns
returns g c =
    let ls = c.args.literals.now in
    let (front, bytes, e) = c.loop-literal.invariant.put in
    puts_behind (g.T.ProofTarget.taken c.args.out.now) _ _ c.put_number-2.result front (placed c.loop-literal.room (codes "0")) (wrapped_text line_room ls)
    bytes c.loop-literal.invariant.quiet
    (all-put ls c.loop-literal.literal-index c.loop-literal.room front (wrapped_text line_room ls) c.loop-literal-test.false e)
    c.put_number-2.ensures
