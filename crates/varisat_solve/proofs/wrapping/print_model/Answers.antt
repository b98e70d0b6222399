-- The parts stand behind each other, and each call that fails took a beginning of its part.
use Rattle.std.proofs.Common.{refl, ◌∙◌, sym, append_assoc, append-nil, ◌++◌, codes, []}
use Rattle.varisat_formula.proofs.TargetParts.{put_part, puts_behind}
use Rattle.varisat_proof.proofs.PrintedTexts.{failed-part}
use Rattle.varisat_solve.specs.promises.Wrapping.{line_room, wrapped_text, wrapped_model_text}
use Rattle.varisat_solve.proofs.wrapping.print_model.Goals as goal

pub returns-in_err-put : goal.returns-in_err-put
returns-in_err-put g c =
    failed-part (g.T.ProofTarget.taken c.args.out.now) (g.T.ProofTarget.taken c.args.out.now) _ c.from_residual.result [] (codes "s SATISFIABLE\nv")
    (wrapped_text line_room c.args.model.now ++ codes "\n") (wrapped_model_text c.args.model.now) c.from_residual.ensures.0 (sym (append-nil _)) refl refl
    c.in_err-put.ensures.begun c.in_err-put.ensures.fault

pub returns-in_err-put_literals : goal.returns-in_err-put_literals
returns-in_err-put_literals g c =
    failed-part (g.T.ProofTarget.taken c.args.out.now) _ _ c.from_residual-in_err-put_literals.result (codes "s SATISFIABLE\nv")
    (wrapped_text line_room c.args.model.now) (codes "\n") (wrapped_model_text c.args.model.now) c.from_residual-in_err-put_literals.ensures.0
    c.in_ok-put.ensures.whole c.in_ok-put.ensures.quiet refl c.in_err-put_literals.ensures.0 c.in_err-put_literals.ensures.1

pub returns : goal.returns
returns g c =
    let text = wrapped_text line_room c.args.model.now in
    puts_behind (g.T.ProofTarget.taken c.args.out.now) _ _ c.print_text.result (codes "s SATISFIABLE\nv" ++ text) (codes "\n")
    (wrapped_model_text c.args.model.now) (put_part _ _ _ (codes "s SATISFIABLE\nv") text c.in_ok-put.ensures.whole c.in_ok-put_literals.ensures.0)
    (c.in_ok-put_literals.ensures.1 ∙ c.in_ok-put.ensures.quiet) (append_assoc (codes "s SATISFIABLE\nv") text (codes "\n")) c.print_text.ensures
