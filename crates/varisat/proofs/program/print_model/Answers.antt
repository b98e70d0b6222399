-- The parts stand behind each other, and each call that fails took a beginning of its part.
use Rattle.std.proofs.Common.{refl, ◌∙◌, sym, append_assoc, append-nil, ◌++◌, codes, []}
use Rattle.varisat_formula.proofs.TargetParts.{put_part, puts_behind}
use Rattle.varisat_proof.proofs.PrintedTexts.{failed-part}
use Rattle.varisat.specs.promises.Lines.{literals_text}
use Rattle.varisat.specs.promises.Decided.{model_text}
use Rattle.varisat.proofs.program.print_model.Goals as goal

pub returns-in_err-put : goal.returns-in_err-put
returns-in_err-put g c =
    failed-part (g.T.ProofTarget.taken c.args.out.now) (g.T.ProofTarget.taken c.args.out.now) _ c.from_residual.result [] (codes "s SATISFIABLE\nv")
    (literals_text c.args.model.now ++ codes "\n") (model_text c.args.model.now) c.from_residual.ensures.0 (sym (append-nil _)) refl refl c.in_err-put.ensures.begun
    c.in_err-put.ensures.fault

pub returns-in_err-put_literals : goal.returns-in_err-put_literals
returns-in_err-put_literals g c =
    failed-part (g.T.ProofTarget.taken c.args.out.now) _ _ c.from_residual-in_err-put_literals.result (codes "s SATISFIABLE\nv")
    (literals_text c.args.model.now) (codes "\n") (model_text c.args.model.now) c.from_residual-in_err-put_literals.ensures.0 c.in_ok-put.ensures.whole
    c.in_ok-put.ensures.quiet refl c.in_err-put_literals.ensures.0 c.in_err-put_literals.ensures.1

pub returns : goal.returns
returns g c =
    let ls = literals_text c.args.model.now in
    puts_behind (g.T.ProofTarget.taken c.args.out.now) _ _ c.print_text.result (codes "s SATISFIABLE\nv" ++ ls) (codes "\n") (model_text c.args.model.now)
    (put_part _ _ _ (codes "s SATISFIABLE\nv") ls c.in_ok-put.ensures.whole c.in_ok-put_literals.ensures.0)
    (c.in_ok-put_literals.ensures.1 ∙ c.in_ok-put.ensures.quiet) (append_assoc (codes "s SATISFIABLE\nv") ls (codes "\n")) c.print_text.ensures
