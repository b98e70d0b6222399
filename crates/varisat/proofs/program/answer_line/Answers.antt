-- A command of a line asks for a call that is ready.
use Rattle.std.proofs.Common.{IfSome, subst}
use Rattle.varisat.specs.promises.Lines.{Command, AsksFor, MeansCommand}
use Rattle.varisat.proofs.LineLemmas.{asked-ready}
use Rattle.varisat.proofs.program.answer_line.Goals as goal

pub make_call-requires : goal.make_call-requires
make_call-requires g c =
    let (command, asked, means) =
    subst (λ found. IfSome found (λ call. (command : Command) × AsksFor call command × MeansCommand c.args.text.now command)) c.in-Some.is
    c.in_ok-call.ensures.command in
    asked-ready (λ source. source) c.in-Some.call command asked
