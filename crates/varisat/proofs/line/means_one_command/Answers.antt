-- A text is cut into the words of its command, which say which it is.
use Rattle.varisat.proofs.LineLemmas.{one_command}
use Rattle.varisat.proofs.line.means_one_command.Goals as goal

pub returns : goal.returns
returns c = one_command
