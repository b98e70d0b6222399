use Rattle.varisat_lines.specs.promises.Lines.{encoding_of}
use Rattle.varisat_lines.proofs.GrammarLaws.{accepted_once, not_both, fault_once, accepted_or_faulty, written_is_accepted}
use Rattle.varisat_lines.proofs.laws.bytes_mean_one_thing.Goals as goal

pub returns : goal.returns
returns c = record {
  written = written_is_accepted (encoding_of c.args._format);
  once = accepted_once (encoding_of c.args._format);
  one = accepted_or_faulty (encoding_of c.args._format);
  not_both = not_both (encoding_of c.args._format);
  fault_once = fault_once (encoding_of c.args._format);
}
