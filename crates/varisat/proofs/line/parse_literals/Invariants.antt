-- The words read so far are the literals; the others are still to be read.
use Rattle.std.proofs.Common.{◌≡◌, ◌<◌, ◌^◌, ◌++◌, map}
use Rattle.std.specs.List.{All}
use Rattle.varisat_literals.specs.promises.Numbers.{literal_text}
use Rattle.varisat.specs.promises.Lines.{words_of}
use Rattle.varisat.proofs.LineLemmas.{words_left, bytes_left}
use Rattle.varisat.proofs.line.parse_literals.Given as goal

abbrev pub decreases-loop-rest : goal.decreases-loop-rest
decreases-loop-rest g l = bytes_left l.rest

abbrev pub invariant-loop-rest : goal.invariant-loop-rest
invariant-loop-rest g l = record {
  texts : map literal_text l.literals.items ++ words_left l.rest ≡ words_of l.numbers;
  in_range : All (λ n. n < 2 ^ 32) l.literals.items;
}
