use Rattle.std.proofs.Common.{◌<◌, ◌≤◌, ◌-◌, ◌^◌, length, take, drop}
use Rattle.varisat_literals.specs.promises.Numbers.{variable_limit}
use Rattle.varisat_formula.specs.inside.Machine.{no_word, a_number, GoesOnTo}
use Rattle.varisat_formula.proofs.dimacs.token.literal_at.Given as goal

abbrev pub invariant-digits : goal.invariant-digits
invariant-digits l = record {
  some : l.start < l.end;
  positive : 0 < l.number;
  power : 10 ^ (l.end - l.start - 1) ≤ l.number;
  small : l.number ≤ variable_limit;
  word : GoesOnTo no_word (take (l.end - l.at) (drop l.at l.bytes)) (a_number l.minus l.number);
}

abbrev pub decreases-digits : goal.decreases-digits
decreases-digits l = length l.bytes - l.end
