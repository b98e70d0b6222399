use Rattle.std.proofs.Common.{rules}
use Rattle.varisat_lines.proofs.token.Part.number_symbol.Goals as goal

pub returns-then-value-le536870913-clause-symbol : goal.returns-then-value-le536870913-clause-symbol
returns-then-value-le536870913-clause-symbol g = search rules
