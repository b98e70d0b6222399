use Rattle.std.proofs.Common.{◌≡◌, ◌≤◌, ◌+◌, ◌++◌, take, length, vec_len}
use Rattle.std.specs.Prelude.{vec_capacity}
use Rattle.varisat_database.proofs.clauses.append.Given as goal

abbrev pub invariant-loop-lit : goal.invariant-loop-lit
invariant-loop-lit g l = record {
  items : l.literals.items ≡ l.fn.literals.items ++ take l.lit-index l.clause;
  room : vec_len l.literals + length l.clause ≤ vec_capacity l.literals + l.lit-index;
}
