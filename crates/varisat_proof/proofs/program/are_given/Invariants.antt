use Rattle.std.proofs.Common.{◌≡◌, ◌++◌, map}
use Rattle.varisat_proof.specs.promises.Verified.{AreGiven}
use Rattle.varisat_proof.proofs.program.are_given.Given as goal

abbrev pub invariant-loop-clause : goal.invariant-loop-clause
invariant-loop-clause g l = record {
  so_far : AreGiven l.given.clauses (map (λ c. c.now) l.yielded);
  whole : map (λ c. c.now) l.yielded ++ l.clause-iterator ≡ l.formula.clauses;
}
