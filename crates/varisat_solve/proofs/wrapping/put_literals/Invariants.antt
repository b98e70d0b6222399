-- What is put so far, and what is left, are the whole text.
use Rattle.std.proofs.Common.{◌≡◌, ◌≤◌, List, ℕ, ◌++◌, drop}
use Rattle.varisat_solve.specs.promises.Wrapping.{line_room, wrapped_text}
use Rattle.varisat_solve.proofs.wrapping.put_literals.Given as goal

abbrev pub invariant-loop-literal : goal.invariant-loop-literal
invariant-loop-literal g l = record {
  room : l.room ≤ line_room;
  put : (front : List ℕ) × ((g.T.ProofTarget.taken l.out).bytes ≡ (g.T.ProofTarget.taken l.fn.out).bytes ++ front)
      × (front ++ wrapped_text l.room (drop l.literal-index l.literals) ≡ wrapped_text line_room l.literals);
  quiet : (g.T.ProofTarget.taken l.out).faults ≡ (g.T.ProofTarget.taken l.fn.out).faults;
}
