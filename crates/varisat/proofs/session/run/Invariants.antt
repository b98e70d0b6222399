use Rattle.std.proofs.Common.{◌≡◌, ◌≤◌, ◌+◌, ◌++◌, length, vec_len}
use Rattle.std.specs.Prelude.{vec_capacity}
use Rattle.std.specs.Vec.Iter.{into_iter_items, into_iter_len}
use Rattle.varisat_solver.specs.promises.States.{State}
use Rattle.varisat_solver.specs.inside.Representations.{Represents}
use Rattle.varisat.specs.promises.Runs.{Run}
use Rattle.varisat.proofs.session.run.Given as goal

abbrev pub invariant-loop-call : goal.invariant-loop-call
invariant-loop-call g l = record {
  so_far : (s : State) → Represents l.initial.solver s → (t : State) × Run g.S.ByteSource.input g.W.ProofTarget.taken s l.yielded l.answers.items t
      × Represents l.solver t;
  room : vec_len l.answers + into_iter_len l.call-iterator ≤ vec_capacity l.answers;
  left : into_iter_len l.call-iterator ≡ length (into_iter_items l.call-iterator);
  whole : l.yielded ++ into_iter_items l.call-iterator ≡ l.fn.calls.items;
}
