use Rattle.std.proofs.Common.{◌≡◌, ◌≤◌, ◌+◌, ◌++◌, length, vec_len}
use Rattle.std.specs.Prelude.{vec_capacity}
use Rattle.std.specs.Vec.Iter.{into_iter_items, into_iter_len}
use Rattle.varisat_client.specs.inside.Clients.{Moves}
use Rattle.varisat_client.specs.promises.Runs.{MakeInTurn}
use Rattle.varisat_client.proofs.session.run.Given as goal

abbrev pub invariant-loop-call : goal.invariant-loop-call
invariant-loop-call g l = record {
  so_far : Moves (λ p q. MakeInTurn p l.yielded l.answers.items q) l.initial.client l.client;
  room : vec_len l.answers + into_iter_len l.call-iterator ≤ vec_capacity l.answers;
  left : into_iter_len l.call-iterator ≡ length (into_iter_items l.call-iterator);
  whole : l.yielded ++ into_iter_items l.call-iterator ≡ l.fn.calls.items;
}
