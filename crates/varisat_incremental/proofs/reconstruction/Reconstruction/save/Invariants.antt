use Rattle.std.proofs.Common.{take}
use Rattle.varisat_incremental.specs.Reconstructions.{Saves}
use Rattle.varisat_incremental.proofs.reconstruction.Reconstruction.save.Given as goal

abbrev pub invariant-loop-place : goal.invariant-loop-place
invariant-loop-place g l = Saves (take l.place l.saved) l.fn.self (record {
  stack = l.self-inside.stack;
  eliminated = l.self-inside.eliminated.items;
  frozen = l.self-inside.frozen.items;
})
