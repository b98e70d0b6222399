use Rattle.std.proofs.Common.{◌≡◌, false, [], take}
use Rattle.varisat_incremental.specs.Reconstructions.{RestoresSome}
use Rattle.varisat_incremental.proofs.reconstruction.restore_from.Given as goal

abbrev pub invariant-loop-place : goal.invariant-loop-place
invariant-loop-place g l = record {
  restores : RestoresSome (take l.place l.stack) l.fn.flags.items l.fn.restored.clauses l.kept l.flags.items l.restored.clauses;
  all : l.fn.keeps ≡ false → l.kept ≡ [];
}
