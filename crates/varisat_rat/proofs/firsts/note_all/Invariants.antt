use Rattle.std.proofs.Common.{take}
use Rattle.varisat_rat.specs.promises.Resolving.{AreLowered, AreNoted}
use Rattle.varisat_rat.proofs.firsts.note_all.Given as goal

abbrev pub invariant-loop-l : goal.invariant-loop-l
invariant-loop-l g l = record {
  lowered : AreLowered l.fn.firsts.items l.firsts.items;
  noted : AreNoted (take l.l-index l.literals) l.place l.firsts.items;
}
