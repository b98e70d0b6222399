use Rattle.std.proofs.Common.{take}
use Rattle.varisat_database.specs.Sound.{Grows, IsListed}
use Rattle.varisat_database.proofs.occurrences.Occurrences.add_all.Given as goal

abbrev pub invariant-loop-lit : goal.invariant-loop-lit
invariant-loop-lit g l = record {
  grows : Grows l.fn.self l.self;
  listed : IsListed l.names l.self (take l.lit-index l.lits) l.place;
}
