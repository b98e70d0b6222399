use Rattle.std.proofs.Common.{◌≡◌, ◌<◌, [], length}
use Rattle.varisat_theory.specs.promises.Literals.{Literal}
use Rattle.varisat_prop.specs.Watches.{watches_of}
use Rattle.varisat_prop.proofs.prop.watch.Watchlists.disable.Given as goal

abbrev pub invariant-loop-place : goal.invariant-loop-place
invariant-loop-place g l = record {
  count : length l.self.lists ≡ length l.fn.self.lists;
  empty : (x : Literal) → x < l.place → watches_of l.self x ≡ [];
}
