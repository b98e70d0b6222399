-- `CutHeap::asked` at a call: it has the contract of `lent`, and a name of its own. Assumes `Logic`.
use mathlib.Core.List.{List, [], ◌∷◌}
use mir.Syntax.{Callee, a_type}
use denote.Param.{layouts}
use Rattle.std.proofs.alloc.Calls.{Al}
use Rattle.varisat_tests_heap.specs.contracts.heap.CutHeap.asked.Key as key

abbrev pub asked_key : Al → Callee
asked_key Z = key.name (layouts (a_type ∷ []) (Z.row, tt))
