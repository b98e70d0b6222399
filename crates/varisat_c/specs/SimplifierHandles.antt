-- What a handle owns.
use Rattle.std.specs.Prelude.{Option}
use base.Fml.{Fml}
use denote.RattleType.{RattleType}
use denote.RawPtr.{Ptr}
use Rattle.std_heap.specs.contracts.Global as heap
use Rattle.std_heap.specs.contracts.GlobalAllocator.TheImpl as impl
use Rattle.varisat_calls.specs.Simplifiers.{Simplifier}
use Rattle.varisat_c.specs.Slots.{may_free, slot_owns}
use Rattle.varisat_calls.specs.contracts.simplifier.Simplifier as simplifier

-- a simplifier, as it lies in memory
abbrev pub simplifier_row : RattleType
simplifier_row = simplifier.the_row heap.the_row impl.ghosts

-- a simplifier, where it is not empty
abbrev pub handle_owns : Ptr → Option Simplifier → Fml
handle_owns p held = slot_owns may_free simplifier_row p held
