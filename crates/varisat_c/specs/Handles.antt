-- What a handle owns.
use Rattle.std.specs.Prelude.{Option}
use base.Fml.{Fml}
use denote.RattleType.{RattleType}
use denote.RawPtr.{Ptr}
use Rattle.core.specs.contracts.clone.Clone+copy.TheImpl as copied
use Rattle.std_heap.specs.contracts.Global as heap
use Rattle.std_heap.specs.contracts.GlobalAllocator.TheImpl as impl
use Rattle.varisat_calls.specs.Callers.{Caller}
use Rattle.varisat_c.specs.Slots.{may_free, slot_owns}
use Rattle.varisat_calls.specs.contracts.caller.Caller as caller

-- a caller, as it lies in memory
abbrev pub caller_row : RattleType
caller_row = caller.the_row heap.the_row impl.ghosts (copied.ghosts heap.the_row)

-- a caller, where it is not empty
abbrev pub handle_owns : Ptr → Option Caller → Fml
handle_owns p held = slot_owns may_free caller_row p held
