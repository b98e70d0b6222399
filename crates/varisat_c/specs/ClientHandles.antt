-- What a handle owns.
use Rattle.std.specs.Prelude.{Option}
use base.Fml.{Fml}
use denote.RattleType.{RattleType}
use denote.RawPtr.{Ptr}
use Rattle.core.specs.contracts.clone.Clone+copy.TheImpl as copied
use Rattle.std_heap.specs.contracts.Global as heap
use Rattle.std_heap.specs.contracts.GlobalAllocator.TheImpl as impl
use Rattle.varisat_client.specs.inside.Clients.{Client}
use Rattle.varisat_c.specs.Slots.{may_free, slot_owns}
use Rattle.varisat_client.specs.contracts.client.Client as client

-- a client, as it lies in memory
abbrev pub client_row : RattleType
client_row = client.the_row heap.the_row impl.ghosts (copied.ghosts heap.the_row)

-- a client, where it is not empty
abbrev pub handle_owns : Ptr → Option Client → Fml
handle_owns p held = slot_owns may_free client_row p held
