-- Internal.
-- What a handle owns: a box, if it is full.
use base.Fml.{Fml, ftrue}
use denote.RawPtr.{Ptr}
use mir.Syntax.{Ty}
use Rattle.std.specs.Prelude.{Option, Some, None}
use Rattle.std.specs.Box.Ownership.{box_owns}
use Rattle.std_heap.specs.contracts.Global as Heap
use Rattle.std_heap.specs.contracts.GlobalAllocator.TheImpl.{ghosts}
use Rattle.broadcast_c.specs.contracts.log_handle.OwnLog as log
use Rattle.broadcast_c.specs.contracts.store.Store as store

-- the global allocator, of which there is one
abbrev pub heap : (Heap.the_row).Denot
heap = record { memory = record { seal = tt } }

-- the leave to free a block of it
abbrev pub token : Ty → Ptr → Fml
token = ghosts.dealloc_token heap

-- ownership of the box at p with the store, if there is one
abbrev pub holds_store : Ptr → Option (store.the_row).Denot → Fml
holds_store p (Some x) = box_owns token store.the_row p x
holds_store p None = ftrue

-- ownership of the box at p with the log, if there is one
abbrev pub holds_log : Ptr → Option (log.the_row).Denot → Fml
holds_log p (Some x) = box_owns token log.the_row p x
holds_log p None = ftrue
