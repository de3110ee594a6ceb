-- A box of a log, under the names of the proofs of boxes.
use mir.Syntax.{impl, tnil, dnil}
use mathlib.Core.List.{[]}
use denote.Signature.{Slot, plain}
use Rattle.std_alloc.proofs.BoxSteps.Form.{Bx}
use Rattle.std_heap.specs.contracts.Global as Heap
use Rattle.std_heap.specs.contracts.GlobalAllocator.TheImpl.{ghosts, dict}
use Rattle.std_heap.proofs.Global.TheLaws as heap
use Rattle.broadcast_c.specs.contracts.log_handle.OwnLog as Log
use Rattle.broadcast_c.proofs.log_handle.OwnLog.TheLaws as log
use Rattle.broadcast_c.specs.contracts.log_handle.LogHandle as Handle
use Rattle.broadcast_c.specs.contracts.parts.Parts as Parts

abbrev pub E : Bx
E = record { row = Log.the_row; laws = log.the_row_laws; al = record { row = Heap.the_row; laws = heap.the_row_laws; g = ghosts; d = dict; drops = impl [] tnil dnil } }

abbrev pub FromParts : Slot 0
FromParts = plain (λ _. Parts.the_row Log.the_row Heap.the_row ghosts)

abbrev pub FromHandle : Slot 0
FromHandle = plain (λ _. Handle.the_row)

abbrev pub FromGlobal : Slot 0
FromGlobal = plain (λ _. Heap.the_row)
