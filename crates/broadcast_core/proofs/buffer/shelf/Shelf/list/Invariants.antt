use Rattle.std.proofs.Common.{◌≡◌, ◌++◌, length}
use Rattle.entries.specs.Overlaid.{same_number}
use Rattle.entries.specs.Store.{items_at, digests_of}
use Rattle.broadcast_core.specs.Indexed.{names_of}
use Rattle.broadcast_core.proofs.Naming.{names_at}
use Rattle.broadcast_core.proofs.buffer.shelf.Shelf.list.Given as goal

abbrev pub invariant-loop-item : goal.invariant-loop-item
invariant-loop-item g l =
    let names = names_of l.self-inside.table in
    l.digests.items ++ names_at names l.items ≡ names_at names (digests_of (items_at same_number l.list l.self-inside.lists.lists))

abbrev pub decreases-loop-item : goal.decreases-loop-item
decreases-loop-item g l = length l.items
