use Rattle.std.proofs.Common.{◌≡◌, length, take, drop}
use Rattle.entries.specs.Overlaid.{same_number, overlaid}
use Rattle.entries.specs.Store.{items_at, digests_of}
use Rattle.broadcast_core.specs.Indexed.{names_of}
use Rattle.broadcast_core.proofs.Naming.{names_at}
use Rattle.broadcast_core.proofs.buffer.shelf.Shelf.list_into.Given as goal

abbrev pub invariant-loop-i : goal.invariant-loop-i
invariant-loop-i g l =
    let names = names_of l.self-inside.table in
    let all = names_at names (digests_of (items_at same_number l.list l.self-inside.lists.lists)) in
    (l.out ≡ overlaid (take l.i all) l.fn.out) × (names_at names l.items ≡ drop l.i all)

abbrev pub decreases-loop-i : goal.decreases-loop-i
decreases-loop-i g l = length l.items
