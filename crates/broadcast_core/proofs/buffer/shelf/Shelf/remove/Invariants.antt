use Rattle.std.proofs.Common.{◌≡◌, length}
use Rattle.std.specs.Ordering.{eq_by_cmp}
use Rattle.entries.specs.Overlaid.{same_number}
use Rattle.entries.specs.Store.{items_at}
use Rattle.entries.specs.Table.{items_of, messages_of}
use Rattle.broadcast_core.specs.Numbered.{same_listed}
use Rattle.broadcast_core.specs.Left.{Adds, HasRoom}
use Rattle.broadcast_core.specs.Indexed.{names_of, named_lists, AllNamed}
use Rattle.broadcast_core.proofs.Dropping.{Clearing}
use Rattle.broadcast_core.proofs.buffer.shelf.Shelf.remove.Given as goal

abbrev pub invariant-loop-stale : goal.invariant-loop-stale
invariant-loop-stale g l =
    let old = l.initial.self-inside in
    let now = l.self-inside in
    Clearing (same_listed g.M.Digest.Ord.cmp) l.list (named_lists (names_of old.table) old.lists.lists) (named_lists (names_of now.table) now.lists.lists) (items_of old.table) (items_of now.table)
    × AllNamed (names_of now.table) same_number now.lists.lists
    × Adds (eq_by_cmp g.M.Digest.Ord.cmp) (messages_of (items_of old.table)) (messages_of (items_of now.table)) old.left.items now.left.items
    × HasRoom (length (messages_of (items_of now.table))) now.left
    × (now.deque_size ≡ old.deque_size) × (now.byte_budget ≡ old.byte_budget)

abbrev pub decreases-loop-stale : goal.decreases-loop-stale
decreases-loop-stale g l = length (items_at same_number l.list l.self-inside.lists.lists)
