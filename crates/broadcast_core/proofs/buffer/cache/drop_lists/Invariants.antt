use Rattle.std.proofs.Common.{take}
use Rattle.std.specs.Ordering.{eq_by_cmp}
use Rattle.broadcast_core.specs.Content.{same_by}
use Rattle.broadcast_core.specs.Numbered.{IsNumbered, named_of}
use Rattle.broadcast_core.specs.Stored.{Sheds}
use Rattle.broadcast_core.proofs.Dropping.{Dropping}
use Rattle.broadcast_core.proofs.buffer.cache.drop_lists.Given as goal

abbrev pub invariant-loop-peer : goal.invariant-loop-peer
invariant-loop-peer g l =
    Dropping (same_by g.P.Ord.cmp g.M.Digest.Ord.cmp) (take l.peer-index l.was) l.peers (named_of l.fn.numbers l.fn.shelf.stored) (named_of l.numbers l.shelf.stored)
    × Sheds (eq_by_cmp g.M.Digest.Ord.cmp) l.fn.shelf l.shelf × IsNumbered g.P.Ord.cmp g.M.Digest.Ord.cmp l.numbers l.shelf.stored
