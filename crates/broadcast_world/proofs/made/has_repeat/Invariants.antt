use Rattle.std.proofs.Common.{◌≡◌, length}
use Rattle.broadcast_world.specs.Made.{has_repeat}
use Rattle.broadcast_world.proofs.made.has_repeat.Given as goal

abbrev pub invariant-loop-key : goal.invariant-loop-key
invariant-loop-key g l = has_repeat g.P.Ord.cmp l.rest ≡ has_repeat g.P.Ord.cmp l.keys

abbrev pub decreases-loop-key : goal.decreases-loop-key
decreases-loop-key g l = length l.rest
