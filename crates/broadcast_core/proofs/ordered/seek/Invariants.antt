use Rattle.std.proofs.Common.{◌-◌, length}
use Rattle.broadcast_core.specs.Stored.{AreBelow}
use Rattle.broadcast_core.proofs.ordered.seek.Given as goal

abbrev pub invariant-loop-at : goal.invariant-loop-at
invariant-loop-at g l = AreBelow g.K.Ord.cmp l.keys l.key l.at

abbrev pub decreases-loop-at : goal.decreases-loop-at
decreases-loop-at g l = length l.keys - l.at
