use Rattle.std.proofs.Common.{take}
use Rattle.std.specs.Ordering.{eq_by_cmp}
use Rattle.broadcast_core.specs.Concerns.{AreEqual}
use Rattle.broadcast_core.specs.Content.{without}
use Rattle.broadcast_world.proofs.packet.all_but.Given as goal

abbrev pub invariant-loop-key : goal.invariant-loop-key
invariant-loop-key g l = AreEqual (eq_by_cmp g.P.Ord.cmp) l.to.items (without (eq_by_cmp g.P.Ord.cmp) l.sender (take l.key-index l.keys))
