use Rattle.std.proofs.Common.{◌≡◌, take}
use Rattle.std.specs.Ordering.{eq_by_cmp}
use Rattle.broadcast_core.specs.Concerns.{AreEqual}
use Rattle.broadcast_world.specs.Scene.{Scene}
use Rattle.broadcast_world.specs.World.{addressed_of}
use Rattle.broadcast_world.proofs.packet.address_all.Given as goal

abbrev pub invariant-loop-key : goal.invariant-loop-key
invariant-loop-key g l = (w : Scene g.row.P.Denot) → w.nodes ≡ l.nodes → AreEqual (eq_by_cmp g.P.Ord.cmp) l.to.items (addressed_of g.P.Ord.cmp w l.sender (take l.key-index l.keys))
