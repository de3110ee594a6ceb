use Rattle.std.proofs.Common.{take, Some}
use Rattle.broadcast_world.specs.Scene.{Scene}
use Rattle.broadcast_world.specs.Steps.{AreCopies}
use Rattle.broadcast_world.specs.World.{packets_to}
use Rattle.broadcast_world.proofs.packet.packets_for.Given as goal

abbrev pub invariant-loop-node : goal.invariant-loop-node
invariant-loop-node g l = (w : Scene g.row.P.Denot) → AreCopies g.P.Ord.cmp l.packets.items (packets_to g.P.Ord.cmp w l.sender (take l.node-index l.nodes) (Some l.encoded.value.bytes))
