use Rattle.std.proofs.Common.{take}
use Rattle.broadcast_world.specs.Nodes.{AreEmpty}
use Rattle.broadcast_world.proofs.made.cores_for.Given as goal

abbrev pub invariant-loop-node : goal.invariant-loop-node
invariant-loop-node g l = AreEmpty g.P.Ord.cmp l.deque_size l.byte_budget (take l.node-index l.nodes) l.cores.items
