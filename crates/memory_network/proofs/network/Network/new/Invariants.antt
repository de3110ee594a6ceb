use Rattle.std.proofs.Common.{map, take}
use Rattle.std.specs.Arc.{arc_value}
use Rattle.memory_network.specs.Nodes.{AreNodesOf}
use Rattle.memory_network.proofs.network.Network.new.Given as goal

abbrev pub invariant-loop-key : goal.invariant-loop-key
invariant-loop-key g l = AreNodesOf g.P.Ord.cmp (take l.key-index l.ordered)
    (map arc_value l.mails.items)
