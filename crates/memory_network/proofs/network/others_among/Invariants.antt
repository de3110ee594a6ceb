use Rattle.std.proofs.Common.{◌≡◌, map, take}
use Rattle.std.specs.Arc.{arc_value}
use Rattle.memory_network.specs.Nodes.{others_of}
use Rattle.memory_network.proofs.network.others_among.Given as goal

abbrev pub invariant-loop-mail : goal.invariant-loop-mail
invariant-loop-mail g l = map arc_value l.others.items
    ≡ others_of g.P.Ord.cmp l.key (map arc_value (take l.mail-index l.mails))
