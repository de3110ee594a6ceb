use Rattle.std.proofs.Common.{◌≡◌, false, map, take}
use Rattle.std.specs.Arc.{arc_value}
use Rattle.memory_network.specs.Nodes.{has_node}
use Rattle.memory_network.proofs.network.mail_of.Given as goal

abbrev pub invariant-loop-mail : goal.invariant-loop-mail
invariant-loop-mail g l = has_node g.P.Ord.cmp l.key (map arc_value (take l.mail-index l.mails)) ≡ false
