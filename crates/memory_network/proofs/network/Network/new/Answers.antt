use Rattle.std.specs.Arc.{arc_value}
use Rattle.memory_network.proofs.Growing.{AreNodesOf-grown}
use Rattle.memory_network.proofs.network.Network.new.Goals as goal

pub loop-key-preserved : goal.loop-key-preserved
loop-key-preserved g c =
    AreNodesOf-grown g.P.Ord.cmp arc_value c.as_slice-ordered.result.now c.loop-key.key-index c.key-item.result c.loop-key.mails.items c.in_ok-mail_between.field-0 c.push.new.self.items
    c.loop-key-test.true c.key-item.is c.loop-key.invariant c.in_ok-mail_between.ensures c.in_ok-push.ensures.items
