use Rattle.std.proofs.Common.{[], refl, ap}
use Rattle.broadcast_core.specs.Setting.{whole}
use Rattle.broadcast_core.specs.TestMessage.{read_message}
use Rattle.broadcast_world.specs.World.{at}
use Rattle.broadcast_world.proofs.Copied.{event_payload}
use Rattle.broadcast_world.proofs.Following.{NodeFollows-from}
use Rattle.broadcast_world.proofs.node.payload.Goals as goal

pub returns : goal.returns
returns g c = λ w n p ranged equal.
    let total = g.met.P.Ord.total in
    NodeFollows-from g.P.Ord.cmp total w n (event_payload p c.args.peer.now equal c.args.bytes.now) _ _ _ []
    (c.payload.ensures.follows (at g.P.Ord.cmp w c.args.core.now.own) refl refl refl (ap (λ r. whole (read_message r)) ranged))
