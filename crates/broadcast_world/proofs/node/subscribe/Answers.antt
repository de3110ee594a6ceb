use Rattle.std.proofs.Common.{[], refl}
use Rattle.broadcast_world.specs.World.{at}
use Rattle.broadcast_world.proofs.Copied.{event_subscribe}
use Rattle.broadcast_world.proofs.Following.{NodeFollows-from}
use Rattle.broadcast_world.proofs.node.subscribe.Goals as goal

pub returns : goal.returns
returns g c = λ w n.
    let total = g.met.P.Ord.total in
    NodeFollows-from g.P.Ord.cmp total w n (event_subscribe c.args.ticket c.args.digest.now) _ _ _ [] (c.subscribe.ensures.follows (at g.P.Ord.cmp w c.args.core.now.own) refl)
