use Rattle.std.proofs.Common.{refl}
use Rattle.broadcast_core.proofs.Lawful.{same_by-lawful}
use Rattle.broadcast_core.proofs.Stepping.{HasContent-peers}
use Rattle.commonware_broadcast.proofs.Composing.{told-same}
use Rattle.commonware_broadcast.proofs.buffered.engine.handler.handle_peers.Goals as goal

pub returns : goal.returns
returns g c = λ s e past has.
    let lawful = same_by-lawful g.met.P.Ord.total (g.met.M.Digest.Ord g.world.𝓛 g.world.𝓜 g.world.𝓡 (λ s x. x, λ x. x, λ x. x, λ x. x)).total in
    record {
      lawful = (refl, tt);
      content = HasContent-peers e lawful has c.update_primary_peers.ensures;
      counted = refl {a = c.args.node.now.metrics};
      replied = told-same g.O.Outlet.told c.args.node.now.outlet;
    }
