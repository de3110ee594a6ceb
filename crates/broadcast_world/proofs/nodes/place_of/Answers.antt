use Rattle.broadcast_world.proofs.Places.{find-placed}
use Rattle.broadcast_world.proofs.nodes.place_of.Goals as goal

pub returns : goal.returns
returns g c = find-placed g.met.P.Ord.total c.args.key.now c.args.nodes.now c.position.result c.as_slice-sorted.ensures.sorted c.position.ensures.place c.position.ensures.some
