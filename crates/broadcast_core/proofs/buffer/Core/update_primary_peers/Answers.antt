use Rattle.broadcast_core.proofs.buffer.Core.update_primary_peers.Goals as goal

pub returns : goal.returns
returns g c = rw (← c.self.view_is) (c.update_primary_peers.ensures.taken c.self.inside.own)
