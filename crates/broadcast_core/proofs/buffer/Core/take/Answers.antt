use Rattle.broadcast_core.proofs.buffer.Core.take.Goals as goal

pub returns : goal.returns
returns g c = rw (← c.self.view_is) (c.take.ensures.taken c.self.inside.own)
