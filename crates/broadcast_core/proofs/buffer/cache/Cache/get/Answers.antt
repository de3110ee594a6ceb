use Rattle.broadcast_core.proofs.buffer.cache.Cache.get.Goals as goal

pub returns-clause-lawful : goal.returns-clause-lawful
returns-clause-lawful g c = rw (← c.self.view_is) c.self.invariant.1
