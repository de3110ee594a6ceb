use Rattle.broadcast_core.proofs.buffer.Core.bytes.Goals as goal

pub returns-clause-bounded : goal.returns-clause-bounded
returns-clause-bounded g c = rw (← c.self.view_is, ← c.self-inside.view_is) c.bytes.ensures.bounded
