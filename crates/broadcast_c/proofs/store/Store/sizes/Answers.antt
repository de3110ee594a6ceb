use Rattle.broadcast_c.proofs.store.Store.sizes.Goals as goal

pub returns-clause-one_each : goal.returns-clause-one_each
returns-clause-one_each c = record { cached = c.cached_len.ensures.distinct; waiters = c.awaited.ensures.distinct; some = c.awaited.ensures.none_empty }
