use Rattle.commonware_broadcast.proofs.buffered.engine.running.block_on_polls.Goals as goal

pub block_on-requires : goal.block_on-requires
block_on-requires g c = rw c.poll_fn.ensures c.requires

pub returns : goal.returns
returns g c = rw c.poll_fn.ensures at c.block_on.ensures
