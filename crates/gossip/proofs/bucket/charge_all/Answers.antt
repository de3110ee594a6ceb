use Rattle.gossip.proofs.Granting.{bounded, rested}
use Rattle.gossip.proofs.bucket.charge_all.Goals as goal

pub returns-clause-bounded : goal.returns-clause-bounded
returns-clause-bounded c = bounded _ _

pub returns-clause-rested : goal.returns-clause-rested
returns-clause-rested c r = rested _ _ r
