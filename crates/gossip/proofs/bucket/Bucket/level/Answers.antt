use Rattle.gossip.proofs.Granting.{paid}
use Rattle.gossip.proofs.bucket.Bucket.level.Goals as goal

pub returns-clause-debt_first : goal.returns-clause-debt_first
returns-clause-debt_first c = λ t h g. paid c.args.self.now c.args.now t h g
