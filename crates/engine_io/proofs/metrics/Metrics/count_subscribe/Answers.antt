use Rattle.std.proofs.Common.{rules}
use Rattle.engine_io.proofs.metrics.Metrics.count_subscribe.Goals as goal

pub returns : goal.returns
returns g c = search rules
