use Rattle.broadcast_core.proofs.Stepping.{HasContent-empty}
use Rattle.commonware_broadcast.proofs.buffered.engine.laws.new_engine_law.Goals as goal

pub returns : goal.returns
returns g c = λ s core new. HasContent-empty new
