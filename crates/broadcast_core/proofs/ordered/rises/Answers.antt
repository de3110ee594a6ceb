use Rattle.broadcast_core.proofs.OrderedLemmas.{rises_from_steps}
use Rattle.broadcast_core.proofs.ordered.rises.Goals as goal

pub returns : goal.returns
returns g c = record { sorted = λ _. rises_from_steps g.met.K.Ord.total c.args.keys.now c.loop-i.i c.loop-i-test.false c.loop-i.invariant.1 }
