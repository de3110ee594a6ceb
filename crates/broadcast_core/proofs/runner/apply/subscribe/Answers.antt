use Rattle.broadcast_core.proofs.Lawful.{same_by-lawful}
use Rattle.broadcast_core.proofs.Applying.{Applies-answered, Applies-waiting}
use Rattle.broadcast_core.proofs.runner.apply.subscribe.Goals as goal

pub returns-in-Ok-Answered-clause-follows : goal.returns-in-Ok-Answered-clause-follows
returns-in-Ok-Answered-clause-follows g c = λ s is past has.
    let lawful = same_by-lawful g.met.P.Ord.total (g.met.M.Digest.Ord g.world.𝓛 g.world.𝓜 g.world.𝓡 (λ s x. x, λ x. x, λ x. x, λ x. x)).total in
    let answered = rw c.in-Ok-Answered.field-0-is at c.in-Ok-Answered.ensures.ok in
    Applies-answered is lawful has c.args.ticket c.args.digest c.in-Ok-Answered.message answered.2 answered.1

pub returns-in-Ok-Waiting-clause-follows : goal.returns-in-Ok-Waiting-clause-follows
returns-in-Ok-Waiting-clause-follows g c = λ s is past has.
    let lawful = same_by-lawful g.met.P.Ord.total (g.met.M.Digest.Ord g.world.𝓛 g.world.𝓜 g.world.𝓡 (λ s x. x, λ x. x, λ x. x, λ x. x)).total in
    let waits = rw c.in-Ok-Waiting.field-0-is at c.in-Ok-Waiting.ensures.ok in
    Applies-waiting is lawful has c.args.ticket c.args.digest waits.0 waits.1
