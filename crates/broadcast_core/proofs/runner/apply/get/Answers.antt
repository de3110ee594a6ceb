use Rattle.std.proofs.Common.{Some, None, sym, ap, ◌∙◌}
use Rattle.broadcast_core.proofs.Lawful.{same_by-lawful}
use Rattle.broadcast_core.proofs.Applying.{Applies-got, Applies-not_got}
use Rattle.broadcast_core.proofs.runner.apply.get.Goals as goal

pub returns-in-None : goal.returns-in-None
returns-in-None g c = λ s is k past has.
    let lawful = same_by-lawful g.met.P.Ord.total (g.met.M.Digest.Ord g.world.𝓛 g.world.𝓜 g.world.𝓡 (λ s x. x, λ x. x, λ x. x, λ x. x)).total in
    Applies-got is lawful has k c.args.digest.now None c.in-None.ensures.message

pub returns-in-Ok : goal.returns-in-Ok
returns-in-Ok g c = λ s is k past has.
    let lawful = same_by-lawful g.met.P.Ord.total (g.met.M.Digest.Ord g.world.𝓛 g.world.𝓜 g.world.𝓡 (λ s x. x, λ x. x, λ x. x, λ x. x)).total in
    Applies-got is lawful has k c.args.digest.now (Some c.in-Ok.message) (ap Some c.in-Ok.ensures.cases ∙ c.in-Some.ensures.message)

pub returns-in-Err : goal.returns-in-Err
returns-in-Err g c = λ s is k past has.
    let lawful = same_by-lawful g.met.P.Ord.total (g.met.M.Digest.Ord g.world.𝓛 g.world.𝓜 g.world.𝓡 (λ s x. x, λ x. x, λ x. x, λ x. x)).total in
    Applies-not_got is lawful has k c.args.digest.now c.in-Some.message.now (sym c.in-Some.ensures.message)
