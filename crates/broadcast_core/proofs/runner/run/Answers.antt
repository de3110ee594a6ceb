use Rattle.std.proofs.Common.{arith, refl}
use Rattle.broadcast_core.proofs.Lawful.{same_by-lawful}
use Rattle.broadcast_core.proofs.Running.{HasRun-none, HasRun-same}
use Rattle.broadcast_core.proofs.runner.run.Goals as goal

pub run_each-requires-clause-answers_fit : goal.run_each-requires-clause-answers_fit
run_each-requires-clause-answers_fit g c κs within = omega (arith, c.args.events.ok, c.len.ensures, c.in_ok-answers.ensures.len, c.in_ok-answers.ensures.capacity)

pub run_each-requires-clause-sent_fit : goal.run_each-requires-clause-sent_fit
run_each-requires-clause-sent_fit g c κs within = omega (arith, c.args.events.ok, c.len-2.ensures, c.in_ok-sent.ensures.len, c.in_ok-sent.ensures.capacity)

pub run_each-requires-clause-none_run : goal.run_each-requires-clause-none_run
run_each-requires-clause-none_run g c κs within =
    let lawful = same_by-lawful g.met.P.Ord.total (g.met.M.Digest.Ord g.world.𝓛 g.world.𝓜 g.world.𝓡 (λ s x. x, λ x. x, λ x. x, λ x. x)).total in
    rw c.new-core.ensures (HasRun-same _ (HasRun-none _ lawful refl) refl c.in_ok-answers.ensures.items c.in_ok-sent.ensures.items)

pub returns : goal.returns
returns g c = rw c.new-core.ensures at c.run_each.ensures
