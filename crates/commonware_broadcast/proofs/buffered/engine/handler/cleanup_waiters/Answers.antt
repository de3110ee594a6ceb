use Rattle.std.proofs.Common.{ℕ, ap, ◌∙◌}
use Rattle.broadcast_core.specs.Cleaned.{named_by}
use Rattle.broadcast_core.specs.Waiting.{waiting}
use Rattle.broadcast_core.proofs.AwaitedCount.{awaited-counted}
use Rattle.broadcast_core.proofs.Lawful.{same_by-lawful}
use Rattle.engine_io.specs.Counters.{Counters, added}
use Rattle.engine_io.specs.declared.metrics.Counter.{Counter}
use Rattle.engine_io.specs.declared.metrics.Status.TheVariants as status
use Rattle.commonware_broadcast.proofs.Composing.{told-same}
use Rattle.commonware_broadcast.proofs.Counting.{added-counted}
use Rattle.commonware_broadcast.proofs.buffered.engine.handler.cleanup_waiters.Goals as goal

pub returns-clause-swept : goal.returns-clause-swept
returns-clause-swept g c = λ s e past has.
    let lawful = same_by-lawful g.met.P.Ord.total (g.met.M.Digest.Ord g.world.𝓛 g.world.𝓜 g.world.𝓡 (λ s x. x, λ x. x, λ x. x, λ x. x)).total in
    let cleaned = c.drop_closed-dropped.ensures.cleaned s e past has in
    let old = c.args.node.now.metrics in
    let gone = named_by cleaned.test (waiting s past) in
    let waits = awaited-counted e lawful cleaned.content c.awaited.ensures.distinct c.awaited.ensures.none_empty in (
      cleaned.test,
      record {
        lawful = cleaned.answered;
        content = cleaned.content;
        counted = c.set_waiters.ensures ∙ ap (λ (m : Counters g.row.P.Denot). record m { totals = record m.totals { waiters = c.awaited.result } }) c.count_subscribe.ensures
            ∙ ap (λ (k : Counter). record old { totals = record old.totals { subscribe = k; waiters = c.awaited.result } })
            (ap (λ n. added status.Dropped n old.totals.subscribe) cleaned.removed ∙ added-counted gone old.totals.subscribe)
            ∙ ap (λ (n : ℕ). record old { totals = record old.totals { subscribe = added status.Dropped gone old.totals.subscribe; waiters = n } }) (c.awaited.ensures.len ∙ waits);
        replied = told-same g.O.Outlet.told c.args.node.now.outlet;
      },
    )
