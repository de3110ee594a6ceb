use Rattle.std.proofs.Common.{◌∙◌, sym, ap}
use Rattle.commonware_broadcast.proofs.Polls.{IsRun-ended, IsRun-failed}
use Rattle.commonware_broadcast.proofs.buffered.engine.running.Running.run.Goals as goal

pub returns-in-Ok : goal.returns-in-Ok
returns-in-Ok g c = record {
  runs = rw (sym c.in-Ok.ensures.boxed) (IsRun-ended c.leave.result c.run_on-running.ensures.ran c.leave.ensures.cause c.leave.ensures.failure
      (c.leave.ensures.metrics ∙ ap (λ r. r.engine.node.metrics) c.into_inner.ensures) (c.leave.ensures.requests ∙ ap (λ r. r.engine.requests) c.into_inner.ensures));
}

pub returns-in-Err : goal.returns-in-Err
returns-in-Err g c = record {
  runs = rw (sym c.in-Err.ensures.handed_back) (IsRun-failed c.leave-in-Err.result c.leave-in-Err.ensures.cause c.leave-in-Err.ensures.failure (c.leave-in-Err.ensures.metrics ∙ c.end.ensures.counts_none));
}
