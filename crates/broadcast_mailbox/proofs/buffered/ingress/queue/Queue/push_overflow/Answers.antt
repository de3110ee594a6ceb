use Rattle.std.proofs.Common.{inr}
use Rattle.broadcast_mailbox.proofs.Results.{handled-err}
use Rattle.broadcast_mailbox.proofs.Queues.{IsSound-handled}
use Rattle.broadcast_mailbox.proofs.buffered.ingress.queue.Queue.push_overflow.Goals as goal

pub invariant_of-self : goal.invariant_of-self
invariant_of-self g c =
    let failed = handled-err (λ request answer. g.T.Closable.may_answer request.message answer) _ _ c.handle.result _ c.if-is_err.ensures.value c.handle.ensures in
    rw failed.1 c.self.invariant

pub returns-then-is_err-clause-step : goal.returns-then-is_err-clause-step
returns-then-is_err-clause-step g c =
    let failed = handled-err (λ request answer. g.T.Closable.may_answer request.message answer) _ _ c.handle.result _ c.if-is_err.ensures.value c.handle.ensures in
    (c.requires.draws, inr failed.0, rw failed.1 c.self.view_is)

pub invariant_of-self-2 : goal.invariant_of-self-2
invariant_of-self-2 g c =
    let draws = rw (← c.self.view_is) at c.requires.draws in
    let no_room = rw (← c.self.view_is) at c.requires.no_room in
    IsSound-handled (λ request answer. g.T.Closable.may_answer request.message answer) _ c.args.message c.args.counted c.handle.result c.self.invariant draws no_room c.if-is_err.ensures.value c.handle.ensures
