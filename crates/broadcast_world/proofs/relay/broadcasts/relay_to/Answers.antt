use Rattle.std.proofs.Common.{◌≡◌, Result, Ok, Err, sym, ◌∙◌, subst}
use Rattle.std.specs.Vec.Iter.{into_iter_items}
use Rattle.broadcast_mailbox.specs.declared.broadcaster.Feedback.{Feedback}
use Rattle.broadcast_mailbox.specs.declared.broadcaster.MailboxError.{MailboxError}
use Rattle.broadcast_core.specs.declared.ordered.Recipients.TheVariants as to
use Rattle.broadcast_world.specs.Answered.{AreAnswered}
use Rattle.broadcast_world.proofs.Feedbacks.{closed, at-end, at-closed, at-refused}
use Rattle.broadcast_world.proofs.relay.broadcasts.relay_to.Goals.{in-None, in-Some+in-Ok+then-not-accepted, in-Some+in-Err}
use Rattle.broadcast_world.proofs.relay.broadcasts.relay_to.Goals as goal

pub returns : goal.returns
returns g c =
    let at = c.loop-message in
    let may : g.row.B-Message.Denot → Result Feedback MailboxError → Type 0 = λ message answer. g.B.Broadcaster.may_answer c.args.broadcaster.now to.All message answer in
    let all = into_iter_items c.into_iter-message-iterator.result in
    let rest = into_iter_items at.message-iterator in
    let answered : AreAnswered may all c.match-next.feedbacks.items c.match-next.refused =
    elim c.match-next.branch [
      | in-None w ↦ rw (w.feedbacks-is, w.refused-is, at.invariant.none) (at-end may all rest at.feedbacks.items at.invariant.follows (sym at.invariant.left ∙ w.in-None.ensures.steps.0))
      | in-Some+in-Ok+then-not-accepted w ↦
          let gave : may w.in-Some.message (Ok w.in-Ok.feedback) = subst (λ r. may w.in-Some.message r) w.in-Ok.is w.broadcast.ensures in
          rw (w.feedbacks-is, w.refused-is, at.invariant.none, w.push_reserved.ensures.items)
          (at-closed may all rest _ w.in-Some.message w.in-Ok.feedback at.feedbacks.items at.invariant.follows w.in-Some.ensures.steps.0 gave
          (closed w.in-Ok.feedback w.accepted.result w.accepted.ensures w.if-not-accepted.true))
      | in-Some+in-Err w ↦
          let gave : may w.in-Some.message (Err w.in-Err.error) = subst (λ r. may w.in-Some.message r) w.in-Err.is w.broadcast.ensures in
          rw (w.feedbacks-is, w.refused-is)
          (at-refused may all rest _ w.in-Some.message w.in-Err.error at.feedbacks.items at.invariant.follows w.in-Some.ensures.steps.0 gave)
    ] in
    subst (λ messages. AreAnswered may messages c.match-next.feedbacks.items c.match-next.refused) c.into_iter-message-iterator.ensures.into_iter_gives.0 answered
