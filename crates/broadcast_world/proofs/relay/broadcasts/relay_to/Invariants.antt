use Rattle.std.proofs.Common.{◌≡◌, List, None, Option, ◌++◌, length}
use Rattle.std.specs.Prelude.{◌+◌, ◌≤◌, vec_len, vec_capacity}
use Rattle.std.specs.Vec.Iter.{into_iter_items, into_iter_len}
use Rattle.broadcast_mailbox.specs.declared.broadcaster.Feedback.{Feedback}
use Rattle.broadcast_mailbox.specs.declared.broadcaster.MailboxError.{MailboxError}
use Rattle.broadcast_core.specs.declared.ordered.Recipients.TheVariants as to
use Rattle.broadcast_world.specs.Answered.{AreAnswered}
use Rattle.broadcast_world.proofs.relay.broadcasts.relay_to.Given as goal

abbrev pub invariant-loop-message : goal.invariant-loop-message
invariant-loop-message g l =
    record {
      rest : l.yielded ++ into_iter_items l.message-iterator ≡ into_iter_items l.initial.message-iterator;
      left : into_iter_len l.message-iterator ≡ length (into_iter_items l.message-iterator);
      fit : vec_len l.feedbacks + length (into_iter_items l.message-iterator) ≤ vec_capacity l.feedbacks;
      none : l.refused ≡ None;
      follows : (fs : List Feedback) (e : Option MailboxError) → AreAnswered (λ message answer. g.B.Broadcaster.may_answer l.fn.broadcaster to.All message answer) (into_iter_items l.message-iterator) fs e
          → AreAnswered (λ message answer. g.B.Broadcaster.may_answer l.fn.broadcaster to.All message answer) (into_iter_items l.initial.message-iterator) (l.feedbacks.items ++ fs) e;
    }
