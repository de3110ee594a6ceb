-- Believed.
-- What the caller of a broadcast is told.
use Rattle.broadcast_mailbox.specs.declared.buffered.ingress.message.Queued.{Queued}
use Rattle.broadcast_mailbox.specs.declared.buffered.ingress.message.Queued.TheVariants as queued
use Rattle.broadcast_mailbox.specs.declared.broadcaster.Feedback.{Feedback}
use Rattle.broadcast_mailbox.specs.declared.broadcaster.Feedback.TheVariants as feedback

-- a message in the ready list is accepted, one that found it full is accepted with a warning to
-- back off, and one that found the mailbox closed is not accepted
abbrev pub feedback_of : Queued → Feedback
feedback_of (queued.Ready ticket) = feedback.Ok
feedback_of (queued.Overflow ticket) = feedback.Backoff
feedback_of (queued.Skipped ticket) = feedback.Backoff
feedback_of queued.Closed = feedback.Closed
