-- Internal.
-- What is booked of the requests of a mailbox.
use Rattle.std.specs.Prelude.{◌≡◌, ℕ, ◌+◌, ◌||◌, not, Bool, true, false, List, Option, Result, Ok, Err}
use Rattle.std.specs.List.{list_all}
use Rattle.broadcast_mailbox.specs.declared.buffered.ingress.message.Request.{Request}
use Rattle.broadcast_mailbox.specs.declared.buffered.ingress.message.Queued.{Queued}
use Rattle.broadcast_mailbox.specs.declared.buffered.ingress.message.Queued.TheVariants as queued
use Rattle.broadcast_mailbox.specs.declared.broadcaster.MailboxError.{MailboxError}
use Rattle.broadcast_mailbox.specs.declared.buffered.ingress.message.Message.{Message}
use Rattle.broadcast_mailbox.specs.declared.buffered.ingress.message.Message.TheVariants as variant
use Rattle.broadcast_mailbox.specs.declared.buffered.ingress.message.Kind.{Kind}
use Rattle.broadcast_mailbox.specs.declared.buffered.ingress.message.Kind.TheVariants as kind
use Rattle.broadcast_mailbox.specs.declared.broadcaster.Feedback.{Feedback}
use Rattle.broadcast_mailbox.specs.Queued.{feedback_of}
use Rattle.broadcast_mailbox.specs.Queue.{counted_in}
use Rattle.broadcast_mailbox.specs.Mailbox.{MailboxState, Takes, taken_of}

-- whether it waits
abbrev pub is_queued : Result Queued MailboxError → Bool
is_queued (Ok (queued.Ready ticket)) = true
is_queued (Ok (queued.Overflow ticket)) = true
is_queued _ = false

-- whether it was skipped at once
abbrev pub is_skipped : Result Queued MailboxError → Bool
is_skipped (Ok (queued.Skipped ticket)) = true
is_skipped _ = false

-- whether each counted request among them is one that stays open
abbrev pub are_open : {T : Type 0} → (T → Bool) → List (Request T) → Bool
are_open opens requests = list_all (λ request. not request.counted || opens request.message) requests

-- whether the watch matches a request, whose digest is the one that it asks for or that was handed
-- in with its message
abbrev pub is_watched : {P M S G D : Type 0} → (Kind → D → Bool) → Message P M S G D → Bool
is_watched watched (variant.Broadcast recipients message) = watched kind.Broadcast message.digest
is_watched watched (variant.Subscribe digest responder) = watched kind.Subscribe digest
is_watched watched (variant.Get digest responder) = watched kind.Get digest

-- an error of the inbox is an error of the broadcast
abbrev pub answer_of : Result Queued MailboxError → Result Feedback MailboxError
answer_of (Ok queued) = Ok (feedback_of queued)
answer_of (Err error) = Err error

module _ {T : Type 0} (answers : T → Bool → Type 0) where
  -- the oldest request is taken, and of the requests that are skipped the counted ones are booked:
  -- `before` were so before, and `after` are so after
  abbrev pub TakesBooked : MailboxState T → ℕ → Option (Request T) → MailboxState T → ℕ → Type 0
  TakesBooked old before result new after = (skipped : List (Request T))
      × Takes answers old result skipped new × (after ≡ before + counted_in skipped)

  -- and its ticket and message are given
  abbrev pub TakesOut : MailboxState T → ℕ → Option (ℕ × T) → MailboxState T → ℕ → Type 0
  TakesOut old before result new after = (request : Option (Request T))
      × TakesBooked old before request new after × (result ≡ taken_of request)
