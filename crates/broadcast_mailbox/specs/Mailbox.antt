-- Believed.
-- The state of a mailbox, and what each call may return and leave.
use Rattle.std.specs.Prelude.{◌≡◌, ℕ, ◌+◌, Bool, true, false, List, length, Option, None, Some}
use Rattle.std.specs.Prelude.{Result, Ok}
use Rattle.broadcast_mailbox.specs.declared.buffered.ingress.message.Request.{Request}
use Rattle.broadcast_mailbox.specs.declared.buffered.ingress.message.Queued.{Queued}
use Rattle.broadcast_mailbox.specs.declared.buffered.ingress.message.Counts.{Counts}
use Rattle.broadcast_mailbox.specs.declared.buffered.ingress.message.Queued.TheVariants as queued
use Rattle.broadcast_mailbox.specs.declared.broadcaster.MailboxError.{MailboxError}
use Rattle.broadcast_mailbox.specs.Queue.{QueueState, Pushes, Pops, queue_after, shut_down, waiting}

-- the queue, whether a stop is asked for, and how many requests were taken, skipped and given up
pub record MailboxState (T : Type 0) : Type 0 where
  pub queue : QueueState T
  pub stop : Bool
  pub taken : ℕ
  pub skipped : ℕ
  pub given_up : ℕ

-- how many requests an enqueue with this result skips
abbrev pub count_skipped : Result Queued MailboxError → ℕ
count_skipped (Ok (queued.Skipped ticket)) = 1
count_skipped _ = 0

-- how many requests a take with this result takes
abbrev pub count_taken : {T : Type 0} → Option (Request T) → ℕ
count_taken None = 0
count_taken (Some request) = 1

module _ {T : Type 0} where
  -- an open, empty mailbox whose ready list has `size` places, after `drawn` requests were taken
  abbrev pub mailbox_after : ℕ → ℕ → MailboxState T
  mailbox_after size drawn = record {
    queue = queue_after size drawn;
    stop = false;
    taken = drawn;
    skipped = 0;
    given_up = 0;
  }

  -- each accepted request was taken, was skipped, waits or was given up
  abbrev pub IsCounted : MailboxState T → Type 0
  IsCounted state =
      state.queue.next
      ≡ state.taken + state.skipped + length (waiting state.queue) + state.given_up

  -- a request is accepted by drawing a ticket
  abbrev pub counts_of : MailboxState T → Counts
  counts_of state = record {
    accepted = state.queue.next;
    taken = state.taken;
    skipped = state.skipped;
    waiting = length (waiting state.queue);
    given_up = state.given_up;
  }

  -- the ticket and the message of a request
  abbrev pub taken_of : Option (Request T) → Option (ℕ × T)
  taken_of None = None
  taken_of (Some request) = Some (request.ticket, request.message)

  module _ (answers : T → Bool → Type 0) where
    -- a message is queued, skipped or refused
    abbrev pub Enqueues :
        MailboxState T → T → Bool → Result Queued MailboxError → MailboxState T → Type 0
    Enqueues old message counted result new =
        Pushes answers old.queue message counted result new.queue
        × (new ≡ record old { queue = new.queue; skipped = old.skipped + count_skipped result })

    -- the oldest request is taken, and closed ones of the overflow are skipped
    abbrev pub Takes :
        MailboxState T → Option (Request T) → List (Request T) → MailboxState T → Type 0
    Takes old result skipped new =
        Pops answers old.queue result skipped new.queue
        × (new ≡ record old {
          queue = new.queue;
          taken = old.taken + count_taken result;
          skipped = old.skipped + length skipped;
        })

  -- a stop is asked for
  abbrev pub RequestsStop : MailboxState T → MailboxState T → Type 0
  RequestsStop old new = new ≡ record old { stop = true }

  -- the requests that wait are given up, and the mailbox is closed
  abbrev pub Closes : MailboxState T → ℕ → MailboxState T → Type 0
  Closes old result new =
      (result ≡ length (waiting old.queue))
      × (new ≡ record old { queue = shut_down old.queue; given_up = old.given_up + result })
