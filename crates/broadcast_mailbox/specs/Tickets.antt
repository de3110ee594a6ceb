-- Believed.
-- What becomes of each ticket, over any list of calls.
use Rattle.std.specs.Prelude.{◌≡◌, ℕ, ◌+◌, ◌==◌, if◌then◌else◌, Bool, List, [], ◌∷◌, ◌++◌, length}
use Rattle.std.specs.Prelude.{Option, Some, Result, Ok, Contains}
use Rattle.std.specs.List.{flat_map}
use Rattle.broadcast_mailbox.specs.declared.buffered.ingress.message.Request.{Request}
use Rattle.broadcast_mailbox.specs.declared.buffered.ingress.message.Queued.{Queued}
use Rattle.broadcast_mailbox.specs.declared.buffered.ingress.message.Queued.TheVariants as queued
use Rattle.broadcast_mailbox.specs.declared.broadcaster.MailboxError.{MailboxError}
use Rattle.broadcast_mailbox.specs.Queue.{IsRising, tickets_of, waiting}
use Rattle.broadcast_mailbox.specs.Mailbox.{MailboxState, Enqueues, Takes, RequestsStop, Closes}
use Rattle.broadcast_mailbox.specs.Mailbox.{counts_of}

-- a call of a mailbox with its result, and with the requests that it skipped or gave up
pub data Call (T : Type 0) : Type 0 where
  Enqueued : T → Bool → Result Queued MailboxError → Call T
  Took : Option (Request T) → List (Request T) → Call T
  StopRequested : Call T
  GaveUp : List (Request T) → Call T

-- how often a ticket stands in a list
abbrev pub times : ℕ → List ℕ → ℕ
times ticket [] = 0
times ticket (first ∷ tickets) = (if first == ticket then 1 else 0) + times ticket tickets

module _ {T : Type 0} where
  -- the tickets that a call hands out
  abbrev pub drawn_by : Call T → List ℕ
  drawn_by (Enqueued message counted (Ok (queued.Ready ticket))) = ticket ∷ []
  drawn_by (Enqueued message counted (Ok (queued.Overflow ticket))) = ticket ∷ []
  drawn_by (Enqueued message counted (Ok (queued.Skipped ticket))) = ticket ∷ []
  drawn_by _ = []

  -- the tickets of the requests that a call takes
  abbrev pub taken_by : Call T → List ℕ
  taken_by (Took (Some request) skipped) = request.ticket ∷ []
  taken_by _ = []

  -- the tickets of the requests that a call skips
  abbrev pub skipped_by : Call T → List ℕ
  skipped_by (Enqueued message counted (Ok (queued.Skipped ticket))) = ticket ∷ []
  skipped_by (Took result skipped) = tickets_of skipped
  skipped_by _ = []

  -- the tickets of the requests that a call gives up
  abbrev pub given_up_by : Call T → List ℕ
  given_up_by (GaveUp requests) = tickets_of requests
  given_up_by _ = []

  -- how often a ticket is taken, is skipped, waits at the end or is given up
  abbrev pub ends : ℕ → List (Call T) → MailboxState T → ℕ
  ends ticket calls last =
      times ticket (flat_map taken_by calls) + times ticket (flat_map skipped_by calls)
      + times ticket (tickets_of (waiting last.queue)) + times ticket (flat_map given_up_by calls)

  module _ (answers : T → Bool → Type 0) where
    -- the mailbox may take this call
    abbrev pub Moves : MailboxState T → Call T → MailboxState T → Type 0
    Moves old (Enqueued message counted result) new = Enqueues answers old message counted result new
    Moves old (Took result skipped) new = Takes answers old result skipped new
    Moves old StopRequested new = RequestsStop old new
    Moves old (GaveUp requests) new =
        (requests ≡ waiting old.queue) × Closes old (length requests) new

    -- the mailbox may take these calls, one after another
    abbrev pub Runs : MailboxState T → List (Call T) → MailboxState T → Type 0
    Runs old [] new = new ≡ old
    Runs old (call ∷ calls) new = (mid : MailboxState T) × Moves old call mid × Runs mid calls new

  -- the law of the tickets, over every list of calls of a mailbox that begins empty, after `before`
  -- requests that were taken
  pub record IsLawful (before : ℕ) (calls : List (Call T)) (last : MailboxState T) : Type 0 where
    -- the tickets rise in the order in which they are drawn
    pub drawn_rise : IsRising before (flat_map drawn_by calls) last.queue.next
    -- they rise in the order in which they are taken, and those that still wait are higher
    pub taken_rise :
        IsRising before (flat_map taken_by calls ++ tickets_of (waiting last.queue)) last.queue.next
    -- a drawn ticket has one end: its request is taken, is skipped, waits or is given up
    pub drawn_end_once :
        (ticket : ℕ) → Contains (flat_map drawn_by calls) ticket → ends ticket calls last ≡ 1
    -- a ticket that was not drawn has no end
    pub others_never_end :
        (ticket : ℕ) → (¬ Contains (flat_map drawn_by calls) ticket) → ends ticket calls last ≡ 0
    -- each count is the number of those tickets, and of the requests before
    pub accepted : (counts_of last).accepted ≡ before + length (flat_map drawn_by calls)
    pub taken : (counts_of last).taken ≡ before + length (flat_map taken_by calls)
    pub skipped : (counts_of last).skipped ≡ length (flat_map skipped_by calls)
    pub given_up : (counts_of last).given_up ≡ length (flat_map given_up_by calls)
