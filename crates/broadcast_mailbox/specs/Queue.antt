-- Believed.
-- The requests that wait in a mailbox.
use Rattle.std.specs.Prelude.{◌≡◌, ℕ, ◌+◌, ◌-◌, ◌^◌, ◌<◌, ◌≤◌, ◌⊎◌, if◌then◌else◌, Bool, true, false}
use Rattle.std.specs.Prelude.{List, [], ◌∷◌, ◌++◌, length, map, Option, None, Some, Result, Ok, Err}
use Rattle.broadcast_mailbox.specs.declared.buffered.ingress.message.Request.{Request}
use Rattle.broadcast_mailbox.specs.declared.buffered.ingress.message.Queued.{Queued}
use Rattle.broadcast_mailbox.specs.declared.buffered.ingress.message.Queued.TheVariants as queued
use Rattle.broadcast_mailbox.specs.declared.broadcaster.MailboxError.{MailboxError}
use Rattle.broadcast_mailbox.specs.declared.broadcaster.MailboxError.TheVariants.{Memory}
use Rattle.broadcast_mailbox.specs.declared.broadcaster.MailboxError.TheVariants.{Exhausted}
use Rattle.broadcast_mailbox.specs.Overflow.{Drains, PutsWithin}

-- a ready list of `size` places and an overflow without bound, whether the queue is closed, and the
-- next ticket
pub record QueueState (T : Type 0) : Type 0 where
  pub size : ℕ
  pub ready : List (Request T)
  pub overflow : List (Request T)
  pub closed : Bool
  pub next : ℕ

-- the tickets rise, all of them from `low` on and below `high`
abbrev pub IsRising : ℕ → List ℕ → ℕ → Type 0
IsRising low [] high = low ≤ high
IsRising low (ticket ∷ tickets) high = (low ≤ ticket) × IsRising (ticket + 1) tickets high

-- the last ticket, which is never drawn
abbrev pub last_ticket : ℕ
last_ticket = 2 ^ 64 - 1

module _ {T : Type 0} where
  abbrev pub tickets_of : List (Request T) → List ℕ
  tickets_of requests = map (λ (request : Request T). request.ticket) requests

  -- how many of them are counted
  abbrev pub counted_in : List (Request T) → ℕ
  counted_in [] = 0
  counted_in (request ∷ requests) = (if request.counted then 1 else 0) + counted_in requests

  -- the requests that wait, oldest first
  abbrev pub waiting : QueueState T → List (Request T)
  waiting queue = queue.ready ++ queue.overflow

  -- the laws of every queue
  pub record IsSound (queue : QueueState T) : Type 0 where
    pub some_places : 0 < queue.size
    pub within : length queue.ready ≤ queue.size
    -- the overflow is used only behind a full ready list
    pub full : (queue.overflow ≡ []) ⊎ (length queue.ready ≡ queue.size)
    pub rising : IsRising 0 (tickets_of (waiting queue)) queue.next
    pub shut : queue.closed ≡ true → waiting queue ≡ []
    pub drawn : queue.next ≤ last_ticket

  -- the overflow is empty, and the ready list has a place
  abbrev pub HasRoom : QueueState T → Type 0
  HasRoom queue = (queue.overflow ≡ []) × (length queue.ready < queue.size)

  -- the queue is open, and `ticket` is the one that the next request draws
  pub record Draws (queue : QueueState T) (ticket : ℕ) : Type 0 where
    pub is_open : queue.closed ≡ false
    pub next : ticket ≡ queue.next
    pub left : queue.next < last_ticket

  -- the request that the message becomes once it has drawn the next ticket
  abbrev pub request_of : QueueState T → T → Bool → Request T
  request_of queue message counted =
      record { ticket = queue.next; message = message; counted = counted }

  -- the queue with one more request in its ready list
  abbrev pub with_ready : QueueState T → T → Bool → QueueState T
  with_ready queue message counted = record queue {
    ready = queue.ready ++ request_of queue message counted ∷ [];
    next = queue.next + 1;
  }

  -- the queue with one more request in its overflow
  abbrev pub with_overflow : QueueState T → T → Bool → QueueState T
  with_overflow queue message counted = record queue {
    overflow = queue.overflow ++ request_of queue message counted ∷ [];
    next = queue.next + 1;
  }

  -- the queue with one more ticket drawn
  abbrev pub with_drawn : QueueState T → QueueState T
  with_drawn queue = record queue { next = queue.next + 1 }

  module _ (answers : T → Bool → Type 0) where
    -- what a push may return, and the queue that it leaves
    abbrev pub Pushes : QueueState T → T → Bool → Result Queued MailboxError → QueueState T → Type 0
    Pushes old message counted (Ok queued.Closed) new = (old.closed ≡ true) × (new ≡ old)
    Pushes old message counted (Err Exhausted) new =
        (old.closed ≡ false) × (old.next ≡ last_ticket) × (new ≡ old)
    Pushes old message counted (Ok (queued.Ready ticket)) new =
        Draws old ticket × HasRoom old × (new ≡ with_ready old message counted)
    Pushes old message counted (Ok (queued.Overflow ticket)) new =
        Draws old ticket × (¬ HasRoom old) × answers message false
        × (new ≡ with_overflow old message counted)
    Pushes old message counted (Ok (queued.Skipped ticket)) new =
        Draws old ticket × (¬ HasRoom old) × answers message true × (new ≡ with_drawn old)
    -- only a message that finds room, or that answered open, is allocated for
    Pushes old message counted (Err Memory) new =
        Draws old old.next × (HasRoom old ⊎ answers message false) × (new ≡ old)

    -- what a pop may return, what it skips, and the queue that it leaves: the front of the ready
    -- list is removed, and then the ready list is filled from the overflow
    abbrev pub Pops : QueueState T → Option (Request T) → List (Request T) → QueueState T → Type 0
    Pops old None skipped new = (waiting old ≡ []) × (skipped ≡ []) × (new ≡ old)
    Pops old (Some request) skipped new =
        (rest : List (Request T))
        × (old.ready ≡ request ∷ rest)
        × Drains (λ (request : Request T) answer. answers request.message answer)
        (PutsWithin old.size) rest old.overflow skipped new.overflow new.ready
        × (new ≡ record old { ready = new.ready; overflow = new.overflow })

  -- an open, empty queue whose ready list has `size` places, with `drawn` tickets drawn
  abbrev pub queue_after : ℕ → ℕ → QueueState T
  queue_after size drawn =
      record { size = size; ready = []; overflow = []; closed = false; next = drawn }

  -- the queue closed, with no request left
  abbrev pub shut_down : QueueState T → QueueState T
  shut_down queue = record queue { ready = []; overflow = []; closed = true }
