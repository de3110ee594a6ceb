-- Believed.
-- Broadcasts through an inbox and back.
use Rattle.std.specs.Prelude.{◌≡◌, ℕ, ◌+◌, ◌≤◌, false, List, [], ◌∷◌}
use Rattle.broadcast_core.specs.declared.event.Event.{Event}
use Rattle.broadcast_core.specs.declared.event.Event.TheVariants.{Broadcast}
use Rattle.broadcast_mailbox.specs.Queue.{last_ticket, waiting}
use Rattle.broadcast_mailbox.specs.Mailbox.{MailboxState}

module _ {P M D : Type 0} where
  -- how many broadcasts an event is
  abbrev pub broadcasts_by : Event P M D → ℕ
  broadcasts_by (Broadcast recipients message) = 1
  broadcasts_by _ = 0

  -- how many of the events are broadcasts
  abbrev pub broadcasts_in : List (Event P M D) → ℕ
  broadcasts_in [] = 0
  broadcasts_in (event ∷ events) = broadcasts_by event + broadcasts_in events

module _ {T : Type 0} where
  -- the mailbox is open, no request waits, and at least `count` tickets are left
  pub record IsIdle (state : MailboxState T) (count : ℕ) : Type 0 where
    pub is_open : state.queue.closed ≡ false
    pub nobody : waiting state.queue ≡ []
    pub left : state.queue.next + count ≤ last_ticket

  -- `count` more requests were queued and taken
  abbrev pub passed : MailboxState T → ℕ → MailboxState T
  passed state count = record state { queue = record state.queue { next = state.queue.next + count }; taken = state.taken + count }
