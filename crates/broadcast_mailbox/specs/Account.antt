-- Believed.
-- What is counted of the requests that are made through tallies.
use Rattle.std.specs.Prelude.{◌≡◌, ℕ, ◌+◌, if◌then◌else◌, ◌&&◌, Bool, true, false}
use Rattle.std.specs.Prelude.{Option, None, Some, Result, Ok, Err}
use Rattle.broadcast_mailbox.specs.declared.buffered.ingress.account.Settled.{Settled}
use Rattle.broadcast_mailbox.specs.declared.buffered.ingress.message.Request.{Request}
use Rattle.broadcast_mailbox.specs.declared.buffered.ingress.message.Queued.{Queued}
use Rattle.broadcast_mailbox.specs.declared.buffered.ingress.message.Queued.TheVariants as queued
use Rattle.broadcast_mailbox.specs.declared.broadcaster.MailboxError.{MailboxError}
use Rattle.broadcast_mailbox.specs.declared.broadcaster.Feedback.{Feedback}
use Rattle.broadcast_mailbox.specs.declared.broadcaster.Feedback.TheVariants as feedback

-- how many accepted requests a tally counts, and how many parts of its account it has
pub record TallyState : Type 0 where
  pub accepted : ℕ
  pub parts : ℕ

abbrev pub one_if : Bool → ℕ
one_if counts = if counts then 1 else 0

-- whether a request with this result drew a ticket
abbrev pub is_accepted : Result Queued MailboxError → Bool
is_accepted (Ok (queued.Ready ticket)) = true
is_accepted (Ok (queued.Overflow ticket)) = true
is_accepted (Ok (queued.Skipped ticket)) = true
is_accepted _ = false

-- whether a broadcast with this result was accepted
abbrev pub is_taken_up : Result Feedback MailboxError → Bool
is_taken_up (Ok feedback.Closed) = false
is_taken_up (Ok _) = true
is_taken_up (Err error) = false

-- a tally after a request, which is counted if it matches the watch
abbrev pub tallied : Bool → Bool → TallyState → TallyState
tallied counted accepted tally =
    record tally { accepted = tally.accepted + one_if (counted && accepted) }

-- how many counted requests a take with this result takes
abbrev pub counted_of : {T : Type 0} → Option (Request T) → ℕ
counted_of None = 0
counted_of (Some request) = one_if request.counted

-- what became of the requests that a whole tally counts, of which `takes` were taken and, of these,
-- `refuses` were refused
pub record IsSettled (tally : TallyState) (takes refuses : ℕ) (settled : Settled) : Type 0 where
  -- each was applied, refused, skipped or given up
  pub accepted :
      tally.accepted ≡ settled.applied + settled.refused + settled.skipped + settled.given_up
  -- one that was taken was applied or refused
  pub taken : settled.applied + settled.refused ≡ takes
  pub refused : settled.refused ≡ refuses
