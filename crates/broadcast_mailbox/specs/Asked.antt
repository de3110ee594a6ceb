-- Believed.
-- What the future of a request gives, for the digest that was asked for.
use Rattle.std.specs.Prelude.{◌≡◌, ℕ, Bool, true, if◌then◌else◌}
use Rattle.std.specs.Prelude.{Option, None, Some, Result, Ok, Err, ok_or}
use Rattle.std.specs.Ordering.{eq_by_cmp}
use Rattle.std.specs.declared.cmp.Ordering.{Ordering}
use Rattle.futures.specs.declared.channel.oneshot.Canceled.{Canceled}
use Rattle.broadcast_core.specs.Carried.{Carried}

-- the digest that was asked for, the source that fires once the reply is sent or never will be,
-- whether the mailbox accepted the request, and whether the future has given its result
pub record Asked (D : Type 0) : Type 0 where
  pub digest : D
  pub source : ℕ
  pub accepted : Bool
  pub done : Bool

module _ {M D : Type 0} (cmp : D → D → Ordering) where
  -- the message goes by the digest
  abbrev pub GoesBy : D → Carried M D → Type 0
  GoesBy digest message = eq_by_cmp cmp digest message.digest ≡ true

  -- the message of a reply, if it goes by the digest
  abbrev pub message_for : D → Carried M D → Option (Carried M D)
  message_for digest reply = if eq_by_cmp cmp digest reply.digest then Some reply else None

  -- the output of a subscription, by what the channel returned
  abbrev pub subscription_output : D → Result (Carried M D) Canceled → Result (Carried M D) Canceled
  subscription_output digest (Ok reply) = ok_or (message_for digest reply) (record {})
  subscription_output digest (Err canceled) = Err canceled

  -- the output of a get, by what the channel returned
  abbrev pub get_output : D → Result (Option (Carried M D)) Canceled → Option (Carried M D)
  get_output digest (Ok (Some reply)) = message_for digest reply
  get_output digest (Ok None) = None
  get_output digest (Err canceled) = None
