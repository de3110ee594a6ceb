-- Believed.
-- Which messages are closed, and which may stay.
use Rattle.std.specs.Prelude.{◌≡◌, Bool, true, false, List}
use Rattle.std.specs.List.{list_any}
use Rattle.broadcast_mailbox.specs.declared.buffered.ingress.message.Message.{Message}
use Rattle.broadcast_mailbox.specs.declared.buffered.ingress.message.Message.TheVariants as variant

module _ {P M S G D : Type 0} (subscriber : S → Bool → Type 0) (getter : G → Bool → Type 0) where
  -- a message is closed if its responder says so, and a broadcast is open
  abbrev pub message_may_answer : Message P M S G D → Bool → Type 0
  message_may_answer (variant.Broadcast recipients message) answer = answer ≡ false
  message_may_answer (variant.Subscribe digest responder) answer = subscriber responder answer
  message_may_answer (variant.Get digest responder) answer = getter responder answer

module _ {P M S G D : Type 0} (stays : S → Type 0) where
  -- a subscribe may stay if its responder may, and no other message waits
  abbrev pub message_may_stay : Message P M S G D → Type 0
  message_may_stay (variant.Subscribe digest responder) = stays responder
  message_may_stay _ = Unit {0}

module _ {P M S G D : Type 0} (same : D → D → Bool) where
  -- a subscribe waits for its digest, and no other message waits
  abbrev pub message_is_among : List D → Message P M S G D → Type 0
  message_is_among digests (variant.Subscribe digest responder) = list_any (same digest) digests ≡ true
  message_is_among digests _ = Unit {0}
