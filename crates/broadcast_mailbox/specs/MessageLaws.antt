-- Internal.
-- The law of the messages that stay open.
use Rattle.std.specs.Prelude.{◌≡◌, Bool, true}
use Rattle.broadcast_mailbox.specs.declared.buffered.ingress.message.Message.{Message}
use Rattle.broadcast_mailbox.specs.declared.buffered.ingress.message.Message.TheVariants as variant
use Rattle.broadcast_mailbox.specs.Message.{message_may_answer}
use Rattle.broadcast_mailbox.specs.Watch.{is_broadcast, kind_of}

-- no broadcast is closed
pub broadcast_is_open : {P M S G D : Type 0} (subscriber : S → Bool → Type 0) (getter : G → Bool → Type 0) (message : Message P M S G D)
    → is_broadcast (kind_of message) ≡ true → message_may_answer subscriber getter message true → ⊥
broadcast_is_open subscriber getter (variant.Broadcast recipients message) is closed = absurd cc
broadcast_is_open subscriber getter (variant.Subscribe digest responder) is closed = absurd cc
broadcast_is_open subscriber getter (variant.Get digest responder) is closed = absurd cc
