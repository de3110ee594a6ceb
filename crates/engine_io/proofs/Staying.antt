-- Which requests may stay.
use Rattle.broadcast_mailbox.specs.declared.buffered.ingress.message.Message.{Message}
use Rattle.broadcast_mailbox.specs.declared.buffered.ingress.message.Message.TheVariants as variant
use Rattle.broadcast_mailbox.specs.Message.{message_may_stay}

module _ {P M S G D : Type 0} {stays : S → Type 0} where
  -- each may, if each responder may
  pub may_stay-all : ((responder : S) → stays responder) → (message : Message P M S G D)
      → message_may_stay stays message
  may_stay-all h (variant.Broadcast recipients message) = tt
  may_stay-all h (variant.Subscribe digest responder) = h responder
  may_stay-all h (variant.Get digest responder) = tt
