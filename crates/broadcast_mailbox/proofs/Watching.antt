-- What a watch and a tally are told of a request.
use Rattle.std.proofs.Common.{◌≡◌, Bool, true, refl}
use Rattle.broadcast_mailbox.specs.declared.buffered.ingress.message.Message.{Message}
use Rattle.broadcast_mailbox.specs.declared.buffered.ingress.message.Message.TheVariants as variant
use Rattle.broadcast_mailbox.specs.declared.buffered.ingress.message.Kind.{Kind}
use Rattle.broadcast_mailbox.specs.declared.buffered.ingress.message.Kind.TheVariants as kind
use Rattle.broadcast_mailbox.specs.declared.buffered.ingress.message.Queued.TheVariants as queued
use Rattle.broadcast_mailbox.specs.Booked.{is_watched}
use Rattle.broadcast_mailbox.specs.Watch.{BroadcastsOnly, is_broadcast, kind_of}

-- a request that a watch of broadcasts matches is a broadcast
pub watched_open : {P M S G D : Type 0} (watched : Kind → D → Bool) (message : Message P M S G D) → BroadcastsOnly watched → is_watched watched message ≡ true → is_broadcast (kind_of message) ≡ true
watched_open watched (variant.Broadcast recipients message) only is = refl
watched_open watched (variant.Subscribe digest responder) only is = only kind.Subscribe digest is
watched_open watched (variant.Get digest responder) only is = only kind.Get digest is
