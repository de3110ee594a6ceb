-- Believed.
-- Which requests a watch matches.
use Rattle.std.specs.Prelude.{◌≡◌, Bool, true, false}
use Rattle.broadcast_mailbox.specs.declared.buffered.ingress.message.Message.{Message}
use Rattle.broadcast_mailbox.specs.declared.buffered.ingress.message.Message.TheVariants as variant
use Rattle.broadcast_mailbox.specs.declared.buffered.ingress.message.Kind.{Kind}
use Rattle.broadcast_mailbox.specs.declared.buffered.ingress.message.Kind.TheVariants as kind

-- whether the kind is that of a broadcast
abbrev pub is_broadcast : Kind → Bool
is_broadcast kind.Broadcast = true
is_broadcast _ = false

-- the watch matches no other requests than broadcasts
abbrev pub BroadcastsOnly : {D : Type 0} → (Kind → D → Bool) → Type 0
BroadcastsOnly {D} watched = (kind : Kind) (digest : D) → watched kind digest ≡ true → is_broadcast kind ≡ true

-- what a request asks for
abbrev pub kind_of : {P M S G D : Type 0} → Message P M S G D → Kind
kind_of (variant.Broadcast recipients message) = kind.Broadcast
kind_of (variant.Subscribe digest responder) = kind.Subscribe
kind_of (variant.Get digest responder) = kind.Get
