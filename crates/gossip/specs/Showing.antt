-- Believed.
-- What a log covers.
use Rattle.std.specs.Prelude.{◌≡◌, true, List, ◌∷◌, map, Contains}
use Rattle.gossip.specs.declared.span.Span.{Span}
use Rattle.gossip.specs.declared.message.Message.{Message}
use Rattle.gossip.specs.Spans.{is_had}
use Rattle.gossip.specs.Held.{Held}

-- the stamps that a message covers: nothing of its author lies between the one before it and it
abbrev pub span_of : Message → Span
span_of m = record { from = m.prev; to = m.stamp }

-- what the floor and the listed messages cover
abbrev pub covered : Held → List Span
covered h = record { from = 0; to = h.floor } ∷ map span_of h.list

-- the log covers each of the messages
abbrev pub AreCovered : Held → List Message → Type 0
AreCovered h list = (m : Message) → Contains list m → is_had m.stamp (covered h) ≡ true
