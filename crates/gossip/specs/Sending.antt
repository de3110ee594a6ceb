-- Believed.
-- What a peer is sent next of a log's list, and what it lacks.
use Rattle.std.specs.Prelude.{◌≡◌, ◌≤◌, ℕ, Bool, true, false, not, nat_eq, nat_le, nat_lt, ◌&&◌, ◌||◌, ◌+◌, if◌then◌else◌, List, [], ◌∷◌, Contains}
use Rattle.std.specs.List.{list_any}
use Rattle.gossip.specs.Spans.{is_had, top_of}
use Rattle.gossip.specs.declared.span.Span.{Span}
use Rattle.gossip.specs.declared.message.Message.{Message}
use Rattle.gossip.specs.Newest.{charge}

module _ (reported : List Span) (sent : ℕ) where
  -- the report does not show the stamp, and if it is above the report's top, it was not yet sent on this connection
  abbrev pub is_lacking : ℕ → Bool
  is_lacking s = not (is_had s reported) && (nat_le s (top_of reported) || nat_lt sent s)

  module _ (in_flight : List ℕ) where
    -- the peer lacks the message, and it is not in flight
    abbrev pub is_due : Message → Bool
    is_due m = is_lacking m.stamp && not (list_any (λ s. nat_eq s m.stamp) in_flight)

    -- no listed message is due
    abbrev pub NoneDue : List Message → Type 0
    NoneDue list = (m : Message) → Contains list m → is_due m ≡ false

    -- the message is listed and due, and none that is has a lesser stamp
    pub record IsNext (list : List Message) (message : Message) : Type 0 where
      pub is_listed : Contains list message
      pub due : is_due message ≡ true
      pub least : (m : Message) → Contains list m → is_due m ≡ true → message.stamp ≤ m.stamp

-- what the messages are charged that are lacking
abbrev pub lag : List Span → List Message → ℕ
lag reported [] = 0
lag reported (m ∷ ms) = (if is_had m.stamp reported then 0 else charge m) + lag reported ms
