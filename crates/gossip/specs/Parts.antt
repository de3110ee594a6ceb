-- Internal.
-- What some of a list's messages are charged.
use Rattle.std.specs.Prelude.{ℕ, ◌+◌, nat_le, if◌then◌else◌, List, [], ◌∷◌}
use Rattle.gossip.specs.Spans.{is_had}
use Rattle.gossip.specs.declared.span.Span.{Span}
use Rattle.gossip.specs.declared.message.Message.{Message}
use Rattle.gossip.specs.Newest.{charge}

-- of those that are no later than the stamp
abbrev pub bytes_up_to : ℕ → List Message → ℕ
bytes_up_to stamp [] = 0
bytes_up_to stamp (m ∷ ms) = (if nat_le m.stamp stamp then charge m else 0) + bytes_up_to stamp ms

-- of those that were had
abbrev pub bytes_had : List Span → List Message → ℕ
bytes_had had [] = 0
bytes_had had (m ∷ ms) = (if is_had m.stamp had then charge m else 0) + bytes_had had ms
