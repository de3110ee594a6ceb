-- Internal.
-- How a report is made of a list.
use Rattle.std.specs.Prelude.{ℕ, ◌-◌, nat_le, nat_eq, if◌then◌else◌, List, [], ◌∷◌}
use Rattle.gossip.specs.declared.span.Span.{Span}
use Rattle.gossip.specs.declared.message.Message.{Message}
use Rattle.gossip.specs.Showing.{span_of}

-- messages in order joined to the span before them, with at most this number of further spans
abbrev pub shown : ℕ → Span → List Message → List Span
shown more open_span [] = open_span ∷ []
shown more open_span (m ∷ ms) =
    if nat_le m.prev open_span.to then shown more (record { from = open_span.from; to = m.stamp }) ms
    else (if nat_eq more 0 then open_span ∷ [] else open_span ∷ shown (more - 1) (span_of m) ms)
