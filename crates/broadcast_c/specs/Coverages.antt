-- Believed.
-- How a coverage is passed.
use Rattle.std.specs.Prelude.{ℕ, List, ◌∷◌}
use Rattle.gossip.specs.declared.span.Span.{Span}

-- all stamps up to the floor, and those of the spans
abbrev pub coverage_of : ℕ → List Span → List Span
coverage_of floor spans = record { from = 0; to = floor } ∷ spans
