-- Believed.
-- When two numbers of lists are equal, and a list that is copied into a room.
use Rattle.std.specs.Prelude.{ℕ, Bool, List, [], ◌∷◌}
use Rattle.std.specs.Ordering.{eq_by_cmp, nat_cmp}

-- whether two numbers of lists are one
abbrev pub same_number : ℕ → ℕ → Bool
same_number = eq_by_cmp nat_cmp

-- the list over the front of the room, as far as it goes; the rest of the room stays
abbrev pub overlaid : {X : Type 0} → List X → List X → List X
overlaid [] room = room
overlaid (x ∷ xs) [] = []
overlaid (x ∷ xs) (r ∷ room) = x ∷ overlaid xs room
