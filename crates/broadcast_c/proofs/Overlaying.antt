-- A list that is put over the front of a room, as a whole.
use Rattle.std.proofs.Common.{◌≡◌, ◌≤◌, List, [], ◌∷◌, ◌++◌, length, take, drop, refl, ap, arith}
use Rattle.entries.specs.Overlaid.{overlaid}

module _ {X : Type 0} where
  -- there is a place for each
  pub overlaid-front : (xs room : List X) → length xs ≤ length room → xs ++ drop (length xs) room ≡ overlaid xs room
  overlaid-front [] room fits = refl
  overlaid-front (x ∷ xs) [] fits = absurd (omega (arith, fits))
  overlaid-front (x ∷ xs) (r ∷ room) fits = ap (λ l. x ∷ l) (overlaid-front xs room (omega (arith, fits)))

  -- all places are taken
  pub overlaid-cut : (xs room : List X) → length room ≤ length xs → take (length room) xs ≡ overlaid xs room
  overlaid-cut [] [] few = refl
  overlaid-cut [] (r ∷ room) few = absurd (omega (arith, few))
  overlaid-cut (x ∷ xs) [] few = refl
  overlaid-cut (x ∷ xs) (r ∷ room) few = ap (λ l. x ∷ l) (overlaid-cut xs room (omega (arith, few)))
