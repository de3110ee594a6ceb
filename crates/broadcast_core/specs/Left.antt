-- Internal.
-- What left a cache, as it is kept until somebody asks for it.
use Rattle.std.specs.Prelude.{◌≡◌, ◌≤◌, ◌+◌, ℕ, Bool, List, ◌++◌, length, Option, IfSome}
use Rattle.std.specs.Option.{option_map}
use Rattle.broadcast_core.specs.Carried.{Carried}
use Rattle.broadcast_core.specs.Reports.{HaveLeft}

-- the messages that left, if they are kept, and how many there is room for
pub record Left (X : Type 0) : Type 0 where
  pub items : Option (List X)
  pub room : ℕ

module _ {X : Type 0} where
  -- this number of messages more needs no allocation
  abbrev pub HasRoom : ℕ → Left X → Type 0
  HasRoom more left = IfSome left.items (λ xs. length xs + more ≤ left.room)

  -- the messages stay, and there may be more room
  abbrev pub Widens : Left X → Left X → Type 0
  Widens old new = (new.items ≡ old.items) × (old.room ≤ new.room)

-- what was there and is not any more is added to what left, if that is kept
pub record Adds {M D : Type 0} (same : D → D → Bool) (old new : List (D × Carried M D))
    (before after : Option (List (Carried M D))) : Type 0 where
  pub gone : List (Carried M D)
  pub added : after ≡ option_map (λ xs. xs ++ gone) before
  pub each : HaveLeft same old new gone
