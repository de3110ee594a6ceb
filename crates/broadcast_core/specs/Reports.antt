-- Believed.
-- Which messages left a cache.
use Rattle.std.specs.Prelude.{◌≡◌, Bool, if◌then◌else◌, List, ◌++◌, None, is_some}
use Rattle.std.specs.List.{filter}
use Rattle.std.specs.Map.{lookup}
use Rattle.std.specs.Option.{option_to_list}
use Rattle.broadcast_core.specs.Carried.{Carried}
use Rattle.broadcast_core.specs.Content.{Content, Same}

-- of each digest the list has the message that was cached and is not any more, once
abbrev pub HaveLeft : {M D : Type 0} → (D → D → Bool) → List (D × Carried M D) → List (D × Carried M D) → List (Carried M D) → Type 0
HaveLeft {D = D} same old new gone = (d : D) → filter (λ x. same d x.digest) gone
    ≡ option_to_list (if is_some (lookup (same d) new) then None else lookup (same d) old)

-- a core, and the messages that left it and were not reported yet, the newest last
pub record Reported (P M D W : Type 0) : Type 0 where
  pub core : Content P M D W
  pub left : List (Carried M D)

-- what was cached and is not any more is added to what left, once
pub record Reports {P M D W : Type 0} (same : Same P D) (old new : Reported P M D W) : Type 0 where
  pub gone : List (Carried M D)
  pub added : new.left ≡ old.left ++ gone
  pub each : HaveLeft same.digest old.core.cached new.core.cached gone
