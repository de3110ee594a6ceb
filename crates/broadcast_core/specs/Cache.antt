-- Believed.
-- What is cached.
use Rattle.std.specs.Prelude.{Bool, if◌then◌else◌, [], ◌∷◌, Option, None}
use Rattle.std.specs.List.{list_any}
use Rattle.broadcast_core.specs.Carried.{Carried}
use Rattle.broadcast_core.specs.Content.{among}
use Rattle.broadcast_core.specs.Setting.{Setting}
use Rattle.broadcast_core.specs.Happening.{History, carried_by, taken}
use Rattle.broadcast_core.specs.Peers.{primary}
use Rattle.broadcast_core.specs.Lists.{list}

module _ {P M D W V : Type 0} (s : Setting P M D) where
  -- whether some key's list has the digest; a key that is not primary has an empty list
  abbrev pub is_listed : D → History P M D W V → Bool
  is_listed d past = list_any (λ p. among s.same.digest d (list s p past)) (primary s past)

  -- the message of a listed digest: that of the happening since which it has been listed
  abbrev pub message : D → History P M D W V → Option (Carried M D)
  message d [] = None
  message d (e ∷ older) =
      if is_listed d (e ∷ older)
      then (if is_listed d older then message d older else carried_by s (taken s e)) else None
