-- Believed.
-- Which keys are primary, and since when.
use Rattle.std.specs.Prelude.{Bool, if◌then◌else◌, List, [], ◌∷◌}
use Rattle.std.specs.List.{list_any}
use Rattle.broadcast_core.specs.Setting.{Setting}
use Rattle.broadcast_core.specs.Happening.{History, peers}

module _ {P M D W V : Type 0} (s : Setting P M D) where
  -- the primary keys: those of the newest peer set, or none
  abbrev pub primary : History P M D W V → List P
  primary [] = []
  primary (peers ps ∷ older) = ps
  primary (_ ∷ older) = primary older

  abbrev pub is_primary : P → History P M D W V → Bool
  is_primary p past = list_any (s.same.key p) (primary past)

  -- the happenings since the key was last not primary: none if it is not primary now
  abbrev pub since : P → History P M D W V → History P M D W V
  since p [] = []
  since p (e ∷ older) = if is_primary p (e ∷ older) then e ∷ since p older else []
