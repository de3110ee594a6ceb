-- Believed.
-- What is handed out: the replies to subscribes and to gets.
use Rattle.std.specs.Prelude.{List, [], ◌∷◌, ◌++◌, map, Option, None, Some}
use Rattle.broadcast_core.specs.Carried.{Carried}
use Rattle.broadcast_core.specs.Setting.{Setting}
use Rattle.broadcast_core.specs.Happening.{Happening, History, broadcast, arrival, subscribe, get}
use Rattle.broadcast_core.specs.Cache.{message}
use Rattle.broadcast_core.specs.Waiting.{Awaiting, replied_at}

-- a reply with the one whom it is for
pub data Handed (M D W V : Type 0) : Type 0 where
  to_subscribe : W → Carried M D → Handed M D W V
  to_get : V → Option (Carried M D) → Handed M D W V

-- the message as the reply to each subscribe
abbrev pub to_each : {M D W V : Type 0} → Carried M D → List (Awaiting W D) → List (Handed M D W V)
to_each c ws = map (λ w. to_subscribe w.waiter c) ws

-- the cached message as the reply to a subscribe
abbrev pub from_cache : {M D W V : Type 0} → W → Option (Carried M D) → List (Handed M D W V)
from_cache w None = []
from_cache w (Some c) = to_subscribe w c ∷ []

module _ {P M D W V : Type 0} (s : Setting P M D) where
  -- the replies at a happening, in the order of their subscribes
  abbrev pub handed_at : Happening P M D W V → History P M D W V → List (Handed M D W V)
  handed_at (broadcast r c) past = to_each c (replied_at s (broadcast r c) past)
  handed_at (arrival p c) past = to_each c (replied_at s (arrival p c) past)
  handed_at (subscribe w d) past = from_cache w (message s d (subscribe w d ∷ past))
  handed_at (get v d) past = to_get v (message s d (get v d ∷ past)) ∷ []
  handed_at _ past = []

  -- the replies at newer happenings after a history, the oldest first
  abbrev pub handed : History P M D W V → History P M D W V → List (Handed M D W V)
  handed [] past = []
  handed (e ∷ newer) past = handed newer past ++ handed_at e (newer ++ past)
