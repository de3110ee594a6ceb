-- Believed.
-- The relay: the messages that replied to subscribes, each digest once.
use Rattle.std.specs.Prelude.{Bool, List, [], ◌∷◌, ◌++◌}
use Rattle.std.specs.Option.{option_to_list}
use Rattle.broadcast_core.specs.Carried.{Carried}
use Rattle.broadcast_core.specs.Content.{first_places}
use Rattle.broadcast_core.specs.Setting.{Setting}
use Rattle.broadcast_core.specs.Happening.{Happening, History, subscribe, carried_by, taken}
use Rattle.broadcast_core.specs.Cache.{message}
use Rattle.broadcast_core.specs.Waiting.{replied_at}

-- the items of the first list, unless the second is empty
abbrev pub unless_empty : {A B : Type 0} → List A → List B → List A
unless_empty xs [] = []
unless_empty xs (y ∷ ys) = xs

-- whether two messages go by one digest
abbrev pub same_digest : {M D : Type 0} → (D → D → Bool) → Carried M D → Carried M D → Bool
same_digest same a b = same a.digest b.digest

module _ {P M D W V : Type 0} (s : Setting P M D) where
  -- the message with which a happening replies to subscribes: a subscribe to itself, if its digest is
  -- cached, and a taking to those that wait for it, if there are any
  abbrev pub replied_with : Happening P M D W V → History P M D W V → List (Carried M D)
  replied_with (subscribe w d) past = option_to_list (message s d (subscribe w d ∷ past))
  replied_with e past = unless_empty (option_to_list (carried_by s (taken s e))) (replied_at s e past)

  -- the messages with which the happenings of a history replied, the oldest first
  abbrev pub replied : History P M D W V → List (Carried M D)
  replied [] = []
  replied (e ∷ older) = replied older ++ replied_with e older

  -- the relay of a history: for each digest with a reply the message of its earliest, in the order of
  -- these replies
  abbrev pub relay : History P M D W V → List (Carried M D)
  relay past = first_places (same_digest s.same.digest) (replied past)
