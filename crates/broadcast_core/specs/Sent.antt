-- Believed.
-- What is sent to the network.
use Rattle.std.specs.Prelude.{ℕ, List, [], ◌∷◌, ◌++◌, Option, None, Some}
use Rattle.broadcast_core.specs.Setting.{Setting}
use Rattle.broadcast_core.specs.Happening.{Happening, History, broadcast}
use Rattle.broadcast_core.specs.declared.event.Sent.{Sent}
use Rattle.broadcast_core.specs.declared.ordered.Recipients.{Recipients}

module _ {P M D : Type 0} (s : Setting P M D) where
  -- the send of an encoding, if there is one
  abbrev pub sending : Recipients P → Option (List ℕ) → List (Sent P)
  sending r None = []
  sending r (Some bytes) = record { recipients = r; bytes = bytes; priority = s.priority } ∷ []

module _ {P M D W V : Type 0} (s : Setting P M D) where
  -- what a happening sends: a broadcast its encoding
  abbrev pub sent_at : Happening P M D W V → List (Sent P)
  sent_at (broadcast r c) = sending s r (s.encoding c.message)
  sent_at _ = []

  -- what a history sends, the oldest first
  abbrev pub sent : History P M D W V → List (Sent P)
  sent [] = []
  sent (e ∷ older) = sent older ++ sent_at e
