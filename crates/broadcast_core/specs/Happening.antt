-- Believed.
-- What happens to a core.
use Rattle.std.specs.Prelude.{ℕ, Bool, false, List, Option, None, Some}
use Rattle.broadcast_core.specs.Carried.{Carried}
use Rattle.broadcast_core.specs.Setting.{Setting}
use Rattle.broadcast_core.specs.declared.ordered.Recipients.{Recipients}

-- waiters are of type W, those who ask for a cached message of type V
pub data Happening (P M D W V : Type 0) : Type 0 where
  -- these keys are the primary ones from now on
  peers : List P → Happening P M D W V
  -- a message is taken under the own key, by the digest that was given with it
  broadcast : Recipients P → Carried M D → Happening P M D W V
  -- a message is taken under the key, by the digest that it carries
  arrival : P → Carried M D → Happening P M D W V
  -- a waiter asks for the digest's message, now or later
  subscribe : W → D → Happening P M D W V
  -- the digest's cached message is asked for
  get : V → D → Happening P M D W V
  -- the waiters of the subscribes that the test names are dropped: it is given a subscribe's place,
  -- which is how many happenings are older, and its waiter
  cleanup : (ℕ → W → Bool) → Happening P M D W V

-- happenings, the newest first
abbrev pub History : (P M D W V : Type 0) → Type 0
History P M D W V = List (Happening P M D W V)

-- happenings, the oldest first
abbrev pub Future : (P M D W V : Type 0) → Type 0
Future P M D W V = List (Happening P M D W V)

-- a message that is taken under a key
pub record Taking (P M D : Type 0) : Type 0 where
  pub key : P
  pub carried : Carried M D

module _ {P M D : Type 0} (s : Setting P M D) where
  -- whether a taking has the digest
  abbrev pub of_digest : D → Option (Taking P M D) → Bool
  of_digest d None = false
  of_digest d (Some t) = s.same.digest d t.carried.digest

  -- the message of a taking
  abbrev pub carried_by : Option (Taking P M D) → Option (Carried M D)
  carried_by None = None
  carried_by (Some t) = Some t.carried

module _ {P M D W V : Type 0} (s : Setting P M D) where
  -- what a happening takes
  abbrev pub taken : Happening P M D W V → Option (Taking P M D)
  taken (broadcast r c) = Some (record { key = s.own; carried = c })
  taken (arrival p c) = Some (record { key = p; carried = c })
  taken _ = None

  -- whether the happening takes the digest
  abbrev pub takes : D → Happening P M D W V → Bool
  takes d e = of_digest s d (taken e)
