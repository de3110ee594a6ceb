-- Believed.
-- Requests of a run, which are its gets and subscribes, and the answers that they have so far.
use Rattle.std.specs.Prelude.{◌≡◌, ℕ, ◌-◌, Bool, true, false, List, [], ◌∷◌, ◌++◌, length, reverse, Option, None, Some, ◌⊎◌}
use Rattle.std.specs.Option.{option_map}
use Rattle.std.specs.List.{AllByRecursion}
use Rattle.std.specs.declared.cmp.Ordering.{Ordering}
use Rattle.sha2.specs.Sha256.{sha256}
use Rattle.broadcast_core.specs.Carried.{Carried}
use Rattle.broadcast_core.specs.TestMessage.{Parts}
use Rattle.broadcast_core.specs.Happening.{Happening, Future, broadcast, carried_by, taken}
use Rattle.broadcast_core.specs.Cache.{message}
use Rattle.broadcast_core.specs.Waiting.{Awaiting, reply, waits}
use Rattle.broadcast_core.specs.declared.event.Event.TheVariants as event
use Rattle.broadcast_world.specs.Scene.{Scene}
use Rattle.broadcast_world.specs.World.{Log, NodeEvent, NodeHistory, accepted, at, history, history_with}

-- the digest that a request asks for
abbrev pub asked_for : {P : Type 0} → NodeEvent P → List ℕ
asked_for (event.Get t d) = d
asked_for (event.Subscribe t d) = d
asked_for _ = []

-- the subscribe that is the newest happening of a history
abbrev pub newest_subscribe : {P : Type 0} → ℕ → List ℕ → NodeHistory P → Awaiting ℕ (List ℕ)
newest_subscribe t d past = record { place = length past - 1; waiter = t; digest = d }

module _ {P : Type 0} (cmp : P → P → Ordering) (w : Scene P) where
  -- what happens at a node in the newer steps of a log, the newest first
  abbrev pub happened : P → Log P → Log P → NodeHistory P
  happened n [] older = []
  happened n (x ∷ newer) older =
      history_with cmp w n (accepted cmp w x (newer ++ older)) [] ++ happened n newer older

  -- the node and the event that it accepted at the newest step of a log
  abbrev pub newest : Log P → Option (P × NodeEvent P)
  newest [] = None
  newest (x ∷ log) = accepted cmp w x log

  -- the message with which a request is answered, by its node's history up to it and what happens
  -- there later, the oldest first
  abbrev pub answer_from : P → NodeEvent P → NodeHistory P → Future P Parts (List ℕ) ℕ ℕ
      → Option (Carried Parts (List ℕ))
  answer_from n (event.Get t d) past later = message (at cmp w n) d past
  answer_from n (event.Subscribe t d) past later =
      option_map (λ r. r.1) (reply (at cmp w n) (newest_subscribe t d past) past later)
  answer_from n _ past later = None

  -- whether a request still waits
  abbrev pub waits_from : P → NodeEvent P → NodeHistory P → Future P Parts (List ℕ) ℕ ℕ → Bool
  waits_from n (event.Subscribe t d) past later =
      waits (at cmp w n) (newest_subscribe t d past) past later
  waits_from n _ past later = false

  -- the same for the request that is the newest step of a log, once newer steps were taken
  abbrev pub answer_so_far : P → NodeEvent P → Log P → Log P → Option (Carried Parts (List ℕ))
  answer_so_far n e log newer =
      answer_from n e (history cmp w n log) (reverse (happened n newer log))

  abbrev pub waits_so_far : P → NodeEvent P → Log P → Log P → Bool
  waits_so_far n e log newer = waits_from n e (history cmp w n log) (reverse (happened n newer log))

  -- some happening of the node's history takes the message
  abbrev pub IsTaken : P → Carried Parts (List ℕ) → NodeHistory P → Type 0
  IsTaken n c [] = ⊥
  IsTaken n c (e ∷ past) =
      (carried_by (at cmp w n) (taken (at cmp w n) e) ≡ Some c) ⊎ IsTaken n c past

  -- a broadcast hands in its message's own digest
  abbrev pub IsOwnDigested : Happening P Parts (List ℕ) ℕ ℕ → Type 0
  IsOwnDigested (broadcast r c) = c.digest ≡ sha256 c.message.content
  IsOwnDigested _ = Unit {0}

  -- each broadcast of the history hands in its message's own digest
  abbrev pub HandsOwnDigests : NodeHistory P → Type 0
  HandsOwnDigests past = AllByRecursion IsOwnDigested past

  -- no two different messages that the history takes go by one digest
  abbrev pub SharesNoDigest : P → NodeHistory P → Type 0
  SharesNoDigest n past = (b c : Carried Parts (List ℕ)) → IsTaken n b past → IsTaken n c past
      → (at cmp w n).same.digest b.digest c.digest ≡ true → b.message ≡ c.message
