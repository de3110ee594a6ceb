-- Believed.
-- What the steps of an engine count.
use Rattle.std.specs.Prelude.{ℕ, true, false, List, [], ◌∷◌, ◌++◌, map, length, Option, None, Some}
use Rattle.std.specs.List.{filter}
use Rattle.broadcast_core.specs.Setting.{Setting}
use Rattle.broadcast_core.specs.Happening.{History, cleanup}
use Rattle.broadcast_core.specs.Waiting.{waiting, awaited}
use Rattle.broadcast_core.specs.Lists.{outcome}
use Rattle.broadcast_core.specs.declared.outcome.Outcome.{Outcome}
use Rattle.broadcast_core.specs.declared.outcome.Outcome.TheVariants.{Inserted}
use Rattle.engine_io.specs.declared.input.Input.{Input}
use Rattle.engine_io.specs.declared.input.Input.TheVariants.{Arrived, Invalid}
use Rattle.engine_io.specs.declared.metrics.Status.TheVariants.{Success, Failure, Dropped}
use Rattle.engine_io.specs.declared.metrics.Status.TheVariants as status
use Rattle.engine_io.specs.Counters.{Counted, peer, receive, subscribe, get}
use Rattle.engine_io.specs.Replies.{Asker, Replied, subscribed, got}
use Rattle.commonware_broadcast.specs.EngineHistory.{Step, swept, applied, decoded, happenings}

-- a reply is counted by whether it was delivered, and a delivered one to a get by whether it has
-- a message
abbrev pub counted_reply : {P S G A C : Type 0} → Replied S G A (Option C) → Counted P
counted_reply (subscribed w a true) = subscribe Success
counted_reply (subscribed w a false) = subscribe Dropped
counted_reply (got v (Some c) true) = get Success
counted_reply (got v None true) = get Failure
counted_reply (got v found false) = get Dropped

-- a message that was received is counted by its outcome
abbrev pub counted_outcome : {P : Type 0} → Outcome → Counted P
counted_outcome Inserted = receive Success
counted_outcome _ = receive Dropped

module _ {P M D S G : Type 0} (s : Setting P M D) where
  abbrev pub counted_input : Input P M S G D → History P M D (Asker S) (Asker G) → List (Counted P)
  counted_input (Arrived p c) past = counted_outcome (outcome s p c past) ∷ []
  counted_input (Invalid p error) past = receive status.Invalid ∷ []
  counted_input _ past = []

  -- each dropped waiter, each reply, each message that was received, each payload that was decoded;
  -- an end counts nothing
  abbrev pub counted_at : Step P M D S G → History P M D (Asker S) (Asker G) → List (Counted P)
  counted_at (swept test) past =
      map (λ w. subscribe Dropped) (filter (λ w. test w.place w.waiter) (waiting s past))
  counted_at (applied input replies) past = map counted_reply replies ++ counted_input input past
  counted_at (decoded p) past = peer p ∷ []
  counted_at _ past = []

  -- what the steps count after a history, the oldest first
  abbrev pub counted : List (Step P M D S G) → History P M D (Asker S) (Asker G) → List (Counted P)
  counted [] past = []
  counted (step ∷ steps) past = counted steps past ++ counted_at step (happenings steps ++ past)

  -- the gauge: how many digests were awaited after the last cleanup, or what it was before
  abbrev pub gauge : List (Step P M D S G) → History P M D (Asker S) (Asker G) → ℕ → ℕ
  gauge [] past before = before
  gauge (swept test ∷ steps) past before =
      length (awaited s (cleanup test ∷ (happenings steps ++ past)))
  gauge (step ∷ steps) past before = gauge steps past before
