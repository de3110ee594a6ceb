-- Believed.
-- What the steps of an engine leave.
use Rattle.std.specs.Prelude.{◌≡◌, Bool, List, [], ◌∷◌, ◌++◌}
use Rattle.std.specs.List.{count_by}
use Rattle.broadcast_core.specs.Setting.{Setting}
use Rattle.broadcast_core.specs.Happening.{History}
use Rattle.broadcast_core.specs.HasContent.{HasContent}
use Rattle.broadcast_core.specs.Sent.{sent}
use Rattle.broadcast_core.specs.declared.event.Sent.{Sent}
use Rattle.engine_io.specs.declared.input.Input.{Input}
use Rattle.engine_io.specs.declared.input.Turn.{Turn}
use Rattle.commonware_broadcast.specs.declared.buffered.engine.node.Node.{Node}
use Rattle.engine_io.specs.Counters.{Counted, raised, is_counted_as, number_at}
use Rattle.engine_io.specs.Replies.{Asker, Replies}
use Rattle.commonware_broadcast.specs.EngineHistory.{Step, applied, refused, happenings, handed_out, turns_at}
use Rattle.commonware_broadcast.specs.StepLaws.{AreSteps}
use Rattle.commonware_broadcast.specs.Counting.{counted, gauge}

-- the step of an input: it was applied, or refused
abbrev pub IsStepOf : {P M D S G : Type 0} → Input P M S G D → Step P M D S G → Type 0
IsStepOf input (applied given replies) = given ≡ input
IsStepOf input (refused given cause) = given ≡ input
IsStepOf input _ = ⊥

module _ {P M D S G O : Type 0} (s : Setting P M D) (may_answer : Asker S → Bool → Type 0)
    (outlet_told : O → Replies S G M D → Type 0) where
  -- after a history these steps were taken
  pub record AppliesSteps (past : History P M D (Asker S) (Asker G)) (steps : List (Step P M D S G))
      (old new : Node P M S O D) : Type 0 where
    -- each may follow those before it
    pub lawful : AreSteps s may_answer steps past
    -- the core has what the happenings give
    pub content : HasContent s (happenings steps ++ past) new.core
    -- each counter was raised by the number of what it counts
    pub counters : (c : Counted P) → number_at s.same.key c new.metrics ≡ raised
        (number_at s.same.key c old.metrics)
        (count_by (is_counted_as s.same.key c) (counted s steps past))
    -- the gauge has the number of digests that were awaited after the last cleanup
    pub waiters : new.metrics.totals.waiters ≡ gauge s steps past old.metrics.totals.waiters
    -- the outlet was handed the replies
    pub replied : (replies : Replies S G M D) → outlet_told old.outlet replies
        → outlet_told new.outlet (replies ++ handed_out steps)

  -- an input was applied or refused, with this turn
  pub record AppliesInput (past : History P M D (Asker S) (Asker G)) (input : Input P M S G D)
      (turn : Turn P D) (old new : Node P M S O D) : Type 0 where
    pub step : Step P M D S G
    pub of_input : IsStepOf input step
    pub turned : turns_at s step past ≡ turn ∷ []
    pub ran : AppliesSteps past (step ∷ []) old new

module _ {P M D S G N : Type 0} (s : Setting P M D) (sender_told : N → List (Sent P) → Type 0) where
  -- the sender was handed the broadcasts of the steps
  abbrev pub Sends : List (Step P M D S G) → (old new : N) → Type 0
  Sends steps old new = (sends : List (Sent P)) → sender_told old sends
      → sender_told new (sends ++ sent s (happenings steps))

module _ {P M D S G O N : Type 0} (s : Setting P M D) (may_answer : Asker S → Bool → Type 0)
    (outlet_told : O → Replies S G M D → Type 0) (sender_told : N → List (Sent P) → Type 0) where
  -- so it was, and the sender was handed its broadcast
  pub record AppliesAndSends (past : History P M D (Asker S) (Asker G)) (input : Input P M S G D)
      (turn : Turn P D) (old new : Node P M S O D × N) : Type 0 where
    pub handled : AppliesInput s may_answer outlet_told past input turn old.0 new.0
    pub sends : Sends s sender_told (handled.step ∷ []) old.1 new.1
