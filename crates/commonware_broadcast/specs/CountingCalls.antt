-- Internal.
-- What the calls of one step make of an engine's node.
use Rattle.std.specs.Prelude.{◌≡◌, List, [], ◌∷◌, ◌++◌, Bool, true, false, length, ℕ}
use Rattle.broadcast_core.specs.Setting.{Setting}
use Rattle.broadcast_core.specs.Happening.{History, cleanup}
use Rattle.broadcast_core.specs.Waiting.{waiting, awaited}
use Rattle.broadcast_core.specs.HasContent.{HasContent}
use Rattle.broadcast_core.specs.Cleaned.{named_by}
use Rattle.broadcast_core.specs.Lists.{outcome}
use Rattle.broadcast_core.specs.declared.outcome.Outcome.{Outcome}
use Rattle.broadcast_core.specs.declared.outcome.Outcome.TheVariants.{Inserted, Duplicate, Ineligible, Oversize}
use Rattle.engine_io.specs.declared.input.Input.{Input}
use Rattle.engine_io.specs.declared.input.Input.TheVariants.{Arrived, Invalid, Request}
use Rattle.engine_io.specs.declared.metrics.Status.TheVariants.{Success, Dropped}
use Rattle.engine_io.specs.declared.metrics.Status.TheVariants as status
use Rattle.engine_io.specs.Counters.{Totals, added}
use Rattle.engine_io.specs.Replies.{Asker, Replies}
use Rattle.engine_io.specs.ReplyCounts.{count_replies}
use Rattle.commonware_broadcast.specs.EngineHistory.{Step, swept, applied, happenings_at, handed_out_at}
use Rattle.commonware_broadcast.specs.StepLaws.{IsStep}
use Rattle.commonware_broadcast.specs.declared.buffered.engine.node.Node.{Node}
use Rattle.broadcast_mailbox.specs.declared.buffered.ingress.message.Message.{Message}

-- a message that was received is counted by its outcome
abbrev pub count_outcome : Outcome → Totals → Totals
count_outcome Inserted t = record t { receive = added Success 1 t.receive }
count_outcome Duplicate t = record t { receive = added Dropped 1 t.receive }
count_outcome Ineligible t = record t { receive = added Dropped 1 t.receive }
count_outcome Oversize t = record t { receive = added Dropped 1 t.receive }

module _ {P M D S G : Type 0} (s : Setting P M D) where
  -- what an input counts, besides replies
  abbrev pub count_input : Input P M S G D → History P M D (Asker S) (Asker G) → Totals → Totals
  count_input (Arrived p c) past t = count_outcome (outcome s p c past) t
  count_input (Invalid p error) past t = record t { receive = added status.Invalid 1 t.receive }
  count_input _ past t = t

  -- what a step counts after a history; an end counts nothing
  abbrev pub count : Step P M D S G → History P M D (Asker S) (Asker G) → Totals → Totals
  count (swept test) past t = record t {
    subscribe = added Dropped (named_by test (waiting s past)) t.subscribe;
    waiters = length (awaited s (cleanup test ∷ past));
  }
  count (applied input replies) past t = count_input input past (count_replies replies t)
  count _ past t = t

module _ {P M D S G O : Type 0} (s : Setting P M D) (may_answer : Asker S → Bool → Type 0)
    (outlet_told : O → Replies S G M D → Type 0) where
  -- one step, whatever was sent; it counts on no peer
  pub record AppliesStep (past : History P M D (Asker S) (Asker G)) (step : Step P M D S G)
      (old new : Node P M S O D) : Type 0 where
    pub lawful : IsStep s may_answer step past
    pub content : HasContent s (happenings_at step ++ past) new.core
    pub counted : new.metrics ≡ record old.metrics { totals = count s step past old.metrics.totals }
    pub replied : (replies : Replies S G M D) → outlet_told old.outlet replies
        → outlet_told new.outlet (replies ++ handed_out_at step)

-- a request as an input
abbrev pub requested : {P M D S G : Type 0} → ℕ → Bool → Message P M S G D → Input P M S G D
requested ticket counted message =
    Request (record { ticket = ticket; message = message; counted = counted })

-- what is told of an input: of a request, whether it was refused
abbrev pub outcome_of : Bool → Bool → List Bool
outcome_of true refused = refused ∷ []
outcome_of false refused = []
