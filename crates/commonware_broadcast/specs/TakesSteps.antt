-- Believed.
-- What polls of an engine do: the steps that they take.
use Rattle.std.specs.Prelude.{◌≡◌, ℕ, Bool, List, ◌++◌, map, Option, None, Some, ◌⊎◌}
use Rattle.futures.specs.declared.task.Poll.{Poll}
use Rattle.futures.specs.declared.task.Poll.TheVariants.{Ready}
use Rattle.broadcast_core.specs.Setting.{Setting}
use Rattle.broadcast_core.specs.Handed.{handed}
use Rattle.broadcast_core.specs.Happening.{History}
use Rattle.broadcast_core.specs.HasContent.{HasContent}
use Rattle.broadcast_mailbox.specs.declared.buffered.ingress.message.Message.{Message}
use Rattle.broadcast_mailbox.specs.declared.buffered.ingress.message.Request.{Request}
use Rattle.engine_io.specs.declared.input.EndCause.TheVariants.{Stopped}
use Rattle.engine_io.specs.declared.input.Turn.{Turn}
use Rattle.engine_io.specs.declared.input.Turn.TheVariants.{Ended}
use Rattle.engine_io.specs.Inputs.{sets_in, requests_in, payloads_in}
use Rattle.engine_io.specs.Replies.{Asker, reply_of}
use Rattle.engine_io.specs.Sources.{given}
use Rattle.commonware_broadcast.specs.EngineHistory.{Step, happenings, handed_out, inputs, outcomes, read_from, end_of, turns, IsSweptOnce}
use Rattle.commonware_broadcast.specs.EngineState.{Moment}
use Rattle.commonware_broadcast.specs.Interfaces.{Format, Interfaces, IsSetting}
use Rattle.commonware_broadcast.specs.AppliesSteps.{AppliesSteps, Sends}
use Rattle.commonware_broadcast.specs.Taken.{payload_inputs, pending_input, senders_of, Holds, TakesNone}

module _ {P M D S G O J N V B Q C T : Type 0} (s : Setting P M D)
    (i : Interfaces P M D S G O J N V B Q) where
  -- after a history, and with this message held before or none, an engine took these steps, and
  -- these turns were ready
  pub record TakesSteps (past : History P M D (Asker S) (Asker G)) (before : Option (P × M))
      (old new : Moment P M S O D J B Q C T N V) (listed : List (Turn P D)) : Type 0 where
    pub steps : List (Step P M D S G)
    pub ran : AppliesSteps s i.may_answer i.outlet.told past steps old.engine.node new.engine.node
    pub sends : Sends s i.sender.told steps old.sender new.sender
    -- the replies are those that are due at its happenings, in order, each to who asked
    pub due : map reply_of (handed_out steps) ≡ handed s (happenings steps) past
    -- the turns that were ready are those of the steps, each input and each end having one
    pub turned : old.engine.end ≡ None → turns s steps past ≡ listed
    -- the engine has ended if and only if the newest step is its end
    pub ends : old.engine.end ≡ None → new.engine.end ≡ end_of steps
    -- the peer sets and the requests of its inputs are those that were given, in order
    pub sets : (told : List (List P)) → i.provider.told old.engine.provider told
        → i.provider.told new.engine.provider (told ++ sets_in (inputs steps))
    pub requests : (told : List (Request (Message P M S G D)))
        → i.requests.told old.engine.requests told
        → i.requests.told new.engine.requests (told ++ requests_in (inputs steps))
    -- of each of those requests it was told, in order, whether it was refused
    pub outcomes : (told : List Bool) → i.requests.outcomes old.engine.requests told
        → i.requests.outcomes new.engine.requests (told ++ outcomes steps)
    -- the message held before, and then the payloads that were given, are, in order, those of its
    -- inputs and then the message that is held now
    pub received : List (P × List ℕ)
    pub given : (told : List (P × List ℕ)) → i.receiver.told old.receiver told
        → i.receiver.told new.receiver (told ++ received)
    pub pending : Option (P × M)
    pub held : Holds i.is_of new.engine.end new.engine.job pending
    pub flow : pending_input s before ++ payload_inputs s received
        ≡ payloads_in (inputs steps) ++ pending_input s pending
    -- each payload that is a message was decoded once, or refused before it was counted
    pub read : read_from steps ≡ senders_of s received

  -- a poll took steps
  pub record TakesPoll (past : History P M D (Asker S) (Asker G)) (before : Option (P × M))
      (old new : Moment P M S O D J B Q C T N V) (result : Poll (Turn P D)) : Type 0 where
    pub took : TakesSteps past before old new (given result)
    -- while a job is pending, nothing is taken from any source, and no waiter is asked
    pub job_alone : (job : P × J) → old.engine.job ≡ Some job → TakesNone old new took.steps
    -- if none is pending, one cleanup comes first, unless the engine was told to stop
    pub swept_once : old.engine.end ≡ None → old.engine.job ≡ None
        → ((result ≡ Ready (Ended Stopped)) × TakesNone old new took.steps)
        ⊎ IsSweptOnce took.steps

module _ {P M D S G O J N V B Q C T : Type 0} (f : Format P M D C)
    (i : Interfaces P M D S G O J N V B Q) (old : Moment P M S O D J B Q C T N V) where
  -- this holds whatever happened to the engine before, and whatever message it holds
  abbrev pub Always : ((s : Setting P M D) → History P M D (Asker S) (Asker G) → Option (P × M)
      → Type 0) → Type 0
  Always holds = (s : Setting P M D) → IsSetting f old.engine.codec_config old.engine.priority s
      → (past : History P M D (Asker S) (Asker G)) → HasContent s past old.engine.node.core
      → (before : Option (P × M)) → Holds i.is_of old.engine.end old.engine.job before
      → holds s past before
