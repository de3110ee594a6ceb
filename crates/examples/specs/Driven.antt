-- Believed.
-- A node over scripts, and what became of it.
use Rattle.std.specs.Prelude.{◌≡◌, ℕ, false, List, [], ◌++◌, map, Option, Result}
use Rattle.std.specs.List.{count_by}
use Rattle.broadcast_core.specs.Carried.{Carried}
use Rattle.broadcast_core.specs.Handed.{handed}
use Rattle.broadcast_core.specs.Sent.{sent}
use Rattle.broadcast_core.specs.Setting.{Setting}
use Rattle.broadcast_mailbox.specs.declared.buffered.ingress.message.Message.{Message}
use Rattle.broadcast_mailbox.specs.declared.buffered.ingress.responder.Fixed.{Fixed}
use Rattle.engine_io.specs.declared.input.Turn.{Turn}
use Rattle.engine_io.specs.declared.network.NetworkFailed.{NetworkFailed}
use Rattle.engine_io.specs.Counters.{Counted, number_at, raised, is_counted_as}
use Rattle.engine_io.specs.Inputs.{sets_in, requests_in, payloads_in}
use Rattle.engine_io.specs.Replies.{reply_of}
use Rattle.engine_io.specs.Sources.{given, given_some, given_ok}
use Rattle.engine_io.specs.declared.mocks.outlet.RecordingOutlet.{RecordingOutlet}
use Rattle.engine_io.specs.declared.mocks.requests.ScriptedRequests.{ScriptedRequests}
use Rattle.engine_io.specs.declared.mocks.sender.RecordingSender.{RecordingSender}
use Rattle.commonware_broadcast.specs.Counting.{counted}
use Rattle.commonware_broadcast.specs.EngineHistory.{Step, happenings, inputs, turns}
use Rattle.commonware_broadcast.specs.EngineState.{EngineState}
use Rattle.engine_io.specs.Recorded.{reply_in}
use Rattle.engine_io.specs.Scripts.{Scripted, values}
use Rattle.commonware_broadcast.specs.Taken.{payload_inputs, pending_input}

-- no poll of the script has given a result
abbrev pub IsNew : {A : Type 0} → Scripted A → Type 0
IsNew script = script.rest ≡ script.all

-- an engine over scripts, whose replies are recorded
abbrev pub ScriptedEngine : (P M D J C T : Type 0) → Type 0
ScriptedEngine P M D J C T = EngineState P M Fixed
    (RecordingOutlet Fixed Fixed (Carried M D) (Option (Carried M D))) D J
    (Scripted (Option (List P))) (ScriptedRequests (Message P M Fixed Fixed D)) C T

-- its network
abbrev pub Network : Type 0 → Type 0
Network P = RecordingSender P × Scripted (Result (P × List ℕ) NetworkFailed)

module _ {P M D J C T : Type 0} where
  -- there was memory to record each send and each reply
  abbrev pub KeptAll : ScriptedEngine P M D J C T → Network P → Type 0
  KeptAll engine network = (engine.node.outlet.lost ≡ false) × (network.0.lost ≡ false)

  -- these steps, from nothing, explain all that the engine took, and all that it did
  pub record Driven (s : Setting P M D) (engine : ScriptedEngine P M D J C T) (network : Network P)
      (listed : List (Turn P D)) : Type 0 where
    pub steps : List (Step P M D Fixed Fixed)
    -- the turns are those of the steps
    pub turned : turns s steps [] ≡ listed
    -- the peer sets and the requests of the scripts are those of the steps, in order, and then
    -- those that were not given yet
    pub sets : sets_in (inputs steps) ++ values given_some engine.provider.rest
        ≡ values given_some engine.provider.all
    pub requests : requests_in (inputs steps) ++ values given engine.requests.script.rest
        ≡ values given engine.requests.script.all
    -- so are the payloads, of which the last may still be a pending job
    pub received : List (P × List ℕ)
    pub payloads : received ++ values given_ok network.1.rest ≡ values given_ok network.1.all
    pub pending : Option (P × M)
    pub arrived : payload_inputs s received ≡ payloads_in (inputs steps) ++ pending_input s pending
    -- each broadcast that was applied was sent, in order, and nothing else
    pub sent : network.0.sent.items ≡ sent s (happenings steps)
    -- each reply that is due was handed out to who asked, in order, and no other
    pub replied : map reply_of (map reply_in engine.node.outlet.replies.items)
        ≡ handed s (happenings steps) []
    -- each counter is the number of what it counts, as far as 64 bits go
    pub counted : (c : Counted P) → number_at s.same.key c engine.node.metrics
        ≡ raised 0 (count_by (is_counted_as s.same.key c) (counted s steps []))
