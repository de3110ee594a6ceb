-- Internal.
-- What an engine does with a message that arrives.
use Rattle.std.specs.Prelude.{◌≡◌, if◌then◌else◌, ℕ, Bool, List, [], ◌∷◌, ◌++◌, Option, None, Result}
use Rattle.futures.specs.declared.task.Poll.{Poll}
use Rattle.broadcast_core.specs.Setting.{Setting, own_digested}
use Rattle.broadcast_core.specs.Happening.{History}
use Rattle.broadcast_core.specs.HasContent.{HasContent}
use Rattle.broadcast_core.specs.declared.codec.CodecError.{CodecError}
use Rattle.engine_io.specs.Counters.{count_of, raised}
use Rattle.engine_io.specs.declared.input.Input.{Input}
use Rattle.engine_io.specs.declared.input.Input.TheVariants.{Arrived}
use Rattle.engine_io.specs.declared.input.Turn.{Turn}
use Rattle.engine_io.specs.Inputs.{sets_in, requests_in, payloads_in}
use Rattle.engine_io.specs.Replies.{Asker, Replies}
use Rattle.engine_io.specs.Sources.{given}
use Rattle.commonware_broadcast.specs.declared.buffered.engine.node.Node.{Node}
use Rattle.commonware_broadcast.specs.EngineHistory.{Step, inputs, read_from, end_of, sweeps, turns, end_told}
use Rattle.commonware_broadcast.specs.EngineState.{EngineState}
use Rattle.commonware_broadcast.specs.Interfaces.{Format, IsSetting}
use Rattle.commonware_broadcast.specs.AppliesSteps.{AppliesSteps}
use Rattle.commonware_broadcast.specs.Taken.{payload_input, pending_input, sender_of, HoldsJob}
use Rattle.futures.specs.declared.task.Poll.TheVariants.{Ready, Pending}
use Rattle.engine_io.specs.declared.input.EndCause.{EndCause}

-- one payload more is counted on the peer, and none on another
abbrev pub CountsOne : {P : Type 0} → (P → P → Bool) → P → (old new : List (P × ℕ)) → Type 0
CountsOne {P} same p old new = (q : P) → count_of same q new
    ≡ (if same p q then raised (count_of same q old) 1 else count_of same q old)

-- none of the inputs is a peer set or a request
pub record IsRemote {P M D S G : Type 0} (is : List (Input P M S G D)) : Type 0 where
  pub no_sets : sets_in is ≡ []
  pub no_requests : requests_in is ≡ []
  pub all : payloads_in is ≡ is

pub data Arrival (P M : Type 0) : Type 0 where
  -- a payload of the peer, and what it reads as
  payload_of : P → Result M CodecError → Arrival P M
  -- a message of the peer that was read before
  message_of : P → M → Arrival P M

module _ {P M D : Type 0} (s : Setting P M D) where
  -- the input that it is
  abbrev pub input_of : {S G : Type 0} → Arrival P M → Input P M S G D
  input_of (payload_of p result) = payload_input s p result
  input_of (message_of p m) = Arrived p (own_digested s m)

  -- the peer, if it is a message that is read now
  abbrev pub reader_of : Arrival P M → List P
  reader_of (payload_of p result) = sender_of s p result
  reader_of (message_of p m) = []

module _ {P M D S G O J B Q C T : Type 0} (s : Setting P M D) (may_answer : Asker S → Bool → Type 0)
    (is_of : J → M → Type 0) (outlet_told : O → Replies S G M D → Type 0) where
  -- after a history, an arrival was taken by these steps
  pub record Arrives (past : History P M D (Asker S) (Asker G)) (arrival : Arrival P M)
      (old : Node P M S O D) (new : EngineState P M S O D J B Q C T) (result : Poll (Turn P D))
      : Type 0 where
    pub steps : List (Step P M D S G)
    pub ran : AppliesSteps s may_answer outlet_told past steps old new.node
    pub turned : turns s steps past ≡ given result
    pub goes_on : end_of steps ≡ None
    pub read_from : read_from steps ≡ reader_of s arrival
    pub remote : IsRemote (inputs steps)
    -- there was no cleanup
    pub none_swept : sweeps steps ≡ 0
    -- it is the input, or the message of the job that is pending now
    pub pending : Option (P × M)
    pub held : HoldsJob is_of new.job pending
    pub flow : input_of s arrival ∷ [] ≡ inputs steps ++ pending_input s pending

module _ {P M D S G O J B Q C T : Type 0} (f : Format P M D C) (may_answer : Asker S → Bool → Type 0)
    (is_of : J → M → Type 0) (outlet_told : O → Replies S G M D → Type 0) where
  -- so it was, whatever happened before
  abbrev pub AlwaysArrives : (Setting P M D → Arrival P M)
      → (old new : EngineState P M S O D J B Q C T) → Poll (Turn P D) → Type 0
  AlwaysArrives arrival old new result = (s : Setting P M D)
      → IsSetting f old.codec_config old.priority s
      → (past : History P M D (Asker S) (Asker G)) → HasContent s past old.node.core
      → Arrives s may_answer is_of outlet_told past (arrival s) old.node new result

-- why the engine ended, if the poll tells that
abbrev pub end_in : {P D : Type 0} → Poll (Turn P D) → Option EndCause
end_in (Ready turn) = end_told turn
end_in Pending = None
