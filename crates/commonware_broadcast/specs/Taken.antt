-- Believed.
-- What an engine took from its sources.
use Rattle.std.specs.Prelude.{◌≡◌, ℕ, List, [], ◌∷◌, ◌++◌, map, Option, None, Some, Result, Ok, Err}
use Rattle.broadcast_core.specs.Setting.{Setting, own_digested}
use Rattle.broadcast_core.specs.declared.codec.CodecError.{CodecError}
use Rattle.engine_io.specs.declared.input.EndCause.{EndCause}
use Rattle.engine_io.specs.declared.input.Input.{Input}
use Rattle.engine_io.specs.declared.input.Input.TheVariants as input
use Rattle.engine_io.specs.Inputs.{requests_in}
use Rattle.commonware_broadcast.specs.EngineHistory.{Step, inputs, sweeps}
use Rattle.commonware_broadcast.specs.EngineState.{Moment}

module _ {P M D : Type 0} (s : Setting P M D) where
  -- a payload that reads whole arrives with its own digest, and another one is invalid
  abbrev pub payload_input : {S G : Type 0} → P → Result M CodecError → Input P M S G D
  payload_input p (Ok m) = input.Arrived p (own_digested s m)
  payload_input p (Err error) = input.Invalid p error

  -- the inputs that the payloads are
  abbrev pub payload_inputs : {S G : Type 0} → List (P × List ℕ) → List (Input P M S G D)
  payload_inputs payloads = map (λ x. payload_input x.0 (s.reading x.1)) payloads

  -- the input that the message of a pending job will be
  abbrev pub pending_input : {S G : Type 0} → Option (P × M) → List (Input P M S G D)
  pending_input None = []
  pending_input (Some message) = input.Arrived message.0 (own_digested s message.1) ∷ []

  abbrev pub sender_of : P → Result M CodecError → List P
  sender_of p (Ok m) = p ∷ []
  sender_of p (Err error) = []

  -- the senders of the payloads that are messages
  abbrev pub senders_of : List (P × List ℕ) → List P
  senders_of [] = []
  senders_of (payload ∷ payloads) = sender_of payload.0 (s.reading payload.1) ++ senders_of payloads

module _ {P M J : Type 0} (is_of : J → M → Type 0) where
  -- a pending job's message, with its sender
  abbrev pub HoldsJob : Option (P × J) → Option (P × M) → Type 0
  HoldsJob None None = Unit {0}
  HoldsJob (Some held) (Some message) = (held.0 ≡ message.0) × is_of held.1 message.1
  HoldsJob _ _ = ⊥

  -- the message of the job that is pending, or that was dropped when the engine ended
  abbrev pub Holds : Option EndCause → Option (P × J) → Option (P × M) → Type 0
  Holds None job message = HoldsJob job message
  Holds (Some cause) job message = job ≡ None

-- nothing was taken from a source, and there was no cleanup
pub record TakesNone {P M D S G O J B Q C T N V : Type 0}
    (old new : Moment P M S O D J B Q C T N V) (steps : List (Step P M D S G)) : Type 0 where
  pub provider : new.engine.provider ≡ old.engine.provider
  pub receiver : new.receiver ≡ old.receiver
  pub requests : requests_in (inputs steps) ≡ []
  pub none_swept : sweeps steps ≡ 0
