-- Internal.
-- Worked examples of an engine's steps, computed by the definitions. A message is a pair of numbers,
-- of which the second is its digest. Who asks is named by the number of the ticket.
use Rattle.std.specs.Prelude.{◌≡◌, ℕ, ◌==◌, true, false, List, [], ◌∷◌, map, None, Some, Result, Ok, Err}
use Rattle.broadcast_core.specs.Carried.{Carried}
use Rattle.broadcast_core.specs.Handed.{handed}
use Rattle.broadcast_core.specs.Sent.{sent}
use Rattle.broadcast_core.specs.Setting.{Setting, setting}
use Rattle.broadcast_core.specs.Waiting.{waiting}
use Rattle.broadcast_core.specs.declared.codec.CodecError.{CodecError}
use Rattle.broadcast_core.specs.declared.codec.CodecError.TheVariants.{EndOfBuffer}
use Rattle.broadcast_core.specs.declared.event.Cause.TheVariants.{Memory}
use Rattle.broadcast_core.specs.declared.ordered.Recipients.TheVariants.{All}
use Rattle.broadcast_core.specs.declared.outcome.Outcome.TheVariants.{Inserted, Ineligible}
use Rattle.broadcast_mailbox.specs.declared.buffered.ingress.message.Message.{Message as Asked}
use Rattle.broadcast_mailbox.specs.declared.buffered.ingress.message.Message.TheVariants as message
use Rattle.engine_io.specs.declared.input.EndCause.TheVariants.{Stopped}
use Rattle.engine_io.specs.declared.input.Input.{Input}
use Rattle.engine_io.specs.declared.input.Input.TheVariants as input
use Rattle.engine_io.specs.declared.input.Turn.TheVariants as turn
use Rattle.engine_io.specs.declared.metrics.Status.TheVariants.{Success, Failure, Invalid, Dropped}
use Rattle.engine_io.specs.Counters as count
use Rattle.engine_io.specs.Replies.{Asker, reply_of, subscribed, got}
use Rattle.commonware_broadcast.specs.EngineHistory.{Step, swept, applied, refused, decoded, ended, happenings, handed_out, end_of, outcomes, turns}
use Rattle.commonware_broadcast.specs.Counting.{counted, gauge}

abbrev pub Message : Type 0
Message = ℕ × ℕ

abbrev reading : List ℕ → Result Message CodecError
reading (c ∷ x ∷ []) = Ok (c, x)
reading _ = Err EndOfBuffer

-- the own key is 1, and a list has at most ten digests
abbrev pub node : Setting ℕ Message ℕ
node = setting 1 10 1000 false (record { key = ◌==◌; digest = ◌==◌ }) (λ m. m.1)
    (λ m. Some (m.0 ∷ m.1 ∷ [])) reading

-- steps, the newest first
abbrev pub Steps : Type 0
Steps = List (Step ℕ Message ℕ ℕ ℕ)

abbrev pub word : ℕ → Carried Message ℕ
word x = record { message = (0, x); digest = x }

abbrev pub asker : ℕ → Asker ℕ
asker n = record { ticket = n; responder = n }

abbrev pub asks : ℕ → Asked ℕ Message ℕ ℕ ℕ → Input ℕ Message ℕ ℕ ℕ
asks n m = input.Request (record { ticket = n; message = m; counted = false })

-- a cleanup at which nobody answers closed, and one at which everybody does
abbrev pub kept : Step ℕ Message ℕ ℕ ℕ
kept = swept (λ n w. false)

abbrev pub dropped : Step ℕ Message ℕ ℕ ℕ
dropped = swept (λ n w. true)

-- a subscriber is served by the payload of a peer; then one get finds the message, another finds
-- none, and the reply to a third does not arrive
abbrev served : Steps
served = applied (asks 4 (message.Get 61 4)) (got (asker 4) (Some (word 61)) false ∷ []) ∷ kept
    ∷ applied (asks 3 (message.Get 62 3)) (got (asker 3) None true ∷ []) ∷ kept
    ∷ applied (asks 2 (message.Get 61 2)) (got (asker 2) (Some (word 61)) true ∷ []) ∷ kept
    ∷ applied (input.Arrived 5 (word 61)) (subscribed (asker 1) (word 61) true ∷ []) ∷ decoded 5 ∷ kept
    ∷ applied (input.Peers (5 ∷ [])) [] ∷ kept
    ∷ applied (asks 1 (message.Subscribe 61 1)) [] ∷ kept ∷ []

pub record Served : Type 0 where
  pub turned : turns node served [] ≡ turn.Subscribe ∷ turn.Peers ∷ turn.Payload 5 61 Inserted
      ∷ turn.Get ∷ turn.Get ∷ turn.Get ∷ []
  -- the replies are those that are due
  pub replied : map reply_of (handed_out served) ≡ handed node (happenings served) []
  pub counted : counted node served [] ≡ count.peer 5 ∷ count.subscribe Success ∷ count.receive Success
      ∷ count.get Success ∷ count.get Failure ∷ count.get Dropped ∷ []

-- a payload of a stranger, one of another that is no message, one for which there was no memory,
-- and a broadcast that was refused, beside one that was sent
abbrev mixed : Steps
mixed = refused (asks 2 (message.Broadcast All (word 64))) Memory ∷ kept
    ∷ applied (asks 1 (message.Broadcast All (word 63))) [] ∷ kept
    ∷ refused (input.Arrived 6 (word 62)) Memory ∷ decoded 6 ∷ kept
    ∷ applied (input.Invalid 7 EndOfBuffer) [] ∷ kept
    ∷ applied (input.Arrived 6 (word 61)) [] ∷ decoded 6 ∷ kept ∷ []

pub record Mixed : Type 0 where
  pub turned : turns node mixed [] ≡ turn.Payload 6 61 Ineligible ∷ turn.Invalid 7 EndOfBuffer
      ∷ turn.Refused (Some 6) Memory ∷ turn.Broadcast 63 Ineligible ∷ turn.Refused None Memory ∷ []
  -- the broadcast that was sent was not refused, and the other was
  pub told : outcomes mixed ≡ false ∷ true ∷ []
  -- a message that is refused is counted for its peer, and not as received
  pub counted : counted node mixed [] ≡ count.peer 6 ∷ count.receive Dropped ∷ count.receive Invalid
      ∷ count.peer 6 ∷ []
  pub sent : sent node (happenings mixed)
      ≡ record { recipients = All; bytes = 0 ∷ 63 ∷ []; priority = false } ∷ []

-- two subscribers, who both hang up
abbrev hung_up : Steps
hung_up = dropped ∷ applied (asks 2 (message.Subscribe 62 2)) [] ∷ kept
    ∷ applied (asks 1 (message.Subscribe 61 1)) [] ∷ kept ∷ []

pub record HungUp : Type 0 where
  -- the gauge is that of the last cleanup, and stays until the next one
  pub before : gauge node (applied (asks 2 (message.Subscribe 62 2)) [] ∷ kept
      ∷ applied (asks 1 (message.Subscribe 61 1)) [] ∷ kept ∷ []) [] 9 ≡ 1
  pub after : gauge node hung_up [] 9 ≡ 0
  pub counted : counted node hung_up [] ≡ count.subscribe Dropped ∷ count.subscribe Dropped ∷ []
  pub nobody_waits : waiting node (happenings hung_up) ≡ []

-- an end drops the waiters, counts none of them, and is the last turn
abbrev stopped : Steps
stopped = ended Stopped ∷ applied (asks 1 (message.Subscribe 61 1)) [] ∷ kept ∷ []

pub record Ends : Type 0 where
  pub turned : turns node stopped [] ≡ turn.Subscribe ∷ turn.Ended Stopped ∷ []
  pub cause : end_of stopped ≡ Some Stopped
  pub counted : counted node stopped [] ≡ []
  pub nobody_waits : waiting node (happenings stopped) ≡ []
