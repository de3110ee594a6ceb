-- Believed.
-- Which steps may follow a history.
use Rattle.std.specs.Prelude.{◌≡◌, Bool, true, List, [], ◌∷◌, ◌++◌, map, None, is_some}
use Rattle.broadcast_core.specs.Setting.{Setting}
use Rattle.broadcast_core.specs.Happening.{History}
use Rattle.broadcast_core.specs.Waiting.{waiting}
use Rattle.broadcast_core.specs.Cache.{message}
use Rattle.broadcast_core.specs.Handed.{handed_at}
use Rattle.broadcast_core.specs.HasContent.{AnswersAs}
use Rattle.broadcast_core.specs.declared.event.Cause.{Cause}
use Rattle.broadcast_core.specs.declared.event.Cause.TheVariants.{Memory, Unencodable}
use Rattle.broadcast_mailbox.specs.declared.buffered.ingress.message.Message.{Message}
use Rattle.broadcast_mailbox.specs.declared.buffered.ingress.message.Message.TheVariants.{Broadcast, Subscribe, Get}
use Rattle.engine_io.specs.declared.input.Input.{Input}
use Rattle.engine_io.specs.declared.input.Input.TheVariants.{Request, Arrived}
use Rattle.engine_io.specs.Replies.{Asker, reply_of, Replies}
use Rattle.commonware_broadcast.specs.EngineHistory.{Step, swept, applied, refused, happening_of, happenings}

module _ {P M D S G : Type 0} (s : Setting P M D) where
  abbrev pub IsEncodable : Message P M S G D → Type 0
  IsEncodable (Broadcast r c) = is_some (s.encoding c.message) ≡ true
  IsEncodable _ = Unit {0}

  -- a broadcast that was applied has an encoding
  abbrev pub HasEncoding : Input P M S G D → Type 0
  HasEncoding (Request request) = IsEncodable request.message
  HasEncoding _ = Unit {0}

  -- a broadcast is refused if it has no encoding, and any request that takes memory may be
  -- refused for that
  abbrev pub MayRefuseRequest : Message P M S G D → Cause → History P M D (Asker S) (Asker G)
      → Type 0
  MayRefuseRequest (Broadcast r c) Unencodable past = s.encoding c.message ≡ None
  MayRefuseRequest (Broadcast r c) Memory past = is_some (s.encoding c.message) ≡ true
  MayRefuseRequest (Subscribe d responder) Memory past = Unit {0}
  MayRefuseRequest (Get d responder) Memory past = is_some (message s d past) ≡ true
  MayRefuseRequest _ cause past = ⊥

  -- why an input may be refused after a history
  abbrev pub MayRefuse : Input P M S G D → Cause → History P M D (Asker S) (Asker G) → Type 0
  MayRefuse (Request request) cause past = MayRefuseRequest request.message cause past
  MayRefuse (Arrived p c) Memory past = Unit {0}
  MayRefuse _ cause past = ⊥

  -- the replies at an input are those that are due
  abbrev pub AreDue : History P M D (Asker S) (Asker G) → Replies S G M D
      → History P M D (Asker S) (Asker G) → Type 0
  AreDue [] replies past = replies ≡ []
  AreDue (e ∷ es) replies past = map reply_of replies ≡ handed_at s e past

  -- a step may follow a history
  abbrev pub IsStep : (Asker S → Bool → Type 0) → Step P M D S G
      → History P M D (Asker S) (Asker G) → Type 0
  IsStep may_answer (swept test) past = AnswersAs may_answer test (waiting s past)
  IsStep may_answer (applied input replies) past = AreDue (happening_of input) replies past
      × HasEncoding input
  IsStep may_answer (refused input cause) past = MayRefuse input cause past
  IsStep may_answer _ past = Unit {0}

  -- each step may follow those before it
  abbrev pub AreSteps : (Asker S → Bool → Type 0) → List (Step P M D S G)
      → History P M D (Asker S) (Asker G) → Type 0
  AreSteps may_answer [] past = Unit {0}
  AreSteps may_answer (step ∷ steps) past = IsStep may_answer step (happenings steps ++ past)
      × AreSteps may_answer steps past
