-- Steps, one after the other.
use Rattle.std.proofs.Common.{◌≡◌, Bool, true, List, [], ◌∷◌, ◌++◌, None, is_some, refl, sym, ap, ◌∙◌, subst, append-nil}
use Rattle.broadcast_core.specs.Carried.{Carried}
use Rattle.broadcast_core.specs.Setting.{Setting}
use Rattle.broadcast_core.specs.Happening.{History}
use Rattle.broadcast_core.specs.HasContent.{HasContent}
use Rattle.broadcast_core.specs.Sent.{sent}
use Rattle.broadcast_core.specs.declared.event.Cause.{Cause}
use Rattle.broadcast_core.specs.declared.event.Cause.TheVariants.{Memory, Unencodable}
use Rattle.broadcast_core.specs.declared.ordered.Recipients.{Recipients}
use Rattle.broadcast_mailbox.specs.declared.buffered.ingress.message.Message.{Message}
use Rattle.broadcast_mailbox.specs.declared.buffered.ingress.message.Message.TheVariants.{Broadcast}
use Rattle.broadcast_mailbox.specs.declared.buffered.ingress.message.Request.{Request as RequestOf}
use Rattle.engine_io.specs.declared.input.Input.{Input}
use Rattle.engine_io.specs.declared.input.Input.TheVariants.{Request}
use Rattle.engine_io.specs.declared.input.Turn.{Turn}
use Rattle.engine_io.specs.declared.input.Turn.TheVariants as turn
use Rattle.commonware_broadcast.specs.declared.buffered.engine.node.Node.{Node}
use Rattle.engine_io.specs.Counters.{Counters, number_at}
use Rattle.broadcast_core.specs.declared.event.Sent.{Sent}
use Rattle.engine_io.specs.Replies.{Asker, Replies}
use Rattle.commonware_broadcast.specs.EngineHistory.{Step, applied, refused, happenings_at, happenings, peer_of, turns_at}
use Rattle.commonware_broadcast.specs.StepLaws.{MayRefuse, MayRefuseRequest}
use Rattle.commonware_broadcast.proofs.Counting.{IsNotDecoded, step-counted, step-waits}
use Rattle.commonware_broadcast.specs.CountingCalls.{AppliesStep, requested}
use Rattle.commonware_broadcast.specs.AppliesSteps.{AppliesSteps, AppliesInput, AppliesAndSends}
use Rattle.commonware_broadcast.proofs.Composing.{told-same}
use Rattle.commonware_broadcast.proofs.Sending.{Sends-silent, Sends-input}
use Rattle.engine_io.specs.Inputs.{requests_in}

module _ {P M D S G O : Type 0} {s : Setting P M D} {may_answer : Asker S → Bool → Type 0} {told : O → Replies S G M D → Type 0} {past : History P M D (Asker S) (Asker G)} where
  pub AppliesSteps-one : {step : Step P M D S G} {old new : Node P M S O D} → AppliesStep s may_answer told past step old new → IsNotDecoded step
      → AppliesSteps s may_answer told past (step ∷ []) old new
  AppliesSteps-one {step} {old} {new} one quiet = record {
    lawful = (one.lawful, tt);
    content = subst (λ hs. HasContent s (hs ++ past) new.core) (sym (append-nil (happenings_at step))) one.content;
    counters = λ c. ap (number_at s.same.key c) one.counted ∙ step-counted s past step c old.metrics quiet;
    waiters = ap (λ (m : Counters P). m.totals.waiters) one.counted ∙ step-waits s past step old.metrics.totals;
    replied = one.replied;
  }

  abbrev pub AppliesInput-applied : {input : Input P M S G D} {replies : Replies S G M D} {result : Turn P D} {old new : Node P M S O D}
      → AppliesStep s may_answer told past (applied input replies) old new → turns_at s (applied input replies) past ≡ result ∷ [] → AppliesInput s may_answer told past input result old new
  AppliesInput-applied {input} {replies} one turned = record { step = applied input replies; of_input = refl; turned = turned; ran = AppliesSteps-one one tt }

  abbrev pub AppliesInput-refused : {input : Input P M S G D} {cause : Cause} {old new : Node P M S O D} → HasContent s past old.core → new ≡ old → MayRefuse s input cause past
      → AppliesInput s may_answer told past input (turn.Refused (peer_of input) cause) old new
  AppliesInput-refused {input} {cause} {old} has same may = record {
    step = refused input cause;
    of_input = refl;
    turned = refl;
    ran = AppliesSteps-one (subst (λ n. AppliesStep s may_answer told past (refused input cause) old n) (sym same)
        (record { lawful = may; content = has; counted = refl; replied = told-same told old.outlet })) tt;
  }

module _ {P M D S G O N : Type 0} {s : Setting P M D} {may_answer : Asker S → Bool → Type 0} {told : O → Replies S G M D → Type 0} {sender_told : N → List (Sent P) → Type 0} {past : History P M D (Asker S) (Asker G)} where
  -- an input at which nothing is sent
  pub AppliesAndSends-silent : {input : Input P M S G D} {result : Turn P D} {old new : Node P M S O D} {sender : N} → (one : AppliesInput s may_answer told past input result old new)
      → sent s (happenings (one.step ∷ [])) ≡ [] → AppliesAndSends s may_answer told sender_told past input result (old, sender) (new, sender)
  AppliesAndSends-silent {sender = sender} one none = record { handled = one; sends = Sends-silent s sender_told (one.step ∷ []) sender none }

  -- an input that is no request
  pub AppliesAndSends-handled : {input : Input P M S G D} {result : Turn P D} {old new : Node P M S O D} {sender : N} → requests_in (input ∷ []) ≡ []
      → AppliesInput s may_answer told past input result old new → AppliesAndSends s may_answer told sender_told past input result (old, sender) (new, sender)
  AppliesAndSends-handled {input} {sender = sender} none one = record { handled = one; sends = Sends-input s sender_told input one.step sender one.of_input none }

  -- the same request, its message written otherwise
  pub AppliesAndSends-message : {request : RequestOf (Message P M S G D)} {message : Message P M S G D} {result : Turn P D} {old new : Node P M S O D × N} → request.message ≡ message
      → AppliesAndSends s may_answer told sender_told past (requested request.ticket request.counted message) result old new → AppliesAndSends s may_answer told sender_told past (Request request) result old new
  AppliesAndSends-message {request} {result = result} {old} {new} is one = subst (λ m. AppliesAndSends s may_answer told sender_told past (requested request.ticket request.counted m) result old new) (sym is) one

-- a broadcast whose encoding was refused
pub may-refuse : {P M D S G : Type 0} (s : Setting P M D) (past : History P M D (Asker S) (Asker G)) (r : Recipients P) (c : Carried M D) (cause : Cause)
    → (cause ≡ Memory → is_some (s.encoding c.message) ≡ true) → (cause ≡ Unencodable → s.encoding c.message ≡ None) → MayRefuseRequest {S = S} {G = G} s (Broadcast r c) cause past
may-refuse s past r c Memory memory unencodable = memory refl
may-refuse s past r c Unencodable memory unencodable = unencodable refl
