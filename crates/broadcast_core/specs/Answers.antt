-- Believed.
-- What each event is answered.
use Rattle.std.specs.Prelude.{◌≡◌, ℕ, Bool, false, true, ◌==◌, IsTrue, List, ◌∷◌, Option, None, Some, is_some, Result, Ok, Err, is_ok, ◌⊎◌}
use Rattle.std.specs.List.{list_any, count_by}
use Rattle.broadcast_core.specs.Carried.{Carried}
use Rattle.broadcast_core.specs.Setting.{Setting, own_digested}
use Rattle.broadcast_core.specs.Happening.{Happening, History, broadcast, arrival, subscribe, get}
use Rattle.broadcast_core.specs.Cache.{is_listed, message}
use Rattle.broadcast_core.specs.Waiting.{waiting, replied_at, waiters_of}
use Rattle.broadcast_core.specs.declared.codec.CodecError.{CodecError}
use Rattle.broadcast_core.specs.declared.ordered.Recipients.{Recipients}
use Rattle.broadcast_core.specs.declared.event.Event.{Event}
use Rattle.broadcast_core.specs.declared.event.Event.TheVariants.{Peers, Broadcast, Payload, Subscribe, Get, Cleanup}
use Rattle.broadcast_core.specs.declared.event.Cause.TheVariants.{Memory, Unencodable}
use Rattle.broadcast_core.specs.declared.event.Answer.{Answer}
use Rattle.broadcast_core.specs.declared.event.Answer.TheVariants as answer
use Rattle.broadcast_core.specs.Lists.{outcome}

module _ {P M D : Type 0} (s : Setting P M D) where
  -- a taking is answered by its outcome, and by the tickets of the subscribes that it replies to
  abbrev pub answer_to_taking : P → Carried M D → Happening P M D ℕ ℕ → History P M D ℕ ℕ
      → Answer M D
  answer_to_taking p c e past =
      answer.Taken (outcome s p c past) (waiters_of (replied_at s e past)) c

  -- a broadcast without an encoding is refused
  abbrev pub answer_to_broadcast : Recipients P → Carried M D → Option (List ℕ)
      → History P M D ℕ ℕ → Answer M D
  answer_to_broadcast r c None past = answer.Refused Unencodable
  answer_to_broadcast r c (Some bytes) past = answer_to_taking s.own c (broadcast r c) past

  -- a payload that is not read as a message is invalid
  abbrev pub answer_to_payload : P → Result M CodecError → History P M D ℕ ℕ → Answer M D
  answer_to_payload p (Ok m) past =
      answer_to_taking p (own_digested s m) (arrival p (own_digested s m)) past
  answer_to_payload p (Err why) past = answer.Invalid why

  -- a subscribe is answered from the cache, or waits
  abbrev pub answer_to_subscribe : Option (Carried M D) → Answer M D
  answer_to_subscribe None = answer.Waiting
  answer_to_subscribe (Some c) = answer.Answered c

  -- the number of waiting subscribes with one of the tickets
  abbrev pub removed : List ℕ → History P M D ℕ ℕ → ℕ
  removed gone past = count_by (λ w. list_any (λ x. w.waiter == x) gone) (waiting s past)

  -- the answer to an event after a history
  abbrev pub answer_to : Event P M D → History P M D ℕ ℕ → Answer M D
  answer_to (Peers ps) past = answer.Peers
  answer_to (Broadcast r c) past = answer_to_broadcast r c (s.encoding c.message) past
  answer_to (Payload p b) past = answer_to_payload p (s.reading b) past
  answer_to (Subscribe k d) past = answer_to_subscribe (message s d (subscribe k d ∷ past))
  answer_to (Get k d) past = answer.Got (message s d (get k d ∷ past))
  answer_to (Cleanup gone) past = answer.Removed (removed gone past)

  -- whether an event may allocate
  abbrev pub may_allocate : Event P M D → History P M D ℕ ℕ → Bool
  may_allocate (Broadcast r c) past = is_some (s.encoding c.message)
  may_allocate (Payload p b) past = is_ok (s.reading b)
  may_allocate (Subscribe k d) past = true
  may_allocate (Get k d) past = is_listed s d (get k d ∷ past)
  may_allocate _ past = false

  -- the answer is an allocation failure, at an event that may allocate
  abbrev pub IsAllocFailure : Event P M D → History P M D ℕ ℕ → Answer M D → Type 0
  IsAllocFailure e past a = (a ≡ answer.Refused Memory) × IsTrue (may_allocate e past)

  -- the event may be given the answer
  abbrev pub MayAnswer : Event P M D → History P M D ℕ ℕ → Answer M D → Type 0
  MayAnswer e past a = (a ≡ answer_to e past) ⊎ IsAllocFailure e past a
