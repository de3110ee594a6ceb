-- Believed.
-- How the calls of a core change its content.
use Rattle.std.specs.Prelude.{◌≡◌, ◌&&◌, ℕ, Bool, Option, is_some, true, false, not, if◌then◌else◌, List, [], ◌∷◌, ◌++◌, Some, None, Result, IfOk, OnOk, OnErr, IsOk}
use Rattle.std.specs.List.{filter, list_any}
use Rattle.std.specs.declared.alloc.AllocError.{AllocError}
use Rattle.broadcast_core.specs.Carried.{Carried}
use Rattle.broadcast_core.specs.declared.outcome.Subscribed.{Subscribed}
use Rattle.broadcast_core.specs.declared.outcome.Subscribed.TheVariants as subscribed
use Rattle.broadcast_core.specs.declared.outcome.Taken.{Taken}
use Rattle.broadcast_core.specs.Content.{Content, Same, affordable, among, charged_at, list_at, message_at, waiting_at}
use Rattle.broadcast_core.specs.Fronted.{has_primary, is_on_list, list_with, outcome_at}

module _ {P M D W : Type 0} (same : Same P D) where
  -- the message is taken under the key at this charge: its digest moves to the front of a primary key's
  -- list, if the charge is within the budget; the message is cached if its digest is on a list then
  -- and was on none before, and the digest has no waiters
  pub record Takes (p : P) (x : Carried M D) (charge : Option ℕ) (old new : Content P M D W) : Type 0 where
    pub own : new.own ≡ old.own
    pub deque_size : new.deque_size ≡ old.deque_size
    pub byte_budget : new.byte_budget ≡ old.byte_budget
    pub primary : new.primary ≡ old.primary
    pub lists : (q : P) → charged_at same new q
        ≡ (if same.key p q then list_with same old p x.digest charge else charged_at same old q)
    pub cached : (d : D) → message_at same new d
        ≡ (if is_on_list same new d
        then (if is_on_list same old d then message_at same old d else Some x)
        else None)
    pub waiters : (d : D) → waiting_at same new d
        ≡ (if same.digest x.digest d then [] else waiting_at same old d)

  -- the outcome of taking a message under the key, the waiters that it serves, and the new content
  pub record IsTaken (p : P) (x : Carried M D) (charge : Option ℕ) (old new : Content P M D W)
      (result : Result (Taken W) AllocError) : Type 0 where
    pub outcome : IfOk result (λ taken. taken.outcome ≡ outcome_at same old p x.digest charge)
    pub served : IfOk result (λ taken. taken.served ≡ waiting_at same old x.digest)
    pub entered : IfOk result (λ taken. taken.entered
        ≡ (not (is_some (message_at same old x.digest)) && is_some (message_at same new x.digest)))
    pub ok : OnOk result (Takes p x charge old new)
    pub err : OnErr result (new ≡ old)
    -- these never fail
    pub succeeds_on_duplicate : among same.digest x.digest (list_at same old p) ≡ true → IsOk result
    pub succeeds_on_ineligible : has_primary same old p ≡ false → IsOk result
    pub succeeds_on_oversize :
        is_some (affordable old.byte_budget x.digest charge) ≡ false → IsOk result
    pub succeeds_at_size_zero : old.deque_size ≡ 0 → IsOk result

  -- these keys are the primary ones: the lists of the others are empty, and only the messages of
  -- digests on a list are cached
  pub record TakesPeers (peers : List P) (old new : Content P M D W) : Type 0 where
    pub own : new.own ≡ old.own
    pub deque_size : new.deque_size ≡ old.deque_size
    pub byte_budget : new.byte_budget ≡ old.byte_budget
    pub primary : new.primary ≡ peers
    pub lists : (q : P) → charged_at same new q
        ≡ (if list_any (same.key q) peers then charged_at same old q else [])
    pub cached : (d : D) → message_at same new d
        ≡ (if is_on_list same new d then message_at same old d else None)
    pub waiters : (d : D) → waiting_at same new d ≡ waiting_at same old d

  -- only the waiters may change
  pub record KeepsStore (old new : Content P M D W) : Type 0 where
    pub own : new.own ≡ old.own
    pub deque_size : new.deque_size ≡ old.deque_size
    pub byte_budget : new.byte_budget ≡ old.byte_budget
    pub primary : new.primary ≡ old.primary
    pub lists : new.lists ≡ old.lists
    pub cached : new.cached ≡ old.cached

  -- the waiter is put behind the others of its digest
  pub record Awaits (d : D) (w : W) (old new : Content P M D W) : Type 0 where
    pub store : KeepsStore old new
    pub waiters : (e : D) → waiting_at same new e
        ≡ (if same.digest d e then waiting_at same old e ++ w ∷ [] else waiting_at same old e)

  -- the waiters that are gone are dropped, and the others stay in their order
  pub record Cleans (is_gone : W → Bool) (old new : Content P M D W) : Type 0 where
    pub store : KeepsStore old new
    pub waiters : (e : D) → waiting_at same new e
        ≡ filter (λ w. not (is_gone w)) (waiting_at same old e)

  -- so with the waiters of one digest, and all others stay
  pub record CleansAt (d : D) (is_gone : W → Bool) (old new : Content P M D W) : Type 0 where
    pub store : KeepsStore old new
    pub waiters : (e : D) → waiting_at same new e
        ≡ (if same.digest d e
        then filter (λ w. not (is_gone w)) (waiting_at same old e)
        else waiting_at same old e)

  -- a waiter is answered by the cached message of the digest, or waits if none is cached
  abbrev pub IsSubscribed : D → W → Content P M D W → Content P M D W → Subscribed W M D → Type 0
  IsSubscribed d w old new (subscribed.Answered v x) =
      (v ≡ w) × (message_at same old d ≡ Some x) × (new ≡ old)
  IsSubscribed d w old new subscribed.Waiting = (message_at same old d ≡ None) × Awaits d w old new
