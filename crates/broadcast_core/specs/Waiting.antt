-- Believed.
-- The reply to a subscribe, and the subscribes that wait.
use Rattle.std.specs.Prelude.{ℕ, ◌+◌, Bool, false, not, ◌&&◌, ◌==◌, if◌then◌else◌, List, [], ◌∷◌, ◌++◌, length, map, Option, None, Some, is_none}
use Rattle.std.specs.Option.{option_map}
use Rattle.std.specs.List.{filter, list_any}
use Rattle.broadcast_core.specs.Carried.{Carried}
use Rattle.broadcast_core.specs.Content.{first_places}
use Rattle.broadcast_core.specs.Setting.{Setting}
use Rattle.broadcast_core.specs.Happening.{Happening, History, Future, subscribe, cleanup, carried_by, taken, takes}
use Rattle.broadcast_core.specs.Cache.{is_listed, message}

-- a subscribe: its place, which is how many happenings are older, its waiter and its digest
pub record Awaiting (W D : Type 0) : Type 0 where
  pub place : ℕ
  pub waiter : W
  pub digest : D

abbrev pub waiters_of : {W D : Type 0} → List (Awaiting W D) → List W
waiters_of ws = map (λ w. w.waiter) ws

-- the waiters of those subscribes that have the digest
abbrev pub with_digest : {W D : Type 0} → (D → D → Bool) → D → List (Awaiting W D) → List W
with_digest same d ws = waiters_of (filter (λ w. same d w.digest) ws)

-- a message, and how many happenings later it comes
abbrev pub Reply : (M D : Type 0) → Type 0
Reply M D = ℕ × Carried M D

-- whether the reply comes n happenings later
abbrev pub comes_after : {M D : Type 0} → ℕ → Option (Reply M D) → Bool
comes_after n None = false
comes_after n (Some r) = r.0 == n

module _ {P M D W V : Type 0} (s : Setting P M D) where
  -- whether the happening is a cleanup that names the subscribe
  abbrev pub cleans : Awaiting W D → Happening P M D W V → Bool
  cleans w (cleanup test) = test w.place w.waiter
  cleans w _ = false

  -- the reply from the happenings after the subscribe: the message of the first that takes the
  -- digest, unless a cleanup before it names the subscribe
  abbrev pub reply_from : Awaiting W D → Future P M D W V → Option (Reply M D)
  reply_from w [] = None
  reply_from w (e ∷ es) =
      if takes s w.digest e then option_map (λ c. (1, c)) (carried_by s (taken s e))
      else (if cleans w e then None else option_map (λ r. (r.0 + 1, r.1)) (reply_from w es))

  -- the reply to a subscribe, by the history up to it and the happenings after it
  abbrev pub reply : Awaiting W D → History P M D W V → Future P M D W V → Option (Reply M D)
  reply w past es = if is_listed s w.digest past
      then option_map (λ c. (0, c)) (message s w.digest past) else reply_from w es

  -- whether it waits after those happenings: it has no reply, and no cleanup names it
  abbrev pub waits : Awaiting W D → History P M D W V → Future P M D W V → Bool
  waits w past es = is_none (reply w past es) && not (list_any (cleans w) es)

  -- the subscribes of a history, the oldest first, that pass a test of the subscribe, the history
  -- up to it and the happenings after it, which end with the given ones
  abbrev pub subscribes : (Awaiting W D → History P M D W V → Future P M D W V → Bool)
      → Future P M D W V → History P M D W V → List (Awaiting W D)
  subscribes test es [] = []
  subscribes test es (subscribe w d ∷ older) = subscribes test (subscribe w d ∷ es) older
      ++ filter (λ a. test a (subscribe w d ∷ older) es)
      (record { place = length older; waiter = w; digest = d } ∷ [])
  subscribes test es (e ∷ older) = subscribes test (e ∷ es) older

  -- the subscribes that wait after a history
  abbrev pub waiting : History P M D W V → List (Awaiting W D)
  waiting past = subscribes waits [] past

  -- the digests that are waited for, each once
  abbrev pub awaited : History P M D W V → List D
  awaited past = first_places s.same.digest (map (λ w. w.digest) (waiting past))

  -- the waiters of the digest
  abbrev pub waiting_for : D → History P M D W V → List W
  waiting_for d past = with_digest s.same.digest d (waiting past)

  -- the earlier subscribes to which the happening brings the reply
  abbrev pub replied_at : Happening P M D W V → History P M D W V → List (Awaiting W D)
  replied_at e past = subscribes (λ w b es. comes_after (length es) (reply w b es)) (e ∷ []) past
