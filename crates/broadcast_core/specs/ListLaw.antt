-- Believed.
-- What follows from the definition of a list.
use Rattle.std.specs.Prelude.{◌≡◌, ◌≤◌, ℕ, Bool, true, false, if◌then◌else◌, List, [], ◌∷◌, ◌++◌, map, take, Option, None, Some, is_some, unwrap_or}
use Rattle.std.specs.List.{AllByRecursion, sum_by}
use Rattle.entries.specs.declared.entry.Charged.{Charged}
use Rattle.broadcast_core.specs.Carried.{Carried}
use Rattle.broadcast_core.specs.Content.{among, first_places, same_charged}
use Rattle.broadcast_core.specs.Company.{company, fits}
use Rattle.broadcast_core.specs.Setting.{Setting}
use Rattle.broadcast_core.specs.Happening.{History, Taking, taken}
use Rattle.broadcast_core.specs.Peers.{since}
use Rattle.broadcast_core.specs.Lists.{charge}

module _ {P M D : Type 0} (s : Setting P M D) where
  -- the message of a taking, if it is under the key
  abbrev pub message_under : P → Option (Taking P M D) → List (Carried M D)
  message_under p None = []
  message_under p (Some t) = if s.same.key p t.key then t.carried ∷ [] else []

  -- every message has an encoding, and together they have at most `byte_budget` bytes
  pub record FitTogether (cs : List (Carried M D)) : Type 0 where
    pub encoded : AllByRecursion (λ c. is_some (charge s c) ≡ true) cs
    pub sum : sum_by (λ c. unwrap_or (charge s c) 0) cs ≤ s.byte_budget

module _ {P M D W V : Type 0} (s : Setting P M D) where
  -- the messages taken under the key, whatever they are charged, the newest first
  abbrev pub messages_under : P → History P M D W V → List (Carried M D)
  messages_under p [] = []
  messages_under p (e ∷ older) = message_under s p (taken s e) ++ messages_under p older

module _ {P M D W V : Type 0} (s : Setting P M D) where
  -- the last `deque_size` distinct digests taken under the key since it was last not primary
  abbrev pub last_distinct : P → History P M D W V → List D
  last_distinct p past = take s.deque_size (first_places s.same.digest
      (map (λ c. c.digest) (messages_under s p (since s p past))))

module _ {D : Type 0} (same : D → D → Bool) (size budget : ℕ) where
  -- the digest was taken, and at every moment since it was last taken its company fitted
  pub record HasAlwaysFitted (c : Charged D) (takings : List (Charged D)) : Type 0 where
    pub was_taken : among (same_charged same) c takings ≡ true
    pub fitted : (newer older : List (Charged D)) → takings ≡ newer ++ older
        → among (same_charged same) c newer ≡ false → among (same_charged same) c older ≡ true
        → fits size budget (company same c older) ≡ true
