-- Believed.
-- Of all messages of an author that were received, the newest that fit a budget.
use Rattle.std.specs.Prelude.{◌≡◌, ◌≤◌, ◌<◌, ◌↔◌, ◌+◌, ℕ, Bool, nat_le, nat_lt, nat_eq, not, ◌&&◌, if◌then◌else◌, List, [], ◌∷◌, Contains}
use Rattle.std.specs.List.{list_any}
use Rattle.gossip.specs.declared.message.Message.{Message}

-- what a message is charged: its bytes, and a constant for what is kept beside them
abbrev pub charge : Message → ℕ
charge m = m.bytes + 64

-- the message is later than the one before it, and fits the budget by itself
abbrev pub is_sound : ℕ → Message → Bool
is_sound budget m = nat_lt m.prev m.stamp && nat_le (charge m) budget

-- a message of the stamp is among them
abbrev pub has_stamp : ℕ → List Message → Bool
has_stamp s ms = list_any (λ m. nat_eq m.stamp s) ms

-- a history is the list of all that came, the last in front. These are the sound messages of a history, and
-- of several of one stamp the one that came first
abbrev pub received : ℕ → List Message → List Message
received budget [] = []
received budget (m ∷ past) =
    if is_sound budget m && not (has_stamp m.stamp (received budget past)) then m ∷ received budget past
    else received budget past

-- what the messages of this stamp and of later ones are charged
abbrev pub charge_from : ℕ → List Message → ℕ
charge_from s [] = 0
charge_from s (m ∷ ms) = (if nat_le s m.stamp then charge m else 0) + charge_from s ms

-- together with all later ones that were received, the message fits the budget
abbrev pub Fits : ℕ → List Message → Message → Type 0
Fits budget past m = charge_from m.stamp (received budget past) ≤ budget

-- the message was received, and fits so
abbrev pub IsNewest : ℕ → List Message → Message → Type 0
IsNewest budget past m = Contains (received budget past) m × Fits budget past m

-- the list has these and no others
abbrev pub AreNewest : ℕ → List Message → List Message → Type 0
AreNewest budget past list = (m : Message) → Contains list m ↔ IsNewest budget past m

-- no message up to the floor fits so, and each one above it that was received does
pub record IsFloor (budget : ℕ) (past : List Message) (floor : ℕ) : Type 0 where
  pub below : (m : Message) → Contains (received budget past) m → m.stamp ≤ floor
      → budget < charge_from m.stamp (received budget past)
  pub above : (m : Message) → Contains (received budget past) m → floor < m.stamp → Fits budget past m

-- the stamps rise, from above this one on
abbrev pub Rise : ℕ → List Message → Type 0
Rise from [] = Unit {0}
Rise from (m ∷ ms) = (from < m.stamp) × Rise m.stamp ms

-- two histories have the same messages
abbrev pub HaveTheSame : List Message → List Message → Type 0
HaveTheSame xs ys = (m : Message) → Contains xs m ↔ Contains ys m

-- no two different messages have one stamp
abbrev pub IsOneAStamp : List Message → Type 0
IsOneAStamp xs = (m n : Message) → Contains xs m → Contains xs n → m.stamp ≡ n.stamp → m ≡ n
