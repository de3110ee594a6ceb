-- Believed.
-- What a log of an author holds, and what a message that arrives changes.
use Rattle.std.specs.Prelude.{◌≤◌, ◌<◌, ◌+◌, ℕ, Bool, true, false, nat_le, nat_lt, nat_eq, not, ◌&&◌, ◌||◌, if◌then◌else◌, List, [], ◌∷◌, map, Option, Some, None}
use Rattle.gossip.specs.declared.message.Message.{Message}
use Rattle.gossip.specs.declared.message.Arrival.{Arrival}
use Rattle.gossip.specs.declared.message.Arrived.{Arrived}
use Rattle.gossip.specs.declared.message.Arrived.TheVariants.{Listed, Passed, Refused, Oversize}
use Rattle.gossip.specs.Newest.{charge, is_sound, has_stamp, Rise}

-- how a log is seen: its budget, its floor, and its list
pub record Held : Type 0 where
  pub budget : ℕ
  pub floor : ℕ
  pub list : List Message

-- the stamp is no later than the floor, or listed
abbrev pub is_known : ℕ → Held → Bool
is_known s h = nat_le s h.floor || has_stamp s h.list

-- the message of the stamp, if there is one
abbrev pub find : ℕ → List Message → Option Message
find s [] = None
find s (m ∷ ms) = if nat_eq m.stamp s then Some m else find s ms

-- what messages are charged
abbrev pub total : List Message → ℕ
total [] = 0
total (m ∷ ms) = charge m + total ms

-- a message put in its place by its stamp
abbrev pub inserted : Message → List Message → List Message
inserted m [] = m ∷ []
inserted m (x ∷ xs) = if nat_lt x.stamp m.stamp then x ∷ inserted m xs else m ∷ x ∷ xs

-- what stays of messages in order if the earliest leave while all are charged more than the budget; what leaves;
-- and the floor then
abbrev pub staying : ℕ → List Message → List Message
staying budget [] = []
staying budget (m ∷ ms) = if nat_le (total (m ∷ ms)) budget then m ∷ ms else staying budget ms

abbrev pub leaving : ℕ → List Message → List Message
leaving budget [] = []
leaving budget (m ∷ ms) = if nat_le (total (m ∷ ms)) budget then [] else m ∷ leaving budget ms

abbrev pub floor_with : ℕ → ℕ → List Message → ℕ
floor_with budget floor [] = floor
floor_with budget floor (m ∷ ms) =
    if nat_le (total (m ∷ ms)) budget then floor else floor_with budget m.stamp ms

-- the message is new: sound, later than the floor, and not listed
abbrev pub is_new : Held → Message → Bool
is_new h m = is_sound h.budget m && not (is_known m.stamp h)

-- what a new message leaves
abbrev pub with_new : Held → Message → Held
with_new h m = record h {
  floor = floor_with h.budget h.floor (inserted m h.list);
  list = staying h.budget (inserted m h.list);
}

-- what a message leaves that comes in time
abbrev pub after : Held → Message → Held
after h m = if is_new h m then with_new h m else h

-- what leaves for it, the message itself among it if it has no room
abbrev pub left_for : Held → Message → List Message
left_for h m = if is_new h m then leaving h.budget (inserted m h.list) else []

-- the answer to it
abbrev pub answer : Held → Message → Arrived
answer h m =
    if not (nat_lt m.prev m.stamp) || is_known m.stamp h then Refused
    else (if not (nat_le (charge m) h.budget) then Oversize
    else (if nat_lt (after h m).floor m.stamp then Listed else Passed))

-- what messages leave that come in time, one after another
abbrev pub after_all : Held → List Message → Held
after_all h [] = h
after_all h (m ∷ ms) = after_all (after h m) ms

-- the messages that come in time: each no later than the greatest stamp that may be accepted then
abbrev pub in_time : List Arrival → List Message
in_time [] = []
in_time (a ∷ as') = if nat_lt a.latest a.message.stamp then in_time as' else a.message ∷ in_time as'

-- whether the answer says that the message is on the list
abbrev pub is_put : Arrived → Bool
is_put Listed = true
is_put _ = false

-- the message is put on the list
abbrev pub is_listed : Held → Message → Bool
is_listed h m = is_put (answer h m)

-- those of them that are
abbrev pub listed : Held → List Message → List Message
listed h [] = []
listed h (m ∷ ms) = if is_listed h m then m ∷ listed (after h m) ms else listed (after h m) ms

-- two messages have one stamp
abbrev pub same_stamp : Message → Message → Bool
same_stamp m n = nat_eq m.stamp n.stamp

-- arrivals in order, after a history
abbrev pub heard : List Message → List Message → List Message
heard [] past = past
heard (m ∷ ms) past = heard ms (m ∷ past)

-- the history of what came in time
abbrev pub history : List Arrival → List Message
history arrivals = heard (in_time arrivals) []

-- each message is later than the one before it
abbrev pub Later : List Message → Type 0
Later [] = Unit {0}
Later (m ∷ ms) = (m.prev < m.stamp) × Later ms

-- the list is within the budget, its stamps rise above the floor, and each message is later than the one before it
pub record IsHeld (h : Held) : Type 0 where
  pub rises : Rise h.floor h.list
  pub within : total h.list ≤ h.budget
  pub later : Later h.list

-- the message without its handle, which each relay chooses for itself
abbrev pub bare : Message → Message
bare m = record m { handle = 0 }

-- what a log holds, the handles left out
abbrev pub bare_of : Held → Held
bare_of h = record h { list = map bare h.list }
