-- Believed.
-- The replies that an engine handed out.
use Rattle.std.specs.Prelude.{ℕ, Bool, List, Option}
use Rattle.broadcast_core.specs.Carried.{Carried}
use Rattle.broadcast_core.specs.Handed.{Handed, to_subscribe, to_get}

-- who asked: the ticket of the request, and where the reply goes
pub record Asker (R : Type 0) : Type 0 where
  pub ticket : ℕ
  pub responder : R

-- a reply to a subscribe or to a get, and whether it was delivered
pub data Replied (S G A B : Type 0) : Type 0 where
  subscribed : Asker S → A → Bool → Replied S G A B
  got : Asker G → B → Bool → Replied S G A B

-- the reply was delivered or not as its responder may say, by the answers that each may give
abbrev pub IsAsSaid : {S G A B : Type 0} → (S → Bool → Type 0) → (G → Bool → Type 0)
    → Replied S G A B → Type 0
IsAsSaid of_subscribe of_get (subscribed w reply delivered) = of_subscribe w.responder delivered
IsAsSaid of_subscribe of_get (got v reply delivered) = of_get v.responder delivered

-- the replies of messages, the oldest first
abbrev pub Replies : (S G M D : Type 0) → Type 0
Replies S G M D = List (Replied S G (Carried M D) (Option (Carried M D)))

-- the reply, delivered or not
abbrev pub reply_of : {M D S G : Type 0} → Replied S G (Carried M D) (Option (Carried M D))
    → Handed M D (Asker S) (Asker G)
reply_of (subscribed w c delivered) = to_subscribe w c
reply_of (got v found delivered) = to_get v found
