-- Internal.
-- Worked examples of a world's steps, computed by the definitions: nodes 1, 2 and 3, and the hostile
-- key 9.
use Rattle.std.specs.Prelude.{◌≡◌, ℕ, List, [], ◌∷◌, None, Some}
use Rattle.std.specs.Ordering.{nat_cmp}
use Rattle.broadcast_core.specs.Carried.{Carried}
use Rattle.broadcast_core.specs.TestMessage.{Parts}
use Rattle.broadcast_core.specs.declared.event.Answer.TheVariants as answer
use Rattle.broadcast_core.specs.declared.event.Cause.TheVariants.{Memory}
use Rattle.broadcast_core.specs.declared.event.Event.TheVariants as event
use Rattle.broadcast_core.specs.declared.ordered.Recipients.TheVariants as to
use Rattle.broadcast_core.specs.declared.outcome.Outcome.TheVariants.{Inserted}
use Rattle.broadcast_world.specs.Packet.{Packet}
use Rattle.broadcast_world.specs.Scene.{Scene}
use Rattle.broadcast_world.specs.World.{Log, packets, event_of}
use Rattle.broadcast_world.specs.declared.step.Step.TheVariants.{Peers, Broadcast, Deliver, Hostile}
use Rattle.broadcast_world.specs.declared.step.WorldAnswer.TheVariants.{Given}

abbrev pub scene : Scene ℕ
scene = record {
  nodes = 1 ∷ 2 ∷ 3 ∷ [];
  hostile = 9 ∷ [];
  deque_size = 10;
  byte_budget = 1000;
  range = record { min = 0; max = 9 };
}

-- the message with no commitment and one byte of content, and its encoding
abbrev pub letter : ℕ → Carried Parts (List ℕ)
letter x = record { message = record { commitment = []; content = x ∷ [] }; digest = x ∷ [] }

abbrev pub spelled : ℕ → List ℕ
spelled x = 0 ∷ 0 ∷ 0 ∷ 0 ∷ 0 ∷ 0 ∷ 0 ∷ 1 ∷ x ∷ []

abbrev pub packet : ℕ → ℕ → ℕ → Packet ℕ
packet from addressee x = record { sender = from; addressee = addressee; bytes = spelled x }

-- node 1 broadcasts to some keys, and node 2 to all
abbrev log : Log ℕ
log = (Broadcast 2 to.All (letter 62), Given (answer.Taken Inserted [] (letter 62)))
    ∷ (Broadcast 1 (to.Some (3 ∷ 2 ∷ 3 ∷ 1 ∷ 8 ∷ [])) (letter 61), Given (answer.Taken Inserted [] (letter 61)))
    ∷ []

-- one packet for each other node that is addressed, at its first mention
pub record Packets : Type 0 where
  pub made : packets nat_cmp scene log
      ≡ packet 1 3 61 ∷ packet 1 2 61 ∷ packet 2 1 62 ∷ packet 2 3 62 ∷ []
  pub refused : packets nat_cmp scene ((Broadcast 1 to.All (letter 61), Given (answer.Refused Memory)) ∷ []) ≡ []

-- what each step gives a node
pub record Events : Type 0 where
  pub delivered : event_of nat_cmp scene (Deliver 1) (packets nat_cmp scene log)
      ≡ Some (2, event.Payload 1 (spelled 61))
  pub unsent : event_of nat_cmp scene (Deliver 4) (packets nat_cmp scene log) ≡ None
  pub hostile : event_of nat_cmp scene (Hostile 9 2 (7 ∷ [])) [] ≡ Some (2, event.Payload 9 (7 ∷ []))
  pub not_hostile : event_of nat_cmp scene (Hostile 3 2 (7 ∷ [])) [] ≡ None
  pub unknown : event_of nat_cmp scene (Peers 4 (1 ∷ [])) [] ≡ None
