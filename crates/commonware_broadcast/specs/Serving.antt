-- Internal.
-- A message is taken, and served to who waits for it.
use Rattle.std.specs.Prelude.{◌≡◌, ℕ, Option, map}
use Rattle.broadcast_core.specs.Carried.{Carried}
use Rattle.broadcast_core.specs.Content.{Same, waiting_at}
use Rattle.broadcast_core.specs.Changes.{Takes}
use Rattle.commonware_broadcast.specs.declared.buffered.engine.node.Node.{Node}
use Rattle.broadcast_core.specs.Handed.{to_subscribe}
use Rattle.engine_io.specs.Replies.{reply_of, Replies}
use Rattle.engine_io.specs.Handing.{Hands}

module _ {P M D S G O : Type 0} (same : Same P D) (told : O → Replies S G M D → Type 0) where
  -- a message is taken under the key at this charge, and each who waits for its digest is handed it
  pub record Serves (p : P) (c : Carried M D) (charge : Option ℕ) (old new : Node P M S O D)
      : Type 0 where
    pub replies : Replies S G M D
    pub takes : Takes same p c charge old.core new.core
    pub due : map reply_of replies ≡ map (λ w. to_subscribe w c) (waiting_at same old.core c.digest)
    pub hands : Hands told old.outlet old.metrics replies new.outlet new.metrics
