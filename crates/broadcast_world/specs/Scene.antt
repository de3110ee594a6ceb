-- Believed.
-- What a world is made of.
use Rattle.std.specs.Prelude.{ℕ, List}
use Rattle.broadcast_core.specs.Content.{Content}
use Rattle.broadcast_core.specs.TestMessage.{Parts}
use Rattle.broadcast_core.specs.declared.codec.RangeCfg.{RangeCfg}
use Rattle.broadcast_world.specs.Packet.{Packet}

-- what stays: the keys, sorted, and what each node was made with
pub record Scene (P : Type 0) : Type 0 where
  pub nodes : List P
  pub hostile : List P
  pub deque_size : ℕ
  pub byte_budget : ℕ
  pub range : RangeCfg

-- what changes besides: the content of each node, and the packets sent so far
pub record State (P : Type 0) : Type 0 where
  pub scene : Scene P
  pub cores : List (Content P Parts (List ℕ) ℕ)
  pub packets : List (Packet P)
