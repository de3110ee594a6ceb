-- Believed.
-- A packet: the encoding of a broadcast, on its way to one node.
use Rattle.std.specs.Prelude.{ℕ, List}

pub record Packet (P : Type 0) : Type 0 where
  pub sender : P
  pub addressee : P
  pub bytes : List ℕ
