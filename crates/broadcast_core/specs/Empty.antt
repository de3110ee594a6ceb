-- Believed.
-- The content of a core to which nothing has happened.
use Rattle.std.specs.Prelude.{ℕ, []}
use Rattle.broadcast_core.specs.Content.{Content}

-- no primary keys, no lists, no messages and no waiters
abbrev pub empty : {P M D W : Type 0} → P → ℕ → ℕ → Content P M D W
empty own deque_size byte_budget = record {
  own = own;
  deque_size = deque_size;
  byte_budget = byte_budget;
  primary = [];
  lists = [];
  cached = [];
  waiters = [];
}
