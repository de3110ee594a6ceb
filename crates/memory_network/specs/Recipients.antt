-- Internal.
-- Whom a message is for.
use Rattle.std.specs.Prelude.{Bool, true}
use Rattle.std.specs.List.{list_any}
use Rattle.std.specs.Ordering.{eq_by_cmp}
use Rattle.std.specs.declared.cmp.Ordering.{Ordering}
use Rattle.broadcast_core.specs.declared.ordered.Recipients.{Recipients}
use Rattle.broadcast_core.specs.declared.ordered.Recipients.TheVariants.{All, One, Some}

module _ {P : Type 0} (cmp : P → P → Ordering) where
  -- the key is one of the recipients
  abbrev pub is_recipient : Recipients P → P → Bool
  is_recipient All key = true
  is_recipient (One one) key = eq_by_cmp cmp one key
  is_recipient (Some keys) key = list_any (λ one. eq_by_cmp cmp one key) keys
