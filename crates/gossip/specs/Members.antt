-- Internal.
-- Being on a list, case by case.
use Rattle.std.specs.Prelude.{◌≡◌, ◌⊎◌, List, [], ◌∷◌}
use Rattle.gossip.specs.declared.message.Message.{Message}

abbrev pub Has : List Message → Message → Type 0
Has [] m = ⊥
Has (x ∷ xs) m = (x ≡ m) ⊎ Has xs m
