-- Believed.
-- Jobs that digest at once.
use Rattle.std.specs.Prelude.{◌≡◌, Option, None, Some}

-- the message is still there, and is this one, with its own digest
abbrev pub HoldsDigested : {M D : Type 0} → (M → D) → M → Option (M × D) → Type 0
HoldsDigested digest_of m None = ⊥
HoldsDigested digest_of m (Some held) = (held.0 ≡ m) × (held.1 ≡ digest_of m)
