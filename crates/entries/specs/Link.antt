-- Internal.
-- A link to a place, in one word.
use Rattle.std.specs.Prelude.{◌==◌, ◌^◌, ◌-◌, ℕ, if◌then◌else◌, Option, Some, None}

-- the word of a link that leads nowhere
abbrev pub nowhere : ℕ
nowhere = 2 ^ 32 - 1

-- where the word leads
abbrev pub link_of : ℕ → Option ℕ
link_of at = if at == nowhere then None else Some at

-- the word of a link
abbrev pub word_of : Option ℕ → ℕ
word_of None = nowhere
word_of (Some at) = at
