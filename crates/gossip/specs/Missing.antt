-- Believed.
-- What one coverage has and another lacks.
use Rattle.std.specs.Prelude.{◌≡◌, ◌≤◌, ◌<◌, ℕ, ◌+◌, true, false, List}
use Rattle.gossip.specs.Spans.{is_had}
use Rattle.gossip.specs.declared.span.Span.{Span}

-- the stamps after the one and up to the other were had, and the stamp after them was not
pub record IsRunEnd (had : List Span) (at end : ℕ) : Type 0 where
  pub after : at ≤ end
  pub run : (s : ℕ) → at < s → s ≤ end → is_had s had ≡ true
  pub ends : is_had (end + 1) had ≡ false

-- each stamp after the one and up to the other that they have was had
abbrev pub HasAll : List Span → List Span → ℕ → ℕ → Type 0
HasAll had theirs above upto = (s : ℕ) → above < s → s ≤ upto
    → is_had s theirs ≡ true → is_had s had ≡ true

-- the stamp is after the one and up to the other, they have it, it was not had, and there is none
-- before it
pub record IsFirstMissing (had theirs : List Span) (above upto stamp : ℕ) : Type 0 where
  pub after : above < stamp
  pub within : stamp ≤ upto
  pub theirs_has : is_had stamp theirs ≡ true
  pub lacking : is_had stamp had ≡ false
  pub first : (s : ℕ) → above < s → s < stamp → is_had s theirs ≡ true → is_had s had ≡ true
