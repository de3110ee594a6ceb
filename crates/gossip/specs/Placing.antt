-- Internal.
-- Where a stamp stands on a list in order, and what its messages sum up to.
use Rattle.std.specs.Prelude.{◌≡◌, ◌≤◌, ℕ, false, suc, ◌+◌, ◌^◌, ◌%◌, Bool, not, nat_le, nat_lt, if◌then◌else◌, List, [], ◌∷◌}
use Rattle.gossip.specs.declared.message.Message.{Message}
use Rattle.gossip.specs.Newest.{charge}
use Rattle.gossip.specs.declared.span.Span.{Span}
use Rattle.gossip.specs.Held.{Held, is_known}
use Rattle.gossip.specs.Sending.{is_lacking}

-- the number of messages in front that are no later than the stamp
abbrev pub up_to : ℕ → List Message → ℕ
up_to s [] = 0
up_to s (m ∷ ms) = if nat_le m.stamp s then suc (up_to s ms) else 0

-- the sums behind the messages, from a sum in front of the first on, without the multiples of 2^64
abbrev pub sums_after : ℕ → List Message → List ℕ
sums_after sum [] = []
sums_after sum (m ∷ ms) = (sum + charge m) % 2 ^ 64 ∷ sums_after ((sum + charge m) % 2 ^ 64) ms

-- the sum behind the last of them
abbrev pub sum_behind : ℕ → List Message → ℕ
sum_behind sum [] = sum
sum_behind sum (m ∷ ms) = sum_behind ((sum + charge m) % 2 ^ 64) ms

-- of the stamps from this one up to the end, a peer lacks none
pub record IsRun (reported : List Span) (sent s : ℕ) (end : ℕ) : Type 0 where
  pub begins : s ≤ end
  pub none : (t : ℕ) → s ≤ t → t ≤ end → is_lacking reported sent t ≡ false

-- how many of the messages pass a test
abbrev pub tally : (Message → Bool) → List Message → ℕ
tally test [] = 0
tally test (m ∷ ms) = (if test m then 1 else 0) + tally test ms

-- how many a log does not know
abbrev pub unknown : Held → List Message → ℕ
unknown h list = tally (λ m. not (is_known m.stamp h)) list

-- how many are later than the stamp
abbrev pub later_than : ℕ → List Message → ℕ
later_than s list = tally (λ m. nat_lt s m.stamp) list
