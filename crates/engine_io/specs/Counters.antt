-- Believed.
-- What an engine counts: each number stops at the greatest of 64 bits.
use Rattle.std.specs.Prelude.{◌≡◌, ℕ, ◌+◌, ◌-◌, ◌^◌, min, Bool, true, false, List, [], unwrap_or, is_some}
use Rattle.std.specs.Map.{lookup}
use Rattle.engine_io.specs.declared.metrics.Counter.{Counter}
use Rattle.engine_io.specs.declared.metrics.Status.{Status}
use Rattle.engine_io.specs.declared.metrics.Status.TheVariants.{Success, Failure, Invalid, Dropped}

-- the counters without those of peers; waiters is the number of awaited digests that was set last
pub record Totals : Type 0 where
  pub receive : Counter
  pub subscribe : Counter
  pub get : Counter
  pub waiters : ℕ

-- the peers whose payloads were decoded, each with their number
pub record Counters (P : Type 0) : Type 0 where
  pub peer : List (P × ℕ)
  pub totals : Totals

abbrev pub no_counts : Counter
no_counts = record { success = 0; failure = 0; invalid = 0; dropped = 0 }

-- the counters of an engine to which nothing has happened
abbrev pub zero_counters : {P : Type 0} → Counters P
zero_counters = record {
  peer = [];
  totals = record { receive = no_counts; subscribe = no_counts; get = no_counts; waiters = 0 };
}

-- the number for the status
abbrev pub number_of : Status → Counter → ℕ
number_of Success c = c.success
number_of Failure c = c.failure
number_of Invalid c = c.invalid
number_of Dropped c = c.dropped

-- a number after it was raised, as far as 64 bits go
abbrev pub raised : ℕ → ℕ → ℕ
raised number more = number + min more (2 ^ 64 - 1 - number)

-- a counter with a number more for the status
abbrev pub added : Status → ℕ → Counter → Counter
added Success n c = record c { success = raised c.success n }
added Failure n c = record c { failure = raised c.failure n }
added Invalid n c = record c { invalid = raised c.invalid n }
added Dropped n c = record c { dropped = raised c.dropped n }

-- the number of a peer, 0 where it has none
abbrev pub count_of : {P : Type 0} → (P → P → Bool) → P → List (P × ℕ) → ℕ
count_of same p numbers = unwrap_or (lookup (same p) numbers) 0

-- whether a peer has a number
abbrev pub has_count : {P : Type 0} → (P → P → Bool) → P → List (P × ℕ) → Bool
has_count same p numbers = is_some (lookup (same p) numbers)

module _ {P : Type 0} (same : P → P → Bool) where
  -- counters that are a copy of others: the totals and the number of each peer
  pub record IsCopy (c copy : Counters P) : Type 0 where
    pub totals : copy.totals ≡ c.totals
    pub peers : (p : P) → count_of same p copy.peer ≡ count_of same p c.peer

-- what is counted: a payload of a peer that was decoded, and by its status a message that was
-- received, the reply to a subscribe, the reply to a get
pub data Counted (P : Type 0) : Type 0 where
  peer : P → Counted P
  receive : Status → Counted P
  subscribe : Status → Counted P
  get : Status → Counted P

abbrev pub is_status : Status → Status → Bool
is_status Success Success = true
is_status Failure Failure = true
is_status Invalid Invalid = true
is_status Dropped Dropped = true
is_status _ _ = false

module _ {P : Type 0} (same : P → P → Bool) where
  -- the counter of the first counts the second
  abbrev pub is_counted_as : Counted P → Counted P → Bool
  is_counted_as (peer q) (peer p) = same p q
  is_counted_as (receive one) (receive other) = is_status one other
  is_counted_as (subscribe one) (subscribe other) = is_status one other
  is_counted_as (get one) (get other) = is_status one other
  is_counted_as _ _ = false

  -- the counter's number
  abbrev pub number_at : Counted P → Counters P → ℕ
  number_at (peer q) c = count_of same q c.peer
  number_at (receive status) c = number_of status c.totals.receive
  number_at (subscribe status) c = number_of status c.totals.subscribe
  number_at (get status) c = number_of status c.totals.get
