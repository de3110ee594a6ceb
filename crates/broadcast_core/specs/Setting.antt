-- Believed.
-- What a history is read by.
use Rattle.std.specs.Prelude.{ℕ, Bool, List, Option, Result, ◌-◌, ◌==◌, if◌then◌else◌, length, Ok, Err}
use Rattle.broadcast_core.specs.Carried.{Carried}
use Rattle.broadcast_core.specs.Content.{Same}
use Rattle.broadcast_core.specs.declared.codec.CodecError.{CodecError}
use Rattle.broadcast_core.specs.declared.codec.CodecError.TheVariants.{ExtraData}

pub record Setting (P M D : Type 0) : Type 0 where
  -- the key under which broadcasts are taken
  pub own : P
  -- the greatest length of a list
  pub deque_size : ℕ
  -- the most bytes that the digests of a list may be charged together
  pub byte_budget : ℕ
  -- the flag that each send carries
  pub priority : Bool
  -- when two keys, and when two digests, are equal
  pub same : Same P D
  -- a message's own digest
  pub digest_of : M → D
  -- a message's encoding, if it has one
  pub encoding : M → Option (List ℕ)
  -- the message that the bytes are, all of them, or why they are none
  pub reading : List ℕ → Result M CodecError

-- the setting with these parts, in order
abbrev pub setting : {P M D : Type 0} → P → ℕ → ℕ → Bool → Same P D
    → (M → D) → (M → Option (List ℕ)) → (List ℕ → Result M CodecError) → Setting P M D
setting own deque_size byte_budget priority same digest_of encoding reading = record {
  own = own;
  deque_size = deque_size;
  byte_budget = byte_budget;
  priority = priority;
  same = same;
  digest_of = digest_of;
  encoding = encoding;
  reading = reading;
}

-- a message under its own digest
abbrev pub own_digested : {P M D : Type 0} → Setting P M D → M → Carried M D
own_digested s m = record { message = m; digest = s.digest_of m }

-- the value, if it takes all n bytes
abbrev pub all_taken : {M : Type 0} → ℕ → Result (M × ℕ) CodecError → Result M CodecError
all_taken n (Ok r) = if r.1 == n then Ok r.0 else Err (ExtraData (n - r.1))
all_taken n (Err e) = Err e

-- what the bytes read as, all of them
abbrev pub whole : {M : Type 0} → (List ℕ → Result (M × ℕ) CodecError) → List ℕ
    → Result M CodecError
whole reading bytes = all_taken (length bytes) (reading bytes)
