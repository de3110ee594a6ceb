-- Believed.
-- What an exported function promises of a handle, of a buffer, and of what it reports.
use Rattle.std.specs.Prelude.{◌≡◌, ℕ, if◌then◌else◌, List, length, nat_le, Option, Some, None}
use Rattle.entries.specs.Overlaid.{overlaid}
use Rattle.broadcast_core.specs.declared.outcome.Outcome.{Outcome}
use Rattle.broadcast_core.specs.declared.outcome.Outcome.TheVariants.{Inserted, Duplicate, Ineligible, Oversize}
use Rattle.broadcast_core.specs.Reports.{Reports}
use Rattle.broadcast_c.specs.Storing.{TakesHandle, enters, same_bytes}
use Rattle.broadcast_c.specs.declared.store.name.Name.{Name}
use Rattle.broadcast_c.specs.declared.store.Store.{Store}
use Rattle.broadcast_c.specs.declared.exports.store.Stored.{Stored}

-- there was a value and there is one, and P holds of the two
abbrev pub BothHold : {X : Type 0} → Option X → Option X → (X → X → Type 0) → Type 0
BothHold (Some old) (Some new) P = P old new
BothHold (Some old) None P = ⊥
BothHold None new P = ⊥

-- for an empty handle the status is EMPTY; for a full one P holds
abbrev pub Finds : {X : Type 0} → Option X → Option X → ℕ → (X → X → Type 0) → Type 0
Finds None new status P = (status ≡ 2) × (new ≡ None)
Finds (Some old) (Some new) status P = P old new
Finds (Some old) None status P = ⊥

-- the status is EMPTY for an empty handle and MEMORY for a full one, and the handle is unchanged
abbrev pub Fails : {X : Type 0} → Option X → Option X → ℕ → Type 0
Fails None new status = (status ≡ 2) × (new ≡ None)
Fails (Some old) new status = (status ≡ 1) × (new ≡ Some old)

-- OK if the buffer is long enough, else SHORT
abbrev pub buffer_status : ℕ → ℕ → ℕ
buffer_status needed places = if nat_le needed places then 0 else 4

-- the list is copied to the front of the buffer, as far as there is room, and its length is
-- reported; the status is OK if all of it was copied
pub record IsFilled {X : Type 0} (xs old new : List X) (needed status : ℕ) : Type 0 where
  pub filled : new ≡ overlaid xs old
  pub length_reported : needed ≡ length xs
  pub status_reported : status ≡ buffer_status (length xs) (length old)

-- the number of an outcome
abbrev pub outcome_code : Outcome → ℕ
outcome_code Inserted = 0
outcome_code Duplicate = 1
outcome_code Ineligible = 2
outcome_code Oversize = 3

-- the message of the handle was taken; reported are the outcome, the number of tickets served,
-- whether the message is cached and none of its digest was, the number of cached messages, and the
-- number of messages that left and were not moved out, to which what left now is added
pub record ReportsTaking (peer : Name) (digest : List ℕ) (charge handle : ℕ) (old new : Store)
    (report : Stored) : Type 0 where
  pub was : Outcome
  pub taken : TakesHandle peer digest charge handle old new was
  pub outcome : report.outcome ≡ outcome_code was
  pub served : report.served ≡ length new.served
  pub kept : report.kept ≡ enters digest old new
  pub cached : report.cached ≡ length new.cache.core.cached
  pub added : Reports same_bytes old.cache new.cache
  pub left : report.left ≡ length new.cache.left
