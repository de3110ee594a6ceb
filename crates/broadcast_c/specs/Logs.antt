-- Believed.
-- What the functions of a log promise.
use Rattle.std.specs.Prelude.{◌≡◌, ◌≤◌, ◌<◌, ℕ, true, nat_le, nat_lt, if◌then◌else◌, List, [], length, map, Contains, Option, Some, None}
use Rattle.entries.specs.Overlaid.{overlaid}
use Rattle.gossip.specs.Held.{Held, after, answer, left_for}
use Rattle.gossip.specs.Showing.{covered}
use Rattle.gossip.specs.Spans.{IsCoverage, is_had, top_of}
use Rattle.gossip.specs.declared.span.Span.{Span}
use Rattle.gossip.specs.declared.message.Message.{Message}
use Rattle.gossip.specs.declared.message.Arrived.{Arrived}
use Rattle.gossip.specs.declared.message.Arrived.TheVariants.{Listed, Passed, Refused, Oversize, Untimely}
use Rattle.broadcast_c.specs.Coverages.{coverage_of}
use Rattle.broadcast_c.specs.declared.log_handle.OwnLog.{OwnLog}

-- the number of what becomes of a message
abbrev pub arrived_code : Arrived → ℕ
arrived_code Listed = 0
arrived_code Passed = 1
arrived_code Refused = 2
arrived_code Oversize = 3
arrived_code Untimely = 4

module _ (latest : ℕ) (message : Message) where
  -- what a message leaves, the answer to it, and the handles of those that leave for it
  abbrev pub held_then : Held → Held
  held_then h = if nat_lt latest message.stamp then h else after h message

  abbrev pub reply : Held → Arrived
  reply h = if nat_lt latest message.stamp then Untimely else answer h message

  abbrev pub leaves : Held → List ℕ
  leaves h = if nat_lt latest message.stamp then [] else map (λ m. m.handle) (left_for h message)

-- what the calls below do to a full handle: one that arrives
pub record Arrives (latest : ℕ) (message : Message) (arrived needed : ℕ) (out made : List ℕ) (old new : OwnLog) : Type 0 where
  pub after : new.log ≡ held_then latest message old.log
  pub answer : arrived ≡ arrived_code (reply latest message old.log)
  pub count : needed ≡ length (leaves latest message old.log)
  pub left : made ≡ overlaid (leaves latest message old.log) out

-- the handle is full, as it was, and P holds of its log
abbrev pub Reads : Option OwnLog → Option OwnLog → (Held → Type 0) → Type 0
Reads (Some old) (Some new) P = (new.log ≡ old.log) × P old.log
Reads (Some old) None P = ⊥
Reads None new P = ⊥

-- a report: a coverage that shows only what the log covers, and of the listed messages those up to its top
pub record Reports (held : Held) (floor needed : ℕ) (out made : List Span) : Type 0 where
  pub spans : List Span
  pub filled : made ≡ overlaid spans out
  pub count : needed ≡ length spans
  pub coverage : IsCoverage 64 (coverage_of floor spans)
  pub within : (s : ℕ) → is_had s (coverage_of floor spans) ≡ true → is_had s (covered held) ≡ true
  pub listed : (m : Message) → Contains held.list m
      → is_had m.stamp (coverage_of floor spans) ≡ nat_le m.stamp (top_of (coverage_of floor spans))
  pub up_to_floor : (s : ℕ) → 0 < s → s ≤ held.floor → is_had s (coverage_of floor spans) ≡ true
