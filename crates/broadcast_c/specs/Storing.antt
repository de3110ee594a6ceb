-- Believed.
-- How the calls of a store change it.
use Rattle.std.specs.Prelude.{◌≡◌, ℕ, ◌&&◌, Bool, not, List, map, reverse, length, drop, ◌+◌, Ok, Option, Some, is_some}
use Rattle.std.specs.Cmp.Lexicographic.{slice_cmp}
use Rattle.std.specs.List.{list_any}
use Rattle.std.specs.Option.{option_map}
use Rattle.std.specs.Ordering.{nat_cmp}
use Rattle.entries.specs.Overlaid.{overlaid}
use Rattle.broadcast_core.specs.Carried.{Carried}
use Rattle.broadcast_core.specs.Content.{Content, Same, message_at, same_by}
use Rattle.broadcast_core.specs.Changes.{IsTaken}
use Rattle.broadcast_core.specs.declared.outcome.Outcome.{Outcome}
use Rattle.broadcast_c.specs.declared.store.held.Held.{Held}
use Rattle.broadcast_c.specs.declared.store.name.Name.{Name}
use Rattle.broadcast_c.specs.declared.store.Store.{Store}

-- equal bytes are one key, and one digest
abbrev pub same_bytes : Same Name (List ℕ)
same_bytes = same_by (λ x y. slice_cmp nat_cmp x.bytes y.bytes) (λ x y. slice_cmp nat_cmp x y)

-- both lists have the same keys
abbrev pub HaveSameNames : List Name → List Name → Type 0
HaveSameNames ps qs = (q : Name) → list_any (same_bytes.key q) ps ≡ list_any (same_bytes.key q) qs

-- the message of the handle, by its digest
abbrev pub carried_at : ℕ → ℕ → List ℕ → Carried Held (List ℕ)
carried_at handle charge digest = record {
  message = record { handle = handle; charge = charge; digest = digest };
  digest = digest;
}

-- whether a message of the digest is cached, and none was
abbrev pub enters : List ℕ → Store → Store → Bool
enters digest old new = not (is_some (message_at same_bytes old.cache.core digest))
    && is_some (message_at same_bytes new.cache.core digest)

-- the message is taken under the key, by the digest, with this outcome; the store keeps the tickets
-- that it served
abbrev pub TakesHandle : Name → List ℕ → ℕ → ℕ → Store → Store → Outcome → Type 0
TakesHandle peer digest charge handle old new outcome =
    IsTaken same_bytes peer (carried_at handle charge digest) (Some charge)
    old.cache.core new.cache.core (Ok (record {
      outcome = outcome;
      served = new.served;
      entered = enters digest old new;
    }))

-- the handle of the cached message of the digest
abbrev pub handle_at : Content Name Held (List ℕ) ℕ → List ℕ → Option ℕ
handle_at core digest = option_map (λ x. x.message.handle) (message_at same_bytes core digest)

-- the handles of the messages that left, the newest first
abbrev pub left_in : Store → List ℕ
left_in store = map (λ x. x.message.handle) (reverse store.cache.left)

-- handles of messages that left are moved to the front of the buffer, as far as there is room; so
-- many are moved, the others stay, and so does all else
pub record MovesLeft (old new : Store) (room out : List ℕ) (moved : ℕ) : Type 0 where
  pub filled : out ≡ overlaid (left_in old) room
  pub rest : left_in new ≡ drop (length room) (left_in old)
  pub count : moved + length (left_in new) ≡ length (left_in old)
  pub core : new.cache.core ≡ old.cache.core
  pub served : new.served ≡ old.served
