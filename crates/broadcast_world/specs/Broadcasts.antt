-- Believed.
-- What was broadcast in a world, and to which nodes.
use Rattle.std.specs.Prelude.{◌≡◌, ℕ, Bool, true, false, ◌&&◌, List, [], ◌∷◌, ◌++◌, Option, None, Some}
use Rattle.std.specs.List.{AllZip, list_any}
use Rattle.std.specs.Ordering.{eq_by_cmp, nat_cmp}
use Rattle.std.specs.Cmp.Lexicographic.{slice_cmp}
use Rattle.std.specs.declared.cmp.Ordering.{Ordering}
use Rattle.sha2.specs.Sha256.{sha256}
use Rattle.broadcast_core.specs.Content.{among, list_at}
use Rattle.broadcast_core.specs.TestMessage.{Parts}
use Rattle.broadcast_core.specs.declared.event.Event.TheVariants as event
use Rattle.broadcast_core.specs.declared.ordered.Recipients.{Recipients}
use Rattle.broadcast_world.specs.Scene.{Scene}
use Rattle.broadcast_world.specs.World.{Log, NodeEvent, accepted, addressed, at}
use Rattle.broadcast_world.specs.Steps.{NodeContent}

-- a broadcast that a node accepted
pub record Broadcasting (P : Type 0) : Type 0 where
  pub node : P
  pub recipients : Recipients P
  pub message : Parts

module _ {P : Type 0} (cmp : P → P → Ordering) (w : Scene P) where
  abbrev pub broadcast_in : P → NodeEvent P → List (Broadcasting P)
  broadcast_in n (event.Broadcast r c) =
      record { node = n; recipients = r; message = c.message } ∷ []
  broadcast_in n _ = []

  abbrev pub broadcast_by : Option (P × NodeEvent P) → List (Broadcasting P)
  broadcast_by None = []
  broadcast_by (Some e) = broadcast_in e.0 e.1

  -- the broadcasts of a log, the newest first
  abbrev pub broadcasts : Log P → List (Broadcasting P)
  broadcasts [] = []
  broadcasts (x ∷ log) = broadcast_by (accepted cmp w x log) ++ broadcasts log

  -- whether a message whose own digest is d was broadcast at node p with node n among its addressees
  abbrev pub was_broadcast : P → P → List ℕ → Log P → Bool
  was_broadcast p n d log = list_any (λ b. eq_by_cmp cmp p b.node
      && (list_any (eq_by_cmp cmp n) (addressed cmp w b.node b.recipients)
      && eq_by_cmp (slice_cmp nat_cmp) d (sha256 b.message.content))) (broadcasts log)

  -- each digest that a node lists for another key, which is not hostile, was broadcast there to it
  abbrev pub HasOrigins : Log P → List (NodeContent P) → Type 0
  HasOrigins log cores = AllZip (λ n core. (p : P) (d : List ℕ) → eq_by_cmp cmp p n ≡ false
      → list_any (eq_by_cmp cmp p) w.hostile ≡ false
      → among (at cmp w n).same.digest d (list_at (at cmp w n).same core p) ≡ true
      → was_broadcast p n d log ≡ true) w.nodes cores
