-- Believed.
-- What a world is made with, and how its nodes are looked up.
use Rattle.std.specs.Prelude.{Bool, false, ◌||◌, List, [], ◌∷◌, Option}
use Rattle.std.specs.List.{find, list_any, zip}
use Rattle.std.specs.Option.{option_map}
use Rattle.std.specs.Ordering.{eq_by_cmp}
use Rattle.std.specs.declared.cmp.Ordering.{Ordering}
use Rattle.broadcast_world.specs.Scene.{State}
use Rattle.broadcast_world.specs.Steps.{NodeContent}

module _ {P : Type 0} (cmp : P → P → Ordering) where
  -- whether a key stands twice in the list
  abbrev pub has_repeat : List P → Bool
  has_repeat [] = false
  has_repeat (p ∷ ps) = list_any (λ q. eq_by_cmp cmp q p) ps || has_repeat ps

  -- whether a key is twice a node, or a node and hostile
  abbrev pub shares_key : List P → List P → Bool
  shares_key nodes hostile =
      has_repeat nodes || list_any (λ h. list_any (λ n. eq_by_cmp cmp n h) nodes) hostile

  -- the content of the node that a key names
  abbrev pub content_of : State P → P → Option (NodeContent P)
  content_of world p =
      option_map (λ e. e.1) (find (λ e. eq_by_cmp cmp p e.0) (zip world.scene.nodes world.cores))
