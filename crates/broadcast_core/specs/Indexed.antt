-- Internal.
-- How the lists of places and the table of messages agree.
use Rattle.std.specs.Prelude.{◌≡◌, ℕ, Bool, true, if◌then◌else◌, List, [], ◌∷◌, map, Option, Some, None, is_some, ◌⊎◌, MatchOption}
use Rattle.std.specs.List.{IsDistinct}
use Rattle.std.specs.Map.{lookup, keys_of}
use Rattle.entries.specs.declared.entry.Charged.{Charged}
use Rattle.entries.specs.Linked.{Node}
use Rattle.entries.specs.Placed.{Placed}
use Rattle.entries.specs.Overlaid.{same_number}
use Rattle.entries.specs.Store.{values_of, items_at, Extends}
use Rattle.entries.specs.Table.{messages_of, place_at, IsPlaced, SetsPlace, Tabled, name_at, items_of, Takes}
use Rattle.broadcast_core.specs.Carried.{Carried}
use Rattle.std.specs.BTreeMap.{insert_entry}
use Rattle.std.specs.declared.cmp.Ordering.{Ordering}
use Rattle.broadcast_core.specs.Content.{Same, same_charged}
use Rattle.broadcast_core.specs.Stored.{Stored}

-- the place of the digest among nodes
abbrev pub place_of : {D : Type 0} → (D → D → Bool) → D → List (Node D) → Option ℕ
place_of same d [] = None
place_of same d (n ∷ ns) = if same d n.1 then Some n.0 else place_of same d ns

module _ {D : Type 0} where
  -- the node under the name of its item, before the others; without a name it is left out
  abbrev pub named_front : Option D → Node (Charged ℕ) → List (Node (Charged D)) → List (Node (Charged D))
  named_front None n ns = ns
  named_front (Some d) n ns = (n.0, record { digest = d; charge = n.1.charge }) ∷ ns

  module _ (names : ℕ → Option D) where
    -- the nodes of items, each under the name of its item
    abbrev pub named_nodes : List (Node (Charged ℕ)) → List (Node (Charged D))
    named_nodes [] = []
    named_nodes (n ∷ ns) = named_front (names n.1.digest) n (named_nodes ns)

    -- the lists of items, each item by its name
    abbrev pub named_lists : {P : Type 0} → List (P × List (Node (Charged ℕ))) → List (P × List (Node (Charged D)))
    named_lists lists = map (λ e. (e.0, named_nodes e.1)) lists

    -- each item has a name
    abbrev pub AreNamed : List (Node (Charged ℕ)) → Type 0
    AreNamed [] = Unit {0}
    AreNamed (n ∷ ns) = (is_some (names n.1.digest) ≡ true) × AreNamed ns

    -- each item of each list has a name
    abbrev pub AllNamed : {P : Type 0} → (P → P → Bool) → List (P × List (Node (Charged ℕ))) → Type 0
    AllNamed {P} key lists = (p : P) → AreNamed (items_at key p lists)

-- the lists of digests
abbrev pub digest_lists : {P D : Type 0} → List (P × List (Node D)) → List (P × List D)
digest_lists lists = map (λ e. (e.0, values_of e.1)) lists

-- the table finds the place of each digest on a list, and no other; the digests of a list differ;
-- a message goes by its own digest, and has a place; no list is there twice
pub record IsIndexed {P M D : Type 0} (same : Same P D) (lists : List (P × List (Node (Charged D))))
    (items : List (D × Placed P (Carried M D))) : Type 0 where
  pub finds : (c : Charged D) (p : P) → place_at same.digest same.key items c.digest p
      ≡ place_of (same_charged same.digest) c (items_at same.key p lists)
  pub distinct : (p : P) → IsDistinct (same_charged same.digest) (values_of (items_at same.key p lists))
  pub named : (d : D) (x : Carried M D) → lookup (same.digest d) (messages_of items) ≡ Some x
      → same.digest d x.digest ≡ true
  pub placed : IsPlaced same.digest same.key items
  pub apart : IsDistinct same.key (keys_of lists)

-- the lists of items agree with the table, each item by its name, and each item has one
pub record IsShelved {P M D : Type 0} (same : Same P D) (names : ℕ → Option D)
    (lists : List (P × List (Node (Charged ℕ)))) (items : List (D × Placed P (Carried M D))) : Type 0 where
  pub indexed : IsIndexed same (named_lists names lists) items
  pub named : AllNamed names same.key lists

-- the name of each item of a table of messages
abbrev pub names_of : {M D : Type 0} → Tabled D (Carried M D) → ℕ → Option D
names_of table = name_at (λ m. m.digest) table

-- the content of lists of places and a table
abbrev pub stored_of : {P M D : Type 0} → List (P × List (Node (Charged D)))
    → List (D × Placed P (Carried M D)) → Stored P M D
stored_of lists items = record { lists = digest_lists lists; messages = messages_of items }

module _ {P M D : Type 0} (same : Same P D) where
  -- each message was there, or is the one that is taken, which was not there
  abbrev pub Origin : Carried M D → List (D × Carried M D) → List (D × Carried M D) → Type 0
  Origin x old new = (d : D) (y : Carried M D) → lookup (same.digest d) new ≡ Some y
      → (lookup (same.digest d) old ≡ Some y)
      ⊎ ((lookup (same.digest d) old ≡ None) × (y ≡ x) × (same.digest x.digest d ≡ true))

  -- each message was there
  abbrev pub Fewer : List (D × Carried M D) → List (D × Carried M D) → Type 0
  Fewer old new = (d : D) (y : Carried M D) → lookup (same.digest d) new ≡ Some y
      → lookup (same.digest d) old ≡ Some y

  -- the message is cached, where it was not, and has a place of the key
  pub record Holds (cmp : D → D → Ordering) (p : P) (x : Carried M D) (place : ℕ)
      (old new : List (D × Placed P (Carried M D))) : Type 0 where
    pub places : SetsPlace same.digest same.key x.digest p (Some place) old new
    pub messages : messages_of new ≡ (if is_some (lookup (same.digest x.digest) old)
        then messages_of old else insert_entry cmp (messages_of old) x.digest x)
    pub cached : is_some (lookup (same.digest x.digest) (messages_of new)) ≡ true
    pub origin : Origin x (messages_of old) (messages_of new)

-- the content of lists of items and their table
abbrev pub shelved_of : {M D : Type 0} → List (ℕ × List (Node (Charged ℕ))) → Tabled D (Carried M D) → Stored ℕ M D
shelved_of lists table = stored_of (named_lists (names_of table) lists) (items_of table)

-- the node goes in front of the list, and what leaves the list leaves its item
pub record Pushes {M D : Type 0} (cmp : D → D → Ordering) (list : ℕ) (n : Node (Charged ℕ)) (size : ℕ)
    (old new : List (ℕ × List (Node (Charged ℕ)))) (old_table new_table : Tabled D (Carried M D)) : Type 0 where
  pub stale : Option (Charged ℕ)
  pub extends : Extends same_number list n size stale old new
  pub leaves : MatchOption stale (new_table ≡ old_table)
      (λ c. Takes cmp (λ m. m.digest) c.digest list old_table new_table)
