-- Internal.
-- The messages by digest, with the places of their entries by key.
use Rattle.std.specs.Prelude.{◌≡◌, ℕ, Bool, true, ◌&&◌, if◌then◌else◌, List, [], ◌∷◌, map, Option, Some, None, is_some, slice_index_or, ◌⊎◌}
use Rattle.std.specs.Option.{option_map}
use Rattle.std.specs.Map.{lookup, remove_entry}
use Rattle.std.specs.Ordering.{eq_by_cmp}
use Rattle.entries.specs.Placed.{Placed}
use Rattle.entries.specs.Overlaid.{same_number}
use Rattle.std.specs.BTreeMap.{insert_entry}
use Rattle.std.specs.declared.cmp.Ordering.{Ordering}

-- the messages
abbrev pub messages_of : {K D T : Type 0} → List (D × Placed K T) → List (D × T)
messages_of items = map (λ e. (e.0, e.1.message)) items

module _ {K D T : Type 0} (digest : D → D → Bool) (key : K → K → Bool) where
  -- the place among those of a message
  abbrev pub place_in : K → Option (Placed K T) → Option ℕ
  place_in p None = None
  place_in p (Some item) = lookup (key p) item.places

  -- the place of the entry of the digest and the key
  abbrev pub place_at : List (D × Placed K T) → D → K → Option ℕ
  place_at items d p = place_in p (lookup (digest d) items)

  -- each message has a place
  abbrev pub IsPlaced : List (D × Placed K T) → Type 0
  IsPlaced items = (d : D) → is_some (lookup (digest d) items) ≡ true
      → (p : K) × (i : ℕ) × (place_at items d p ≡ Some i)

  -- the digest has this place of the key, or none, and all other places stay
  abbrev pub SetsPlace : D → K → Option ℕ → List (D × Placed K T) → List (D × Placed K T) → Type 0
  SetsPlace d p place old new = (e : D) (q : K) → place_at new e q
      ≡ (if digest d e && key p q then place else place_at old e q)

  -- a copy of the message is put in at the digest
  pub record Caches (cmp : D → D → Ordering) (is_clone : T → T → Type 0) (d : D) (x : T)
      (old new : List (D × T)) : Type 0 where
    pub copy : T
    pub cloned : is_clone x copy
    pub entries : new ≡ insert_entry cmp old d copy
    pub finds : (e : D) → lookup (digest e) new
        ≡ (if digest d e then Some copy else lookup (digest e) old)

  -- the digest has this place of the key, and a copy of this message if it had none
  pub record Joins (cmp : D → D → Ordering) (is_clone : T → T → Type 0) (d : D) (x : T) (p : K)
      (place : ℕ) (old new : List (D × Placed K T)) : Type 0 where
    pub places : SetsPlace d p (Some place) old new
    pub stays : is_some (lookup (digest d) old) ≡ true → messages_of new ≡ messages_of old
    pub cached : lookup (digest d) old ≡ None
        → Caches cmp is_clone d x (messages_of old) (messages_of new)

  -- the place of the key leaves the digest, and its message with its last place
  pub record Leaves (d : D) (p : K) (old new : List (D × Placed K T)) : Type 0 where
    pub places : SetsPlace d p None old new
    pub messages : (messages_of new ≡ messages_of old)
        ⊎ ((messages_of new ≡ remove_entry (digest d) (messages_of old)) × (lookup (digest d) new ≡ None))
    pub fewer : (e : D) (x : T) → lookup (digest e) (messages_of new) ≡ Some x
        → lookup (digest e) (messages_of old) ≡ Some x

-- the number of the item of each name, and the items
pub record Tabled (D T : Type 0) : Type 0 where
  pub index : List (D × ℕ)
  pub slots : List (Option (Placed ℕ T))

module _ {D T : Type 0} where
  -- the item of a number
  abbrev pub item_at : Tabled D T → ℕ → Option (Placed ℕ T)
  item_at t n = slice_index_or t.slots n None

  -- the name that the item of a number goes by
  abbrev pub name_at : (T → D) → Tabled D T → ℕ → Option D
  name_at name t n = option_map (λ item. name item.message) (item_at t n)

  -- no name of an item leaves or changes
  abbrev pub KeepsNames : (T → D) → Tabled D T → Tabled D T → Type 0
  KeepsNames name old new =
      (n : ℕ) (d : D) → name_at name old n ≡ Some d → name_at name new n ≡ Some d

  -- the item under its name in front, if there is one
  abbrev pub with_item : D → Option (Placed ℕ T) → List (D × Placed ℕ T) → List (D × Placed ℕ T)
  with_item d None items = items
  with_item d (Some item) items = (d, item) ∷ items

  -- the names of the index, each with the item of its number
  abbrev pub items_by : (ℕ → Option (Placed ℕ T)) → List (D × ℕ) → List (D × Placed ℕ T)
  items_by item [] = []
  items_by item (e ∷ es) = with_item e.0 (item e.1) (items_by item es)

  -- the message of an item that was there and is not any more
  abbrev pub left_from : ℕ → Tabled D T → Tabled D T → Option T
  left_from n old new =
      if is_some (item_at new n) then None else option_map (λ item. item.message) (item_at old n)

  -- the items by name
  abbrev pub items_of : Tabled D T → List (D × Placed ℕ T)
  items_of t = items_by (item_at t) t.index

module _ {D T : Type 0} (cmp : D → D → Ordering) (name : T → D) where
  -- the item goes by this name
  pub record GoesBy (d : D) (t : Tabled D T) (n : ℕ) : Type 0 where
    pub its : D
    pub named : name_at name t n ≡ Some its
    pub equal : eq_by_cmp cmp d its ≡ true

  -- each name leads to an item that goes by it, each item is found by its name, and each has a place
  pub record IsTabled (t : Tabled D T) : Type 0 where
    pub leads : (d : D) (n : ℕ) → lookup (eq_by_cmp cmp d) t.index ≡ Some n → GoesBy d t n
    pub found : (n : ℕ) (d : D) → name_at name t n ≡ Some d
        → lookup (eq_by_cmp cmp d) t.index ≡ Some n
    pub placed : IsPlaced (eq_by_cmp cmp) same_number (items_of t)

  -- the place of the list leaves an item, and the message with its last place
  pub record Takes (n list : ℕ) (old new : Tabled D T) : Type 0 where
    pub left : (d : D) → name_at name old n ≡ Some d
        → Leaves (eq_by_cmp cmp) same_number d list (items_of old) (items_of new)
    pub fewer : KeepsNames name new old
    pub others : (i : ℕ) → (i ≡ n → ⊥) → name_at name new i ≡ name_at name old i
    pub stays : (d : D) (q : ℕ) → name_at name old n ≡ Some d
        → is_some (place_at (eq_by_cmp cmp) same_number (items_of new) d q) ≡ true
        → name_at name new n ≡ Some d
    pub none : name_at name old n ≡ None → new ≡ old
    pub tabled : IsTabled new
