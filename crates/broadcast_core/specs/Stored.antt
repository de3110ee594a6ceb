-- Internal.
-- The content of a cache, and how takings and peer sets change it.
use Rattle.std.specs.Prelude.{◌^◌, ◌≡◌, ℕ, Bool, false, true, not, ◌&&◌, ◌||◌, if◌then◌else◌, List, [], ◌++◌, length, ◌≤◌, ◌<◌, slice_index_or, Option, Some, None, is_some, IfSome}
use Rattle.std.specs.List.{list_any, IsDistinct}
use Rattle.std.specs.Option.{option_map, option_to_list}
use Rattle.entries.specs.declared.entry.Charged.{Charged}
use Rattle.std.specs.Map.{lookup, keys_of}
use Rattle.std.specs.declared.cmp.Ordering.{Ordering}
use Rattle.std.specs.declared.cmp.Ordering.TheVariants.{Less}
use Rattle.broadcast_core.specs.Carried.{Carried}
use Rattle.broadcast_core.specs.Content.{Content, Same, bytes_of, items_at}
use Rattle.broadcast_core.specs.Fronted.{fronted}
use Rattle.broadcast_core.specs.Left.{Adds}

-- the lists by peer, and the messages by digest
pub record Stored (P M D : Type 0) : Type 0 where
  pub lists : List (P × List (Charged D))
  pub messages : List (D × Carried M D)

-- what a shelf keeps: its limits, what it stores, and the messages that left it, if it reports them
pub record Shelf (P M D : Type 0) : Type 0 where
  pub deque_size : ℕ
  pub byte_budget : ℕ
  pub stored : Stored P M D
  pub left : Option (List (Carried M D))

-- what a cache keeps: the primary keys, and a list for each peer
pub record Cached (P M D : Type 0) : Type 0 where
  pub primary : List P
  pub shelf : Shelf P M D

-- what a core keeps beside its own key
pub record Kept (P M D W : Type 0) : Type 0 where
  pub cache : Cached P M D
  pub waiters : List (D × List W)

-- a shelf with no list and no message
abbrev pub empty_shelf : {P M D : Type 0} → ℕ → ℕ → Bool → Shelf P M D
empty_shelf deque_size byte_budget reports = record {
  deque_size = deque_size;
  byte_budget = byte_budget;
  stored = record { lists = []; messages = [] };
  left = if reports then Some [] else None;
}

module _ {P M D : Type 0} where
  -- only what is stored changes
  pub record KeepsRest (old new : Shelf P M D) : Type 0 where
    pub deque_size : new.deque_size ≡ old.deque_size
    pub byte_budget : new.byte_budget ≡ old.byte_budget
    pub left : new.left ≡ old.left

  -- the limits stay, and what was stored and is not any more is added to what left
  pub record Sheds (same : D → D → Bool) (old new : Shelf P M D) : Type 0 where
    pub deque_size : new.deque_size ≡ old.deque_size
    pub byte_budget : new.byte_budget ≡ old.byte_budget
    pub left : Adds same old.stored.messages new.stored.messages old.left new.left

  -- the message that left last is removed, if one is there, and all else stays
  pub record Pops (out : Option (Carried M D)) (old new : Shelf P M D) : Type 0 where
    pub deque_size : new.deque_size ≡ old.deque_size
    pub byte_budget : new.byte_budget ≡ old.byte_budget
    pub stored : new.stored ≡ old.stored
    pub popped : old.left ≡ option_map (λ xs. xs ++ option_to_list out) new.left
    pub empty : out ≡ None → IfSome old.left (λ xs. xs ≡ [])

-- the content of a core with this own key
abbrev pub with_own : {P M D W : Type 0} → P → Kept P M D W → Content P M D W
with_own own kept = record {
  own = own;
  deque_size = kept.cache.shelf.deque_size;
  byte_budget = kept.cache.shelf.byte_budget;
  primary = kept.cache.primary;
  lists = kept.cache.shelf.stored.lists;
  cached = kept.cache.shelf.stored.messages;
  waiters = kept.waiters;
}

-- the first n keys are below the key
abbrev pub AreBelow : {K : Type 0} → (K → K → Ordering) → List K → K → ℕ → Type 0
AreBelow {K} cmp keys key n = (n ≤ length keys)
    × ((k : ℕ) (d : K) → k < n → cmp (slice_index_or keys k d) key ≡ Less)

-- the list of the key is replaced, and the others stay; no list comes but the key's, and none leaves
pub record PutsList {P D : Type 0} (same : P → P → Bool) (p : P) (ds : List D)
    (old new : List (P × List D)) : Type 0 where
  pub lists : (q : P) → items_at same q new ≡ (if same p q then ds else items_at same q old)
  pub keys : (q : P) → is_some (lookup (same q) new) ≡ true
      → (same p q || is_some (lookup (same q) old)) ≡ true
  pub stays : (q : P) → is_some (lookup (same q) old) ≡ true → is_some (lookup (same q) new) ≡ true
  pub distinct : IsDistinct same (keys_of new)

-- whether a list has the digest
abbrev pub has_digest : {D : Type 0} → (D → D → Bool) → D → List (Charged D) → Bool
has_digest same d cs = list_any (λ c. same d c.digest) cs

module _ {P D : Type 0} (same : Same P D) where
  -- whether some list has the digest
  abbrev pub is_stored : D → List (P × List (Charged D)) → Bool
  is_stored d lists = list_any (λ e. has_digest same.digest d e.1) lists

  -- whether the list of the key leaves with a peer set: it was among the keys, and is not any more
  abbrev pub is_dropped : List P → List P → P → Bool
  is_dropped was peers p = list_any (same.key p) was && not (list_any (same.key p) peers)

  module _ {M : Type 0} where
    -- the list of the key is replaced, and the message is cached if its digest is on a list then and
    -- was on none
    pub record Stores (p : P) (x : Carried M D) (cs : List (Charged D)) (old new : Stored P M D) : Type 0 where
      pub put : PutsList same.key p cs old.lists new.lists
      pub messages : (d : D) → lookup (same.digest d) new.messages
          ≡ (if is_stored d new.lists
          then (if is_stored d old.lists then lookup (same.digest d) old.messages else Some x)
          else None)

    -- the list of the key is replaced, and messages whose digest is on no list are dropped
    pub record Cuts (p : P) (cs : List (Charged D)) (old new : Stored P M D) : Type 0 where
      pub put : PutsList same.key p cs old.lists new.lists
      pub messages : (d : D) → lookup (same.digest d) new.messages
          ≡ (if is_stored d new.lists then lookup (same.digest d) old.messages else None)

    -- the digest is put in front of the key's list, if its charge is within the budget
    abbrev pub StoresIf : P → Carried M D → ℕ → ℕ → Option (Charged D) → Stored P M D → Stored P M D → Type 0
    StoresIf p x size budget None old new = new ≡ old
    StoresIf p x size budget (Some c) old new =
        Stores p x (fronted same.digest size budget c (items_at same.key p old.lists)) old new

    -- the lists that leave are dropped, and messages whose digest is on no list
    pub record Drops (was peers : List P) (old new : Stored P M D) : Type 0 where
      pub lists : (q : P) → items_at same.key q new.lists
          ≡ (if is_dropped was peers q then [] else items_at same.key q old.lists)
      pub keys : (q : P) → is_some (lookup (same.key q) new.lists) ≡ true
          → (is_dropped was peers q ≡ false) × (is_some (lookup (same.key q) old.lists) ≡ true)
      pub stays : (q : P) → is_dropped was peers q ≡ false → is_some (lookup (same.key q) old.lists) ≡ true
          → is_some (lookup (same.key q) new.lists) ≡ true
      pub distinct : IsDistinct same.key (keys_of new.lists)
      pub messages : (d : D) → lookup (same.digest d) new.messages
          ≡ (if is_stored d new.lists then lookup (same.digest d) old.messages else None)

    -- the law of a cache: lists have at most their size and bytes, only primary keys have one, and a
    -- message is cached exactly if its digest is on a list
    pub record IsCached (size budget : ℕ) (primary : List P) (stored : Stored P M D) : Type 0 where
      pub bounded : (p : P) → length (items_at same.key p stored.lists) ≤ size
      pub affordable : (p : P) → bytes_of (items_at same.key p stored.lists) ≤ budget
      pub budget_fits : budget < 2 ^ 64
      pub primary_only : (p : P) → is_some (lookup (same.key p) stored.lists) ≡ true
          → list_any (same.key p) primary ≡ true
      pub distinct : IsDistinct same.key (keys_of stored.lists)
      pub messages : (d : D)
          → is_some (lookup (same.digest d) stored.messages) ≡ is_stored d stored.lists

    abbrev pub Lawful : Cached P M D → Type 0
    Lawful c = IsCached c.shelf.deque_size c.shelf.byte_budget c.primary c.shelf.stored

    -- a digest of a cached message has no waiters
    abbrev pub Unawaited : {W : Type 0} → Stored P M D → List (D × List W) → Type 0
    Unawaited stored waiters = (d : D) → is_some (lookup (same.digest d) stored.messages) ≡ true
        → items_at same.digest d waiters ≡ []
