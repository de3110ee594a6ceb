-- Internal.
-- The lists of all keys, each with a heap of places of its own.
use Rattle.std.specs.Prelude.{◌≡◌, ◌==◌, ◌≤◌, ◌<◌, ◌-◌, ℕ, Bool, true, false, not, ◌||◌, if◌then◌else◌, List, [], ◌∷◌, ◌++◌, length, map, Option, Some, None, is_some, unwrap_or, MatchOption}
use Rattle.std.specs.List.{filter, list_any, sum_by, IsDistinct}
use Rattle.std.specs.Map.{lookup, keys_of}
use Rattle.entries.specs.declared.entry.Charged.{Charged}
use Rattle.entries.specs.declared.entry.Entry.{Entry}
use Rattle.entries.specs.declared.entry.Chain.{Chain}
use Rattle.entries.specs.Linked.{Node, walk, IsChain, Pops}
use Rattle.entries.specs.Places.{Heap, get}

-- the list that a map has at the key, or none
abbrev pub items_at : {K X : Type 0} → (K → K → Bool) → K → List (K × List X) → List X
items_at same k es = unwrap_or (lookup (same k) es) []

-- the charged nodes of a list, the newest first, and the place of its next insert
pub record Row (D : Type 0) : Type 0 where
  pub nodes : List (Node (Charged D))
  pub vacant : ℕ

-- the charged nodes of each key, the newest first, and the place of its next insert
pub record Listed (K D : Type 0) : Type 0 where
  pub lists : List (K × List (Node (Charged D)))
  pub vacant : List (K × ℕ)

module _ {K D : Type 0} where
  -- the place of the next insert into the key's list
  abbrev pub vacant_at : (K → K → Bool) → K → Listed K D → ℕ
  vacant_at same p l = unwrap_or (lookup (same p) l.vacant) 0

  -- the nodes of all keys
  abbrev pub lists_of : List (K × Row D) → List (K × List (Node (Charged D)))
  lists_of es = map (λ e. (e.0, e.1.nodes)) es

  -- the place of the next insert of all keys
  abbrev pub vacants_of : List (K × Row D) → List (K × ℕ)
  vacants_of es = map (λ e. (e.0, e.1.vacant)) es

module _ {D : Type 0} where
  -- what stands at nodes
  abbrev pub values_of : List (Node D) → List D
  values_of ns = map (λ n. n.1) ns

  -- whether the place is one of theirs
  abbrev pub has_place : ℕ → List (Node D) → Bool
  has_place place ns = list_any (λ n. n.0 == place) ns

  -- the nodes at other places
  abbrev pub elsewhere : ℕ → List (Node D) → List (Node D)
  elsewhere place ns = filter (λ n. not (n.0 == place)) ns

  -- the node of the place goes in front, with another digest
  abbrev pub moved : ℕ → D → List (Node D) → List (Node D)
  moved place digest ns = if has_place place ns then (place, digest) ∷ elsewhere place ns else ns

module _ {D : Type 0} where
  -- the digests of charged nodes
  abbrev pub digests_of : List (Node (Charged D)) → List D
  digests_of ns = map (λ c. c.digest) (values_of ns)

  -- the sum of the charges of nodes
  abbrev pub bytes_of : List (Node (Charged D)) → ℕ
  bytes_of ns = sum_by (λ c. c.charge) (values_of ns)

module _ {D : Type 0} where
  -- the nodes of a chain
  abbrev pub nodes : (ℕ → Option (Entry D)) → Chain → List (Node D)
  nodes h c = walk h c.len c.newest

  -- the oldest digest leaves a list
  pub record Shortens (stale : D) (old new : List (Node D)) : Type 0 where
    pub place : ℕ
    pub last : old ≡ new ++ (place, stale) ∷ []

  -- the oldest digest leaves a list that has more than that
  abbrev pub Cuts : ℕ → Option D → List (Node D) → List (Node D) → Type 0
  Cuts size stale old new = MatchOption stale ((length old ≤ size) × (new ≡ old))
      (λ d. (size < length old) × Shortens d old new)

module _ {K D : Type 0} where
  -- the key's list is another, and the others stay; no list comes but the key's, none leaves, and
  -- none is there twice
  pub record Puts (same : K → K → Bool) (p : K) (ns : List (Node D)) (old new : List (K × List (Node D))) : Type 0 where
    pub lists : (q : K) → items_at same q new ≡ (if same p q then ns else items_at same q old)
    pub keys : (q : K) → is_some (lookup (same q) new) ≡ true → (same p q || is_some (lookup (same q) old)) ≡ true
    pub stays : (q : K) → is_some (lookup (same q) old) ≡ true → is_some (lookup (same q) new) ≡ true
    pub distinct : IsDistinct same (keys_of new)

  -- the oldest digest leaves the key's list
  pub record Evicts (same : K → K → Bool) (p : K) (stale : D) (old new : List (K × List (Node D))) : Type 0 where
    pub place : ℕ
    pub rest : List (Node D)
    pub last : items_at same p old ≡ rest ++ (place, stale) ∷ []
    pub put : Puts same p rest old new

  -- the node goes in front of the key's list, and the oldest leaves if there are then more than that
  pub record Extends (same : K → K → Bool) (p : K) (n : Node D) (size : ℕ) (stale : Option D) (old new : List (K × List (Node D))) : Type 0 where
    pub between : List (K × List (Node D))
    pub put : Puts same p (n ∷ items_at same p old) old between
    pub cut : MatchOption stale ((length (items_at same p between) ≤ size) × (new ≡ between))
        (λ d. (size < length (items_at same p between)) × Evicts same p d between new)

  -- the key has no list any more, and the others stay
  pub record Removes (same : K → K → Bool) (p : K) (old new : List (K × List (Node D))) : Type 0 where
    pub lists : (q : K) → items_at same q new ≡ (if same p q then [] else items_at same q old)
    pub keys : (q : K) → is_some (lookup (same q) new) ≡ true → (same p q ≡ false) × (is_some (lookup (same q) old) ≡ true)
    pub stays : (q : K) → same p q ≡ false → is_some (lookup (same q) old) ≡ true → is_some (lookup (same q) new) ≡ true
    pub distinct : IsDistinct same (keys_of new)

module _ {D : Type 0} where
  -- the heap has the chain's nodes and no other, and the chain has the sum of their charges
  pub record IsWhole (h : ℕ → Option (Entry (Charged D))) (c : Chain) : Type 0 where
    pub chain : IsChain h c (nodes h c)
    pub sum : c.bytes ≡ bytes_of (nodes h c)

  -- the oldest digest leaves a chain that has more than that, with its charge
  abbrev pub Trims : ℕ → (ℕ → Option (Entry (Charged D))) → (ℕ → Option (Entry (Charged D))) → Chain → Chain → Option (Charged D) → Type 0
  Trims size old new chain next None = (chain.len ≤ size) × (new ≡ old) × (next ≡ chain)
  Trims size old new chain next (Some stale) = (size < chain.len) × Pops old new chain next (Some stale) × (next.bytes ≡ chain.bytes - stale.charge)

-- the digests that are left from a link on, if there are places
abbrev pub left_on : {D : Type 0} → ℕ → Option ℕ → Option (Heap (Charged D)) → List D
left_on left at None = []
left_on left at (Some places) = digests_of (walk (get places) left at)
