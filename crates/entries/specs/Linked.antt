-- Internal.
-- A chain of entries in a heap, which says what stands at each place.
use Rattle.std.specs.Prelude.{◌≡◌, ◌≢◌, ◌+◌, ◌^◌, ◌<◌, ℕ, zero, suc, List, [], ◌∷◌, ◌++◌, length, Option, Some, None, ◌⊎◌}
use Rattle.entries.specs.declared.entry.Entry.{Entry}
use Rattle.entries.specs.declared.entry.Chain.{Chain}

-- how a chain's entry is seen: its place and its digest
abbrev pub Node : Type 0 → Type 0
Node D = ℕ × D

module _ {D : Type 0} where
  -- the place of the first node, or what comes after them all
  abbrev pub first : List (Node D) → Option ℕ → Option ℕ
  first [] after = after
  first (n ∷ ns) after = Some n.0

  -- the place of the last node, or what comes before them all
  abbrev pub final : Option ℕ → List (Node D) → Option ℕ
  final before [] = before
  final before (n ∷ ns) = final (Some n.0) ns

  -- the link leads to none of the nodes
  abbrev pub Misses : Option ℕ → List (Node D) → Type 0
  Misses at [] = Unit {0}
  Misses at (n ∷ ns) = (at ≢ Some n.0) × Misses at ns

  -- no place comes twice
  abbrev pub IsApart : List (Node D) → Type 0
  IsApart [] = Unit {0}
  IsApart (n ∷ ns) = Misses (Some n.0) ns × IsApart ns

  -- the place is one of theirs
  abbrev pub IsIn : ℕ → List (Node D) → Type 0
  IsIn at [] = ⊥
  IsIn at (n ∷ ns) = (at ≡ n.0) ⊎ IsIn at ns

-- one link where there is a neighbour, and another where there is none
abbrev pub pick : Option ℕ → Option ℕ → Option ℕ → Option ℕ
pick None there otherwise = otherwise
pick (Some i) there otherwise = there

module _ {D : Type 0} where
  -- the entry at the node's place has its digest and these links, and a list can have the place
  pub record IsAt (h : ℕ → Option (Entry D)) (n : Node D) (before after : Option ℕ) : Type 0 where
    pub entry : Entry D
    pub there : h n.0 ≡ Some entry
    pub fits : n.0 + 2 < 2 ^ 32
    pub digest : entry.digest ≡ n.1
    pub newer : entry.newer ≡ before
    pub older : entry.older ≡ after

  -- the nodes follow one another, the newest first
  abbrev pub IsRun : (ℕ → Option (Entry D)) → Option ℕ → List (Node D) → Option ℕ → Type 0
  IsRun h before [] after = Unit {0}
  IsRun h before (n ∷ ns) after = IsAt h n before (first ns after) × IsRun h (Some n.0) ns after

  -- the chain has these nodes
  pub record IsLinked (h : ℕ → Option (Entry D)) (chain : Chain) (ns : List (Node D)) : Type 0 where
    pub run : IsRun h None ns None
    pub apart : IsApart ns
    pub newest : chain.newest ≡ first ns None
    pub oldest : chain.oldest ≡ final None ns
    pub len : chain.len ≡ length ns

  -- the chain has these nodes, and no other place has an entry
  pub record IsChain (h : ℕ → Option (Entry D)) (chain : Chain) (ns : List (Node D)) : Type 0 where
    pub linked : IsLinked h chain ns
    pub all : (j : ℕ) (e : Entry D) → h j ≡ Some e → IsIn j ns

  -- the entry that the link leads to
  abbrev pub entry_at : (ℕ → Option (Entry D)) → Option ℕ → Option (Entry D)
  entry_at h None = None
  entry_at h (Some i) = h i

  -- the first nodes from this link on
  abbrev pub walk : (ℕ → Option (Entry D)) → ℕ → Option ℕ → List (Node D)
  walk h zero at = []
  walk h (suc n) None = []
  walk h (suc n) (Some i) = step (h i) (walk h n)
    where
      step : Option (Entry D) → (Option ℕ → List (Node D)) → List (Node D)
      step None rest = []
      step (Some e) rest = (i, e.digest) ∷ rest e.older

  -- the entry that the link leads to is changed so, and no other
  pub record Relinks (old new : ℕ → Option (Entry D)) (at : Option ℕ) (change : Entry D → Entry D) : Type 0 where
    pub changed : (j : ℕ) (e : Entry D) → at ≡ Some j → old j ≡ Some e → new j ≡ Some (change e)
    pub others : (j : ℕ) → at ≢ Some j → new j ≡ old j

  -- with another link
  abbrev pub with_newer : Option ℕ → Entry D → Entry D
  with_newer at e = record e { newer = at }

  abbrev pub with_older : Option ℕ → Entry D → Entry D
  with_older at e = record e { older = at }

  -- with another digest, as the newest
  abbrev pub as_newest : D → Option ℕ → Entry D → Entry D
  as_newest digest older e = record e { digest = digest; newer = None; older = older }

  -- where an entry is, there was one
  abbrev pub SamePlaces : (ℕ → Option (Entry D)) → (ℕ → Option (Entry D)) → Type 0
  SamePlaces old new = (j : ℕ) (e : Entry D) → new j ≡ Some e → (was : Entry D) × (old j ≡ Some was)

  -- the place is one of the chain
  pub record IsOn (h : ℕ → Option (Entry D)) (chain : Chain) (place : ℕ) : Type 0 where
    pub front : List (Node D)
    pub digest : D
    pub back : List (Node D)
    pub linked : IsLinked h chain (front ++ (place, digest) ∷ back)

  -- the place leaves its chain, and is as it was
  pub record Unlinks (old new : ℕ → Option (Entry D)) (chain rest : Chain) (place : ℕ) : Type 0 where
    pub linked : (xs : List (Node D)) (d : D) (ys : List (Node D)) → IsLinked old chain (xs ++ (place, d) ∷ ys) → IsLinked new rest (xs ++ ys)
    pub kept : new place ≡ old place
    pub places : SamePlaces old new

  -- the chain can take the place
  pub record Admits (h : ℕ → Option (Entry D)) (chain : Chain) (place : ℕ) : Type 0 where
    pub nodes : List (Node D)
    pub linked : IsLinked h chain nodes
    pub misses : Misses (Some place) nodes
    pub entry : Entry D
    pub there : h place ≡ Some entry

  -- the place becomes the newest of the chain
  pub record Links (old new : ℕ → Option (Entry D)) (chain more : Chain) (place : ℕ) (digest : D) : Type 0 where
    pub linked : (ns : List (Node D)) (e : Entry D) → IsLinked old chain ns → Misses (Some place) ns → old place ≡ Some e → IsLinked new more ((place, digest) ∷ ns)
    pub places : SamePlaces old new

  -- every place is as it was
  abbrev pub SameValues : (ℕ → Option (Entry D)) → (ℕ → Option (Entry D)) → Type 0
  SameValues old new = (j : ℕ) → new j ≡ old j

  -- the chain has some nodes
  pub record HasNodes (h : ℕ → Option (Entry D)) (chain : Chain) : Type 0 where
    pub nodes : List (Node D)
    pub whole : IsChain h chain nodes

  -- the place moves to the front of its chain
  pub record Promotes (old new : ℕ → Option (Entry D)) (chain next : Chain) (place : ℕ) (digest : D) : Type 0 where
    pub chains : (xs : List (Node D)) (d : D) (ys : List (Node D)) → IsChain old chain (xs ++ (place, d) ∷ ys) → IsChain new next ((place, digest) ∷ (xs ++ ys))

  -- a free place goes in front of the chain
  pub record Pushes (old new : ℕ → Option (Entry D)) (chain next : Chain) (place : ℕ) (digest : D) : Type 0 where
    pub chains : (ns : List (Node D)) → IsChain old chain ns → IsChain new next ((place, digest) ∷ ns)

  -- the oldest place leaves the chain and is free, where there is one
  abbrev pub Pops : (ℕ → Option (Entry D)) → (ℕ → Option (Entry D)) → Chain → Chain → Option D → Type 0
  Pops old new chain next None = (ns : List (Node D)) → IsChain old chain ns → (ns ≡ []) × (next ≡ chain) × SameValues old new
  Pops old new chain next (Some digest) = (ns : List (Node D)) → IsChain old chain ns
      → (place : ℕ) × (xs : List (Node D)) × (ns ≡ xs ++ (place, digest) ∷ []) × IsChain new next xs
