-- Internal.
-- The places of a list, in a vector where a free one is marked, and leads to the next free one.
use Rattle.std.specs.Prelude.{◌≡◌, ◌≢◌, ◌==◌, ◌-◌, ◌^◌, ℕ, zero, suc, Bool, true, false, if◌then◌else◌, List, length, Option, Some, None, slice_get, slice_index_or, unwrap_or}
use Rattle.entries.specs.declared.entry.Entry.{Entry}

-- the link that marks a free place, in place of its newer one
abbrev pub mark : ℕ
mark = 2 ^ 32 - 2

abbrev pub is_mark : Option ℕ → Bool
is_mark None = false
is_mark (Some at) = at == mark

-- the entry or nothing at each place, and the place of the next insert
pub record Heap (D : Type 0) : Type 0 where
  pub slots : List (Option (Entry D))
  pub vacant : ℕ

module _ {D : Type 0} where
  -- the entry at a place
  abbrev pub get : Heap D → ℕ → Option (Entry D)
  get heap place = slice_index_or heap.slots place None

  -- the new heap has this at the place, and every other place has what it had
  pub record Updates (old new : Heap D) (place : ℕ) (slot : Option (Entry D)) : Type 0 where
    pub changed : get new place ≡ slot
    pub others : (other : ℕ) → other ≢ place → get new other ≡ get old other

  -- what stands at a place of the vector
  abbrev pub shown : Entry D → Option (Entry D)
  shown e = if is_mark e.newer then None else Some e

  -- the place of the next insert: the first free one, or the end of the vector
  abbrev pub vacant_of : List (Entry D) → Option ℕ → ℕ
  vacant_of es free = unwrap_or free (length es)

  -- from a link on, so many free places lead each to the next
  abbrev pub IsFree : List (Entry D) → ℕ → Option ℕ → Type 0
  IsFree es zero at = at ≡ None
  IsFree es (suc n) at = (place : ℕ) × (at ≡ Some place) × (e : Entry D) × (slice_get es place ≡ Some e) × (is_mark e.newer ≡ true) × IsFree es n e.older

  -- free places stand from the link on
  pub record IsPlaced (es : List (Entry D)) (free : Option ℕ) : Type 0 where
    pub count : ℕ
    pub linked : IsFree es count free
