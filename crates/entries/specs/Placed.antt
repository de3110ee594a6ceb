-- Internal.
-- A message with the places of its entries.
use Rattle.std.specs.Map.{lookup}
use Rattle.std.specs.Prelude.{◌≡◌, ◌==◌, ◌^◌, ◌-◌, ℕ, Bool, if◌then◌else◌, List, ◌∷◌, Option, Some, None}

-- a message, and the place of its entry by key
pub record Placed (K T : Type 0) : Type 0 where
  pub message : T
  pub places : List (K × ℕ)

module _ {K : Type 0} where
  -- the places with one more in front, if there is one
  abbrev pub with_first : Option (K × ℕ) → List (K × ℕ) → List (K × ℕ)
  with_first None places = places
  with_first (Some e) places = e ∷ places

  -- the place that stands in front, if its key passes the test
  abbrev pub first_place : (K → Bool) → Option (K × ℕ) → Option ℕ
  first_place test None = None
  first_place test (Some e) = if test e.0 then Some e.1 else None

  -- the places in front, and the others
  abbrev pub all_places : Option (K × ℕ) → Option (K × ℕ) → Option (K × ℕ) → Option (K × ℕ) → List (K × ℕ) → List (K × ℕ)
  all_places a b c d others = with_first a (with_first b (with_first c (with_first d others)))

-- the first of two options that is there
abbrev pub first_of_two : {X : Type 0} → Option X → Option X → Option X
first_of_two None b = b
first_of_two (Some x) b = Some x

-- the place that stands in front, if a key passes the test
abbrev pub near_place : {K : Type 0} → (K → Bool) → Option (K × ℕ) → Option (K × ℕ) → Option (K × ℕ) → Option (K × ℕ) → Option ℕ
near_place test a b c d = first_of_two (first_place test a) (first_of_two (first_place test b) (first_of_two (first_place test c) (first_place test d)))

-- the list has one place more, that of a key that had none
abbrev pub Adds : {K : Type 0} → (K → K → Bool) → K → ℕ → List (K × ℕ) → List (K × ℕ) → Type 0
Adds same p i old new = (q : _) → lookup (same q) new ≡ (if same p q then Some i else lookup (same q) old)

-- the place of the key leaves
abbrev pub Leaves : {K : Type 0} → (K → K → Bool) → K → List (K × ℕ) → List (K × ℕ) → Type 0
Leaves same p old new = (q : _) → lookup (same q) new ≡ (if same p q then None else lookup (same q) old)

-- the number of a list and a place, or none, by their words
abbrev pub near_of : ℕ → ℕ → Option (ℕ × ℕ)
near_of list place = if place == 2 ^ 32 - 1 then None else Some (list, place)
