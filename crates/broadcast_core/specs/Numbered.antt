-- Internal.
-- Lists by number, and the numbers of the peers.
use Rattle.std.specs.Prelude.{◌≡◌, ℕ, true, false, List, [], map, None, Some, is_some}
use Rattle.std.specs.List.{IsDistinct}
use Rattle.std.specs.Map.{lookup, keys_of}
use Rattle.std.specs.Ordering.{eq_by_cmp}
use Rattle.std.specs.declared.cmp.Ordering.{Ordering}
use Rattle.entries.specs.Overlaid.{same_number}
use Rattle.broadcast_core.specs.Content.{items_at, Same}
use Rattle.broadcast_core.specs.Stored.{Stored, PutsList, is_stored}

-- the equalities of numbers of lists and an order of digests
abbrev pub same_listed : {D : Type 0} → (D → D → Ordering) → Same ℕ D
same_listed digest = record { key = same_number; digest = eq_by_cmp digest }

-- the content, each list under its peer
abbrev pub named_of : {P M D : Type 0} → List (P × ℕ) → Stored ℕ M D → Stored P M D
named_of numbers shelf = record {
  lists = map (λ e. (e.0, items_at same_number e.1 shelf.lists)) numbers;
  messages = shelf.messages;
}

-- no peer and no list comes twice; each number has a list, and each list one peer; a message is
-- there exactly if its digest is on a list
pub record IsNumbered {P M D : Type 0} (cmp : P → P → Ordering) (digest : D → D → Ordering) (numbers : List (P × ℕ)) (shelf : Stored ℕ M D) : Type 0 where
  pub peers : IsDistinct (eq_by_cmp cmp) (keys_of numbers)
  pub lists : IsDistinct same_number (keys_of shelf.lists)
  pub there : (p : P) (n : ℕ) → lookup (eq_by_cmp cmp p) numbers ≡ Some n → is_some (lookup (same_number n) shelf.lists) ≡ true
  pub named : (n : ℕ) → is_some (lookup (same_number n) shelf.lists) ≡ true → (p : P) × (lookup (eq_by_cmp cmp p) numbers ≡ Some n)
  pub apart : (p q : P) (n : ℕ) → lookup (eq_by_cmp cmp p) numbers ≡ Some n → lookup (eq_by_cmp cmp q) numbers ≡ Some n → eq_by_cmp cmp p q ≡ true
  pub cached : (d : D) → is_some (lookup (eq_by_cmp digest d) shelf.messages) ≡ is_stored (same_listed digest) d shelf.lists

-- an empty list is there that was not, and all else stays
pub record Opens {M D : Type 0} (n : ℕ) (old new : Stored ℕ M D) : Type 0 where
  pub fresh : lookup (same_number n) old.lists ≡ None
  pub there : is_some (lookup (same_number n) new.lists) ≡ true
  pub put : PutsList same_number n [] old.lists new.lists
  pub messages : new.messages ≡ old.messages

-- a list that is empty is not there any more, and all else stays
pub record Closes {M D : Type 0} (n : ℕ) (old new : Stored ℕ M D) : Type 0 where
  pub lists : (q : ℕ) → items_at same_number q new.lists ≡ items_at same_number q old.lists
  pub keys : (q : ℕ) → is_some (lookup (same_number q) new.lists) ≡ true
      → (same_number n q ≡ false) × (is_some (lookup (same_number q) old.lists) ≡ true)
  pub stays : (q : ℕ) → same_number n q ≡ false → is_some (lookup (same_number q) old.lists) ≡ true
      → is_some (lookup (same_number q) new.lists) ≡ true
  pub distinct : IsDistinct same_number (keys_of new.lists)
  pub messages : new.messages ≡ old.messages
