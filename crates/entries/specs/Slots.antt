-- Internal.
-- What happens to one item among its slots, and to a table.
use Rattle.std.specs.Prelude.{◌≡◌, ℕ, Bool, true, if◌then◌else◌, List, [], ◌∷◌, Option, Some, None, is_some, IsSome, Result, IfOk, OnErr, MatchBool, slice_index_or, slice_set}
use Rattle.std.specs.Map.{lookup}
use Rattle.entries.specs.Placed.{Placed}
use Rattle.entries.specs.Overlaid.{same_number}
use Rattle.entries.specs.Table.{Tabled, GoesBy, IsTabled, KeepsNames, Joins, items_of, place_at}
use Rattle.entries.specs.declared.table.Found.{Found}
use Rattle.std.specs.Ordering.{eq_by_cmp}
use Rattle.std.specs.declared.cmp.Ordering.{Ordering}

module _ {T : Type 0} where
  -- the item has this place of the list, if it had none
  pub record JoinsItem {E : Type 0} (n list place : ℕ) (result : Result Found E) (old new : List (Option (Placed ℕ T))) : Type 0 where
    pub was : Placed ℕ T
    pub now : Placed ℕ T
    pub there : slice_index_or old n None ≡ Some was
    pub written : new ≡ slice_set old n (Some now)
    pub message : now.message ≡ was.message
    pub item : IfOk result (λ f. (f.item ≡ n) × (f.was_there ≡ true))
    pub found : IfOk result (λ f. f.place ≡ lookup (same_number list) was.places)
    pub stays : IfOk result (λ f. IsSome f.place → now ≡ was)
    pub places : IfOk result (λ f. f.place ≡ None → (q : ℕ) → lookup (same_number q) now.places
        ≡ (if same_number list q then Some place else lookup (same_number q) was.places))
    pub fails_for_new_places : OnErr result (lookup (same_number list) was.places ≡ None)
    pub err : OnErr result (now ≡ was)

  -- a slot that was free has an item with a copy of the message and one place
  pub record AddsItem (is_clone : T → T → Type 0) (x : T) (n list place : ℕ) (old new : List (Option (Placed ℕ T))) : Type 0 where
    pub now : Placed ℕ T
    pub vacant : slice_index_or old n None ≡ None
    pub changed : slice_index_or new n None ≡ Some now
    pub others : (i : ℕ) → (i ≡ n → ⊥) → slice_index_or new i None ≡ slice_index_or old i None
    pub cloned : is_clone x now.message
    pub places : now.places ≡ (list, place) ∷ []

  -- the item has no place of the list
  pub record LeavesItem (n list : ℕ) (was : Placed ℕ T) (empty : Bool) (old new : List (Option (Placed ℕ T))) : Type 0 where
    pub now : Placed ℕ T
    pub written : new ≡ slice_set old n (Some now)
    pub message : now.message ≡ was.message
    pub places : (q : ℕ) → lookup (same_number q) now.places
        ≡ (if same_number list q then None else lookup (same_number q) was.places)
    pub last : MatchBool empty (now.places ≡ []) (now.places ≡ [] → ⊥)

module _ {D T : Type 0} (cmp : D → D → Ordering) (name : T → D) where
  -- what an insert of a message gives and leaves, or what an allocation failure leaves
  pub record Inserts {E : Type 0} (is_clone : T → T → Type 0) (x : T) (list i : ℕ)
      (result : Result Found E) (old new : Tabled D T) : Type 0 where
    pub place : IfOk result (λ f. f.place
        ≡ place_at (eq_by_cmp cmp) same_number (items_of old) (name x) list)
    pub there : IfOk result (λ f. f.was_there
        ≡ is_some (lookup (eq_by_cmp cmp (name x)) (items_of old)))
    pub item : IfOk result (λ f. GoesBy cmp name (name x) new f.item)
    pub stays : IfOk result (λ f. IsSome f.place → new ≡ old)
    pub joined : IfOk result (λ f. f.place ≡ None
        → Joins (eq_by_cmp cmp) same_number cmp is_clone (name x) x list i (items_of old) (items_of new))
    pub names : KeepsNames name old new
    pub fails_for_new_places : OnErr result
        (place_at (eq_by_cmp cmp) same_number (items_of old) (name x) list ≡ None)
    pub err : OnErr result (new ≡ old)
    pub tabled : IsTabled cmp name new
