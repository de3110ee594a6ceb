-- Internal.
-- The waiters by digest, as they are kept.
use Rattle.std.specs.Prelude.{Bool, if◌then◌else◌, List, [], ◌∷◌, Option, None, Some}
use Rattle.std.specs.List.{list_any}
use Rattle.std.specs.List.Sorted.{IsStrictlySortedBy}
use Rattle.std.specs.Map.{keys_of}
use Rattle.std.specs.Ordering.{eq_by_cmp}
use Rattle.std.specs.declared.cmp.Ordering.{Ordering}
use Rattle.broadcast_core.specs.Waiters.{NoneEmpty}

-- the digests are sorted, and each has a waiter
pub record AreAwaited {D W : Type 0} (cmp : D → D → Ordering)
    (es : List (D × List W)) : Type 0 where
  pub rises : IsStrictlySortedBy cmp (keys_of es)
  pub none_empty : NoneEmpty (eq_by_cmp cmp) es

-- the first digest of which a waiter passes the test
abbrev pub first_with : {D W : Type 0} → (W → Bool) → List (D × List W) → Option D
first_with test [] = None
first_with test (e ∷ es) = if list_any test e.1 then Some e.0 else first_with test es
