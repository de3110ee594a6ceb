-- Believed.
-- What a core contains, and how it is read.
use Rattle.std.specs.Prelude.{ℕ, Bool, not, if◌then◌else◌, List, [], ◌∷◌, map, nat_le, Option, None, Some, unwrap_or}
use Rattle.std.specs.List.{filter, list_any, sum_by}
use Rattle.std.specs.Map.{lookup}
use Rattle.std.specs.Ordering.{eq_by_cmp}
use Rattle.std.specs.declared.cmp.Ordering.{Ordering}
use Rattle.entries.specs.declared.entry.Charged.{Charged}
use Rattle.broadcast_core.specs.Carried.{Carried}
use Rattle.broadcast_core.specs.declared.outcome.Outcome.{Outcome}
use Rattle.broadcast_core.specs.declared.outcome.Outcome.TheVariants.{Inserted, Duplicate, Ineligible, Oversize}

-- a map is the list of its entries, and a list of digests has the newest first, each with the bytes
-- that it is charged
pub record Content (P M D W : Type 0) : Type 0 where
  pub own : P
  pub deque_size : ℕ
  pub byte_budget : ℕ
  pub primary : List P
  pub lists : List (P × List (Charged D))
  pub cached : List (D × Carried M D)
  pub waiters : List (D × List W)

-- when two keys, and when two digests, are equal
pub record Same (P D : Type 0) : Type 0 where
  pub key : P → P → Bool
  pub digest : D → D → Bool

-- the equalities of an order of keys and an order of digests
abbrev pub same_by : {P D : Type 0} → (P → P → Ordering) → (D → D → Ordering) → Same P D
same_by key digest = record { key = eq_by_cmp key; digest = eq_by_cmp digest }

module _ {D : Type 0} (same : D → D → Bool) where
  -- whether a digest of the list equals d
  abbrev pub among : D → List D → Bool
  among d ds = list_any (same d) ds

  -- the digests that differ from d
  abbrev pub without : D → List D → List D
  without d ds = filter (λ x. not (same d x)) ds

  -- each digest at its first place only
  abbrev pub first_places : List D → List D
  first_places [] = []
  first_places (d ∷ ds) = d ∷ without d (first_places ds)

module _ {D : Type 0} where
  -- the digests, without their charges
  abbrev pub digests_of : List (Charged D) → List D
  digests_of cs = map (λ c. c.digest) cs

  -- the sum of the charges
  abbrev pub bytes_of : List (Charged D) → ℕ
  bytes_of cs = sum_by (λ c. c.charge) cs

  -- the digest at this charge
  abbrev pub at_charge : D → ℕ → Charged D
  at_charge d n = record { digest = d; charge = n }

  -- whether two charged digests are one digest
  abbrev pub same_charged : (D → D → Bool) → Charged D → Charged D → Bool
  same_charged same a b = same a.digest b.digest

  -- the digest with its charge, if that is within the budget; no charge is above every budget
  abbrev pub affordable : ℕ → D → Option ℕ → Option (Charged D)
  affordable budget d None = None
  affordable budget d (Some n) = if nat_le n budget then Some (at_charge d n) else None

-- the list that a map has at the key, or the empty list
abbrev pub items_at : {K X : Type 0} → (K → K → Bool) → K → List (K × List X) → List X
items_at same k es = unwrap_or (lookup (same k) es) []

-- the outcome of a taking, by whether the key is primary, whether the charge is within the budget, and
-- whether the key's list has the digest
abbrev pub outcome_of : Bool → Bool → Bool → Outcome
outcome_of is_primary is_affordable has_digest = if is_primary
    then (if is_affordable then (if has_digest then Duplicate else Inserted) else Oversize)
    else Ineligible

module _ {P D : Type 0} (same : Same P D) {M W : Type 0} where
  -- the key's list, with charges
  abbrev pub charged_at : Content P M D W → P → List (Charged D)
  charged_at c p = items_at same.key p c.lists

  -- the key's list
  abbrev pub list_at : Content P M D W → P → List D
  list_at c p = digests_of (charged_at c p)

  -- the cached message of the digest
  abbrev pub message_at : Content P M D W → D → Option (Carried M D)
  message_at c d = lookup (same.digest d) c.cached

  -- the waiters of the digest, in the order of their subscribes
  abbrev pub waiting_at : Content P M D W → D → List W
  waiting_at c d = items_at same.digest d c.waiters
