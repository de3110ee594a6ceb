-- Believed.
-- How a taking changes the list of its key.
use Rattle.std.specs.Prelude.{ℕ, ◌-◌, Bool, if◌then◌else◌, List, [], ◌∷◌, take, nat_le, Option, None, Some, is_some}
use Rattle.std.specs.List.{list_any}
use Rattle.entries.specs.declared.entry.Charged.{Charged}
use Rattle.broadcast_core.specs.declared.outcome.Outcome.{Outcome}
use Rattle.broadcast_core.specs.Content.{Content, Same, among, without, same_charged, affordable, outcome_of, charged_at, list_at}

-- the longest beginning whose charges sum to at most the budget
abbrev pub within : {D : Type 0} → ℕ → List (Charged D) → List (Charged D)
within budget [] = []
within budget (c ∷ cs) = if nat_le c.charge budget then c ∷ within (budget - c.charge) cs else []

-- the digest is put in front of the list, which is then cut to its limits
abbrev pub fronted : {D : Type 0} → (D → D → Bool) → ℕ → ℕ → Charged D → List (Charged D) → List (Charged D)
fronted same size budget c cs = within budget (take size (c ∷ without (same_charged same) c cs))

-- the list after a taking; one that the budget does not afford changes nothing
abbrev pub with_taken : {D : Type 0} → (D → D → Bool) → ℕ → ℕ → Option (Charged D) → List (Charged D) → List (Charged D)
with_taken same size budget None cs = cs
with_taken same size budget (Some c) cs = fronted same size budget c cs

module _ {P D : Type 0} (same : Same P D) {M W : Type 0} where
  -- whether the key is primary
  abbrev pub has_primary : Content P M D W → P → Bool
  has_primary c p = list_any (same.key p) c.primary

  -- whether some key's list has the digest; a key that is not primary has an empty list
  abbrev pub is_on_list : Content P M D W → D → Bool
  is_on_list c d = list_any (λ p. among same.digest d (list_at same c p)) c.primary

  -- the outcome of taking the digest under the key, at this charge
  abbrev pub outcome_at : Content P M D W → P → D → Option ℕ → Outcome
  outcome_at c p d charge = outcome_of (has_primary c p) (is_some (affordable c.byte_budget d charge))
      (among same.digest d (list_at same c p))

  -- the key's list after the digest is taken under it, if the key is primary
  abbrev pub list_with : Content P M D W → P → D → Option ℕ → List (Charged D)
  list_with c p d charge = if has_primary c p
      then with_taken same.digest c.deque_size c.byte_budget (affordable c.byte_budget d charge) (charged_at same c p)
      else charged_at same c p
