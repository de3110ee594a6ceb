-- Believed.
-- The list of a key.
use Rattle.std.specs.Prelude.{ℕ, if◌then◌else◌, List, [], ◌∷◌, ◌++◌, length, Option, None, Some, is_some}
use Rattle.std.specs.Option.{option_map, option_to_list}
use Rattle.entries.specs.declared.entry.Charged.{Charged}
use Rattle.broadcast_core.specs.Carried.{Carried}
use Rattle.broadcast_core.specs.Content.{affordable, digests_of, among, outcome_of}
use Rattle.broadcast_core.specs.Company.{stayed}
use Rattle.broadcast_core.specs.Setting.{Setting}
use Rattle.broadcast_core.specs.Happening.{History, Taking, taken}
use Rattle.broadcast_core.specs.Peers.{since, is_primary}
use Rattle.broadcast_core.specs.declared.outcome.Outcome.{Outcome}

module _ {P M D : Type 0} (s : Setting P M D) where
  -- what a message is charged: the length of its encoding, if it has one
  abbrev pub charge : Carried M D → Option ℕ
  charge c = option_map length (s.encoding c.message)

  -- a message's digest with its charge, if that is within the budget
  abbrev pub charged : Carried M D → Option (Charged D)
  charged c = affordable s.byte_budget c.digest (charge c)

module _ {P M D : Type 0} (s : Setting P M D) where
  -- the charged digest of a taking within the budget, if it is under the key
  abbrev pub digest_under : P → Option (Taking P M D) → List (Charged D)
  digest_under p None = []
  digest_under p (Some t) = if s.same.key p t.key then option_to_list (charged s t.carried) else []

module _ {P M D W V : Type 0} (s : Setting P M D) where
  -- the digests taken under the key within the budget
  abbrev pub digests_under : P → History P M D W V → List (Charged D)
  digests_under p [] = []
  digests_under p (e ∷ older) = digest_under s p (taken s e) ++ digests_under p older

  -- the digests taken under the key since it was last not primary whose companies have always had at
  -- most `deque_size` digests and at most `byte_budget` bytes, with their charges, the newest first
  abbrev pub charged_list : P → History P M D W V → List (Charged D)
  charged_list p past =
      stayed s.same.digest s.deque_size s.byte_budget (digests_under p (since s p past))

  -- the newest distinct digests that fit
  abbrev pub list : P → History P M D W V → List D
  list p past = digests_of (charged_list p past)

  -- the outcome of taking the message under the key after a history
  abbrev pub outcome : P → Carried M D → History P M D W V → Outcome
  outcome p c past = outcome_of (is_primary s p past) (is_some (charged s c))
      (among s.same.digest c.digest (list p past))
