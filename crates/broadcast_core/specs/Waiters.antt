-- Believed.
-- The waiters, by digest, and the effect of a cleanup on them.
use Rattle.std.specs.Prelude.{◌≡◌, ℕ, ◌<◌, ◌==◌, Bool, true, false, List, [], ◌∷◌, length, Some, ◌⊎◌}
use Rattle.std.specs.List.{list_any, count_by, sum_by}
use Rattle.std.specs.Map.{lookup}

-- each digest of the map has a waiter
abbrev pub NoneEmpty : {D W : Type 0} → (D → D → Bool) → List (D × List W) → Type 0
NoneEmpty {D} {W} same es = (d : D) (ws : List W) → lookup (same d) es ≡ Some ws → 0 < length ws

-- the number of all waiters
abbrev pub waiting_in : {D W : Type 0} → List (D × List W) → ℕ
waiting_in es = sum_by (λ e. length e.1) es

-- whether the ticket of the waiter is gone
abbrev pub is_gone : {W : Type 0} → (W → ℕ) → List ℕ → W → Bool
is_gone ticket_of gone w = list_any (λ t. ticket_of w == t) gone

-- the number of waiters whose tickets are gone
abbrev pub gone_from : {D W : Type 0} → (W → ℕ) → List ℕ → List (D × List W) → ℕ
gone_from ticket_of gone es = sum_by (λ e. count_by (is_gone ticket_of gone) e.1) es

-- what is left of the waiters, in order: one that is dropped may answer that it is closed, and one
-- that stays that it is open
abbrev pub DropsClosed : {W : Type 0} → (W → Bool → Type 0) → List W → List W → Type 0
DropsClosed answers [] ys = ys ≡ []
DropsClosed {W} answers (x ∷ xs) ys =
    (answers x true × DropsClosed answers xs ys)
    ⊎ (answers x false × ((rest : List W) × (ys ≡ x ∷ rest) × DropsClosed answers xs rest))

-- so with the waiters of a digest that is asked, and the waiters of another stay
abbrev pub DropsClosedIf : {W : Type 0} → Bool → (W → Bool → Type 0) → List W → List W → Type 0
DropsClosedIf true answers xs ys = DropsClosed answers xs ys
DropsClosedIf false answers xs ys = ys ≡ xs
