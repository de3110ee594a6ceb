-- How often a ticket stands in a list.
use Rattle.std.proofs.Common.{◌≡◌, ℕ, zero, suc, ◌+◌, ◌<◌, Bool, cond, List, [], ◌∷◌, ◌++◌, Contains, refl, ap, ◌∙◌, inl, inr, arith}
use Rattle.std.proofs.lemmas.Bool.{cases_eq, eq-eqb, ne_eqb}
use Rattle.broadcast_mailbox.specs.Queue.{IsRising}
use Rattle.broadcast_mailbox.specs.Tickets.{times}

pub times-append : (ticket : ℕ) (xs ys : List ℕ) → times ticket (xs ++ ys) ≡ times ticket xs + times ticket ys
times-append ticket [] ys = omega arith
times-append ticket (x ∷ xs) ys = omega (arith, times-append ticket xs ys)

-- a first ticket that is the one, and one that is not
times-same : (ticket x : ℕ) (xs : List ℕ) → x ≡ ticket → times ticket (x ∷ xs) ≡ 1 + times ticket xs
times-same ticket x xs is = ap (λ (b : Bool). cond b 1 0 + times ticket xs) (eq-eqb x ticket is)

times-other : (ticket x : ℕ) (xs : List ℕ) → (x ≡ ticket → ⊥) → times ticket (x ∷ xs) ≡ times ticket xs
times-other ticket x xs not = ap (λ (b : Bool). cond b 1 0 + times ticket xs) (ne_eqb x ticket not) ∙ (omega arith)

-- rising tickets from a number on do not hold a lower one
times-below : (ticket low : ℕ) (xs : List ℕ) (high : ℕ) → ticket < low → IsRising low xs high → times ticket xs ≡ 0
times-below ticket low [] high below rises = refl
times-below ticket low (x ∷ xs) high below rises =
    times-other ticket x xs (λ is. absurd (omega (arith, is, below, rises.0))) ∙ times-below ticket (x + 1) xs high (omega (arith, below, rises.0)) rises.1

contains-rest : (ticket x : ℕ) (xs : List ℕ) → (x ≡ ticket → ⊥) → Contains (x ∷ xs) ticket → Contains xs ticket
contains-rest ticket x xs not (zero, within, is) = absurd (not is)
contains-rest ticket x xs not (suc k, within, is) = (k, omega (arith, within), is)

-- rising tickets hold each of them once
pub times-Contains : (ticket low : ℕ) (xs : List ℕ) (high : ℕ) → IsRising low xs high → Contains xs ticket → times ticket xs ≡ 1
times-Contains ticket low [] high rises (k, within, is) = absurd (omega (arith, within))
times-Contains ticket low (x ∷ xs) high rises held =
    elim (cases_eq x ticket) [
      | inl is ↦ times-same ticket x xs is ∙ omega (arith, times-below ticket (x + 1) xs high (omega (arith, is)) rises.1)
      | inr not ↦ times-other ticket x xs not ∙ times-Contains ticket (x + 1) xs high rises.1 (contains-rest ticket x xs not held)
    ]

-- and no other
pub times-none : (ticket : ℕ) (xs : List ℕ) → (¬ Contains xs ticket) → times ticket xs ≡ 0
times-none ticket [] none = refl
times-none ticket (x ∷ xs) none =
    elim (cases_eq x ticket) [
      | inl is ↦ absurd (none (0, omega arith, is))
      | inr not ↦ times-other ticket x xs not ∙ times-none ticket xs (λ held. none (suc held.0, omega (arith, held.1), held.2))
    ]
