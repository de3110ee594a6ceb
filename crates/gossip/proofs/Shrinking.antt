-- What stays and what leaves when messages are charged more than a budget.
use Rattle.std.proofs.Common.{◌≡◌, ◌≤◌, ◌<◌, ℕ, ◌+◌, suc, true, false, List, [], ◌∷◌, length, arith, refl, ap}
use Rattle.std.specs.Prelude.{nat_le, nat_lt, nat_eq, ◌||◌, if◌then◌else◌}
use Rattle.std.proofs.lemmas.Bool.Decides.{nat_tests}
use Rattle.std.proofs.lemmas.Bool.{le-leb, leb-true, lt-leb}
use Rattle.gossip.specs.declared.message.Message.{Message}
use Rattle.gossip.specs.Newest.{charge, has_stamp}
use Rattle.gossip.specs.Held.{total, inserted, staying, leaving, floor_with}
use Rattle.gossip.specs.Placing.{up_to}

module _ (b : ℕ) (x : Message) (xs : List Message) (over : b < total (x ∷ xs)) where
  pub floor_over : (f : ℕ) → floor_with b f (x ∷ xs) ≡ floor_with b x.stamp xs
  floor_over f = rw (lt-leb (total (x ∷ xs)) b over) refl

  pub staying_over : staying b (x ∷ xs) ≡ staying b xs
  staying_over = rw (lt-leb (total (x ∷ xs)) b over) refl

  pub leaving_over : leaving b (x ∷ xs) ≡ x ∷ leaving b xs
  leaving_over = rw (lt-leb (total (x ∷ xs)) b over) refl

pub floor_within : (b f : ℕ) (xs : List Message) → total xs ≤ b → floor_with b f xs ≡ f
floor_within b f [] h = refl
floor_within b f (x ∷ xs) h = rw (le-leb (total (x ∷ xs)) b h) refl

pub staying_within : (b : ℕ) (xs : List Message) → total xs ≤ b → staying b xs ≡ xs
staying_within b [] h = refl
staying_within b (x ∷ xs) h = rw (le-leb (total (x ∷ xs)) b h) refl

pub leaving_within : (b : ℕ) (xs : List Message) → total xs ≤ b → leaving b xs ≡ []
leaving_within b [] h = refl
leaving_within b (x ∷ xs) h = rw (le-leb (total (x ∷ xs)) b h) refl

pub total_staying : (b : ℕ) (xs : List Message) → total (staying b xs) ≤ b
total_staying b [] = omega arith
total_staying b (x ∷ xs) = grind (arith, nat_tests, total_staying b xs)

-- ---- how many leave for a message that is not listed

pub total_inserted : (m : Message) (xs : List Message) → total (inserted m xs) ≡ charge m + total xs
total_inserted m [] = refl
total_inserted m (x ∷ xs) =
    elim (nat_lt x.stamp m.stamp) as (λ t. total (if t then x ∷ inserted m xs else m ∷ x ∷ xs) ≡ charge m + (charge x + total xs)) [
      | true ↦ (let i = total_inserted m xs in omega (arith, i))
      | false ↦ refl
    ]

pub none_leaves : (b : ℕ) (m : Message) (xs : List Message) → charge m + total xs ≤ b → leaving b (inserted m xs) ≡ []
none_leaves b m xs h = leaving_within b (inserted m xs) (rw total_inserted h)

module _ (b : ℕ) (m x : Message) (xs : List Message) (over : b < charge m + total (x ∷ xs)) where
  pub first_leaves : x.stamp ≤ m.stamp → nat_eq x.stamp m.stamp ≡ false → leaving b (inserted m (x ∷ xs)) ≡ x ∷ leaving b (inserted m xs)
  first_leaves le ne =
      let lt : nat_lt x.stamp m.stamp ≡ true = grind (arith, nat_tests, ne) in
      let e = total_inserted m xs in
      rw lt (leaving_over b x (inserted m xs) (omega (arith, over, e)))

pub it_leaves : (b : ℕ) (m : Message) (xs : List Message) → up_to m.stamp xs ≡ 0 → total xs ≤ b → b < charge m + total xs
    → leaving b (inserted m xs) ≡ m ∷ []
it_leaves b m [] none fits over = leaving_over b m [] over
it_leaves b m (x ∷ xs) none fits over =
    (elim (nat_le x.stamp m.stamp) as (λ t. nat_le x.stamp m.stamp ≡ t → (if t then suc (up_to m.stamp xs) else 0) ≡ 0
    → leaving b (inserted m (x ∷ xs)) ≡ m ∷ []) [
      | true ↦ λ e no. absurd (let n : ⊥ = omega (arith, no) in n)
      | false ↦ λ e no. (
          let lt : nat_lt x.stamp m.stamp ≡ false = grind (arith, nat_tests, e) in
          let rest = leaving_within b (x ∷ xs) fits in
          rw (lt, leaving_over b m (x ∷ xs) over) (ap (λ (ys : List Message). m ∷ ys) rest))
    ]) refl none

-- one step of counting those that leave
pub leaves_step : (b i place n : ℕ) (m x : Message) (xs : List Message) → b < charge m + total (x ∷ xs)
    → i + length (leaving b (inserted m (x ∷ xs))) ≡ n → i + up_to m.stamp (x ∷ xs) ≡ place → i < place → has_stamp m.stamp (x ∷ xs) ≡ false
    → (i + 1 + length (leaving b (inserted m xs)) ≡ n) × (i + 1 + up_to m.stamp xs ≡ place) × (has_stamp m.stamp xs ≡ false)
leaves_step b i place n m x xs over counted at lt new =
    (elim (nat_eq x.stamp m.stamp) as (λ t. nat_eq x.stamp m.stamp ≡ t → (t || has_stamp m.stamp xs) ≡ false
    → (i + 1 + length (leaving b (inserted m xs)) ≡ n) × (i + 1 + up_to m.stamp xs ≡ place) × (has_stamp m.stamp xs ≡ false)) [
      | true ↦ λ e has. (let none : ⊥ = cc in absurd none)
      | false ↦ λ e has. (elim (nat_le x.stamp m.stamp) as (λ t. nat_le x.stamp m.stamp ≡ t → i + (if t then suc (up_to m.stamp xs) else 0) ≡ place
          → (i + 1 + length (leaving b (inserted m xs)) ≡ n) × (i + 1 + up_to m.stamp xs ≡ place) × (has_stamp m.stamp xs ≡ false)) [
            | true ↦ λ g up. (
                let first = first_leaves b m x xs over (leb-true x.stamp m.stamp g) e in
                let counted' = rw first at counted in
                (omega (arith, counted'), omega (arith, up), has))
            | false ↦ λ g up. absurd (let none : ⊥ = omega (arith, up, lt) in none)
          ]) refl at
    ]) refl new
