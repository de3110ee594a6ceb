-- A list that is put over the front of a room, one by one.
use Rattle.std.proofs.Common.{◌≡◌, ◌+◌, ◌≤◌, ◌<◌, ℕ, zero, suc, List, [], ◌∷◌, length, take, drop, set, refl, sym, ap, arith}
use Rattle.entries.specs.Overlaid.{overlaid}

module _ {X : Type 0} where
  pub length-overlaid : (xs room : List X) → length (overlaid xs room) ≡ length room
  length-overlaid [] room = refl
  length-overlaid (x ∷ xs) [] = refl
  length-overlaid (x ∷ xs) (r ∷ room) = ap suc (length-overlaid xs room)

  -- the next one is put
  overlaid-suc : (all room : List X) (i : ℕ) (x : X) (rest : List X) → drop i all ≡ x ∷ rest → i < length room
      → set (overlaid (take i all) room) i x ≡ overlaid (take (suc i) all) room
  overlaid-suc [] room zero x rest is fits = cc
  overlaid-suc [] room (suc i) x rest is fits = cc
  overlaid-suc (a ∷ all) [] i x rest is fits = absurd (omega (arith, fits))
  overlaid-suc (a ∷ all) (r ∷ room) zero x rest is fits = ap (λ (l : List X). overlaid (take 1 l) (r ∷ room)) (sym is)
  overlaid-suc (a ∷ all) (r ∷ room) (suc i) x rest is fits = ap (λ l. a ∷ l) (overlaid-suc all room i x rest is (omega (arith, fits)))

  pub overlaid-next : (all room : List X) (i : ℕ) (x : X) (rest : List X) → drop i all ≡ x ∷ rest → i < length room
      → set (overlaid (take i all) room) i x ≡ overlaid (take (i + 1) all) room
  overlaid-next all room i x rest is fits =
      let next : i + 1 ≡ suc i = omega arith in
      rw next (overlaid-suc all room i x rest is fits)

  drop-suc : (all : List X) (i : ℕ) (x : X) (rest : List X) → drop i all ≡ x ∷ rest → drop (suc i) all ≡ rest
  drop-suc [] zero x rest is = cc
  drop-suc [] (suc i) x rest is = cc
  drop-suc (a ∷ all) zero x rest is = cc
  drop-suc (a ∷ all) (suc i) x rest is = drop-suc all i x rest is

  pub drop-next : (all : List X) (i : ℕ) (x : X) (rest : List X) → drop i all ≡ x ∷ rest → drop (i + 1) all ≡ rest
  drop-next all i x rest is =
      let next : i + 1 ≡ suc i = omega arith in
      rw next (drop-suc all i x rest is)

  -- none is left
  pub overlaid-all : (all room : List X) (i : ℕ) → drop i all ≡ [] → overlaid (take i all) room ≡ overlaid all room
  overlaid-all [] room zero is = refl
  overlaid-all [] room (suc i) is = refl
  overlaid-all (a ∷ all) room zero is = cc
  overlaid-all (a ∷ all) [] (suc i) is = refl
  overlaid-all (a ∷ all) (r ∷ room) (suc i) is = ap (λ l. a ∷ l) (overlaid-all all room i is)

  -- the room is full
  pub overlaid-full : (all room : List X) (i : ℕ) → length room ≤ i → overlaid (take i all) room ≡ overlaid all room
  overlaid-full [] room zero full = refl
  overlaid-full [] room (suc i) full = refl
  overlaid-full (a ∷ all) [] zero full = refl
  overlaid-full (a ∷ all) [] (suc i) full = refl
  overlaid-full (a ∷ all) (r ∷ room) zero full = absurd (omega (arith, full))
  overlaid-full (a ∷ all) (r ∷ room) (suc i) full = ap (λ l. a ∷ l) (overlaid-full all room i (omega (arith, full)))
