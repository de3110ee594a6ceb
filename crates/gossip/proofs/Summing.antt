-- The sums behind messages, and what messages up to a stamp are charged.
use Rattle.std.proofs.Common.{◌≡◌, ◌≤◌, ◌<◌, ℕ, zero, suc, ◌+◌, ◌-◌, ◌++◌, ◌^◌, ◌%◌, true, false, List, [], ◌∷◌, length, take, drop, get_or, arith, refl, sym, ap, ◌∙◌}
use Rattle.std.specs.Prelude.{nat_le, if◌then◌else◌}
use Rattle.std.specs.List.{insert}
use Rattle.std.proofs.lemmas.List.{get_or-take}
use Rattle.std.proofs.lemmas.Bool.{leb-false, lt-leb}
use Rattle.gossip.specs.declared.message.Message.{Message}
use Rattle.gossip.specs.Newest.{charge, Rise}
use Rattle.gossip.specs.Held.{total}
use Rattle.gossip.specs.Parts.{bytes_up_to}
use Rattle.gossip.specs.Placing.{up_to, sums_after, sum_behind}

abbrev next_sum : ℕ → Message → ℕ
next_sum s m = (s + charge m) % 2 ^ 64

pub length_sums : (s : ℕ) (xs : List Message) → length (sums_after s xs) ≡ length xs
length_sums s [] = refl
length_sums s (x ∷ xs) = ap (λ (n : ℕ). suc n) (length_sums (next_sum s x) xs)

pub take_sums : (s n : ℕ) (xs : List Message) → take n (sums_after s xs) ≡ sums_after s (take n xs)
take_sums s zero xs = refl
take_sums s (suc n) [] = refl
take_sums s (suc n) (x ∷ xs) = ap (λ (ys : List ℕ). next_sum s x ∷ ys) (take_sums (next_sum s x) n xs)

pub take_insert : (n : ℕ) (m : Message) (xs : List Message) → n ≤ length xs → take n (insert xs n m) ≡ take n xs
take_insert zero m xs h = refl
take_insert (suc n) m [] h = absurd (let no : ⊥ = omega (arith, h) in no)
take_insert (suc n) m (x ∷ xs) h = ap (λ (ys : List Message). x ∷ ys) (take_insert n m xs (omega (arith, h)))

last_sum : (s k d : ℕ) (xs : List Message) → length xs ≡ suc k → get_or (sums_after s xs) k d ≡ sum_behind s xs
last_sum s k d [] h = absurd (let no : ⊥ = omega (arith, h) in no)
last_sum s zero d (x ∷ []) h = refl
last_sum s zero d (x ∷ (y ∷ ys)) h = absurd (let no : ⊥ = omega (arith, h) in no)
last_sum s (suc k) d (x ∷ xs) h = last_sum (next_sum s x) k d xs (omega (arith, h))

pub none_behind : (s : ℕ) (xs : List Message) → 0 ≡ length xs → s ≡ sum_behind s xs
none_behind s [] h = refl
none_behind s (x ∷ xs) h = absurd (let no : ⊥ = omega (arith, h) in no)

-- the sum behind the first messages stands at the last of them
pub some_behind : (s c d : ℕ) (sums : List ℕ) (xs : List Message) → take c sums ≡ sums_after s xs → c ≡ length xs → 0 < c
    → get_or sums (c - 1) d ≡ sum_behind s xs
some_behind s c d sums xs e n pos =
    let at : get_or (take c sums) (c - 1) d ≡ get_or sums (c - 1) d = get_or-take c sums (c - 1) d (omega (arith, pos)) in
    sym at ∙ ap (λ (ys : List ℕ). get_or ys (c - 1) d) e ∙ last_sum s (c - 1) d xs (omega (arith, n, pos))

pub sums_on : (s n : ℕ) (xs : List Message) → sums_after s (take n xs) ++ sums_after (sum_behind s (take n xs)) (drop n xs) ≡ sums_after s xs
sums_on s zero xs = refl
sums_on s (suc n) [] = refl
sums_on s (suc n) (x ∷ xs) = ap (λ (ys : List ℕ). next_sum s x ∷ ys) (sums_on (next_sum s x) n xs)

-- ---- what messages are charged

pub total_take : (n : ℕ) (xs : List Message) → total (take n xs) ≤ total xs
total_take zero xs = omega arith
total_take (suc n) [] = omega arith
total_take (suc n) (x ∷ xs) = (let i = total_take n xs in omega (arith, i))

pub total_drop : (n : ℕ) (xs : List Message) → total (drop n xs) ≤ total xs
total_drop zero xs = omega arith
total_drop (suc n) [] = omega arith
total_drop (suc n) (x ∷ xs) = (let i = total_drop n xs in omega (arith, i))

behind_is : (s : ℕ) (xs : List Message) → s < 2 ^ 64 → sum_behind s xs ≡ (s + total xs) % 2 ^ 64
behind_is s [] h = omega (arith, h)
behind_is s (x ∷ xs) h =
    let c = charge x in
    let i = behind_is ((s + c) % 2 ^ 64) xs (omega arith) in
    i ∙ shift s c (total xs)
  where
    shift : (s c t : ℕ) → ((s + c) % 2 ^ 64 + t) % 2 ^ 64 ≡ (s + (c + t)) % 2 ^ 64
    shift s c t = omega arith

-- the difference of two sums is what the messages between are charged
pub between : (s : ℕ) (xs : List Message) → s < 2 ^ 64 → total xs < 2 ^ 64 → (sum_behind s xs + (2 ^ 64 - s)) % 2 ^ 64 ≡ total xs
between s xs h g = rw (behind_is s xs h) (back s (total xs) h g)
  where
    back : (s t : ℕ) → s < 2 ^ 64 → t < 2 ^ 64 → ((s + t) % 2 ^ 64 + (2 ^ 64 - s)) % 2 ^ 64 ≡ t
    back s t h g = omega (arith, h, g)

none_up_to : (f s : ℕ) (xs : List Message) → Rise f xs → s ≤ f → bytes_up_to s xs ≡ 0
none_up_to f s [] r h = refl
none_up_to f s (x ∷ xs) r h =
    let l = r.0 in
    let i = none_up_to x.stamp s xs r.1 (omega (arith, l, h)) in
    rw (lt-leb x.stamp s (omega (arith, l, h)), i) refl

-- the messages up to a stamp are those in front of its place
pub front_is : (f s : ℕ) (xs : List Message) → Rise f xs → total (take (up_to s xs) xs) ≡ bytes_up_to s xs
front_is f s [] r = refl
front_is f s (x ∷ xs) r =
    (elim (nat_le x.stamp s) as (λ t. nat_le x.stamp s ≡ t → total (take (if t then suc (up_to s xs) else 0) (x ∷ xs))
    ≡ (if t then charge x else 0) + bytes_up_to s xs) [
      | true ↦ λ e. (let i = front_is x.stamp s xs r.1 in omega (arith, i))
      | false ↦ λ e. (let none = none_up_to x.stamp s xs r.1 (let up = leb-false x.stamp s e in omega (arith, up)) in omega (arith, none))
    ]) refl
