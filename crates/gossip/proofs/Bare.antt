-- Handles decide nothing.
use Rattle.std.proofs.Common.{◌≡◌, ℕ, ◌+◌, true, false, Bool, List, [], ◌∷◌, refl, sym, ap, ◌∙◌, map}
use Rattle.std.specs.Prelude.{nat_le, nat_lt, nat_eq, ◌||◌, if◌then◌else◌}
use Rattle.gossip.specs.declared.message.Message.{Message}
use Rattle.gossip.specs.Newest.{charge, has_stamp, HaveTheSame, IsOneAStamp}
use Rattle.gossip.specs.Held.{Held, total, inserted, staying, floor_with, is_new, with_new, after, after_all, heard, bare, bare_of}
use Rattle.gossip.proofs.Converging.{converge}

inserted_bare : (m : Message) (xs : List Message) → map bare (inserted m xs) ≡ inserted (bare m) (map bare xs)
inserted_bare m [] = refl
inserted_bare m (x ∷ xs) =
    elim (nat_lt x.stamp m.stamp) as (λ t. map bare (if t then x ∷ inserted m xs else m ∷ x ∷ xs) ≡ (if t then bare x ∷ inserted (bare m) (map bare xs) else bare m ∷ bare x ∷ map bare xs)) [
      | true ↦ ap (λ (ys : List Message). bare x ∷ ys) (inserted_bare m xs)
      | false ↦ refl
    ]

total_bare : (xs : List Message) → total (map bare xs) ≡ total xs
total_bare [] = refl
total_bare (x ∷ xs) = ap (λ (n : ℕ). charge x + n) (total_bare xs)

staying_bare : (b : ℕ) (xs : List Message) → map bare (staying b xs) ≡ staying b (map bare xs)
staying_bare b [] = refl
staying_bare b (x ∷ xs) =
    rw (total_bare xs)
    (elim (nat_le (charge x + total xs) b) as (λ t. map bare (if t then x ∷ xs else staying b xs) ≡ (if t then bare x ∷ map bare xs else staying b (map bare xs))) [
      | true ↦ refl
      | false ↦ staying_bare b xs
    ])

floor_bare : (b f : ℕ) (xs : List Message) → floor_with b f xs ≡ floor_with b f (map bare xs)
floor_bare b f [] = refl
floor_bare b f (x ∷ xs) =
    rw (total_bare xs)
    (elim (nat_le (charge x + total xs) b) as (λ t. (if t then f else floor_with b x.stamp xs) ≡ (if t then f else floor_with b x.stamp (map bare xs))) [
      | true ↦ refl
      | false ↦ floor_bare b x.stamp xs
    ])

stamps_bare : (s : ℕ) (xs : List Message) → has_stamp s (map bare xs) ≡ has_stamp s xs
stamps_bare s [] = refl
stamps_bare s (x ∷ xs) = ap (λ (q : Bool). nat_eq x.stamp s || q) (stamps_bare s xs)

held : ℕ → ℕ → List Message → Held
held b f xs = record { budget = b; floor = f; list = xs }

with_bare : (h : Held) (m : Message) → bare_of (with_new h m) ≡ with_new (bare_of h) (bare m)
unfolding held
with_bare h m =
    let i = inserted_bare m h.list in
    ap (λ (xs : List Message). held h.budget (floor_with h.budget h.floor (inserted m h.list)) xs) (staying_bare h.budget (inserted m h.list))
    ∙ ap (λ (f : ℕ). held h.budget f (staying h.budget (map bare (inserted m h.list)))) (floor_bare h.budget h.floor (inserted m h.list))
    ∙ ap (λ (xs : List Message). held h.budget (floor_with h.budget h.floor xs) (staying h.budget xs)) i

after_bare : (h : Held) (m : Message) → bare_of (after h m) ≡ after (bare_of h) (bare m)
after_bare h m =
    rw (stamps_bare m.stamp h.list)
    (elim (is_new h m) as (λ t. bare_of (if t then with_new h m else h) ≡ (if t then with_new (bare_of h) (bare m) else bare_of h)) [
      | true ↦ with_bare h m
      | false ↦ refl
    ])

all_bare : (h : Held) (ms : List Message) → bare_of (after_all h ms) ≡ after_all (bare_of h) (map bare ms)
all_bare h [] = refl
all_bare h (m ∷ ms) = all_bare (after h m) ms ∙ ap (λ (k : Held). after_all k (map bare ms)) (after_bare h m)

heard_bare : (ms past : List Message) → map bare (heard ms past) ≡ heard (map bare ms) (map bare past)
heard_bare [] past = refl
heard_bare (m ∷ ms) past = heard_bare ms (m ∷ past)

pub converge_bare : (h k : Held) (xs ys : List Message) → h.floor ≡ 0 → h.list ≡ [] → k.floor ≡ 0 → k.list ≡ [] → h.budget ≡ k.budget
    → HaveTheSame (map bare (heard xs [])) (map bare (heard ys [])) → IsOneAStamp (map bare (heard xs []))
    → bare_of (after_all h xs) ≡ bare_of (after_all k ys)
converge_bare h k xs ys hf hl kf kl b same one =
    all_bare h xs
    ∙ converge (bare_of h) (bare_of k) (map bare xs) (map bare ys) hf (ap (λ (zs : List Message). map bare zs) hl) kf (ap (λ (zs : List Message). map bare zs) kl) b
    (rw (heard_bare xs [], heard_bare ys []) at same) (rw (heard_bare xs []) at one)
    ∙ sym (all_bare k ys)
