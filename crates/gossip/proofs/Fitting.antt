-- The newest messages that fit, searched for in a history, are those that are kept in order.
use Rattle.std.proofs.Common.{◌≡◌, ◌≤◌, ◌<◌, ℕ, zero, suc, ◌+◌, true, false, Bool, List, [], ◌∷◌, length, arith, refl, sym, subst, ap, ◌∙◌, ◌⊎◌, inl, inr, Contains}
use Rattle.std.specs.Prelude.{nat_le, nat_lt, nat_eq, not, ◌&&◌, ◌||◌, if◌then◌else◌, slice_index_or}
use Rattle.std.proofs.lemmas.Bool.{le-leb, leb-false, leb-true, lt-leb}
use Rattle.gossip.specs.declared.message.Message.{Message}
use Rattle.gossip.specs.Newest.{charge, is_sound, has_stamp, received, charge_from, Rise, IsNewest, AreNewest, IsFloor}
use Rattle.gossip.specs.Held.{total, inserted, staying, floor_with}
use Rattle.gossip.specs.Members.{Has}
use Rattle.gossip.proofs.Keeping.{in_order, floor_rises, rise_in_order}
use Rattle.gossip.proofs.Arriving.{inserted_has}

-- ---- between the two forms of being on a list

has_at : (x : Message) (xs : List Message) (m : Message) → (Contains xs m → Has xs m)
    → (k : ℕ) → k < length (x ∷ xs) → slice_index_or (x ∷ xs) k m ≡ m → Has (x ∷ xs) m
has_at x xs m rest zero lt e = inl e
has_at x xs m rest (suc k) lt e = inr (rest (k, omega (arith, lt), e))

pub has_from : (xs : List Message) (m : Message) → Contains xs m → Has xs m
has_from [] m c = absurd (let lt = c.1 in let no : ⊥ = omega (arith, lt) in no)
has_from (x ∷ xs) m c = has_at x xs m (λ d. has_from xs m d) c.0 c.1 c.2

pub contains_from : (xs : List Message) (m : Message) → Has xs m → Contains xs m
contains_from [] m h = absurd h
contains_from (x ∷ xs) m (inl e) = (zero, omega arith, e)
contains_from (x ∷ xs) m (inr h) = (let c = contains_from xs m h in (suc c.0, (let lt = c.1 in omega (arith, lt)), c.2))

-- ---- of messages in order

pub above : (f : ℕ) (xs : List Message) (m : Message) → Rise f xs → Has xs m → f < m.stamp
above f [] m r h = absurd h
above f (x ∷ xs) m r (inl e) = subst (λ (y : Message). f < y.stamp) e r.0
above f (x ∷ xs) m r (inr h) = (let l = r.0 in let i = above x.stamp xs m r.1 h in omega (arith, l, i))

part : (s : ℕ) (xs : List Message) → charge_from s xs ≤ total xs
part s [] = omega arith
part s (x ∷ xs) =
    let i = part s xs in
    elim (nat_le s x.stamp) as (λ t. (if t then charge x else 0) + charge_from s xs ≤ charge x + total xs) [
      | true ↦ omega (arith, i)
      | false ↦ omega (arith, i)
    ]

all : (f s : ℕ) (xs : List Message) → Rise f xs → s ≤ f → charge_from s xs ≡ total xs
all f s [] r h = refl
all f s (x ∷ xs) r h =
    let l = r.0 in
    let i = all x.stamp s xs r.1 (omega (arith, l, h)) in
    rw (le-leb s x.stamp (omega (arith, l, h)), i) refl

own : (x : Message) (xs : List Message) → Rise x.stamp xs → charge_from x.stamp (x ∷ xs) ≡ total (x ∷ xs)
own x xs r = (let i = all x.stamp x.stamp xs r (omega arith) in rw (le-leb x.stamp x.stamp (omega arith), i) refl)

later : (x m : Message) (xs : List Message) → x.stamp < m.stamp → charge_from m.stamp (x ∷ xs) ≡ charge_from m.stamp xs
later x m xs h = rw (lt-leb m.stamp x.stamp h) (omega arith)

module _ (b : ℕ) where
  pub stays_fits : (f : ℕ) (xs : List Message) (m : Message) → Rise f xs → Has (staying b xs) m → Has xs m × (charge_from m.stamp xs ≤ b)
  stays_fits f [] m r h = absurd h
  stays_fits f (x ∷ xs) m r h =
      (elim (nat_le (total (x ∷ xs)) b) as (λ t. nat_le (total (x ∷ xs)) b ≡ t → Has (if t then x ∷ xs else staying b xs) m
      → Has (x ∷ xs) m × (charge_from m.stamp (x ∷ xs) ≤ b)) [
        | true ↦ λ e g. (
            let all_fit : total (x ∷ xs) ≤ b = leb-true (total (x ∷ xs)) b e in
            let p = part m.stamp (x ∷ xs) in
            (g, omega (arith, all_fit, p)))
        | false ↦ λ e g. (
            let i = stays_fits x.stamp xs m r.1 g in
            let l = above x.stamp xs m r.1 i.0 in
            (inr i.0, rw (later x m xs l) i.1))
      ]) refl h

  pub fits_stays : (f : ℕ) (xs : List Message) (m : Message) → Rise f xs → Has xs m → charge_from m.stamp xs ≤ b → Has (staying b xs) m
  fits_stays f [] m r h fits = absurd h
  fits_stays f (x ∷ xs) m r h fits =
      (elim (nat_le (total (x ∷ xs)) b) as (λ t. nat_le (total (x ∷ xs)) b ≡ t → Has (if t then x ∷ xs else staying b xs) m) [
        | true ↦ λ e. h
        | false ↦ λ e. elim h [
          | inl same ↦ absurd (
              let o = own x xs r.1 in
              let over : b < total (x ∷ xs) = leb-false (total (x ∷ xs)) b e in
              let fits' : charge_from x.stamp (x ∷ xs) ≤ b = subst (λ (y : Message). charge_from y.stamp (x ∷ xs) ≤ b) (sym same) fits in
              let no : ⊥ = omega (arith, o, over, fits') in no)
          | inr there ↦ (
              let l = above x.stamp xs m r.1 there in
              fits_stays x.stamp xs m r.1 there (rw (later x m xs l) at fits))
        ]
      ]) refl

  pub below_floor : (f : ℕ) (xs : List Message) (m : Message) → Rise f xs → Has xs m → m.stamp ≤ floor_with b f xs → b < charge_from m.stamp xs
  below_floor f [] m r h low = absurd h
  below_floor f (x ∷ xs) m r h low =
      (elim (nat_le (total (x ∷ xs)) b) as (λ t. nat_le (total (x ∷ xs)) b ≡ t → m.stamp ≤ (if t then f else floor_with b x.stamp xs)
      → b < charge_from m.stamp (x ∷ xs)) [
        | true ↦ λ e g. absurd (let up = above f (x ∷ xs) m r h in let no : ⊥ = omega (arith, up, g) in no)
        | false ↦ λ e g. elim h [
          | inl same ↦ (
              let over : b < total (x ∷ xs) = leb-false (total (x ∷ xs)) b e in
              subst (λ (y : Message). b < charge_from y.stamp (x ∷ xs)) same (rw (own x xs r.1) over))
          | inr there ↦ (
              let l = above x.stamp xs m r.1 there in
              rw (later x m xs l) (below_floor x.stamp xs m r.1 there g))
        ]
      ]) refl low

  pub above_floor : (f : ℕ) (xs : List Message) (m : Message) → Rise f xs → Has xs m → floor_with b f xs < m.stamp → charge_from m.stamp xs ≤ b
  above_floor f [] m r h up = absurd h
  above_floor f (x ∷ xs) m r h up =
      (elim (nat_le (total (x ∷ xs)) b) as (λ t. nat_le (total (x ∷ xs)) b ≡ t → (if t then f else floor_with b x.stamp xs) < m.stamp
      → charge_from m.stamp (x ∷ xs) ≤ b) [
        | true ↦ λ e g. (
            let all_fit : total (x ∷ xs) ≤ b = leb-true (total (x ∷ xs)) b e in
            let p = part m.stamp (x ∷ xs) in
            omega (arith, all_fit, p))
        | false ↦ λ e g. elim h [
          | inl same ↦ absurd (
              let rises = floor_rises b x.stamp xs r.1 in
              let g' : floor_with b x.stamp xs < x.stamp = subst (λ (y : Message). floor_with b x.stamp xs < y.stamp) (sym same) g in
              let no : ⊥ = omega (arith, rises, g') in no)
          | inr there ↦ (
              let l = above x.stamp xs m r.1 there in
              rw (later x m xs l) (above_floor x.stamp xs m r.1 there g))
        ]
      ]) refl up

-- ---- the messages in order are those that were received

pub has_inserted : (m : Message) (xs : List Message) (n : Message) → Has (inserted m xs) n → (m ≡ n) ⊎ Has xs n
has_inserted m [] n h = h
has_inserted m (x ∷ xs) n h =
    (elim (nat_lt x.stamp m.stamp) as (λ t. Has (if t then x ∷ inserted m xs else m ∷ x ∷ xs) n → (m ≡ n) ⊎ Has (x ∷ xs) n) [
      | true ↦ λ g. elim g [
        | inl e ↦ inr (inl e)
        | inr t ↦ elim (has_inserted m xs n t) [
          | inl e ↦ inl e
          | inr u ↦ inr (inr u)
        ]
      ]
      | false ↦ λ g. g
    ]) h

inserted_has_it : (m : Message) (xs : List Message) (n : Message) → (m ≡ n) ⊎ Has xs n → Has (inserted m xs) n
inserted_has_it m [] n h = h
inserted_has_it m (x ∷ xs) n h =
    elim (nat_lt x.stamp m.stamp) as (λ t. Has (if t then x ∷ inserted m xs else m ∷ x ∷ xs) n) [
      | true ↦ elim h [
        | inl e ↦ inr (inserted_has_it m xs n (inl e))
        | inr t ↦ elim t [
          | inl e ↦ inl e
          | inr u ↦ inr (inserted_has_it m xs n (inr u))
        ]
      ]
      | false ↦ h
    ]

bytes_inserted : (s : ℕ) (m : Message) (xs : List Message) → charge_from s (inserted m xs) ≡ (if nat_le s m.stamp then charge m else 0) + charge_from s xs
bytes_inserted s m [] = refl
bytes_inserted s m (x ∷ xs) =
    elim (nat_lt x.stamp m.stamp) as (λ t. charge_from s (if t then x ∷ inserted m xs else m ∷ x ∷ xs)
    ≡ (if nat_le s m.stamp then charge m else 0) + ((if nat_le s x.stamp then charge x else 0) + charge_from s xs)) [
      | true ↦ (let i = bytes_inserted s m xs in omega (arith, i))
      | false ↦ refl
    ]

module _ (b : ℕ) where
  stamps_same : (s : ℕ) (past : List Message) → has_stamp s (in_order b past) ≡ has_stamp s (received b past)
  stamps_same s [] = refl
  stamps_same s (m ∷ past) =
      let here = stamps_same m.stamp past in
      rw here
      (elim (is_sound b m && not (has_stamp m.stamp (received b past))) as (λ t. has_stamp s (if t then inserted m (in_order b past) else in_order b past)
      ≡ has_stamp s (if t then m ∷ received b past else received b past)) [
        | true ↦ inserted_has s m (in_order b past) ∙ ap (λ (q : Bool). nat_eq m.stamp s || q) (stamps_same s past)
        | false ↦ stamps_same s past
      ])

  pub bytes_same : (s : ℕ) (past : List Message) → charge_from s (in_order b past) ≡ charge_from s (received b past)
  bytes_same s [] = refl
  bytes_same s (m ∷ past) =
      rw (stamps_same m.stamp past)
      (elim (is_sound b m && not (has_stamp m.stamp (received b past))) as (λ t. charge_from s (if t then inserted m (in_order b past) else in_order b past)
      ≡ charge_from s (if t then m ∷ received b past else received b past)) [
        | true ↦ bytes_inserted s m (in_order b past) ∙ ap (λ (q : ℕ). (if nat_le s m.stamp then charge m else 0) + q) (bytes_same s past)
        | false ↦ bytes_same s past
      ])

  pub members_are : (past : List Message) (n : Message) → Has (in_order b past) n → Has (received b past) n
  members_are [] n h = h
  members_are (m ∷ past) n h =
      (elim (is_sound b m && not (has_stamp m.stamp (received b past))) as (λ t. Has (if t then inserted m (in_order b past) else in_order b past) n
      → Has (if t then m ∷ received b past else received b past) n) [
        | true ↦ λ g. elim (has_inserted m (in_order b past) n g) [
          | inl e ↦ inl e
          | inr t ↦ inr (members_are past n t)
        ]
        | false ↦ λ g. members_are past n g
      ]) (rw (stamps_same m.stamp past) at h)

  pub members_were : (past : List Message) (n : Message) → Has (received b past) n → Has (in_order b past) n
  members_were [] n h = h
  members_were (m ∷ past) n h =
      rw (stamps_same m.stamp past)
      ((elim (is_sound b m && not (has_stamp m.stamp (received b past))) as (λ t. Has (if t then m ∷ received b past else received b past) n
      → Has (if t then inserted m (in_order b past) else in_order b past) n) [
        | true ↦ λ g. inserted_has_it m (in_order b past) n (elim g as (λ _. (m ≡ n) ⊎ Has (in_order b past) n) [
          | inl e ↦ inl e
          | inr t ↦ inr (members_were past n t)
        ])
        | false ↦ λ g. members_were past n g
      ]) h)

  -- ---- the law

  pub are_newest : (past : List Message) → AreNewest b past (staying b (in_order b past))
  are_newest past = λ m. (forth m, back m)
    where
      forth : (m : Message) → Contains (staying b (in_order b past)) m → IsNewest b past m
      forth m c =
          let s = stays_fits b 0 (in_order b past) m (rise_in_order b past) (has_from (staying b (in_order b past)) m c) in
          (contains_from (received b past) m (members_are past m s.0), rw (bytes_same m.stamp past) at s.1)

      back : (m : Message) → IsNewest b past m → Contains (staying b (in_order b past)) m
      back m n =
          let h = members_were past m (has_from (received b past) m n.0) in
          contains_from (staying b (in_order b past)) m
          (fits_stays b 0 (in_order b past) m (rise_in_order b past) h (rw (← bytes_same m.stamp past) at n.1))

  pub is_floor : (past : List Message) → IsFloor b past (floor_with b 0 (in_order b past))
  is_floor past = record {
    below = λ m c low. rw (bytes_same m.stamp past) at
        (below_floor b 0 (in_order b past) m (rise_in_order b past) (members_were past m (has_from (received b past) m c)) low);
    above = λ m c up. rw (bytes_same m.stamp past) at
        (above_floor b 0 (in_order b past) m (rise_in_order b past) (members_were past m (has_from (received b past) m c)) up);
  }
