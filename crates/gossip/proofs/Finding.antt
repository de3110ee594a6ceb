-- Where a stamp stands on a list whose stamps rise.
use Rattle.std.proofs.Common.{◌≡◌, ◌≤◌, ◌<◌, ℕ, zero, suc, ◌+◌, ◌-◌, true, false, List, [], ◌∷◌, length, get_or, arith, refl, sym, subst, ap, ◌∙◌, Some, None, Bool, inl, inr, Contains}
use Rattle.std.specs.Prelude.{nat_lt, nat_le, nat_eq, ◌||◌, if◌then◌else◌, slice_get, is_some}
use Rattle.std.specs.List.{AllWithin, insert}
use Rattle.std.specs.List.Sorted.{IsNonDecreasingBy}
use Rattle.std.proofs.lemmas.Bool.Decides.{nat_tests}
use Rattle.std.proofs.lemmas.Bool.{le-leb, leb-true, leb-false, cases_lt}
use Rattle.std.proofs.lemmas.Option.{slice_get-get_or, slice_get_within, get_or_from_slice_get}
use Rattle.gossip.specs.declared.message.Message.{Message}
use Rattle.gossip.specs.Newest.{has_stamp, Rise}
use Rattle.gossip.specs.Held.{find, inserted}
use Rattle.gossip.specs.Placing.{up_to}

abbrev blank : Message
blank = record { prev = 0; stamp = 0; bytes = 0; handle = 0 }

above : (f : ℕ) (xs : List Message) → Rise f xs → (k : ℕ) (d : Message) → k < length xs → f < (get_or xs k d).stamp
above f [] r k d h = absurd (let no : ⊥ = omega (arith, h) in no)
above f (x ∷ xs) r zero d h = r.0
above f (x ∷ xs) r (suc k) d h = (let i = above x.stamp xs r.1 k d (omega (arith, h)) in let l = r.0 in omega (arith, i, l))

pub ordered : (f : ℕ) (xs : List Message) → Rise f xs → IsNonDecreasingBy (λ m. m.stamp) xs
ordered f [] r i j d le lt = absurd (let no : ⊥ = omega (arith, lt) in no)
ordered f (x ∷ xs) r zero zero d le lt = omega arith
ordered f (x ∷ xs) r zero (suc j) d le lt = (let a = above x.stamp xs r.1 j d (omega (arith, lt)) in omega (arith, a))
ordered f (x ∷ xs) r (suc i) zero d le lt = absurd (let no : ⊥ = omega (arith, le) in no)
ordered f (x ∷ xs) r (suc i) (suc j) d le lt = ordered x.stamp xs r.1 i j d (omega (arith, le)) (omega (arith, lt))

pub counted : (s : ℕ) (xs : List Message) (c : ℕ) → c ≤ length xs
    → AllWithin (λ m. nat_le m.stamp s ≡ true) xs 0 c → AllWithin (λ m. nat_le m.stamp s ≡ false) xs c (length xs) → c ≡ up_to s xs
counted s [] zero h front back = refl
counted s [] (suc c) h front back = absurd (let no : ⊥ = omega (arith, h) in no)
counted s (x ∷ xs) zero h front back = (let e = back 0 blank (omega arith) (omega arith) in rw e refl)
counted s (x ∷ xs) (suc c) h front back =
    let i = counted s xs c (omega (arith, h)) (λ k d l g. front (suc k) d (omega arith) (omega (arith, g)))
    (λ k d l g. back (suc k) d (omega (arith, l)) (omega (arith, g))) in
    let e = front 0 blank (omega arith) (omega arith) in
    rw e (ap (λ (n : ℕ). suc n) i)

-- all are up to a stamp that the last is up to
pub all_counted : (f s : ℕ) (xs : List Message) (last : Message) → Rise f xs → get_or xs (length xs - 1) last ≡ last → last.stamp ≤ s
    → length xs ≡ up_to s xs
all_counted f s xs last r e h = counted s xs (length xs) (omega arith) low (λ k d l g. absurd (let no : ⊥ = omega (arith, l, g) in no))
  where
    any : (xs : List Message) (k : ℕ) (d e : Message) → k < length xs → get_or xs k d ≡ get_or xs k e
    any [] k d e h = absurd (let no : ⊥ = omega (arith, h) in no)
    any (x ∷ xs) zero d e h = refl
    any (x ∷ xs) (suc k) d e h = any xs k d e (omega (arith, h))

    low : AllWithin (λ m. nat_le m.stamp s ≡ true) xs 0 (length xs)
    low k d l g =
        let o = ordered f xs r k (length xs - 1) last (omega (arith, g)) (omega (arith, g)) in
        let same : get_or xs k d ≡ get_or xs k last = any xs k d last g in
        let o' : (get_or xs k last).stamp ≤ last.stamp = subst (λ (m : Message). (get_or xs k last).stamp ≤ m.stamp) e o in
        rw same (le-leb (get_or xs k last).stamp s (omega (arith, o', h)))

module _ (s : ℕ) where
  none_later : (f : ℕ) (xs : List Message) → Rise f xs → s ≤ f → find s xs ≡ None
  none_later f [] r h = refl
  none_later f (x ∷ xs) r h =
      let l = r.0 in
      let ne : nat_eq x.stamp s ≡ false = grind (arith, nat_tests, l, h) in
      rw ne (none_later x.stamp xs r.1 (omega (arith, h, l)))

  pub not_found : (f : ℕ) (xs : List Message) → Rise f xs → up_to s xs ≡ 0 → find s xs ≡ None
  not_found f [] r e = refl
  not_found f (x ∷ xs) r e =
      (elim (nat_le x.stamp s) as (λ t. nat_le x.stamp s ≡ t → (if t then suc (up_to s xs) else 0) ≡ 0 → find s (x ∷ xs) ≡ None) [
        | true ↦ λ g no. absurd (let n : ⊥ = omega (arith, no) in n)
        | false ↦ λ g no. (
            let up = leb-false x.stamp s g in
            let ne : nat_eq x.stamp s ≡ false = grind (arith, nat_tests, up) in
            rw ne (none_later x.stamp xs r.1 (omega (arith, up))))
      ]) refl e

  up : (f k : ℕ) (xs : List Message) → Rise f xs → up_to s xs ≡ suc k → f < s
  up f k [] r e = absurd (let no : ⊥ = omega (arith, e) in no)
  up f k (x ∷ xs) r e =
      (elim (nat_le x.stamp s) as (λ t. nat_le x.stamp s ≡ t → (if t then suc (up_to s xs) else 0) ≡ suc k → f < s) [
        | true ↦ λ g h. (let l = r.0 in let le = leb-true x.stamp s g in omega (arith, l, le))
        | false ↦ λ g h. absurd (let no : ⊥ = omega (arith, h) in no)
      ]) refl e

  pub found : (f k : ℕ) (xs : List Message) (d : Message) → Rise f xs → up_to s xs ≡ suc k
      → find s xs ≡ (if nat_eq (get_or xs k d).stamp s then Some (get_or xs k d) else None)
  found f k [] d r e = absurd (let no : ⊥ = omega (arith, e) in no)
  found f zero (x ∷ xs) d r e =
      (elim (nat_le x.stamp s) as (λ t. (if t then suc (up_to s xs) else 0) ≡ 1 → find s (x ∷ xs) ≡ (if nat_eq x.stamp s then Some x else None)) [
        | true ↦ λ g. (let none = not_found x.stamp xs r.1 (omega (arith, g)) in rw none refl)
        | false ↦ λ g. absurd (let no : ⊥ = omega (arith, g) in no)
      ]) e
  found f (suc k) (x ∷ xs) d r e =
      (elim (nat_le x.stamp s) as (λ t. (if t then suc (up_to s xs) else 0) ≡ suc (suc k)
      → find s (x ∷ xs) ≡ (if nat_eq (get_or xs k d).stamp s then Some (get_or xs k d) else None)) [
        | true ↦ λ g. (
            let rest : up_to s xs ≡ suc k = omega (arith, g) in
            let low = up x.stamp k xs r.1 rest in
            let ne : nat_eq x.stamp s ≡ false = grind (arith, nat_tests, low) in
            rw ne (found x.stamp k xs d r.1 rest))
        | false ↦ λ g. absurd (let no : ⊥ = omega (arith, g) in no)
      ]) e

  -- the message in front of the place of the stamp is the one of the stamp, if there is one
  pub found_at : (f c : ℕ) (xs : List Message) (it : Message) → Rise f xs → c ≡ up_to s xs → 0 < c → it ≡ get_or xs (c - 1) it
      → find s xs ≡ (if nat_eq it.stamp s then Some it else None)
  found_at f c xs it r e pos at =
      rw (found f (c - 1) xs it r (omega (arith, e, pos)), ← at) refl

  pub find_has : (xs : List Message) → is_some (find s xs) ≡ has_stamp s xs
  find_has [] = refl
  find_has (x ∷ xs) =
      elim (nat_eq x.stamp s) as (λ t. is_some (if t then Some x else find s xs) ≡ (t || has_stamp s xs)) [
        | true ↦ refl
        | false ↦ find_has xs
      ]

  -- ---- a message behind those up to a stamp, and those up to it

  pub behind : (f i : ℕ) (xs : List Message) (m : Message) → Rise f xs → slice_get xs i ≡ Some m → m.stamp ≤ s → i < up_to s xs
  behind f i [] m r e h = (let no : ⊥ = cc in absurd no)
  behind f zero (x ∷ xs) m r e h =
      let same : x ≡ m = cc in
      rw (le-leb x.stamp s (rw same h)) (omega arith)
  behind f (suc i) (x ∷ xs) m r e h =
      let j = behind x.stamp i xs m r.1 e h in
      let low = above_at x.stamp i xs m r.1 e in
      rw (le-leb x.stamp s (omega (arith, low, h))) (omega (arith, j))
    where
      above_at : (f i : ℕ) (xs : List Message) (m : Message) → Rise f xs → slice_get xs i ≡ Some m → f < m.stamp
      above_at f i [] m r e = (let no : ⊥ = cc in absurd no)
      above_at f zero (x ∷ xs) m r e = (let same : x ≡ m = cc in rw (← same) r.0)
      above_at f (suc i) (x ∷ xs) m r e = (let l = r.0 in let h = above_at x.stamp i xs m r.1 e in omega (arith, l, h))

  pub low : (k : ℕ) (xs : List Message) (m : Message) → k < up_to s xs → slice_get xs k ≡ Some m → m.stamp ≤ s
  low k [] m h e = (let no : ⊥ = cc in absurd no)
  low zero (x ∷ xs) m h e =
      (elim (nat_le x.stamp s) as (λ t. nat_le x.stamp s ≡ t → 0 < (if t then suc (up_to s xs) else 0) → m.stamp ≤ s) [
        | true ↦ λ g l. (let same : x ≡ m = cc in rw (← same) (leb-true x.stamp s g))
        | false ↦ λ g l. absurd (let no : ⊥ = omega (arith, l) in no)
      ]) refl h
  low (suc k) (x ∷ xs) m h e =
      (elim (nat_le x.stamp s) as (λ t. suc k < (if t then suc (up_to s xs) else 0) → m.stamp ≤ s) [
        | true ↦ λ l. low k xs m (omega (arith, l)) e
        | false ↦ λ l. absurd (let no : ⊥ = omega (arith, l) in no)
      ]) h

-- ---- by index

pub there : (xs : List Message) (i : ℕ) (it : Message) → i < length xs → it ≡ get_or xs i it → slice_get xs i ≡ Some it
there xs i it lt e = slice_get-get_or xs i it lt ∙ ap (λ (x : Message). Some x) (sym e)

pub contained : (xs : List Message) (m : Message) → Contains xs m → (k : ℕ) × (slice_get xs k ≡ Some m)
contained xs m c = (c.0, there xs c.0 m c.1 (sym c.2))

order : (f i k : ℕ) (xs : List Message) (a b : Message) → Rise f xs → i ≤ k → slice_get xs i ≡ Some a → slice_get xs k ≡ Some b → a.stamp ≤ b.stamp
order f i k xs a b r le e g =
    let o = ordered f xs r i k b le (slice_get_within xs k b g) in
    rw (get_or_from_slice_get xs i a b e, get_or_from_slice_get xs k b b g) at o

-- what holds before an index, and from it on up to a stamp, holds up to the stamp's place
pub up_to_place : (f s i : ℕ) (xs : List Message) (it : Message) (P : Message → Type 0) → Rise f xs → slice_get xs i ≡ Some it
    → ((k : ℕ) (m : Message) → k < i → slice_get xs k ≡ Some m → P m) → ((m : Message) → it.stamp ≤ m.stamp → m.stamp ≤ s → P m)
    → (k : ℕ) (m : Message) → k < up_to s xs → slice_get xs k ≡ Some m → P m
up_to_place f s i xs it P r e before upto k m lt g =
    elim (cases_lt k i) [
      | inl less ↦ before k m less g
      | inr more ↦ upto m (order f i k xs it m r more e g) (low s k xs m lt g)
    ]

-- what holds before an index, and at it, holds before the next
pub one_further : (i : ℕ) (xs : List Message) (it : Message) (test : Message → Bool) → slice_get xs i ≡ Some it
    → ((k : ℕ) (m : Message) → k < i → slice_get xs k ≡ Some m → test m ≡ false) → test it ≡ false
    → (k : ℕ) (m : Message) → k < i + 1 → slice_get xs k ≡ Some m → test m ≡ false
one_further i xs it test e before fails k m lt g =
    elim (cases_lt k i) [
      | inl less ↦ before k m less g
      | inr more ↦ (
          let same : k ≡ i = omega (arith, more, lt) in
          let g' : slice_get xs i ≡ Some m = rw same at g in
          let one : it ≡ m = cc in
          rw (← one) fails)
    ]

-- the message at an index before which none passes a test is the least that does
pub least : (f i : ℕ) (xs : List Message) (it : Message) (test : Message → Bool) → Rise f xs → slice_get xs i ≡ Some it
    → ((k : ℕ) (m : Message) → k < i → slice_get xs k ≡ Some m → test m ≡ false) → (m : Message) → Contains xs m → test m ≡ true → it.stamp ≤ m.stamp
least f i xs it test r e before m c passes =
    let at = contained xs m c in
    elim (cases_lt at.0 i) as (λ _. it.stamp ≤ m.stamp) [
      | inl less ↦ (let fails = before at.0 m less at.1 in let none : ⊥ = cc in absurd none)
      | inr more ↦ order f i at.0 xs it m r more e at.1
    ]

pub insert_placed : (f : ℕ) (m : Message) (xs : List Message) → Rise f xs → has_stamp m.stamp xs ≡ false → insert xs (up_to m.stamp xs) m ≡ inserted m xs
insert_placed f m [] r none = refl
insert_placed f m (x ∷ xs) r none =
    (elim (nat_eq x.stamp m.stamp) as (λ t. nat_eq x.stamp m.stamp ≡ t → (t || has_stamp m.stamp xs) ≡ false
    → insert (x ∷ xs) (up_to m.stamp (x ∷ xs)) m ≡ inserted m (x ∷ xs)) [
      | true ↦ λ e no. (let n : ⊥ = cc in absurd n)
      | false ↦ λ e no. (elim (nat_le x.stamp m.stamp) as (λ t. nat_le x.stamp m.stamp ≡ t
          → insert (x ∷ xs) (if t then suc (up_to m.stamp xs) else 0) m ≡ (if nat_lt x.stamp m.stamp then x ∷ inserted m xs else m ∷ x ∷ xs)) [
            | true ↦ λ g. (
                let lt : nat_lt x.stamp m.stamp ≡ true = grind (arith, nat_tests, e, g) in
                rw lt (ap (λ (ys : List Message). x ∷ ys) (insert_placed x.stamp m xs r.1 no)))
            | false ↦ λ g. (
                let lt : nat_lt x.stamp m.stamp ≡ false = grind (arith, nat_tests, e, g) in
                rw lt refl)
          ]) refl
    ]) refl none
