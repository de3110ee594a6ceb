-- One message that arrives: the list stays in order, and what was known stays so.
use Rattle.std.proofs.Common.{◌≡◌, ◌≤◌, ◌<◌, ℕ, true, false, Bool, List, [], ◌∷◌, arith, refl, sym, subst}
use Rattle.std.specs.Prelude.{nat_le, nat_lt, nat_eq, not, ◌&&◌, ◌||◌, if◌then◌else◌}
use Rattle.std.specs.List.{IsDistinct, AllByRecursion}
use Rattle.std.proofs.lemmas.Bool.Decides.{nat_tests}
use Rattle.std.proofs.lemmas.Bool.{eqb-true, le-leb, le-ltb, leb-false, leb-true, lt-ltb}
use Rattle.gossip.specs.declared.message.Message.{Message}
use Rattle.gossip.specs.declared.message.Arrived.{Arrived}
use Rattle.gossip.specs.declared.message.Arrived.TheVariants.{Listed, Passed, Refused, Oversize}
use Rattle.gossip.specs.Newest.{charge, is_sound, has_stamp, Rise}
use Rattle.gossip.specs.Held.{Held, IsHeld, Later, is_known, total, inserted, staying, floor_with, is_new, with_new, after, is_listed, listed, same_stamp, answer, is_put}
use Rattle.gossip.proofs.Keeping.{floor_rises, rise_inserted}
use Rattle.gossip.proofs.Shrinking.{total_staying}

pub none_left : (p q : Bool) → (p || q) ≡ false → p ≡ false
none_left true q h = (let no : ⊥ = cc in absurd no)
none_left false q h = refl

pub none_right : (p q : Bool) → (p || q) ≡ false → q ≡ false
none_right true q h = (let no : ⊥ = cc in absurd no)
none_right false q h = h

pub or_right : (a b : Bool) → b ≡ true → (a || b) ≡ true
or_right true b h = refl
or_right false b h = h

pub or_left : (a b : Bool) → a ≡ true → (a || b) ≡ true
or_left true b h = refl
or_left false true h = refl
or_left false false h = h

-- what stays is in order above the floor
pub rise_staying : (b f : ℕ) (xs : List Message) → Rise f xs → Rise (floor_with b f xs) (staying b xs)
rise_staying b f [] r = tt
rise_staying b f (x ∷ xs) r =
    elim (nat_le (total (x ∷ xs)) b) as (λ t. Rise (if t then f else floor_with b x.stamp xs) (if t then x ∷ xs else staying b xs)) [
      | true ↦ r
      | false ↦ rise_staying b x.stamp xs r.1
    ]

later_inserted : (m : Message) (xs : List Message) → m.prev < m.stamp → Later xs → Later (inserted m xs)
later_inserted m [] l r = (l, tt)
later_inserted m (x ∷ xs) l r =
    elim (nat_lt x.stamp m.stamp) as (λ t. Later (if t then x ∷ inserted m xs else m ∷ x ∷ xs)) [
      | true ↦ (r.0, later_inserted m xs l r.1)
      | false ↦ (l, r)
    ]

later_staying : (b : ℕ) (xs : List Message) → Later xs → Later (staying b xs)
later_staying b [] r = tt
later_staying b (x ∷ xs) r =
    elim (nat_le (total (x ∷ xs)) b) as (λ t. Later (if t then x ∷ xs else staying b xs)) [
      | true ↦ r
      | false ↦ later_staying b xs r.1
    ]

pub keeps_held : (h : Held) (m : Message) → m.prev < m.stamp → is_known m.stamp h ≡ false → IsHeld h → IsHeld (with_new h m)
keeps_held h m later new held =
    let up = leb-false m.stamp h.floor (none_left (nat_le m.stamp h.floor) (has_stamp m.stamp h.list) new) in
    let none = none_right (nat_le m.stamp h.floor) (has_stamp m.stamp h.list) new in
    record {
      rises = rise_staying h.budget h.floor (inserted m h.list) (rise_inserted h.floor m h.list up none held.rises);
      within = total_staying h.budget (inserted m h.list);
      later = later_staying h.budget (inserted m h.list) (later_inserted m h.list later held.later);
    }

sound_later : (p s : ℕ) (q k : Bool) → ((nat_lt p s && q) && k) ≡ true → p < s
sound_later p s q k h = grind (arith, nat_tests)

pub new_unknown : (p q : Bool) → (p && not q) ≡ true → q ≡ false
new_unknown true true e = (let no : ⊥ = cc in absurd no)
new_unknown true false e = refl
new_unknown false q e = (let no : ⊥ = cc in absurd no)

pub after_held : (h : Held) (m : Message) → IsHeld h → IsHeld (after h m)
after_held h m held =
    (elim (is_new h m) as (λ t. is_new h m ≡ t → IsHeld (if t then with_new h m else h)) [
      | true ↦ λ e. keeps_held h m (sound_later m.prev m.stamp (nat_le (charge m) h.budget) (not (is_known m.stamp h)) e) (new_unknown (is_sound h.budget m) (is_known m.stamp h) e) held
      | false ↦ λ e. held
    ]) refl

-- ---- what was known stays so

pub inserted_has : (s : ℕ) (m : Message) (xs : List Message) → has_stamp s (inserted m xs) ≡ (nat_eq m.stamp s || has_stamp s xs)
inserted_has s m [] = refl
inserted_has s m (x ∷ xs) =
    elim (nat_lt x.stamp m.stamp) as (λ t. has_stamp s (if t then x ∷ inserted m xs else m ∷ x ∷ xs) ≡ (nat_eq m.stamp s || (nat_eq x.stamp s || has_stamp s xs))) [
      | true ↦ rw (inserted_has s m xs) (swap (nat_eq x.stamp s) (nat_eq m.stamp s) (has_stamp s xs))
      | false ↦ refl
    ]
  where
    swap : (p q r : Bool) → (p || (q || r)) ≡ (q || (p || r))
    swap true true r = refl
    swap true false r = refl
    swap false true r = refl
    swap false false r = refl

stays_known : (b f s : ℕ) (xs : List Message) → Rise f xs → has_stamp s xs ≡ true
    → (nat_le s (floor_with b f xs) || has_stamp s (staying b xs)) ≡ true
stays_known b f s [] r h = (let no : ⊥ = cc in absurd no)
stays_known b f s (x ∷ xs) r h =
    elim (nat_le (total (x ∷ xs)) b) as (λ t. (nat_le s (if t then f else floor_with b x.stamp xs) || has_stamp s (if t then x ∷ xs else staying b xs)) ≡ true) [
      | true ↦ or_right (nat_le s f) (has_stamp s (x ∷ xs)) h
      | false ↦ (elim (nat_eq x.stamp s) as (λ t. nat_eq x.stamp s ≡ t → (t || has_stamp s xs) ≡ true
          → (nat_le s (floor_with b x.stamp xs) || has_stamp s (staying b xs)) ≡ true) [
            | true ↦ λ e g. (
                let same = eqb-true x.stamp s e in
                let up = floor_rises b x.stamp xs r.1 in
                or_left (nat_le s (floor_with b x.stamp xs)) (has_stamp s (staying b xs)) (le-leb s (floor_with b x.stamp xs) (omega (arith, same, up))))
            | false ↦ λ e g. stays_known b x.stamp s xs r.1 g
          ]) refl h
    ]

floor_up : (s a b : ℕ) → nat_le s a ≡ true → a ≤ b → nat_le s b ≡ true
floor_up s a b h g = (let l = leb-true s a h in le-leb s b (omega (arith, l, g)))

pub new_keeps : (s : ℕ) (h : Held) (m : Message) → IsHeld h → is_known m.stamp h ≡ false
    → (nat_eq m.stamp s || is_known s h) ≡ true → is_known s (with_new h m) ≡ true
new_keeps s h m held new k =
    let up = leb-false m.stamp h.floor (none_left (nat_le m.stamp h.floor) (has_stamp m.stamp h.list) new) in
    let none = none_right (nat_le m.stamp h.floor) (has_stamp m.stamp h.list) new in
    let rise = rise_inserted h.floor m h.list up none held.rises in
    let rises = floor_rises h.budget h.floor (inserted m h.list) rise in
    by_floor rise rises
  where
    mid : (p q r : Bool) → (p || (q || r)) ≡ true → q ≡ false → (p || r) ≡ true
    mid p true r h g = (let no : ⊥ = cc in absurd no)
    mid p false r h g = h

    by_floor : Rise h.floor (inserted m h.list) → h.floor ≤ floor_with h.budget h.floor (inserted m h.list) → is_known s (with_new h m) ≡ true
    by_floor rise rises =
        (elim (nat_le s h.floor) as (λ t. nat_le s h.floor ≡ t → is_known s (with_new h m) ≡ true) [
          | true ↦ λ e. or_left (nat_le s (floor_with h.budget h.floor (inserted m h.list))) (has_stamp s (staying h.budget (inserted m h.list)))
              (floor_up s h.floor (floor_with h.budget h.floor (inserted m h.list)) e rises)
          | false ↦ λ e. stays_known h.budget h.floor s (inserted m h.list) rise
              (rw inserted_has (mid (nat_eq m.stamp s) (nat_le s h.floor) (has_stamp s h.list) k e))
        ]) refl

pub known_stays : (s : ℕ) (h : Held) (m : Message) → IsHeld h → is_known s h ≡ true → is_known s (after h m) ≡ true
known_stays s h m held k =
    (elim (is_new h m) as (λ t. is_new h m ≡ t → is_known s (if t then with_new h m else h) ≡ true) [
      | true ↦ λ e. new_keeps s h m held (new_unknown (is_sound h.budget m) (is_known m.stamp h) e) (or_right (nat_eq m.stamp s) (is_known s h) k)
      | false ↦ λ e. k
    ]) refl

pub eq_self : (a : ℕ) → nat_eq a a ≡ true
eq_self a = grind (arith, nat_tests)

abbrev pub says : Bool → Bool → Bool → Bool → Arrived
says p k q r = if not p || k then Refused else (if not q then Oversize else (if r then Listed else Passed))

put_is_new : (p k q r : Bool) → is_put (says p k q r) ≡ true → ((p && q) && not k) ≡ true
put_is_new true false true r h = refl
put_is_new true true q r h = (let no : ⊥ = cc in absurd no)
put_is_new true false false r h = (let no : ⊥ = cc in absurd no)
put_is_new false k q r h = (let no : ⊥ = cc in absurd no)

pub listed_is_new : (h : Held) (m : Message) → is_listed h m ≡ true → is_new h m ≡ true
listed_is_new h m l = put_is_new (nat_lt m.prev m.stamp) (is_known m.stamp h) (nat_le (charge m) h.budget) (nat_lt (after h m).floor m.stamp) l

new_is_put : (p k q r : Bool) → ((p && q) && not k) ≡ true → r ≡ true → is_put (says p k q r) ≡ true
new_is_put true false true true h g = refl
new_is_put true false true false h g = (let no : ⊥ = cc in absurd no)
new_is_put true true true r h g = (let no : ⊥ = cc in absurd no)
new_is_put true true false r h g = (let no : ⊥ = cc in absurd no)
new_is_put true false false r h g = (let no : ⊥ = cc in absurd no)
new_is_put false k q r h g = (let no : ⊥ = cc in absurd no)

pub new_is_listed : (h : Held) (m : Message) → is_new h m ≡ true → nat_lt (after h m).floor m.stamp ≡ true → is_listed h m ≡ true
new_is_listed h m e f = new_is_put (nat_lt m.prev m.stamp) (is_known m.stamp h) (nat_le (charge m) h.budget) (nat_lt (after h m).floor m.stamp) e f

pub known_now : (h : Held) (m : Message) → IsHeld h → is_listed h m ≡ true → is_known m.stamp (after h m) ≡ true
known_now h m held l =
    let e : is_new h m ≡ true = listed_is_new h m l in
    rw e (new_keeps m.stamp h m held (new_unknown (is_sound h.budget m) (is_known m.stamp h) e) (or_left (nat_eq m.stamp m.stamp) (is_known m.stamp h) (eq_self m.stamp)))

-- ---- once

known_says : (p q r : Bool) → is_put (says p true q r) ≡ false
known_says true q r = refl
known_says false q r = refl

known_not_listed : (h : Held) (m : Message) → is_known m.stamp h ≡ true → is_listed h m ≡ false
known_not_listed h m k =
    subst (λ (t : Bool). is_put (says (nat_lt m.prev m.stamp) t (nat_le (charge m) h.budget) (nat_lt (after h m).floor m.stamp)) ≡ false)
    (sym k) (known_says (nat_lt m.prev m.stamp) (nat_le (charge m) h.budget) (nat_lt (after h m).floor m.stamp))

misses : (n : Message) (h : Held) (ms : List Message) → IsHeld h → is_known n.stamp h ≡ true
    → AllByRecursion (λ m. same_stamp n m ≡ false) (listed h ms)
misses n h [] held k = tt
misses n h (m ∷ ms) held k =
    (elim (is_listed h m) as (λ t. is_listed h m ≡ t → AllByRecursion (λ m. same_stamp n m ≡ false) (if t then m ∷ listed (after h m) ms else listed (after h m) ms)) [
      | true ↦ λ e. (differs e, misses n (after h m) ms (after_held h m held) (known_stays n.stamp h m held k))
      | false ↦ λ e. misses n (after h m) ms (after_held h m held) (known_stays n.stamp h m held k)
    ]) refl
  where
    differs : is_listed h m ≡ true → same_stamp n m ≡ false
    differs e =
        (elim (nat_eq n.stamp m.stamp) as (λ t. nat_eq n.stamp m.stamp ≡ t → t ≡ false) [
          | true ↦ λ g. (
              let same = eqb-true n.stamp m.stamp g in
              let k' : is_known m.stamp h ≡ true = subst (λ (s : ℕ). is_known s h ≡ true) same k in
              let no = known_not_listed h m k' in
              cc)
          | false ↦ λ g. refl
        ]) refl

pub once : (h : Held) (ms : List Message) → IsHeld h → IsDistinct same_stamp (listed h ms)
unfolding IsDistinct
once h [] held = tt
once h (m ∷ ms) held =
    (elim (is_listed h m) as (λ t. is_listed h m ≡ t → IsDistinct same_stamp (if t then m ∷ listed (after h m) ms else listed (after h m) ms)) [
      | true ↦ λ e. (misses m (after h m) ms (after_held h m held) (known_now h m held e), once (after h m) ms (after_held h m held))
      | false ↦ λ e. once (after h m) ms (after_held h m held)
    ]) refl

-- ---- answers

module _ (h : Held) (m : Message) (later : m.prev < m.stamp) (new : is_known m.stamp h ≡ false) (fits : charge m ≤ h.budget) where
  pub listed_answer : (with_new h m).floor < m.stamp → answer h m ≡ Listed
  listed_answer l = rw (lt-ltb m.prev m.stamp later, new, le-leb (charge m) h.budget fits, lt-ltb (with_new h m).floor m.stamp l) refl

  pub passed_answer : m.stamp ≤ (with_new h m).floor → answer h m ≡ Passed
  passed_answer l = rw (lt-ltb m.prev m.stamp later, new, le-leb (charge m) h.budget fits, le-ltb (with_new h m).floor m.stamp l) refl
