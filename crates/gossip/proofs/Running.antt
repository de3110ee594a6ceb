-- What messages leave, one after another.
use Rattle.std.proofs.Common.{◌≡◌, ◌<◌, ℕ, true, false, List, [], ◌∷◌, arith, refl, sym, subst, ◌⊎◌, inl, inr, Contains}
use Rattle.std.specs.Prelude.{nat_le, if◌then◌else◌}
use Rattle.std.proofs.lemmas.Bool.{leb-false, lt-ltb}
use Rattle.gossip.specs.declared.message.Message.{Message}
use Rattle.gossip.specs.Newest.{is_sound, has_stamp}
use Rattle.gossip.specs.Held.{Held, IsHeld, is_known, inserted, staying, floor_with, is_new, with_new, after, after_all, is_listed, listed, heard}
use Rattle.gossip.specs.Members.{Has}
use Rattle.gossip.proofs.Keeping.{in_order, plain, kept, all_more, rise_inserted}
use Rattle.gossip.proofs.Arriving.{after_held, rise_staying, new_unknown, new_is_listed, none_left, none_right}
use Rattle.gossip.proofs.Fitting.{has_from, contains_from, stays_fits, has_inserted, above}

empty_is : (h : Held) → h.floor ≡ 0 → h.list ≡ [] → h ≡ plain h.budget 0 []
empty_is h f l = subst (λ (k : ℕ). h ≡ plain h.budget k []) f (subst (λ (xs : List Message). h ≡ plain h.budget h.floor xs) l refl)

pub empty_held : (h : Held) → h.floor ≡ 0 → h.list ≡ [] → IsHeld h
empty_held h f l = subst IsHeld (sym (empty_is h f l)) (record { rises = tt; within = omega arith; later = tt })

pub final : (h : Held) (ms : List Message) → h.floor ≡ 0 → h.list ≡ []
    → after_all h ms ≡ kept h.budget 0 (in_order h.budget (heard ms []))
final h ms f l = subst (λ (k : Held). after_all k ms ≡ kept h.budget 0 (in_order h.budget (heard ms []))) (sym (empty_is h f l)) (all_more h.budget ms [])

pub all_held : (h : Held) (ms : List Message) → IsHeld h → IsHeld (after_all h ms)
all_held h [] held = held
all_held h (m ∷ ms) held = all_held (after h m) ms (after_held h m held)

-- what is on the list after a message was there, or is the message, and that is listed
came : (h : Held) (m n : Message) → IsHeld h → Has (after h m).list n → Has h.list n ⊎ ((m ≡ n) × (is_listed h m ≡ true))
came h m n held there =
    (elim (is_new h m) as (λ t. is_new h m ≡ t → Has (if t then with_new h m else h).list n → Has h.list n ⊎ ((m ≡ n) × (is_listed h m ≡ true))) [
      | true ↦ λ e g. by e g (new_unknown (is_sound h.budget m) (is_known m.stamp h) e)
      | false ↦ λ e g. inl g
    ]) refl there
  where
    by : is_new h m ≡ true → Has (staying h.budget (inserted m h.list)) n → is_known m.stamp h ≡ false → Has h.list n ⊎ ((m ≡ n) × (is_listed h m ≡ true))
    by e g new =
        let up = leb-false m.stamp h.floor (none_left (nat_le m.stamp h.floor) (has_stamp m.stamp h.list) new) in
        let none = none_right (nat_le m.stamp h.floor) (has_stamp m.stamp h.list) new in
        let rise = rise_inserted h.floor m h.list up none held.rises in
        let in_it = stays_fits h.budget h.floor (inserted m h.list) n rise g in
        let high = above (floor_with h.budget h.floor (inserted m h.list)) (staying h.budget (inserted m h.list)) n (rise_staying h.budget h.floor (inserted m h.list) rise) g in
        elim (has_inserted m h.list n in_it.0) [
          | inl same ↦ (
              let high' : floor_with h.budget h.floor (inserted m h.list) < m.stamp = subst (λ (y : Message). floor_with h.budget h.floor (inserted m h.list) < y.stamp) (sym same) high in
              inr (same, new_is_listed h m e (rw e (lt-ltb (floor_with h.budget h.floor (inserted m h.list)) m.stamp high'))))
          | inr old ↦ inl old
        ]

kept_listed : (h : Held) (ms : List Message) (n : Message) → IsHeld h → Has (after_all h ms).list n → Has h.list n ⊎ Has (listed h ms) n
kept_listed h [] n held there = inl there
kept_listed h (m ∷ ms) n held there =
    elim (kept_listed (after h m) ms n (after_held h m held) there) [
      | inl before ↦ elim (came h m n held before) [
        | inl old ↦ inl old
        | inr new ↦ inr (rw new.1 (inl new.0))
      ]
      | inr after_it ↦ inr (elim (is_listed h m) as (λ t. Has (if t then m ∷ listed (after h m) ms else listed (after h m) ms) n) [
        | true ↦ inr after_it
        | false ↦ after_it
      ])
    ]

pub delivered : (h : Held) (ms : List Message) (n : Message) → h.floor ≡ 0 → h.list ≡ [] → Contains (after_all h ms).list n → Contains (listed h ms) n
delivered h ms n f l c =
    elim (kept_listed h ms n (empty_held h f l) (has_from (after_all h ms).list n c)) [
      | inl old ↦ absurd (let no : Has [] n = subst (λ (xs : List Message). Has xs n) l old in no)
      | inr new ↦ contains_from (listed h ms) n new
    ]
