-- The newest messages that fit, as a list in order that a message changes.
use Rattle.std.proofs.Common.{◌≡◌, ◌≤◌, ◌<◌, ℕ, ◌+◌, true, false, Bool, List, [], ◌∷◌, arith, refl, sym, subst, ◌∙◌}
use Rattle.std.specs.Prelude.{nat_le, nat_lt, nat_eq, not, ◌&&◌, ◌||◌, if◌then◌else◌}
use Rattle.std.proofs.lemmas.Bool.Decides.{nat_tests}
use Rattle.std.proofs.lemmas.Bool.{eqb-false, le-leb, leb-false, lt-leb, ltb-false, ltb-true}
use Rattle.gossip.specs.declared.message.Message.{Message}
use Rattle.gossip.specs.Newest.{charge, is_sound, has_stamp, Rise}
use Rattle.gossip.specs.Held.{Held, total, inserted, staying, floor_with, with_new, after, after_all, heard}
use Rattle.gossip.proofs.Shrinking.{total_inserted}

eq_false : (a b : ℕ) → a < b → nat_eq a b ≡ false
eq_false a b h = grind (arith, nat_tests)

-- ---- what is kept of messages in order

-- the sound messages of a history in order, of each stamp the first
abbrev pub in_order : ℕ → List Message → List Message
in_order b [] = []
in_order b (m ∷ past) =
    if is_sound b m && not (has_stamp m.stamp (in_order b past)) then inserted m (in_order b past)
    else in_order b past

abbrev pub plain : ℕ → ℕ → List Message → Held
plain b f xs = record { budget = b; floor = f; list = xs }

abbrev pub kept : ℕ → ℕ → List Message → Held
kept b f xs = plain b (floor_with b f xs) (staying b xs)

module _ (b f : ℕ) (x : Message) (xs : List Message) where
  kept_within : nat_le (total (x ∷ xs)) b ≡ true → kept b f (x ∷ xs) ≡ plain b f (x ∷ xs)
  kept_within e = rw e refl

  kept_over : nat_le (total (x ∷ xs)) b ≡ false → kept b f (x ∷ xs) ≡ kept b x.stamp xs
  kept_over e = rw e refl

pub floor_rises : (b f : ℕ) (xs : List Message) → Rise f xs → f ≤ floor_with b f xs
floor_rises b f [] r = omega arith
floor_rises b f (x ∷ xs) r =
    elim (nat_le (total (x ∷ xs)) b) as (λ t. f ≤ (if t then f else floor_with b x.stamp xs)) [
      | true ↦ omega arith
      | false ↦ (let i = floor_rises b x.stamp xs r.1 in let l = r.0 in omega (arith, i, l))
    ]

-- a message up to the floor changes nothing
after_low : (h : Held) (m : Message) → m.stamp ≤ h.floor → after h m ≡ h
after_low h m low =
    rw (le-leb m.stamp h.floor low)
    (elim (is_sound h.budget m) as (λ t. (if t && false then with_new h m else h) ≡ h) [
      | true ↦ refl
      | false ↦ refl
    ])

after_unsound : (h : Held) (m : Message) → is_sound h.budget m ≡ false → after h m ≡ h
after_unsound h m e = rw e refl

after_plain : (b f : ℕ) (m : Message) (ys : List Message) → is_sound b m ≡ true → f < m.stamp
    → after (plain b f ys) m ≡ (if has_stamp m.stamp ys then plain b f ys else kept b f (inserted m ys))
after_plain b f m ys sound up =
    rw (sound, lt-leb m.stamp f up)
    (elim (has_stamp m.stamp ys) as (λ t. (if not t then kept b f (inserted m ys) else plain b f ys) ≡ (if t then plain b f ys else kept b f (inserted m ys))) [
      | true ↦ refl
      | false ↦ refl
    ])

over_more : (m x : Message) (xs : List Message) (b : ℕ) → nat_le (total (x ∷ xs)) b ≡ false → nat_le (total (x ∷ inserted m xs)) b ≡ false
over_more m x xs b e =
    let h : b < charge x + total xs = leb-false (total (x ∷ xs)) b e in
    let i = total_inserted m xs in
    lt-leb (total (x ∷ inserted m xs)) b (omega (arith, h, i))

over_front : (m x : Message) (xs : List Message) (b : ℕ) → nat_le (total (x ∷ xs)) b ≡ false → nat_le (total (m ∷ x ∷ xs)) b ≡ false
over_front m x xs b e =
    let h : b < charge x + total xs = leb-false (total (x ∷ xs)) b e in
    lt-leb (total (m ∷ x ∷ xs)) b (omega (arith, h))

-- what was let go before does not matter for what is kept after one more message
abbrev Steps : ℕ → ℕ → Message → List Message → Type 0
Steps b f m xs = after (kept b f xs) m ≡ (if has_stamp m.stamp xs then kept b f xs else kept b f (inserted m xs))

module _ (b f : ℕ) (m x : Message) (xs : List Message) (e : nat_le (total (x ∷ xs)) b ≡ false) (rise : Rise x.stamp xs) where
  later : nat_lt x.stamp m.stamp ≡ true → Steps b x.stamp m xs
      → after (kept b x.stamp xs) m ≡ (if nat_eq x.stamp m.stamp || has_stamp m.stamp xs then kept b x.stamp xs else kept b f (x ∷ inserted m xs))
  later l ih =
      let lt = ltb-true x.stamp m.stamp l in
      rw (eq_false x.stamp m.stamp lt, kept_over b f x (inserted m xs) (over_more m x xs b e)) ih

  earlier : nat_lt x.stamp m.stamp ≡ false
      → after (kept b x.stamp xs) m ≡ (if has_stamp m.stamp (x ∷ xs) then kept b x.stamp xs else kept b f (m ∷ x ∷ xs))
  earlier l =
      let low = ltb-false x.stamp m.stamp l in
      let up = floor_rises b x.stamp xs rise in
      let same : after (kept b x.stamp xs) m ≡ kept b x.stamp xs = after_low (kept b x.stamp xs) m (omega (arith, low, up)) in
      same ∙ (elim (has_stamp m.stamp (x ∷ xs)) as (λ t. kept b x.stamp xs ≡ (if t then kept b x.stamp xs else kept b f (m ∷ x ∷ xs))) [
        | true ↦ refl
        | false ↦ sym (kept_over b f m (x ∷ xs) (over_front m x xs b e) ∙ kept_over b m.stamp x xs e)
      ])

  over : (x.stamp < m.stamp → Steps b x.stamp m xs)
      → after (kept b x.stamp xs) m ≡ (if has_stamp m.stamp (x ∷ xs) then kept b x.stamp xs else kept b f (inserted m (x ∷ xs)))
  over ih =
      (elim (nat_lt x.stamp m.stamp) as (λ t. nat_lt x.stamp m.stamp ≡ t
      → after (kept b x.stamp xs) m ≡ (if has_stamp m.stamp (x ∷ xs) then kept b x.stamp xs else kept b f (if t then x ∷ inserted m xs else m ∷ x ∷ xs))) [
        | true ↦ λ l. later l (ih (ltb-true x.stamp m.stamp l))
        | false ↦ λ l. earlier l
      ]) refl

pub step : (b f : ℕ) (m : Message) (xs : List Message) → is_sound b m ≡ true → f < m.stamp → Rise f xs → Steps b f m xs
step b f m [] sound up rise = after_plain b f m [] sound up
step b f m (x ∷ xs) sound up rise =
    (elim (nat_le (total (x ∷ xs)) b) as (λ t. nat_le (total (x ∷ xs)) b ≡ t → Steps b f m (x ∷ xs)) [
      | true ↦ λ e. subst (λ (k : Held). after k m ≡ (if has_stamp m.stamp (x ∷ xs) then k else kept b f (inserted m (x ∷ xs))))
          (sym (kept_within b f x xs e)) (after_plain b f m (x ∷ xs) sound up)
      | false ↦ λ e. subst (λ (k : Held). after k m ≡ (if has_stamp m.stamp (x ∷ xs) then k else kept b f (inserted m (x ∷ xs))))
          (sym (kept_over b f x xs e)) (over b f m x xs e rise.1 (λ lt. step b x.stamp m xs sound lt rise.1))
    ]) refl

-- ---- the messages of a history in order

rise_lower : (f g : ℕ) (xs : List Message) → f ≤ g → Rise g xs → Rise f xs
rise_lower f g [] h r = tt
rise_lower f g (x ∷ xs) h r = (let l = r.0 in (omega (arith, h, l), r.1))

pub rise_inserted : (f : ℕ) (m : Message) (xs : List Message) → f < m.stamp → has_stamp m.stamp xs ≡ false → Rise f xs → Rise f (inserted m xs)
rise_inserted f m [] up none r = (up, tt)
rise_inserted f m (x ∷ xs) up none r =
    (elim (nat_lt x.stamp m.stamp) as (λ t. nat_lt x.stamp m.stamp ≡ t → Rise f (if t then x ∷ inserted m xs else m ∷ x ∷ xs)) [
      | true ↦ λ e. (r.0, rise_inserted x.stamp m xs (ltb-true x.stamp m.stamp e) (none_right (nat_eq x.stamp m.stamp) (has_stamp m.stamp xs) none) r.1)
      | false ↦ λ e. (up, (before e, r.1))
    ]) refl
  where
    none_right : (p q : Bool) → (p || q) ≡ false → q ≡ false
    none_right true q h = (let no : ⊥ = cc in absurd no)
    none_right false q h = h

    none_left : (p q : Bool) → (p || q) ≡ false → p ≡ false
    none_left true q h = (let no : ⊥ = cc in absurd no)
    none_left false q h = refl

    before : nat_lt x.stamp m.stamp ≡ false → m.stamp < x.stamp
    before e =
        let l = ltb-false x.stamp m.stamp e in
        let ne = eqb-false x.stamp m.stamp (none_left (nat_eq x.stamp m.stamp) (has_stamp m.stamp xs) none) in
        omega (arith, l, ne)

sound_later : (b : ℕ) (m : Message) → is_sound b m ≡ true → 0 < m.stamp
sound_later b m h = positive m.prev m.stamp (nat_le (charge m) b) h
  where
    positive : (p s : ℕ) (q : Bool) → (nat_lt p s && q) ≡ true → 0 < s
    positive p s q h = grind (arith, nat_tests)

pub rise_in_order : (b : ℕ) (past : List Message) → Rise 0 (in_order b past)
rise_in_order b [] = tt
rise_in_order b (m ∷ past) =
    (elim (is_sound b m) as (λ t. is_sound b m ≡ t → Rise 0 (if t && not (has_stamp m.stamp (in_order b past)) then inserted m (in_order b past) else in_order b past)) [
      | true ↦ λ e. (elim (has_stamp m.stamp (in_order b past)) as (λ t. has_stamp m.stamp (in_order b past) ≡ t
          → Rise 0 (if not t then inserted m (in_order b past) else in_order b past)) [
            | true ↦ λ g. rise_in_order b past
            | false ↦ λ g. rise_inserted 0 m (in_order b past) (sound_later b m e) g (rise_in_order b past)
          ]) refl
      | false ↦ λ e. rise_in_order b past
    ]) refl

-- one more message of a history
pub one_more : (b : ℕ) (m : Message) (past : List Message)
    → after (kept b 0 (in_order b past)) m ≡ kept b 0 (in_order b (m ∷ past))
one_more b m past =
    (elim (is_sound b m) as (λ t. is_sound b m ≡ t → after (kept b 0 (in_order b past)) m
    ≡ kept b 0 (if t && not (has_stamp m.stamp (in_order b past)) then inserted m (in_order b past) else in_order b past)) [
      | true ↦ λ e. step b 0 m (in_order b past) e (sound_later b m e) (rise_in_order b past)
          ∙ (elim (has_stamp m.stamp (in_order b past)) as (λ t. (if t then kept b 0 (in_order b past) else kept b 0 (inserted m (in_order b past)))
          ≡ kept b 0 (if not t then inserted m (in_order b past) else in_order b past)) [
            | true ↦ refl
            | false ↦ refl
          ])
      | false ↦ λ e. after_unsound (kept b 0 (in_order b past)) m e
    ]) refl

pub all_more : (b : ℕ) (ms past : List Message)
    → after_all (kept b 0 (in_order b past)) ms ≡ kept b 0 (in_order b (heard ms past))
all_more b [] past = refl
all_more b (m ∷ ms) past = rw (one_more b m past) (all_more b ms (m ∷ past))
