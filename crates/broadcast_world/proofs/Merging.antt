-- Two histories of one node: the second lacks arrivals of hostile keys.
use Rattle.std.proofs.Common.{◌≡◌, ℕ, ◌*◌, ◌≤◌, Bool, true, false, ◌||◌, List, [], ◌∷◌, ◌++◌, length, filter, refl, sym, ap, ◌∙◌, arith}
use Rattle.std.specs.List.{list_any}
use Rattle.std.specs.Cmp.{IsEquivalence}
use Rattle.std.proofs.lemmas.List.{length-append}
use Rattle.std.proofs.Math.Nat.{mul-suc}
use Rattle.broadcast_core.proofs.Distinct.{by_test, or_false, or_none, list_any-append}
use Rattle.broadcast_core.proofs.Concerning.{list-same}
use Rattle.broadcast_core.proofs.Following.{message-none}
use Rattle.broadcast_core.proofs.Listed.{list-from, list-few, charged-digest}
use Rattle.broadcast_core.specs.Company.{stayed}
use Rattle.std.specs.Option.{option_to_list}
use Rattle.broadcast_core.specs.Carried.{Carried}
use Rattle.broadcast_core.specs.Setting.{Setting}
use Rattle.broadcast_core.specs.Content.{among, digests_of}
use Rattle.broadcast_core.specs.Happening.{Happening, History, peers, broadcast, arrival, subscribe, get, cleanup, taken}
use Rattle.broadcast_core.specs.Concerns.{peer_set, concerns}
use Rattle.broadcast_core.specs.Peers.{primary, is_primary, since}
use Rattle.broadcast_core.specs.Lists.{charged, digest_under, digests_under, list}
use Rattle.broadcast_core.specs.Cache.{is_listed, message}

or_assoc : (a b c : Bool) → (a || (b || c)) ≡ ((a || b) || c)
or_assoc true b c = refl
or_assoc false b c = refl

-- a happening that no hostile key brings, and whose effect its place does not change
abbrev pub IsHonest : {P M D W V : Type 0} → Setting P M D → (P → Bool) → Happening P M D W V → Type 0
IsHonest s hostile (broadcast r c) = hostile s.own ≡ false
IsHonest s hostile (arrival p c) = hostile p ≡ false
IsHonest {W = W} s hostile (cleanup test) = (i j : ℕ) (k : W) → test i k ≡ test j k
IsHonest s hostile _ = Unit {0}

-- a happening of both histories, or the arrival of a hostile key in the first alone
pub data Merged {P M D : Type 0} (W V : Type 0) (s : Setting P M D) (hostile : P → Bool) : Type 0 where
  both : (e : Happening P M D W V) → IsHonest s hostile e → Merged W V s hostile
  attack : (p : P) → Carried M D → hostile p ≡ true → Merged W V s hostile

module _ {P M D W V : Type 0} {s : Setting P M D} {hostile : P → Bool} where
  -- the first history
  abbrev pub all : List (Merged W V s hostile) → History P M D W V
  all [] = []
  all (both e h ∷ xs) = e ∷ all xs
  all (attack p c h ∷ xs) = arrival p c ∷ all xs

  -- the second
  abbrev pub kept : List (Merged W V s hostile) → History P M D W V
  kept [] = []
  kept (both e h ∷ xs) = e ∷ kept xs
  kept (attack p c h ∷ xs) = kept xs

  -- whether an arrival of a hostile key has the digest
  abbrev pub attacked : D → List (Merged W V s hostile) → Bool
  attacked d [] = false
  attacked d (both e h ∷ xs) = attacked d xs
  attacked d (attack p c h ∷ xs) = s.same.digest d c.digest || attacked d xs

  pub all-append : (xs ys : List (Merged W V s hostile)) → all (xs ++ ys) ≡ all xs ++ all ys
  all-append [] ys = refl
  all-append (both e h ∷ xs) ys = ap (λ es. e ∷ es) (all-append xs ys)
  all-append (attack p c h ∷ xs) ys = ap (λ es. arrival p c ∷ es) (all-append xs ys)

  pub kept-append : (xs ys : List (Merged W V s hostile)) → kept (xs ++ ys) ≡ kept xs ++ kept ys
  kept-append [] ys = refl
  kept-append (both e h ∷ xs) ys = ap (λ es. e ∷ es) (kept-append xs ys)
  kept-append (attack p c h ∷ xs) ys = kept-append xs ys

  pub attacked-append : (d : D) (xs ys : List (Merged W V s hostile)) → attacked d (xs ++ ys) ≡ (attacked d xs || attacked d ys)
  attacked-append d [] ys = refl
  attacked-append d (both e h ∷ xs) ys = attacked-append d xs ys
  attacked-append d (attack p c h ∷ xs) ys = ap (λ b. s.same.digest d c.digest || b) (attacked-append d xs ys) ∙ or_assoc (s.same.digest d c.digest) (attacked d xs) (attacked d ys)

module _ {P M D : Type 0} (W V : Type 0) (s : Setting P M D) (hostile : P → Bool)
    (alike : (p q : P) → s.same.key p q ≡ true → hostile p ≡ hostile q) where
  -- keys of which one is hostile differ
  apart : (p q : P) → hostile p ≡ false → hostile q ≡ true → s.same.key p q ≡ false
  apart p q h k = by_test (s.same.key p q)
      (λ t. absurd (let no = sym h ∙ alike p q t ∙ k in cc))
      (λ t. t)

  apart_turned : (p q : P) → hostile p ≡ true → hostile q ≡ false → s.same.key p q ≡ false
  apart_turned p q h k = by_test (s.same.key p q)
      (λ t. absurd (let no = sym h ∙ alike p q t ∙ k in cc))
      (λ t. t)

  -- what is not hostile takes nothing under a hostile key
  honest-under : (p : P) (e : Happening P M D W V) → IsHonest s hostile e → hostile p ≡ true → digest_under s p (taken s e) ≡ []
  honest-under p (broadcast r c) h k = rw (apart_turned p s.own k h) refl
  honest-under p (arrival q c) h k = rw (apart_turned p q k h) refl
  honest-under p (peers ps) h k = refl
  honest-under p (subscribe w d) h k = refl
  honest-under p (get v d) h k = refl
  honest-under p (cleanup test) h k = refl

  primary-next : (e : Happening P M D W V) (past other : History P M D W V) → primary s past ≡ primary s other → primary s (e ∷ past) ≡ primary s (e ∷ other)
  primary-next (peers ps) past other h = refl
  primary-next (broadcast r c) past other h = h
  primary-next (arrival q c) past other h = h
  primary-next (subscribe w d) past other h = h
  primary-next (get v d) past other h = h
  primary-next (cleanup test) past other h = h

  -- both histories have one primary set
  pub primary-merged : (xs : List (Merged W V s hostile)) → primary s (all xs) ≡ primary s (kept xs)
  primary-merged [] = refl
  primary-merged (both e h ∷ xs) = primary-next e (all xs) (kept xs) (primary-merged xs)
  primary-merged (attack p c h ∷ xs) = primary-merged xs

  concerns-next : (p : P) (e : Happening P M D W V) (past other : History P M D W V) → concerns s p past ≡ concerns s p other → concerns s p (e ∷ past) ≡ concerns s p (e ∷ other)
  concerns-next p (peers ps) past other h = ap (λ cs. peer_set (list_any (s.same.key p) ps) ∷ cs) h
  concerns-next p (broadcast r c) past other h = rw h refl
  concerns-next p (arrival q c) past other h = rw h refl
  concerns-next p (subscribe w d) past other h = h
  concerns-next p (get v d) past other h = h
  concerns-next p (cleanup test) past other h = h

  concerns-merged : (p : P) (xs : List (Merged W V s hostile)) → hostile p ≡ false → concerns s p (all xs) ≡ concerns s p (kept xs)
  concerns-merged p [] h = refl
  concerns-merged p (both e k ∷ xs) h = concerns-next p e (all xs) (kept xs) (concerns-merged p xs h)
  concerns-merged p (attack q c k ∷ xs) h = rw (apart p q h k) (concerns-merged p xs h)

  -- and one list of each key that is not hostile
  pub list-merged : (p : P) (xs : List (Merged W V s hostile)) → hostile p ≡ false → list s p (all xs) ≡ list s p (kept xs)
  list-merged p xs h = list-same s s refl refl refl p p (kept xs) (all xs) (concerns-merged p xs h)

  -- in the second, hostile keys have none
  none-under : (p : P) (xs : List (Merged W V s hostile)) → hostile p ≡ true → digests_under s p (since s p (kept xs)) ≡ []
  none-under p [] h = refl
  none-under p (both e k ∷ xs) h = by_test (is_primary s p (e ∷ kept xs))
      (λ t. rw (t, honest-under p e k h) (none-under p xs h))
      (λ t. rw t refl)
  none-under p (attack q c k ∷ xs) h = none-under p xs h

  list-clean : (p : P) (xs : List (Merged W V s hostile)) → hostile p ≡ true → list s p (kept xs) ≡ []
  list-clean p xs h = ap (λ cs. digests_of (stayed s.same.digest s.deque_size s.byte_budget cs)) (none-under p xs h)

  -- in the first, what hostile keys list was brought by them
  brought : (d : D) (p : P) (xs : List (Merged W V s hostile)) → hostile p ≡ true → list_any (λ c. s.same.digest d c.digest) (digests_under s p (since s p (all xs))) ≡ true → attacked d xs ≡ true
  brought d p [] h some = absurd (let no = some in cc)
  brought d p (both e k ∷ xs) h some = by_test (is_primary s p (e ∷ all xs))
      (λ t. brought d p xs h (rw (t, honest-under p e k h) at some))
      (λ t. absurd (let no = rw t at some in cc))
  brought d p (attack q c k ∷ xs) h some = by_test (s.same.digest d c.digest)
      (λ t. rw t refl)
      (λ t. rw t (by_test (is_primary s p (arrival q c ∷ all xs))
      (λ u. by_test (s.same.key p q)
      (λ v.
      let either = sym (list_any-append (λ x. s.same.digest d x.digest) (option_to_list (charged s c)) (digests_under s p (since s p (all xs)))) ∙ (rw (u, v) at some) in
      let none : list_any (λ x. s.same.digest d x.digest) (option_to_list (charged s c)) ≡ false = by_test (list_any (λ x. s.same.digest d x.digest) (option_to_list (charged s c)))
      (λ z. absurd (let no = sym t ∙ charged-digest s (s.same.digest d) c z in cc))
      (λ z. z) in
      brought d p xs h (sym (ap (λ b. b || list_any (λ x. s.same.digest d x.digest) (digests_under s p (since s p (all xs)))) none) ∙ either))
      (λ v. brought d p xs h (rw (u, v) at some)))
      (λ u. absurd (let no = rw u at some in cc))))

  pub list-brought : (d : D) (p : P) (xs : List (Merged W V s hostile)) → hostile p ≡ true → among s.same.digest d (list s p (all xs)) ≡ true → attacked d xs ≡ true
  list-brought d p xs h some = brought d p xs h (list-from s (s.same.digest d) p (all xs) some)

  -- the lists of keys, one after the other
  abbrev pub lists_of : List P → History P M D W V → List D
  lists_of [] past = []
  lists_of (p ∷ ps) past = list s p past ++ lists_of ps past

  pub lists_of-few : IsEquivalence s.same.digest → (ps : List P) (past : History P M D W V) → length (lists_of ps past) ≤ s.deque_size * length ps
  lists_of-few laws [] past = omega arith
  lists_of-few laws (p ∷ ps) past =
      omega (arith, length-append (list s p past) (lists_of ps past), list-few s laws p past, mul-suc s.deque_size (length ps), lists_of-few laws ps past)

  -- what is listed under some keys
  listed-under : (d : D) (xs : List (Merged W V s hostile)) (ps : List P) → list_any (λ p. among s.same.digest d (list s p (all xs))) ps
      ≡ (list_any (λ p. among s.same.digest d (list s p (kept xs))) ps || among s.same.digest d (lists_of (filter hostile ps) (all xs)))
  listed-under d xs [] = refl
  listed-under d xs (p ∷ ps) = by_test (hostile p)
      (λ h. let none : among s.same.digest d (list s p (kept xs)) ≡ false = ap (among s.same.digest d) (list-clean p xs h) in
      rw (h, none, list_any-append (s.same.digest d) (list s p (all xs)) (lists_of (filter hostile ps) (all xs)), listed-under d xs ps)
      (by_test (among s.same.digest d (list s p (all xs))) (λ t. rw t (by_test (list_any (λ q. among s.same.digest d (list s q (kept xs))) ps) (λ u. rw u refl) (λ u. rw u refl))) (λ t. rw t refl)))
      (λ h. rw (h, list-merged p xs h, listed-under d xs ps) (or_assoc (among s.same.digest d (list s p (kept xs))) (list_any (λ q. among s.same.digest d (list s q (kept xs))) ps) (among s.same.digest d (lists_of (filter hostile ps) (all xs)))))

  -- the first history lists what the second lists, and the lists of its hostile primary keys
  pub listed-merged : (d : D) (xs : List (Merged W V s hostile))
      → is_listed s d (all xs) ≡ (is_listed s d (kept xs) || among s.same.digest d (lists_of (filter hostile (primary s (all xs))) (all xs)))
  listed-merged d xs = listed-under d xs (primary s (all xs)) ∙ ap (λ ps. list_any (λ p. among s.same.digest d (list s p (kept xs))) ps || among s.same.digest d (lists_of (filter hostile (primary s (all xs))) (all xs))) (primary-merged xs)

  pub listed-kept : (d : D) (xs : List (Merged W V s hostile)) → is_listed s d (kept xs) ≡ true → is_listed s d (all xs) ≡ true
  listed-kept d xs h = listed-merged d xs ∙ rw h refl

  brought-under : (d : D) (ps : List P) (xs : List (Merged W V s hostile)) → among s.same.digest d (lists_of (filter hostile ps) (all xs)) ≡ true → attacked d xs ≡ true
  brought-under d [] xs some = absurd (let no = some in cc)
  brought-under d (p ∷ ps) xs some = by_test (hostile p)
      (λ h. let one = sym (list_any-append (s.same.digest d) (list s p (all xs)) (lists_of (filter hostile ps) (all xs))) ∙ (rw h at some) in
      by_test (among s.same.digest d (list s p (all xs)))
      (λ t. list-brought d p xs h t)
      (λ t. brought-under d ps xs (rw t at one)))
      (λ h. brought-under d ps xs (rw h at some))

  -- what is listed in the first alone was brought by hostile keys
  pub listed-added : (d : D) (xs : List (Merged W V s hostile)) → is_listed s d (all xs) ≡ true → is_listed s d (kept xs) ≡ false → attacked d xs ≡ true
  listed-added d xs h k = let more = sym (listed-merged d xs) ∙ h in brought-under d (primary s (all xs)) xs (rw k at more)

  -- whether a happening is a peer set with a hostile key
  abbrev pub is_admission : Happening P M D W V → Bool
  is_admission (peers ps) = list_any hostile ps
  is_admission _ = false

  none-filtered : (ps : List P) → list_any hostile ps ≡ false → filter hostile ps ≡ []
  none-filtered [] h = refl
  none-filtered (p ∷ ps) h = let both = or_false (hostile p) (list_any hostile ps) h in rw both.0 (none-filtered ps both.1)

  primary-honest : (past : History P M D W V) → list_any is_admission past ≡ false → list_any hostile (primary s past) ≡ false
  primary-honest [] h = refl
  primary-honest (peers ps ∷ past) h = (or_false (list_any hostile ps) (list_any is_admission past) h).0
  primary-honest (broadcast r c ∷ past) h = primary-honest past h
  primary-honest (arrival p c ∷ past) h = primary-honest past h
  primary-honest (subscribe w d ∷ past) h = primary-honest past h
  primary-honest (get v d ∷ past) h = primary-honest past h
  primary-honest (cleanup test ∷ past) h = primary-honest past h

  -- without hostile primary keys the same digests are listed
  pub listed-same : (d : D) (xs : List (Merged W V s hostile)) → list_any hostile (primary s (all xs)) ≡ false → is_listed s d (all xs) ≡ is_listed s d (kept xs)
  listed-same d xs h = listed-merged d xs ∙ rw (none-filtered (primary s (all xs)) h) (or_none (is_listed s d (kept xs)))

  -- and if there never were any, the same messages are cached
  pub message-same : (d : D) (xs : List (Merged W V s hostile)) → list_any is_admission (all xs) ≡ false → message s d (all xs) ≡ message s d (kept xs)
  message-same d [] h = refl
  message-same d (both e k ∷ xs) h =
      let rest = (or_false (is_admission e) (list_any is_admission (all xs)) h).1 in
      rw (listed-same d (both e k ∷ xs) (primary-honest (e ∷ all xs) h), listed-same d xs (primary-honest (all xs) rest), message-same d xs rest) refl
  message-same d (attack q c k ∷ xs) h =
      let now = listed-same d (attack q c k ∷ xs) (primary-honest (arrival q c ∷ all xs) h) in
      let before = listed-same d xs (primary-honest (all xs) h) in
      by_test (is_listed s d (kept xs))
      (λ t. rw (now, before, t) (message-same d xs h))
      (λ t. rw (now, t) (sym (message-none s d (kept xs) t)))
