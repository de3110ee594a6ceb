-- The places at which a test passes, and the items at other places.
use Rattle.std.proofs.Common.{zero, add-one, take, get_or, ◌≡◌, ℕ, suc, ◌+◌, ◌<◌, ◌≤◌, Bool, true, false, ◌||◌, if◌then◌else◌, List, [], ◌∷◌, ◌++◌, length, reverse, refl, sym, ap, ◌∙◌, arith, append-nil}
use Rattle.std.specs.Prelude.{◌==◌, slice_index}
use Rattle.std.specs.List.{All, list_any, zip}
use Rattle.std.specs.List.Sorted.{IsStrictlyIncreasing}
use Rattle.std.proofs.lemmas.Bool.{eq-eqb, eqb-true}
use Rattle.std.proofs.lemmas.List.{reverse-append, take_more, length-take-le}
use Rattle.broadcast_world.specs.Relayed.{places_from, but_at}
use Rattle.broadcast_world.proofs.FirstPlaces.{by_test}

-- whether the number is in the list
abbrev pub has : ℕ → List ℕ → Bool
has k ns = list_any (λ j. j == k) ns

apart : (j k : ℕ) → j < k → (j == k) ≡ false
apart j k h = by_test (j == k) (λ t. absurd (let same : j ≡ k = eqb-true j k t in omega (arith, same, h))) (λ t. t)

module _ {X : Type 0} (test : X → Bool) where
  -- the test of one more item, whose place is the length
  pub places_from-push : (n : ℕ) (xs : List X) (x : X) → places_from test n (xs ++ x ∷ [])
      ≡ (if test x then places_from test n xs ++ (n + length xs) ∷ [] else places_from test n xs)
  places_from-push n [] x = by_test (test x)
      (λ t. rw t (ap (λ k. k ∷ []) (let same : n ≡ n + 0 = omega arith in same)))
      (λ t. rw t refl)
  places_from-push n (y ∷ ys) x =
      let more = places_from-push (n + 1) ys x in
      let far : n + 1 + length ys ≡ n + suc (length ys) = omega arith in
      by_test (test x)
      (λ t. by_test (test y)
      (λ u. rw (t, u) (ap (λ ks. n ∷ ks) (rw t at more ∙ ap (λ k. places_from test (n + 1) ys ++ k ∷ []) far)))
      (λ u. rw (t, u) (rw t at more ∙ ap (λ k. places_from test (n + 1) ys ++ k ∷ []) far)))
      (λ t. by_test (test y)
      (λ u. rw (t, u) (ap (λ ks. n ∷ ks) (rw t at more)))
      (λ u. rw (t, u) (rw t at more)))

  -- no place is below the first
  pub none-below : (n k : ℕ) (xs : List X) → k < n → has k (places_from test n xs) ≡ false
  none-below n k [] h = refl
  none-below n k (x ∷ xs) h =
      let rest = none-below (n + 1) k xs (omega (arith, h)) in
      by_test (test x)
      (λ t. rw t (by_test (n == k) (λ u. absurd (let same : n ≡ k = eqb-true n k u in omega (arith, same, h))) (λ u. rw u rest)))
      (λ t. rw t rest)

module _ {X Y : Type 0} (test : Y → Bool) where
  -- the items beside which the test fails
  abbrev pub kept : List (X × Y) → List X
  kept [] = []
  kept (p ∷ ps) = if test p.1 then kept ps else p.0 ∷ kept ps

  kept-append : (ps qs : List (X × Y)) → kept (ps ++ qs) ≡ kept ps ++ kept qs
  kept-append [] qs = refl
  kept-append (p ∷ ps) qs = by_test (test p.1)
      (λ t. rw t (kept-append ps qs))
      (λ t. rw t (ap (λ xs. p.0 ∷ xs) (kept-append ps qs)))

  pub kept-reverse : (ps : List (X × Y)) → kept (reverse ps) ≡ reverse (kept ps)
  kept-reverse [] = refl
  kept-reverse (p ∷ ps) = ap kept (reverse-append (p ∷ []) ps) ∙ kept-append (reverse ps) (p ∷ [])
      ∙ by_test (test p.1)
      (λ t. rw t (append-nil (kept (reverse ps)) ∙ kept-reverse ps))
      (λ t. rw t (ap (λ xs. xs ++ p.0 ∷ []) (kept-reverse ps) ∙ sym (reverse-append (p.0 ∷ []) (kept ps))))

  -- they are the items at other places than those at which the test passes
  pub but_at-kept : (out : List ℕ) (n : ℕ) (xs : List X) (ys : List Y) → length ys ≡ length xs
      → ((k : ℕ) → n ≤ k → k < n + length ys → has k out ≡ has k (places_from test n ys)) → but_at out n xs ≡ kept (zip xs ys)
  but_at-kept out n [] ys h same = refl
  but_at-kept out n (x ∷ xs) [] h same = absurd (omega (arith, h))
  but_at-kept out n (x ∷ xs) (y ∷ ys) h same =
      let here = same n (omega arith) (omega arith) in
      by_test (test y)
      (λ t. rw (here, t, eq-eqb n n refl) (but_at-kept out (n + 1) xs ys (omega (arith, h))
      (λ k above below. same k (omega (arith, above)) (omega (arith, below)) ∙ rw (t, apart n k (omega (arith, above))) refl)))
      (λ t. rw (here, t, none-below test (n + 1) n ys (omega arith)) (ap (λ zs. x ∷ zs) (but_at-kept out (n + 1) xs ys (omega (arith, h))
      (λ k above below. same k (omega (arith, above)) (omega (arith, below)) ∙ rw t refl))))

module _ {X : Type 0} (test : X → Bool) where
  -- the step of a loop that lists the places
  pub places_more_yes : (xs : List X) (i : ℕ) (x d : X) → i < length xs → get_or xs i d ≡ x → test x ≡ true
      → places_from test 0 (take (i + 1) xs) ≡ places_from test 0 (take i xs) ++ i ∷ []
  places_more_yes xs i x d h is t =
      let short : i ≤ length xs = omega (arith, h) in
      let long : 0 + length (take i xs) ≡ i = omega (arith, length-take-le i xs short) in
      ap (places_from test 0) (take_more xs i d h ∙ ap (λ y. take i xs ++ y ∷ []) is) ∙ places_from-push test 0 (take i xs) x
      ∙ rw t (ap (λ k. places_from test 0 (take i xs) ++ k ∷ []) long)

  pub places_more_no : (xs : List X) (i : ℕ) (x d : X) → i < length xs → get_or xs i d ≡ x → test x ≡ false
      → places_from test 0 (take (i + 1) xs) ≡ places_from test 0 (take i xs)
  places_more_no xs i x d h is t =
      ap (places_from test 0) (take_more xs i d h ∙ ap (λ y. take i xs ++ y ∷ []) is) ∙ places_from-push test 0 (take i xs) x ∙ rw t refl

  -- the places after the first
  places_from-append : (n : ℕ) (xs ys : List X) → places_from test n (xs ++ ys) ≡ places_from test n xs ++ places_from test (n + length xs) ys
  places_from-append n [] ys = let same : n ≡ n + 0 = omega arith in ap (λ k. places_from test k ys) same
  places_from-append n (x ∷ xs) ys =
      let far : n + 1 + length xs ≡ n + suc (length xs) = omega arith in
      let rest = places_from-append (n + 1) xs ys ∙ ap (λ k. places_from test (n + 1) xs ++ places_from test k ys) far in
      by_test (test x) (λ t. rw t (ap (λ ks. n ∷ ks) rest)) (λ t. rw t rest)

  has-append : (k : ℕ) (ns ms : List ℕ) → has k (ns ++ ms) ≡ (has k ns || has k ms)
  has-append k [] ms = refl
  has-append k (n ∷ ns) ms = by_test (n == k) (λ t. rw t refl) (λ t. rw t (has-append k ns ms))

  or_false : (b : Bool) → (b || false) ≡ b
  or_false true = refl
  or_false false = refl

  -- which places are before the length depends on the items before it
  pub has-front : (k : ℕ) (xs ys : List X) → k < length xs → has k (places_from test 0 (xs ++ ys)) ≡ has k (places_from test 0 xs)
  has-front k xs ys h = ap (has k) (places_from-append 0 xs ys)
      ∙ has-append k (places_from test 0 xs) (places_from test (0 + length xs) ys)
      ∙ ap (λ b. has k (places_from test 0 xs) || b) (none-below test (0 + length xs) k ys (omega (arith, h))) ∙ or_false (has k (places_from test 0 xs))

  none-above : (n k : ℕ) (xs : List X) → n + length xs ≤ k → has k (places_from test n xs) ≡ false
  none-above n k [] h = refl
  none-above n k (x ∷ xs) h =
      let rest = none-above (n + 1) k xs (omega (arith, h)) in
      by_test (test x) (λ t. rw (t, apart n k (omega (arith, h))) rest) (λ t. rw t rest)

  -- whether a place is listed is what the test says of its item
  pub has-at : (k : ℕ) (xs : List X) (y : X) (ys : List X) → k ≡ length xs → has k (places_from test 0 (xs ++ y ∷ ys)) ≡ test y
  has-at k xs y ys h = ap (has k) (places_from-append 0 xs (y ∷ ys))
      ∙ has-append k (places_from test 0 xs) (places_from test (0 + length xs) (y ∷ ys))
      ∙ ap (λ b. b || has k (places_from test (0 + length xs) (y ∷ ys))) (none-above 0 k xs (omega (arith, h)))
      ∙ by_test (test y)
      (λ t. rw (t, eq-eqb (0 + length xs) k (omega (arith, h))) refl)
      (λ t. rw (t, none-below test (0 + length xs + 1) k ys (omega (arith, h))) refl)

  -- the places rise
  head-from : (n : ℕ) (xs : List X) → 0 < length (places_from test n xs) → n ≤ slice_index (places_from test n xs) 0
  head-from n [] h = absurd (omega (arith, h))
  head-from n (x ∷ xs) h = by_test (test x)
      (λ t. rw t (let same : n ≤ n = omega arith in same))
      (λ t. rw t (omega (arith, head-from (n + 1) xs (rw t at h))))

  rises-cons : (n : ℕ) (ks : List ℕ) → (0 < length ks → n < slice_index ks 0) → IsStrictlyIncreasing ks → IsStrictlyIncreasing (n ∷ ks)
  rises-cons n ks first rest zero h = first (omega (arith, h))
  rises-cons n ks first rest (suc k) h = rw add-one (let next = rest k (omega (arith, h)) in rw add-one at next)

  pub IsStrictlyIncreasing-places : (n : ℕ) (xs : List X) → IsStrictlyIncreasing (places_from test n xs)
  IsStrictlyIncreasing-places n [] = λ k h. absurd (omega (arith, h))
  IsStrictlyIncreasing-places n (x ∷ xs) = by_test (test x)
      (λ t. rw t (rises-cons n (places_from test (n + 1) xs) (λ some. omega (arith, head-from (n + 1) xs some)) (IsStrictlyIncreasing-places (n + 1) xs)))
      (λ t. rw t (IsStrictlyIncreasing-places (n + 1) xs))

  within-cons : (n m : ℕ) (ks : List ℕ) → n < m → All (λ k. k < m) ks → All (λ k. k < m) (n ∷ ks)
  within-cons n m ks first rest zero d h = first
  within-cons n m ks first rest (suc k) d h = rest k d (omega (arith, h))

  within-from : (n m : ℕ) (xs : List X) → n + length xs ≤ m → All (λ k. k < m) (places_from test n xs)
  within-from n m [] h = λ k d none. absurd (omega (arith, none))
  within-from n m (x ∷ xs) h =
      let rest = within-from (n + 1) m xs (omega (arith, h)) in
      by_test (test x) (λ t. rw t (within-cons n m (places_from test (n + 1) xs) (omega (arith, h)) rest)) (λ t. rw t rest)

  pub places-within : (xs : List X) → All (λ k. k < length xs) (places_from test 0 xs)
  places-within xs = within-from 0 (length xs) xs (omega arith)
