-- The digests that have stayed, after one taking more.
use Rattle.std.proofs.Common.{◌≡◌, ℕ, zero, suc, ◌+◌, ◌-◌, ◌<◌, ◌≤◌, Bool, true, false, not, ◌||◌, ◌&&◌, cond, List, [], ◌∷◌, ◌++◌, take, length, Option, None, Some, refl, sym, ap, ◌∙◌, subst, arith}
use Rattle.std.specs.Prelude.{nat_le}
use Rattle.std.specs.Option.{option_to_list}
use Rattle.std.specs.List.{filter, list_any, IsDistinct, AllByRecursion}
use Rattle.std.specs.Cmp.{IsEquivalence}
use Rattle.std.proofs.lemmas.Bool.{leb-true, leb-false, le-leb, lt-leb}
use Rattle.std.proofs.lemmas.List.{append_assoc}
use Rattle.std.proofs.lemmas.List.Elements.{filter-append}
use Rattle.std.proofs.lemmas.List.Sums.{sum_by-cons, sum_by-append}
use Rattle.entries.specs.declared.entry.Charged.{Charged}
use Rattle.broadcast_core.specs.Content.{among, without, first_places, bytes_of, digests_of, same_charged}
use Rattle.broadcast_core.specs.Fronted.{within, with_taken}
use Rattle.broadcast_core.specs.Company.{fits, up_to, company, has_stayed, stayed}
use Rattle.broadcast_core.proofs.Cutting.{take-none, take-moved}
use Rattle.broadcast_core.proofs.Distinct.{by_test, same_truth, or_false, or_right, filter-same, IsDistinct-moved, IsDistinct-filter}

leb-same : (a b c d : ℕ) → (a ≤ b → c ≤ d) → (c ≤ d → a ≤ b) → nat_le a b ≡ nat_le c d
leb-same a b c d forth back = same_truth (nat_le a b) (nat_le c d) (λ h. le-leb c d (forth (leb-true a b h))) (λ h. le-leb a b (back (leb-true c d h)))

nothing-fits : (n b : ℕ) → (nat_le 0 n && nat_le 0 b) ≡ true
nothing-fits n b = rw (le-leb 0 n (omega arith)) (le-leb 0 b (omega arith))

and_false : (a : Bool) → (a && false) ≡ false
and_false true = refl
and_false false = refl

and_true : (a : Bool) → (a && true) ≡ a
and_true true = refl
and_true false = refl

module _ {X : Type 0} where
  -- tests that agree on the elements
  filter-alike : (p q : X → Bool) (xs : List X) → AllByRecursion (λ x. p x ≡ q x) xs → filter p xs ≡ filter q xs
  filter-alike p q [] h = refl
  filter-alike p q (x ∷ xs) h = rw h.0 (ap (λ ys. cond (q x) (x ∷ ys) ys) (filter-alike p q xs h.1))

  filter-none : (p : X → Bool) (xs : List X) → ((x : X) → p x ≡ false) → filter p xs ≡ []
  filter-none p [] h = refl
  filter-none p (x ∷ xs) h = rw (h x) (filter-none p xs h)

  all-weaker : (P Q : X → Type 0) (xs : List X) → ((x : X) → P x → Q x) → AllByRecursion P xs → AllByRecursion Q xs
  all-weaker P Q [] f h = tt
  all-weaker P Q (x ∷ xs) f h = (f x h.0, all-weaker P Q xs f h.1)

  -- one list begins another
  abbrev pub IsBeginning : List X → List X → Type 0
  IsBeginning xs ys = (zs : List X) × (ys ≡ xs ++ zs)

  beginning-cons : (x : X) (xs ys : List X) → IsBeginning xs ys → IsBeginning (x ∷ xs) (x ∷ ys)
  beginning-cons x xs ys (zs, is) = (zs, ap (λ ws. x ∷ ws) is)

  beginning-filter : (p : X → Bool) (xs ys : List X) → IsBeginning xs ys → IsBeginning (filter p xs) (filter p ys)
  beginning-filter p xs ys (zs, is) = (filter p zs, ap (filter p) is ∙ filter-append p xs zs)

  beginning-trans : (xs ys zs : List X) → IsBeginning xs ys → IsBeginning ys zs → IsBeginning xs zs
  beginning-trans xs ys zs (us, is) (vs, more) = (us ++ vs, more ∙ ap (λ ws. ws ++ vs) is ∙ append_assoc xs us vs)

  beginning-take : (n : ℕ) (xs : List X) → IsBeginning (take n xs) xs
  beginning-take zero xs = (xs, refl)
  beginning-take (suc n) [] = ([], refl)
  beginning-take (suc n) (x ∷ xs) = beginning-cons x (take n xs) xs (beginning-take n xs)

module _ {D : Type 0} where
  pub bytes_of-cons : (x : Charged D) (xs : List (Charged D)) → bytes_of (x ∷ xs) ≡ x.charge + bytes_of xs
  bytes_of-cons x xs = sum_by-cons (λ (c : Charged D). c.charge) x xs

  pub beginning-within : (b : ℕ) (xs : List (Charged D)) → IsBeginning (within b xs) xs
  beginning-within b [] = ([], refl)
  beginning-within b (x ∷ xs) = by_test (nat_le (x.charge) b)
      (λ h. rw h (beginning-cons x (within (b - x.charge) xs) xs (beginning-within (b - x.charge) xs)))
      (λ h. rw h (x ∷ xs, refl))

  -- one more that fits
  fits-more : (n b : ℕ) (x : Charged D) (xs : List (Charged D)) → x.charge ≤ b → fits (suc n) b (x ∷ xs) ≡ fits n (b - x.charge) xs
  fits-more n b x xs h =
      let sum : bytes_of (x ∷ xs) ≡ x.charge + bytes_of xs = bytes_of-cons x xs in
      let counts : nat_le (length (x ∷ xs)) (suc n) ≡ nat_le (length xs) n = leb-same (length (x ∷ xs)) (suc n) (length xs) n (λ k. omega (arith, k)) (λ k. omega (arith, k)) in
      let bytes : nat_le (bytes_of (x ∷ xs)) b ≡ nat_le (bytes_of xs) (b - x.charge) =
      leb-same (bytes_of (x ∷ xs)) b (bytes_of xs) (b - x.charge) (λ k. omega (arith, k, sum, h)) (λ k. omega (arith, k, sum, h)) in
      rw counts (ap (λ t. nat_le (length xs) n && t) bytes)

  fits-over : (n b : ℕ) (x : Charged D) (xs : List (Charged D)) → b < x.charge → fits n b (x ∷ xs) ≡ false
  fits-over n b x xs h =
      let sum : bytes_of (x ∷ xs) ≡ x.charge + bytes_of xs = bytes_of-cons x xs in
      let bytes : nat_le (bytes_of (x ∷ xs)) b ≡ false = lt-leb (bytes_of (x ∷ xs)) b (omega (arith, sum, h)) in
      rw bytes (and_false (nat_le (length (x ∷ xs)) n))

  fits-none : (b : ℕ) (x : Charged D) (xs : List (Charged D)) → fits zero b (x ∷ xs) ≡ false
  fits-none b x xs = let counts : nat_le (length (x ∷ xs)) zero ≡ false = lt-leb (length (x ∷ xs)) zero (omega arith) in rw counts refl

  -- a sum is no less than that of a part
  sum-filter : (p : Charged D → Bool) (xs : List (Charged D)) → bytes_of (filter p xs) ≤ bytes_of xs
  sum-filter p [] = omega arith
  sum-filter p (x ∷ xs) = by_test (p x)
      (λ h. rw h (omega (arith, sum-filter p xs, bytes_of-cons x xs, bytes_of-cons x (filter p xs))))
      (λ h. rw h (omega (arith, sum-filter p xs, bytes_of-cons x xs)))

  pub sum-take : (n : ℕ) (xs : List (Charged D)) → bytes_of (take n xs) ≤ bytes_of xs
  sum-take zero xs = omega arith
  sum-take (suc n) [] = omega arith
  sum-take (suc n) (x ∷ xs) = omega (arith, sum-take n xs, bytes_of-cons x xs, bytes_of-cons x (take n xs))

  -- what fits is kept whole, and what is kept fits
  pub within-all : (b : ℕ) (xs : List (Charged D)) → bytes_of xs ≤ b → within b xs ≡ xs
  within-all b [] h = refl
  within-all b (x ∷ xs) h =
      let sum : bytes_of (x ∷ xs) ≡ x.charge + bytes_of xs = bytes_of-cons x xs in
      let here : nat_le (x.charge) b ≡ true = le-leb (x.charge) b (omega (arith, sum, h)) in
      rw here (ap (λ ys. x ∷ ys) (within-all (b - x.charge) xs (omega (arith, sum, h))))

  pub within-bounded : (b : ℕ) (xs : List (Charged D)) → bytes_of (within b xs) ≤ b
  within-bounded b [] = omega arith
  within-bounded b (x ∷ xs) = by_test (nat_le (x.charge) b)
      (λ h. rw h (omega (arith, leb-true (x.charge) b h, within-bounded (b - x.charge) xs, bytes_of-cons x (within (b - x.charge) xs))))
      (λ h. rw h (omega arith))

module _ {D : Type 0} where
  pub length-names : (cs : List (Charged D)) → length (digests_of cs) ≡ length cs
  length-names [] = refl
  length-names (c ∷ cs) = ap suc (length-names cs)

  pub length-within : (b : ℕ) (xs : List (Charged D)) → length (within b xs) ≤ length xs
  length-within b [] = omega arith
  length-within b (x ∷ xs) = by_test (nat_le x.charge b)
      (λ h. rw h (omega (arith, length-within (b - x.charge) xs)))
      (λ h. rw h (omega arith))

  -- what is nowhere is not in front
  pub none-within : (test : Charged D → Bool) (b : ℕ) (xs : List (Charged D)) → list_any test xs ≡ false → list_any test (within b xs) ≡ false
  none-within test b [] h = refl
  none-within test b (x ∷ xs) h = by_test (nat_le x.charge b)
      (λ k. let both = or_false (test x) (list_any test xs) h in rw (k, both.0) (none-within test (b - x.charge) xs both.1))
      (λ k. rw k refl)

module _ {D : Type 0} where
  pub bytes_of-append : (xs ys : List (Charged D)) → bytes_of (xs ++ ys) ≡ bytes_of xs + bytes_of ys
  bytes_of-append xs ys = sum_by-append (λ (c : Charged D). c.charge) xs ys

  -- the last of a list that is too long does not matter
  pub within-drop : (b : ℕ) (xs : List (Charged D)) (c : Charged D) → b < bytes_of (xs ++ c ∷ []) → within b (xs ++ c ∷ []) ≡ within b xs
  within-drop b [] c h =
      let over : nat_le c.charge b ≡ false = lt-leb c.charge b (omega (arith, h)) in rw over refl
  within-drop b (x ∷ xs) c h = by_test (nat_le x.charge b)
      (λ k. rw k (ap (λ ys. x ∷ ys) (within-drop (b - x.charge) xs c (omega (arith, h, leb-true x.charge b k, bytes_of-cons x (xs ++ c ∷ []))))))
      (λ k. rw k refl)

  pub any-within : (test : Charged D → Bool) (b : ℕ) (xs : List (Charged D)) → list_any test (within b xs) ≡ true → list_any test xs ≡ true
  any-within test b xs h = by_test (list_any test xs) (λ t. t) (λ t. absurd (let none = none-within test b xs t in cc))

module _ {D : Type 0} {same : D → D → Bool} (laws : IsEquivalence same) where
  abbrev eq : Charged D → Charged D → Bool
  eq = same_charged same

  -- charged digests are equal where their digests are
  pub charged_laws : IsEquivalence (same_charged same)
  charged_laws = record { refl = λ x. laws.refl x.digest; symm = λ x y. laws.symm x.digest y.digest; congr = λ x y z h. laws.congr x.digest y.digest z.digest h }

  abbrev cl : IsEquivalence (same_charged same)
  cl = charged_laws

  without-up_to : (y x : Charged D) (xs : List (Charged D)) → eq y x ≡ false → without eq y (up_to same x xs) ≡ up_to same x (without eq y xs)
  without-up_to y x [] apart = refl
  without-up_to y x (z ∷ zs) apart = by_test (eq x z)
      (λ h. let other : eq y z ≡ false = cl.symm y z ∙ sym (cl.congr x z y h) ∙ cl.symm x y ∙ apart in
      rw (h, other, h) refl)
      (λ h. by_test (eq y z)
      (λ k. rw (h, k) (without-up_to y x zs apart))
      (λ k. rw (h, k, h) (ap (λ ws. z ∷ ws) (without-up_to y x zs apart))))

  -- a company is what the distinct digests begin with, up to the one whose company it is
  pub company-beginning : (x : Charged D) (ts : List (Charged D)) → company same x ts ≡ up_to same x (first_places eq ts)
  company-beginning x [] = refl
  company-beginning x (t ∷ older) = by_test (eq x t)
      (λ h. rw h refl)
      (λ h. rw h (ap (λ ws. t ∷ ws) (ap (without eq t) (company-beginning x older) ∙ without-up_to t x (first_places eq older) (cl.symm t x ∙ h))))

  up_to-append : (x : Charged D) (xs zs : List (Charged D)) → among eq x xs ≡ true → up_to same x (xs ++ zs) ≡ up_to same x xs
  up_to-append x [] zs h = absurd cc
  up_to-append x (y ∷ ys) zs h = by_test (eq x y)
      (λ e. rw e refl)
      (λ e. let rest : among eq x ys ≡ true = sym (ap (λ b. b || among eq x ys) e) ∙ h in rw e (ap (λ ws. y ∷ ws) (up_to-append x ys zs rest)))

  all-among : (xs : List (Charged D)) → AllByRecursion (λ x. among eq x xs ≡ true) xs
  all-among [] = tt
  all-among (x ∷ xs) = (
    rw (cl.refl x) refl,
    all-weaker (λ y. among eq y xs ≡ true) (λ y. among eq y (x ∷ xs) ≡ true) xs (λ y h. ap (λ b. eq y x || b) h ∙ or_right (eq y x)) (all-among xs),
  )

  IsDistinct-first : (ts : List (Charged D)) → IsDistinct eq (first_places eq ts)
  unfolding IsDistinct
  IsDistinct-first [] = tt
  IsDistinct-first (t ∷ ts) = IsDistinct-moved cl t (first_places eq ts) (IsDistinct-first ts)

  others : (y : Charged D) (ys : List (Charged D)) → IsDistinct eq (y ∷ ys) → AllByRecursion (λ x. eq y x ≡ false) ys
  unfolding IsDistinct
  others y ys k = k.0

  rest : (y : Charged D) (ys : List (Charged D)) → IsDistinct eq (y ∷ ys) → IsDistinct eq ys
  unfolding IsDistinct
  rest y ys k = k.1

  -- those kept by a second test are kept by both
  filter-both : (x : Charged D) (p r : Charged D → Bool) (xs : List (Charged D)) → filter (λ y. p y && (eq y x || r y)) (without eq x xs) ≡ filter p (without eq x (filter r xs))
  filter-both x p r [] = refl
  filter-both x p r (z ∷ zs) = by_test (eq x z)
      (λ k. by_test (r z)
      (λ e. rw (k, e, k) (filter-both x p r zs))
      (λ e. rw (k, e) (filter-both x p r zs)))
      (λ k. let turned : eq z x ≡ false = cl.symm z x ∙ k in by_test (r z)
      (λ e. rw (k, turned, e, k) (by_test (p z)
      (λ f. rw f (ap (λ ws. z ∷ ws) (filter-both x p r zs)))
      (λ f. rw f (filter-both x p r zs))))
      (λ e. rw (k, turned, e, and_false (p z)) (filter-both x p r zs)))

  up_to-none : (n b : ℕ) (x y : Charged D) (ys : List (Charged D)) → ((zs : List (Charged D)) → fits n b (y ∷ zs) ≡ false) → fits n b (up_to same x (y ∷ ys)) ≡ false
  up_to-none n b x y ys h = by_test (eq x y) (λ e. rw e (h [])) (λ e. rw e (h (up_to same x ys)))

  -- those whose beginning fits are the longest beginning that fits
  fitting : (n b : ℕ) (xs : List (Charged D)) → IsDistinct eq xs → filter (λ x. fits n b (up_to same x xs)) xs ≡ take n (within b xs)
  fitting zero b [] k = refl
  fitting (suc n) b [] k = refl
  fitting zero b (y ∷ ys) k = filter-none (λ x. fits zero b (up_to same x (y ∷ ys))) (y ∷ ys) (λ x. up_to-none zero b x y ys (fits-none b y))
  fitting (suc n) b (y ∷ ys) k = by_test (nat_le (y.charge) b)
      (λ h. let le = leb-true (y.charge) b h in
      let p : Charged D → Bool = λ x. fits (suc n) b (up_to same x (y ∷ ys)) in
      let first : p y ≡ true = rw (cl.refl y) (fits-more n b y [] le ∙ nothing-fits n (b - y.charge)) in
      let more : filter p ys ≡ filter (λ x. fits n (b - y.charge) (up_to same x ys)) ys =
      filter-alike p (λ x. fits n (b - y.charge) (up_to same x ys)) ys
      (all-weaker (λ x. eq y x ≡ false) (λ x. p x ≡ fits n (b - y.charge) (up_to same x ys)) ys
      (λ x e. rw (cl.symm x y ∙ e) (fits-more n b y (up_to same x ys) le)) (others y ys k)) in
      rw (first, h) (ap (λ ws. y ∷ ws) (more ∙ fitting n (b - y.charge) ys (rest y ys k))))
      (λ h. rw h (filter-none (λ x. fits (suc n) b (up_to same x (y ∷ ys))) (y ∷ ys)
      (λ x. up_to-none (suc n) b x y ys (λ zs. fits-over (suc n) b y zs (leb-false (y.charge) b h)))))

  module _ (size budget : ℕ) where
    abbrev listed : List (Charged D) → List (Charged D)
    listed ts = stayed same size budget ts

    -- a taking puts its digest in front, and what is longer than the limits is cut off
    step-from : (x : Charged D) (older : List (Charged D)) → IsBeginning (listed older) (first_places eq older) → listed (x ∷ older) ≡ take size (within budget (x ∷ without eq x (listed older)))
    step-from x older begins =
        let all = x ∷ without eq x (first_places eq older) in
        let kept = x ∷ without eq x (listed older) in
        let p : Charged D → Bool = λ y. fits size budget (up_to same y all) in
        let q : Charged D → Bool = λ y. fits size budget (up_to same y kept) in
        let r : Charged D → Bool = λ y. p y && (eq y x || has_stayed same size budget y older) in
        let said : listed (x ∷ older) ≡ filter r all =
        filter-same (λ y. has_stayed same size budget y (x ∷ older)) r all
        (λ y. ap (λ ws. fits size budget ws && (eq y x || has_stayed same size budget y older)) (company-beginning y (x ∷ older))) in
        let first : (p x && (eq x x || has_stayed same size budget x older)) ≡ p x = ap (λ t. p x && (t || has_stayed same size budget x older)) (cl.refl x) ∙ and_true (p x) in
        let others = filter-both x p (λ y. has_stayed same size budget y older) (first_places eq older) in
        let both : filter r all ≡ filter p kept =
        ap (λ b. cond b (x ∷ filter r (without eq x (first_places eq older))) (filter r (without eq x (first_places eq older)))) first
        ∙ ap (λ ws. cond (p x) (x ∷ ws) ws) others in
        let part : IsBeginning kept all = beginning-cons x (without eq x (listed older)) (without eq x (first_places eq older))
        (beginning-filter (λ y. not (eq x y)) (listed older) (first_places eq older) begins) in
        let alike : filter p kept ≡ filter q kept = filter-alike p q kept
        (all-weaker (λ y. among eq y kept ≡ true) (λ y. p y ≡ q y) kept
        (λ y h. ap (fits size budget) (ap (up_to same y) part.1 ∙ up_to-append y kept part.0 h)) (all-among kept)) in
        let apart : IsDistinct eq kept = IsDistinct-moved cl x (listed older)
        (IsDistinct-filter cl (λ y. has_stayed same size budget y older) (first_places eq older) (IsDistinct-first older)) in
        said ∙ both ∙ alike ∙ fitting size budget kept apart

    cut-beginning : (xs : List (Charged D)) → IsBeginning (take size (within budget xs)) xs
    cut-beginning xs = beginning-trans (take size (within budget xs)) (within budget xs) xs (beginning-take size (within budget xs)) (beginning-within budget xs)

    -- the list begins the distinct digests
    pub list-beginning : (ts : List (Charged D)) → IsBeginning (listed ts) (first_places eq ts)
    list-beginning [] = ([], refl)
    list-beginning (x ∷ older) =
        let begins = list-beginning older in
        let kept = x ∷ without eq x (listed older) in
        subst (λ ws. IsBeginning ws (first_places eq (x ∷ older))) (sym (step-from x older begins))
        (beginning-trans (take size (within budget kept)) kept (first_places eq (x ∷ older)) (cut-beginning kept)
        (beginning-cons x (without eq x (listed older)) (without eq x (first_places eq older))
        (beginning-filter (λ y. not (eq x y)) (listed older) (first_places eq older) begins)))

    pub list-step : (x : Charged D) (older : List (Charged D)) → listed (x ∷ older) ≡ take size (within budget (x ∷ without eq x (listed older)))
    list-step x older = step-from x older (list-beginning older)

    -- the charges of a list fit the budget
    pub list-bounded : (ts : List (Charged D)) → bytes_of (listed ts) ≤ budget
    list-bounded [] = omega arith
    list-bounded (x ∷ older) =
        let kept = x ∷ without eq x (listed older) in
        subst (λ ws. bytes_of ws ≤ budget) (sym (list-step x older))
        (omega (arith, sum-take size (within budget kept), within-bounded budget kept))

    sum-first : (ts : List (Charged D)) → bytes_of (first_places eq ts) ≤ bytes_of ts
    sum-first [] = omega arith
    sum-first (t ∷ ts) = omega (
      arith,
      sum-first ts,
      sum-filter (λ y. not (eq t y)) (first_places eq ts),
      bytes_of-cons t ts,
      bytes_of-cons t (without eq t (first_places eq ts)),
    )

    -- where all charges fit the budget, the list is the last distinct digests
    pub list-old : (ts : List (Charged D)) → bytes_of ts ≤ budget → listed ts ≡ take size (first_places eq ts)
    list-old [] h = sym (take-none size)
    list-old (t ∷ ts) h =
        let more = bytes_of-cons t ts in
        let old : listed ts ≡ take size (first_places eq ts) = list-old ts (omega (arith, h, more)) in
        let kept = t ∷ without eq t (take size (first_places eq ts)) in
        let sum : bytes_of kept ≤ budget = omega (
          arith,
          h,
          more,
          bytes_of-cons t (without eq t (take size (first_places eq ts))),
          sum-filter (λ y. not (eq t y)) (take size (first_places eq ts)),
          sum-take size (first_places eq ts),
          sum-first ts,
        ) in
        list-step t ts
        ∙ ap (λ ws. take size (within budget (t ∷ without eq t ws))) old
        ∙ ap (take size) (within-all budget kept sum)
        ∙ take-moved cl size t (first_places eq ts) (IsDistinct-first ts)

    -- what is longer than a limit is cut off, by whichever limit first
    pub take-within : (n b : ℕ) (xs : List (Charged D)) → within b (take n xs) ≡ take n (within b xs)
    take-within zero b xs = refl
    take-within (suc n) b [] = refl
    take-within (suc n) b (x ∷ xs) = by_test (nat_le x.charge b)
        (λ h. rw h (ap (λ ys. x ∷ ys) (take-within n (b - x.charge) xs)))
        (λ h. rw h refl)

    -- a taking brings its digest to the front, if the budget affords it
    pub stayed-taken : (o : Option (Charged D)) (older : List (Charged D)) → stayed same size budget (option_to_list o ++ older) ≡ with_taken same size budget o (stayed same size budget older)
    stayed-taken None older = refl
    stayed-taken (Some x) older = list-step x older ∙ sym (take-within size budget (x ∷ without eq x (stayed same size budget older)))
