-- Keys in rising order, each of them once.
use Rattle.std.proofs.Common.{◌≡◌, ℕ, zero, suc, ◌+◌, ◌-◌, ◌<◌, ◌≤◌, Bool, true, false, not, ◌&&◌, Option, Some, None, List, [], ◌∷◌, length, get_or, Result, Ok, Err, is_some, refl, sym, ap, ◌∙◌, arith, inl, inr}
use Rattle.std.specs.Prelude.{IfSome, IfOk, IsSomeAnd}
use Rattle.std.specs.Cmp.{IsTotalOrder, IsEquivalence, Equal-is}
use Rattle.std.specs.List.{All, AllByRecursion, AllZip, HoldsAt, filter, find, list_any, slice_get, dedup, dedup_from}
use Rattle.std.specs.List.Sorted.{IsSorted, IsStable, IsStrictlySortedBy, ties, IsBinarySearchResult, IsSearchInRange}
use Rattle.std.specs.Ordering.{eq_by_cmp, is_eq, is_lt, ordering_reverse}
use Rattle.std.specs.Result.{result_ok}
use Rattle.std.specs.declared.cmp.Ordering.{Ordering}
use Rattle.std.specs.declared.cmp.Ordering.TheVariants.{Less, Equal, Greater}
use Rattle.std.proofs.lemmas.Bool.{cases_lt}
use Rattle.std.proofs.lemmas.Cmp.{eq_by_cmp_equiv, tied_back, alike_right}
use Rattle.std.proofs.lemmas.List.Folds.{Any-from_list_any, list_any-from_Any, list_any_at, list_any_none}
use Rattle.std.proofs.lemmas.List.Kept.{Any-dedup, Contains-from_dedup}
use Rattle.std.proofs.lemmas.List.Sorted.{searchable_from_sorted}
use Rattle.std.proofs.lemmas.Map.Keys.{Less-from_sorted, sorted_from_all_adjacent}
use Rattle.broadcast_core.specs.Stored.{AreBelow}
use Rattle.broadcast_core.proofs.Distinct.{by_test, same_truth}

-- what is left of the keys has a key equal to each of them, and no other
pub list_any-dedup : {K : Type 0} {R : K → K → Ordering} (o : IsTotalOrder R) {E : K → K → Bool} (e : IsEquivalence E) → ((x y : K) → E x y ≡ eq_by_cmp R x y) → (xs : List K) (q : K) → list_any (eq_by_cmp R q) (dedup E xs) ≡ list_any (eq_by_cmp R q) xs
list_any-dedup {K} {R} o {E} e ties xs q =
    let equal = eq_by_cmp R q in
    let was : list_any equal (dedup E xs) ≡ true → list_any equal xs ≡ true = λ h.
    let a = Any-from_list_any equal (dedup E xs) h in
    let b = Contains-from_dedup E xs a.1 (a.0, a.2, a.3) in
    list_any-from_Any equal xs (b.0, a.1, b.1, b.2, a.4) in
    let stays : list_any equal xs ≡ true → list_any equal (dedup E xs) ≡ true = λ h.
    let a = Any-from_list_any equal xs h in
    let b = Any-dedup e xs a.1 (a.0, a.2, a.3) in
    let tied : eq_by_cmp R a.1 b.1 ≡ true = sym (ties a.1 b.1) ∙ b.4 in
    list_any-from_Any equal (dedup E xs) (b.0, b.1, b.2, b.3, (eq_by_cmp_equiv o).congr q a.1 b.1 a.4 ∙ tied) in
    same_truth _ _ was stays

-- a key at a place
key_at : {K : Type 0} (P : K → Type 0) (xs : List K) (i : ℕ) → i < length xs → HoldsAt P xs i → IsSomeAnd (slice_get xs i) P
key_at P [] i lt h = absurd (omega arith)
key_at P (x ∷ xs) zero lt h = h x
key_at P (x ∷ xs) (suc i) lt h = key_at P xs i (omega arith) h

is_eq-Equal : (o : Ordering) → o ≡ Equal → is_eq o ≡ true
is_eq-Equal o e = rw e refl

-- keys that rise don't fall
IsSorted-from_rising : {K : Type 0} {R : K → K → Ordering} (o : IsTotalOrder R) → (xs : List K) → IsStrictlySortedBy R xs → IsSorted R xs
IsSorted-from_rising {K} {R} o xs rises k d low high =
    let below = Less-from_sorted R xs k (k + 1) d rises (omega arith) high in
    ap is_lt (o.antisymm (get_or xs (k + 1) d) (get_or xs k d) ∙ ap ordering_reverse below)

-- what a search finds has the key
pub place_found : {K : Type 0} {R : K → K → Ordering} (o : IsTotalOrder R) → (xs : List K) (x : K) (r : Result ℕ ℕ) → IsSearchInRange r (length xs) → IfOk r (HoldsAt (λ y. R y x ≡ Equal) xs) → IfSome (result_ok r) (λ i. IsSomeAnd (slice_get xs i) (λ q. eq_by_cmp R x q ≡ true))
place_found o xs x (Ok i) lt h =
    key_at _ xs i lt (λ d. is_eq-Equal _ (tied_back o (get_or xs i d) x (h d)))
place_found o xs x (Err i) lt h = tt

-- a search finds a place exactly where there is an equal key
pub place_decides : {K : Type 0} {R : K → K → Ordering} (o : IsTotalOrder R) → (xs : List K) (x : K) (r : Result ℕ ℕ) → IsStrictlySortedBy R xs → IsSearchInRange r (length xs) → IsBinarySearchResult (λ y. R y x) xs r → is_some (result_ok r) ≡ list_any (eq_by_cmp R x) xs
place_decides {K} {R} o xs x (Ok i) rises lt h =
    sym (list_any_at (eq_by_cmp R x) xs i x lt (is_eq-Equal _ (tied_back o (get_or xs i x) x (h x))))
place_decides {K} {R} o xs x (Err i) rises lt h =
    let parts = h (searchable_from_sorted o (λ y. y) xs x (IsSorted-from_rising o xs rises)) in
    let apart : All (λ q. eq_by_cmp R x q ≡ false) xs = λ k d within.
    elim (cases_lt k i) [
      | inl before ↦ ap is_eq (o.antisymm x (get_or xs k d) ∙ ap ordering_reverse (parts.0 k d (omega arith) before))
      | inr after ↦ ap is_eq (o.antisymm x (get_or xs k d) ∙ ap ordering_reverse (parts.1 k d after within))
    ] in
    sym (list_any_none (eq_by_cmp R x) xs apart)

-- ---- copies

module _ {K : Type 0} {R : K → K → Ordering} (o : IsTotalOrder R) (Copies : K → K → Type 0) (equal : (x y : K) → Copies x y → eq_by_cmp R x y ≡ true) where
  -- what is below keys has a copy below their copies
  below_copies : (x y : K) (xs ys : List K) → Copies x y → AllZip Copies xs ys → AllByRecursion (λ z. R x z ≡ Less) xs → AllByRecursion (λ z. R y z ≡ Less) ys
  below_copies x y [] [] c all below = tt
  below_copies x y [] (b ∷ ys) c all below = absurd all
  below_copies x y (a ∷ xs) [] c all below = absurd all
  below_copies x y (a ∷ xs) (b ∷ ys) c all below =
      let first = o.congr x y b ((Equal-is (R x y)).0 (equal x y c)) in
      let second = alike_right o a b x ((Equal-is (R a b)).0 (equal a b all.0)) in
      (sym first ∙ sym second ∙ below.0, below_copies x y xs ys c all.1 below.1)

  -- copies of keys that rise do so
  pub rises_from_copies : (xs ys : List K) → AllZip Copies xs ys → IsStrictlySortedBy R xs → IsStrictlySortedBy R ys
  unfolding IsStrictlySortedBy
  rises_from_copies [] [] all rises = tt
  rises_from_copies [] (y ∷ ys) all rises = absurd all
  rises_from_copies (x ∷ xs) [] all rises = absurd all
  rises_from_copies (x ∷ xs) (y ∷ ys) all rises =
      (below_copies x y xs ys all.0 all.1 rises.0, rises_from_copies xs ys all.1 rises.1)

-- ---- the first of equal keys

abbrev first : {K : Type 0} → List K → Option K
first [] = None
first (x ∷ xs) = Some x

find-first : {K : Type 0} (p : K → Bool) (xs : List K) → find p xs ≡ first (filter p xs)
find-first p [] = refl
find-first p (x ∷ xs) = by_test (p x) (λ h. rw h refl) (λ h. rw h (find-first p xs))

find-same : {K : Type 0} (p q : K → Bool) → ((x : K) → p x ≡ q x) → (xs : List K) → find p xs ≡ find q xs
find-same p q same [] = refl
find-same p q same (x ∷ xs) = rw (same x, find-same p q same xs) refl

not_apart : (o : Ordering) → (not (is_lt o) && not (is_lt (ordering_reverse o))) ≡ is_eq o
not_apart Less = refl
not_apart Equal = refl
not_apart Greater = refl

-- what a stable sort leaves has the same first key of those that equal q
find-sorted : {K : Type 0} {R : K → K → Ordering} (o : IsTotalOrder R) (xs ys : List K) (q : K) → IsStable R xs ys → find (eq_by_cmp R q) ys ≡ find (eq_by_cmp R q) xs
find-sorted {K} {R} o xs ys q stable =
    let tied : K → Bool = ties (λ x y. is_lt (R x y)) q in
    let is : (x : K) → tied x ≡ eq_by_cmp R q x = λ x. ap (λ r. not (is_lt (R q x)) && not (is_lt r)) (o.antisymm x q) ∙ not_apart (R q x) in
    sym (find-same tied (eq_by_cmp R q) is ys) ∙ find-first tied ys ∙ ap first (stable q) ∙ sym (find-first tied xs) ∙ find-same tied (eq_by_cmp R q) is xs

module _ {K : Type 0} (E : K → K → Bool) (p : K → Bool) (congr : (x y : K) → E x y ≡ true → p x ≡ p y) where
  find-dedup_from : (k : K) (xs : List K) → find p (dedup_from E k xs) ≡ find p (k ∷ xs)
  find-dedup_from k [] = refl
  find-dedup_from k (x ∷ xs) = by_test (E x k)
      (λ h. rw (h, find-dedup_from k xs) (by_test (p k) (λ t. rw t refl) (λ t. rw (t, congr x k h, t) refl)))
      (λ h. rw (h, find-dedup_from x xs) refl)

  find-dedup : (xs : List K) → find p (dedup E xs) ≡ find p xs
  find-dedup [] = refl
  find-dedup (x ∷ xs) = find-dedup_from x xs

-- of equal keys, the first of them is left
pub find-sort_dedup : {K : Type 0} {R : K → K → Ordering} (o : IsTotalOrder R) {E : K → K → Bool} → ((x y : K) → E x y ≡ eq_by_cmp R x y) → (xs ys : List K) → IsStable R xs ys → (q : K) → find (eq_by_cmp R q) (dedup E ys) ≡ find (eq_by_cmp R q) xs
find-sort_dedup {K} {R} o {E} ties xs ys stable q =
    find-dedup E (eq_by_cmp R q) (λ x y e. let equal = eq_by_cmp_equiv o in equal.symm q x ∙ equal.congr x y q (sym (ties x y) ∙ e) ∙ equal.symm y q) ys
    ∙ find-sorted o xs ys q stable

pub same_place : {K : Type 0} (ks : List K) (j : ℕ) (d e : K) → j < length ks → get_or ks j d ≡ get_or ks j e
same_place [] j d e inside = absurd (omega arith)
same_place (k ∷ ks) zero d e inside = refl
same_place (k ∷ ks) (suc j) d e inside = same_place ks j d e (omega arith)

-- keys of which each is below the next are sorted
pub rises_from_steps : {K : Type 0} {R : K → K → Ordering} → IsTotalOrder R → (ks : List K) (i : ℕ) → length ks ≤ i
    → ((d : K) (k : ℕ) → k + 1 < i → k + 1 < length ks → R (get_or ks k d) (get_or ks (k + 1) d) ≡ Less) → IsStrictlySortedBy R ks
unfolding IsStrictlySortedBy
rises_from_steps o [] i le steps = tt
rises_from_steps o (k ∷ ks) i le steps = sorted_from_all_adjacent o (k ∷ ks) k (λ j lt. steps k j (omega (arith, le, lt)) lt)

-- ---- a walk over sorted keys

module _ {K : Type 0} {R : K → K → Ordering} (o : IsTotalOrder R) (ks : List K) (sorted : IsStrictlySortedBy R ks) (key : K) where
  -- the keys before a key that is below are below too
  pub below_from : (n : ℕ) (d : K) → 0 < n → n ≤ length ks → R (get_or ks (n - 1) d) key ≡ Less → AreBelow R ks key n
  below_from n d some inside below =
      let last : (e : K) → R (get_or ks (n - 1) e) key ≡ Less = λ e. ap (λ x. R x key) (same_place ks (n - 1) e d (omega (arith, some, inside))) ∙ below in (
        inside,
        λ k e lt. elim (cases_lt k (n - 1)) [
          | inl before ↦ o.trans (get_or ks k e) (get_or ks (n - 1) e) key (Less-from_sorted R ks k (n - 1) e sorted before (omega (arith, some, inside))) (last e)
          | inr after ↦ let is : k ≡ n - 1 = omega (arith, after, lt, some) in rw is (last e)
        ],
      )

  -- no key equals what all keys are below, or what is between two of them
  pub none_between : (i : ℕ) → AreBelow R ks key i → ((d : K) → i < length ks → R (get_or ks i d) key ≡ Greater) → list_any (eq_by_cmp R key) ks ≡ false
  none_between i below above =
      let apart : All (λ q. eq_by_cmp R key q ≡ false) ks = λ k d within. elim (cases_lt k i) [
        | inl before ↦ ap is_eq (o.antisymm key (get_or ks k d) ∙ ap ordering_reverse (below.1 k d before))
        | inr after ↦
            let less : R key (get_or ks i d) ≡ Less = o.antisymm key (get_or ks i d) ∙ ap ordering_reverse (above d (omega (arith, after, within))) in
            elim (cases_lt i k) [
              | inl further ↦ ap is_eq (o.trans key (get_or ks i d) (get_or ks k d) less (Less-from_sorted R ks i k d sorted further within))
              | inr here ↦ let is : k ≡ i = omega (arith, after, here) in rw is (ap is_eq less)
            ]
      ] in
      list_any_none (eq_by_cmp R key) ks apart
