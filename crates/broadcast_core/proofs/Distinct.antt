-- Lists of which no two elements are equal, and lists without an element.
use Rattle.std.proofs.Common.{◌≡◌, suc, ◌<◌, ◌≤◌, Bool, true, false, not, ◌||◌, cond, List, [], ◌∷◌, ◌++◌, length, Some, None, refl, sym, ap, ◌∙◌, arith}
use Rattle.std.specs.List.{list_any, filter, IsDistinct, AllByRecursion, position, position_or_len}
use Rattle.std.specs.Cmp.{IsEquivalence}
use Rattle.std.proofs.lemmas.Bool.{lt-ltb}
use Rattle.broadcast_core.specs.Content.{among, without}

pub or_false : (a b : Bool) → (a || b) ≡ false → (a ≡ false) × (b ≡ false)
or_false true b h = absurd cc
or_false false b h = (refl, h)

pub length-filter_le : {X : Type 0} (p : X → Bool) (xs : List X) → length (filter p xs) ≤ length xs
length-filter_le p [] = omega arith
length-filter_le p (x ∷ xs) = elim (p x) as (λ b. length (cond b (x ∷ filter p xs) (filter p xs)) ≤ suc (length xs)) [ true ↦ omega (arith, length-filter_le p xs) | false ↦ omega (arith, length-filter_le p xs) ]

pub by_test : {P : Type 0} (b : Bool) → (b ≡ true → P) → (b ≡ false → P) → P
by_test true at_true at_false = at_true refl
by_test false at_true at_false = at_false refl

-- two truths are one, where each gives the other
pub same_truth : (a b : Bool) → (a ≡ true → b ≡ true) → (b ≡ true → a ≡ true) → a ≡ b
same_truth true b f g = sym (f refl)
same_truth false true f g = g refl
same_truth false false f g = refl

pub or_right : (a : Bool) → (a || true) ≡ true
or_right true = refl
or_right false = refl

pub or_none : (a : Bool) → (a || false) ≡ a
or_none true = refl
or_none false = refl

pub list_any-append : {X : Type 0} (p : X → Bool) (xs ys : List X) → list_any p (xs ++ ys) ≡ (list_any p xs || list_any p ys)
list_any-append p [] ys = refl
list_any-append p (x ∷ xs) ys = elim (p x) as (λ b. (b || list_any p (xs ++ ys)) ≡ ((b || list_any p xs) || list_any p ys)) [ true ↦ refl | false ↦ list_any-append p xs ys ]

-- tests that agree at each element
pub list_any-same : {X : Type 0} (p q : X → Bool) (xs : List X) → ((x : X) → p x ≡ q x) → list_any p xs ≡ list_any q xs
list_any-same p q [] h = refl
list_any-same p q (x ∷ xs) h = rw (h x) (ap (λ b. q x || b) (list_any-same p q xs h))

pub filter-same : {X : Type 0} (p q : X → Bool) (xs : List X) → ((x : X) → p x ≡ q x) → filter p xs ≡ filter q xs
filter-same p q [] h = refl
filter-same p q (x ∷ xs) h = rw (h x) (ap (λ ys. cond (q x) (x ∷ ys) ys) (filter-same p q xs h))

pub filter-all : {X : Type 0} (p : X → Bool) (xs : List X) → AllByRecursion (λ x. p x ≡ true) xs → filter p xs ≡ xs
filter-all p [] h = refl
filter-all p (x ∷ xs) h = rw h.0 (ap (λ ys. x ∷ ys) (filter-all p xs h.1))

none_same : {X : Type 0} (p : X → Bool) (xs : List X) → list_any p xs ≡ false → AllByRecursion (λ y. p y ≡ false) xs
none_same p [] h = tt
none_same p (x ∷ xs) h = let both = or_false (p x) (list_any p xs) h in (both.0, none_same p xs both.1)

pub none-from_all : {X : Type 0} (p : X → Bool) (xs : List X) → AllByRecursion (λ y. p y ≡ false) xs → list_any p xs ≡ false
none-from_all p [] h = refl
none-from_all p (x ∷ xs) h = rw h.0 (none-from_all p xs h.1)

all_not : {X : Type 0} (p : X → Bool) (xs : List X) → AllByRecursion (λ y. p y ≡ false) xs → AllByRecursion (λ y. not (p y) ≡ true) xs
all_not p [] h = tt
all_not p (x ∷ xs) h = (ap not h.0, all_not p xs h.1)

place_some : {X : Type 0} (p : X → Bool) (xs : List X) → list_any p xs ≡ true → position_or_len p xs < length xs
place_some p [] h = absurd cc
place_some p (x ∷ xs) h = by_test (p x)
    (λ e. rw e (omega arith))
    (λ e. let rest : list_any p xs ≡ true = sym (ap (λ b. b || list_any p xs) e) ∙ h in rw e (omega (arith, place_some p xs rest)))

-- what a search for the first place says of the list
pub none-found : {X : Type 0} (p : X → Bool) (xs : List X) → position p xs ≡ None → list_any p xs ≡ false
none-found p xs h = by_test (list_any p xs)
    (λ e. let found : position p xs ≡ Some (position_or_len p xs) = rw (lt-ltb _ _ (place_some p xs e)) refl in absurd cc)
    (λ e. e)

module _ {D : Type 0} {same : D → D → Bool} (laws : IsEquivalence same) where
  -- equal elements have equal tests
  pub among-equal : (d e : D) (xs : List D) → same d e ≡ true → among same d xs ≡ among same e xs
  among-equal d e xs h = list_any-same (same d) (same e) xs (λ x. laws.congr d e x h)

  pub IsDistinct-front : (d : D) (xs : List D) → among same d xs ≡ false → IsDistinct same xs → IsDistinct same (d ∷ xs)
  unfolding IsDistinct
  IsDistinct-front d xs h k = (none_same (same d) xs h, k)

  pub among-head : (d : D) (xs : List D) → IsDistinct same (d ∷ xs) → among same d xs ≡ false
  unfolding IsDistinct
  among-head d xs k = none-from_all (same d) xs k.0

  pub IsDistinct-rest : (d : D) (xs : List D) → IsDistinct same (d ∷ xs) → IsDistinct same xs
  unfolding IsDistinct
  IsDistinct-rest d xs k = k.1

  -- what is not there needs no taking out
  pub without-absent : (d : D) (xs : List D) → among same d xs ≡ false → without same d xs ≡ xs
  without-absent d xs h = filter-all (λ x. not (same d x)) xs (all_not (same d) xs (none_same (same d) xs h))

  pub among-without : (d : D) (xs : List D) → among same d (without same d xs) ≡ false
  among-without d [] = refl
  among-without d (x ∷ xs) = by_test (same d x) (λ e. rw e (among-without d xs)) (λ e. rw (e, e) (among-without d xs))

  -- other elements stay
  pub among-without_other : (d e : D) (xs : List D) → same d e ≡ false → among same e (without same d xs) ≡ among same e xs
  among-without_other d e [] h = refl
  among-without_other d e (x ∷ xs) h = by_test (same d x)
      (λ eq. let apart : same e x ≡ false = laws.symm e x ∙ sym (laws.congr d x e eq) ∙ h in rw (eq, apart) (among-without_other d e xs h))
      (λ eq. rw eq (ap (λ b. same e x || b) (among-without_other d e xs h)))

  all_kept : (P : D → Type 0) (p : D → Bool) (xs : List D) → AllByRecursion P xs → AllByRecursion P (filter p xs)
  all_kept P p [] h = tt
  all_kept P p (x ∷ xs) h =
      elim (p x) as (λ b. AllByRecursion P (cond b (x ∷ filter p xs) (filter p xs))) [ true ↦ (h.0, all_kept P p xs h.1) | false ↦ all_kept P p xs h.1 ]

  pub IsDistinct-filter : (p : D → Bool) (xs : List D) → IsDistinct same xs → IsDistinct same (filter p xs)
  unfolding IsDistinct
  IsDistinct-filter p [] h = tt
  IsDistinct-filter p (x ∷ xs) h =
      elim (p x) as (λ b. IsDistinct same (cond b (x ∷ filter p xs) (filter p xs))) [ true ↦ (all_kept (λ y. same x y ≡ false) p xs h.0, IsDistinct-filter p xs h.1) | false ↦ IsDistinct-filter p xs h.1 ]

  pub IsDistinct-moved : (d : D) (xs : List D) → IsDistinct same xs → IsDistinct same (d ∷ without same d xs)
  IsDistinct-moved d xs h = IsDistinct-front d (without same d xs) (among-without d xs) (IsDistinct-filter (λ x. not (same d x)) xs h)

  -- the last of a distinct list is not among the others
  last_apart : (x d : D) (xs : List D) → IsDistinct same (x ∷ (xs ++ d ∷ [])) → (among same x xs ≡ false) × (same x d ≡ false)
  last_apart x d xs h =
      let both = or_false (among same x xs) (same x d || false) (sym (list_any-append (same x) xs (d ∷ [])) ∙ among-head x (xs ++ d ∷ []) h) in
      (both.0, sym (or_none (same x d)) ∙ both.1)

  pub among-last : (xs : List D) (d : D) → IsDistinct same (xs ++ d ∷ []) → among same d xs ≡ false
  among-last [] d h = refl
  among-last (x ∷ xs) d h =
      let apart : same d x ≡ false = laws.symm d x ∙ (last_apart x d xs h).1 in
      rw apart (among-last xs d (IsDistinct-rest x (xs ++ d ∷ []) h))

  pub IsDistinct-init : (xs : List D) (d : D) → IsDistinct same (xs ++ d ∷ []) → IsDistinct same xs
  unfolding IsDistinct
  IsDistinct-init [] d h = tt
  IsDistinct-init (x ∷ xs) d h = IsDistinct-front x xs (last_apart x d xs h).0 (IsDistinct-init xs d h.1)

  -- a digest that moves makes the list no longer
  pub length-moved : (d : D) (xs : List D) → among same d xs ≡ true → length (d ∷ without same d xs) ≤ length xs
  length-moved d [] h = absurd cc
  length-moved d (x ∷ xs) h = by_test (same d x)
      (λ e. rw e (omega (arith, length-filter_le (λ y. not (same d y)) xs)))
      (λ e. let rest : among same d xs ≡ true = sym (ap (λ b. b || among same d xs) e) ∙ h in rw e (omega (arith, length-moved d xs rest)))
