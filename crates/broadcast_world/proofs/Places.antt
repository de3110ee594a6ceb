-- Keys at places, and lists that have something for each key.
use Rattle.std.proofs.lemmas.Option.{slice_get-get_or, get_or_from_slice_get}
use Rattle.std.proofs.Common.{◌≡◌, ℕ, ◌+◌, ◌<◌, ◌≤◌, zero, suc, length, get_or, map, take, Bool, true, false, List, [], ◌∷◌, ◌++◌, Option, Some, None, refl, sym, ap, ◌∙◌, arith}
use Rattle.std.proofs.lemmas.List.{take_more, map-append}
use Rattle.std.specs.Option.{option_map}
use Rattle.std.specs.Prelude.{slice_set, is_some, IfSome, IsSomeAnd, MatchOption}
use Rattle.std.specs.List.{AllZip, AllByRecursion, IsDistinct, find, list_any, slice_get, zip}
use Rattle.std.specs.List.Sorted.{IsStrictlySortedBy}
use Rattle.std.specs.Cmp.{IsEquivalence, IsTotalOrder, eq_by_cmp_equiv}
use Rattle.std.specs.Ordering.{eq_by_cmp}
use Rattle.std.specs.declared.cmp.Ordering.{Ordering}
use Rattle.std.proofs.lemmas.Map.Keys.{IsDistinct-from_sorted}
use Rattle.broadcast_core.proofs.Distinct.{by_test, or_false}

-- what a list has at a place is one of its elements
at_place : {X : Type 0} (P : X → Type 0) (xs : List X) (i : ℕ) (x : X) → slice_get xs i ≡ Some x → AllByRecursion P xs → P x
at_place P [] i x h all = absurd (let no = h in cc)
at_place P (y ∷ ys) zero x h all = let is : y ≡ x = cc in rw (sym is) all.0
at_place P (y ∷ ys) (suc i) x h all = at_place P ys i x h all.1

module _ {P : Type 0} (same : P → P → Bool) (laws : IsEquivalence same) where
  -- the only key that equals another is found
  pub find-at : (p : P) (keys : List P) (i : ℕ) (k : P) → IsDistinct same keys → slice_get keys i ≡ Some k → same p k ≡ true → find (same p) keys ≡ Some k
  unfolding IsDistinct
  find-at p [] i k apart h e = absurd (let no = h in cc)
  find-at p (x ∷ xs) zero k apart h e = let is : x ≡ k = cc in rw (is, e) refl
  find-at p (x ∷ xs) (suc i) k apart h e =
      let other : same x k ≡ false = at_place (λ y. same x y ≡ false) xs i k h apart.0 in
      by_test (same p x)
      (λ t. absurd (let both = sym (laws.congr p x k t) ∙ e in cc))
      (λ t. rw t (find-at p xs i k apart.1 h e))

-- equal keys find the same
pub find-equal : {P : Type 0} (same : P → P → Bool) (laws : IsEquivalence same) (p q : P) (keys : List P) → same p q ≡ true → find (same p) keys ≡ find (same q) keys
find-equal same laws p q [] h = refl
find-equal same laws p q (x ∷ keys) h = rw (laws.congr p q x h, find-equal same laws p q keys h) refl

pub find-none : {P : Type 0} (test : P → Bool) (keys : List P) → list_any test keys ≡ false → find test keys ≡ None
find-none test [] h = refl
find-none test (x ∷ xs) h = let both = or_false (test x) (list_any test xs) h in rw both.0 (find-none test xs both.1)

-- what two lists have at a place
pub AllZip-at : {A B : Type 0} (R : A → B → Type 0) (xs : List A) (ys : List B) (i : ℕ) (x : A) (y : B)
    → AllZip R xs ys → slice_get xs i ≡ Some x → slice_get ys i ≡ Some y → R x y
AllZip-at R [] ys i x y all h k = absurd (let no = h in cc)
AllZip-at R (a ∷ xs) [] i x y all h k = absurd (let no = k in cc)
AllZip-at R (a ∷ xs) (b ∷ ys) zero x y all h k = let is : a ≡ x = cc in let was : b ≡ y = cc in rw (sym is, sym was) all.0
AllZip-at R (a ∷ xs) (b ∷ ys) (suc i) x y all h k = AllZip-at R xs ys i x y all.1 h k

pub AllZip-length : {A B : Type 0} (R : A → B → Type 0) (xs : List A) (ys : List B) → AllZip R xs ys → length ys ≡ length xs
AllZip-length R [] [] all = refl
AllZip-length R [] (b ∷ ys) all = absurd all
AllZip-length R (a ∷ xs) [] all = absurd all
AllZip-length R (a ∷ xs) (b ∷ ys) all = ap suc (AllZip-length R xs ys all.1)

-- what follows at each place
pub AllZip-weaker : {A B : Type 0} (R S : A → B → Type 0) (xs : List A) (ys : List B) → ((a : A) (b : B) → R a b → S a b) → AllZip R xs ys → AllZip S xs ys
AllZip-weaker R S [] [] f h = tt
AllZip-weaker R S [] (y ∷ ys) f h = h
AllZip-weaker R S (x ∷ xs) [] f h = h
AllZip-weaker R S (x ∷ xs) (y ∷ ys) f h = (f x y h.0, AllZip-weaker R S xs ys f h.1)

-- the second list has an element where the first has one, and none where it has none
pub AllZip-some : {A B : Type 0} (R : A → B → Type 0) (xs : List A) (ys : List B) (i : ℕ) (x : A) → AllZip R xs ys → slice_get xs i ≡ Some x → (y : B) × (slice_get ys i ≡ Some y) × R x y
AllZip-some R [] ys i x all h = absurd (let no = h in cc)
AllZip-some R (a ∷ xs) [] i x all h = absurd all
AllZip-some R (a ∷ xs) (b ∷ ys) zero x all h = let is : a ≡ x = cc in (b, refl, rw (sym is) all.0)
AllZip-some R (a ∷ xs) (b ∷ ys) (suc i) x all h = AllZip-some R xs ys i x all.1 h

pub AllZip-none : {A B : Type 0} (R : A → B → Type 0) (xs : List A) (ys : List B) (i : ℕ) → AllZip R xs ys → slice_get xs i ≡ None → slice_get ys i ≡ None
AllZip-none R [] [] i all h = refl
AllZip-none R [] (b ∷ ys) i all h = absurd all
AllZip-none R (a ∷ xs) [] i all h = absurd all
AllZip-none R (a ∷ xs) (b ∷ ys) zero all h = absurd (let no = h in cc)
AllZip-none R (a ∷ xs) (b ∷ ys) (suc i) all h = AllZip-none R xs ys i all.1 h

pub AllZip-append : {A B : Type 0} (R : A → B → Type 0) (xs : List A) (ys : List B) (more : List A) (others : List B) → AllZip R xs ys → AllZip R more others → AllZip R (xs ++ more) (ys ++ others)
AllZip-append R [] [] more others all h = h
AllZip-append R [] (b ∷ ys) more others all h = absurd all
AllZip-append R (a ∷ xs) [] more others all h = absurd all
AllZip-append R (a ∷ xs) (b ∷ ys) more others all h = (all.0, AllZip-append R xs ys more others all.1 h)

module _ {P B : Type 0} (same : P → P → Bool) (laws : IsEquivalence same) (R S : P → B → Type 0) (k : P) (other : (q : P) (b : B) → same q k ≡ false → R q b → S q b) where
  AllZip-others : (keys : List P) (ys : List B) → AllByRecursion (λ q. same k q ≡ false) keys → AllZip R keys ys → AllZip S keys ys
  AllZip-others [] [] apart all = tt
  AllZip-others [] (y ∷ ys) apart all = all
  AllZip-others (q ∷ keys) [] apart all = all
  AllZip-others (q ∷ keys) (y ∷ ys) apart all = (other q y (laws.symm q k ∙ apart.0) all.0, AllZip-others keys ys apart.1 all.1)

  -- the element of one key changes
  pub AllZip-changed : (keys : List P) (ys : List B) (i : ℕ) (y : B) → IsDistinct same keys → slice_get keys i ≡ Some k → AllZip R keys ys → S k y
      → AllZip S keys (slice_set ys i y)
  unfolding IsDistinct
  AllZip-changed [] ys i y apart h all here = absurd (let no = h in cc)
  AllZip-changed (q ∷ keys) [] i y apart h all here = absurd all
  AllZip-changed (q ∷ keys) (b ∷ ys) zero y apart h all here =
      let is : q ≡ k = cc in
      (rw is here, AllZip-others keys ys (rw (sym is) apart.0) all.1)
  AllZip-changed (q ∷ keys) (b ∷ ys) (suc i) y apart h all here =
      (other q b (at_place (λ x. same q x ≡ false) keys i k h apart.0) all.0, AllZip-changed keys ys i y apart.1 h all.1 here)

some_at : {X : Type 0} (o : Option X) (P : X → Type 0) → IsSomeAnd o P → (x : X) × (o ≡ Some x) × P x
some_at None P h = absurd h
some_at (Some x) P h = (x, refl, h)

-- the key at the place that a search found, or none
pub find-placed : {P : Type 0} {cmp : P → P → Ordering} (o : IsTotalOrder cmp) (p : P) (keys : List P) (r : Option ℕ) → IsStrictlySortedBy cmp keys
    → IfSome r (λ i. IsSomeAnd (slice_get keys i) (λ q. eq_by_cmp cmp p q ≡ true)) → is_some r ≡ list_any (eq_by_cmp cmp p) keys
    → MatchOption r (find (eq_by_cmp cmp p) keys ≡ None) (λ i. (k : P) × (slice_get keys i ≡ Some k) × (find (eq_by_cmp cmp p) keys ≡ Some k))
find-placed {P} {cmp} o p keys None rises place some = find-none (eq_by_cmp cmp p) keys (sym some)
find-placed {P} {cmp} o p keys (Some i) rises place some =
    let placed = some_at (slice_get keys i) _ place in
    (placed.0, placed.1, find-at (eq_by_cmp cmp) (eq_by_cmp_equiv o) p keys i placed.0 (IsDistinct-from_sorted cmp keys rises) placed.1 placed.2)

-- what an index gives
pub read_at : {X : Type 0} (xs : List X) (i : ℕ) (x : X) → i < length xs → x ≡ get_or xs i x → slice_get xs i ≡ Some x
read_at xs i x within is = slice_get-get_or xs i x within ∙ ap Some (sym is)

-- what lies past the end
pub slice_get-past : {X : Type 0} (xs : List X) (i : ℕ) → length xs ≤ i → slice_get xs i ≡ None
slice_get-past [] i h = refl
slice_get-past (x ∷ xs) zero h = absurd (omega arith)
slice_get-past (x ∷ xs) (suc i) h = slice_get-past xs i (omega arith)

-- an element written over itself
pub set_same : {X : Type 0} (xs : List X) (i : ℕ) (x : X) → slice_get xs i ≡ Some x → slice_set xs i x ≡ xs
set_same [] i x h = absurd (let no = h in cc)
set_same (y ∷ ys) zero x h = let is : y ≡ x = cc in ap (λ z. z ∷ ys) (sym is)
set_same (y ∷ ys) (suc i) x h = ap (λ zs. y ∷ zs) (set_same ys i x h)

-- what an index gives of keys that were searched
pub key_read : {X : Type 0} (xs ys : List X) (i : ℕ) (x r : X) → slice_get ys i ≡ Some x → xs ≡ ys → r ≡ get_or xs i r → r ≡ x
key_read xs ys i x r h e is = is ∙ ap (λ zs. get_or zs i r) e ∙ get_or_from_slice_get ys i x r h

-- one more element of a list that a loop goes over
pub map_next : {X Y : Type 0} (f : X → Y) (xs : List X) (i : ℕ) (x : X) → i < length xs → x ≡ get_or xs i x → map f (take (i + 1) xs) ≡ map f (take i xs) ++ f x ∷ []
map_next f xs i x within is =
    ap (map f) (take_more xs i x within ∙ ap (λ y. take i xs ++ y ∷ []) (sym is)) ∙ map-append f (take i xs) (x ∷ [])

-- what a second list has for a key of the first
module _ {P B : Type 0} (same : P → P → Bool) (laws : IsEquivalence same) where
  pub find-zip : (p : P) (keys : List P) (ys : List B) (i : ℕ) (k : P) → IsDistinct same keys → length ys ≡ length keys → slice_get keys i ≡ Some k → same p k ≡ true
      → option_map (λ e. e.1) (find (λ e. same p e.0) (zip keys ys)) ≡ slice_get ys i
  unfolding IsDistinct
  find-zip p [] ys i k apart long h e = absurd (let no = h in cc)
  find-zip p (x ∷ xs) [] i k apart long h e = absurd (omega arith)
  find-zip p (x ∷ xs) (y ∷ ys) zero k apart long h e = let is : x ≡ k = cc in rw (is, e) refl
  find-zip p (x ∷ xs) (y ∷ ys) (suc i) k apart long h e =
      let other : same x k ≡ false = at_place (λ z. same x z ≡ false) xs i k h apart.0 in
      by_test (same p x)
      (λ t. absurd (let both = sym (laws.congr p x k t) ∙ e in cc))
      (λ t. rw t (find-zip p xs ys i k apart.1 (omega arith) h e))

  pub find-zip-none : (p : P) (keys : List P) (ys : List B) → list_any (same p) keys ≡ false → option_map (λ e. e.1) (find (λ e. same p e.0) (zip keys ys)) ≡ None
  find-zip-none p [] ys h = refl
  find-zip-none p (x ∷ xs) [] h = refl
  find-zip-none p (x ∷ xs) (y ∷ ys) h = let both = or_false (same p x) (list_any (same p) xs) h in rw both.0 (find-zip-none p xs ys both.1)

-- the same, by what a search found
pub found-zip : {P B : Type 0} {cmp : P → P → Ordering} (o : IsTotalOrder cmp) (p : P) (keys : List P) (ys : List B) (i : ℕ) → IsStrictlySortedBy cmp keys → length ys ≡ length keys
    → IsSomeAnd (slice_get keys i) (λ q. eq_by_cmp cmp p q ≡ true) → option_map (λ e. e.1) (find (λ e. eq_by_cmp cmp p e.0) (zip keys ys)) ≡ slice_get ys i
found-zip {cmp = cmp} o p keys ys i rises long place =
    let placed = some_at (slice_get keys i) _ place in
    find-zip (eq_by_cmp cmp) (eq_by_cmp_equiv o) p keys ys i placed.0 (IsDistinct-from_sorted cmp keys rises) long placed.1 placed.2

-- lists without a common key
module _ {P : Type 0} (same : P → P → Bool) (laws : IsEquivalence same) where
  any-other : (q h : P) (keys : List P) → same q h ≡ true → list_any (λ n. same n h) keys ≡ list_any (same q) keys
  any-other q h [] e = refl
  any-other q h (x ∷ keys) e = rw (laws.symm x h, sym (laws.congr q h x e), any-other q h keys e) refl

  pub keys-apart : (q : P) (keys others : List P) → list_any (same q) keys ≡ true → list_any (λ h. list_any (λ n. same n h) keys) others ≡ false → list_any (same q) others ≡ false
  keys-apart q keys [] here none = refl
  keys-apart q keys (h ∷ others) here none =
      let both = or_false (list_any (λ n. same n h) keys) (list_any (λ k. list_any (λ n. same n k) keys) others) none in
      by_test (same q h)
      (λ t. absurd (let no = sym both.0 ∙ any-other q h keys t ∙ here in cc))
      (λ t. rw t (keys-apart q keys others here both.1))
