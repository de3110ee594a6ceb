-- What a message's places are after one of them left.
use Rattle.std.proofs.Common.{Bool, true, false, cond, not, ◌≡◌, ℕ, List, [], ◌∷◌, ◌++◌, Option, Some, None, refl, sym, ap, ◌∙◌, length, MatchBool}
use Rattle.std.specs.List.{filter}
use Rattle.std.specs.Prelude.{is_some}
use Rattle.std.specs.Cmp.{IsEquivalence}
use Rattle.std.specs.Map.{lookup}
use Rattle.entries.specs.Placed.{with_first, first_place, all_places, near_place, first_of_two, Adds, Leaves}

empty_list : {X : Type 0} (xs : List X) → length xs ≡ 0 → xs ≡ []
empty_list [] e = refl
empty_list (x ∷ xs) e = absurd cc

by_test : {P : Type 0} (b : Bool) → (b ≡ true → P) → (b ≡ false → P) → P
by_test true at_true at_false = at_true refl
by_test false at_true at_false = at_false refl

-- the first place, if it is not one of the test's
abbrev pub without_first : {K : Type 0} → (K → Bool) → Option (K × ℕ) → Option (K × ℕ)
without_first test a = cond (is_some (first_place test a)) None a

-- the place of a key leaves the first place and the others
pub first_left : {K : Type 0} {same : K → K → Bool} (laws : IsEquivalence same) (p : K) (first : Option (K × ℕ)) (es fs : List (K × ℕ))
    → ((q : K) → lookup (same q) fs ≡ cond (same p q) None (lookup (same q) es))
    → (q : K) → lookup (same q) (with_first (cond (is_some (first_place (same p) first)) None first) fs) ≡ cond (same p q) None (lookup (same q) (with_first first es))
first_left laws p None es fs left q = left q
first_left {same = same} laws p (Some e) es fs left q = by_test (same p e.0)
    (λ mine. rw mine (left q ∙ by_test (same p q)
    (λ here. rw here refl)
    (λ apart. let other : same q e.0 ≡ false = laws.symm q e.0 ∙ sym (laws.congr p e.0 q mine) ∙ apart in rw (apart, other) refl)))
    (λ other. rw other (by_test (same p q)
    (λ here. let none : same q e.0 ≡ false = sym (laws.congr p q e.0 here) ∙ other in rw (here, none) (left q ∙ rw here refl))
    (λ apart. rw apart (ap (λ o. cond (same q e.0) (Some e.1) o) (left q ∙ rw apart refl)))))

-- two lists are searched one after the other
pub lookup_both : {K X : Type 0} (test : K → Bool) (xs ys : List (K × X)) → lookup test (xs ++ ys) ≡ first_of_two (lookup test xs) (lookup test ys)
lookup_both test [] ys = refl
lookup_both test (x ∷ xs) ys = by_test (test x.0) (λ t. rw t refl) (λ t. rw t (lookup_both test xs ys))

-- a key that leaves both lists leaves them together
pub both_left : {K X : Type 0} (same : K → K → Bool) (p : K) (xs ys us vs : List (K × X))
    → ((q : K) → lookup (same q) us ≡ cond (same p q) None (lookup (same q) xs))
    → ((q : K) → lookup (same q) vs ≡ cond (same p q) None (lookup (same q) ys))
    → (q : K) → lookup (same q) (us ++ vs) ≡ cond (same p q) None (lookup (same q) (xs ++ ys))
both_left same p xs ys us vs left right q =
    rw (lookup_both (same q) us vs, lookup_both (same q) xs ys, left q, right q)
    (by_test (same p q) (λ t. rw t refl) (λ t. rw t refl))

-- a list without the entries of a key
pub kept_left : {K X : Type 0} {same : K → K → Bool} (laws : IsEquivalence same) (p : K) (es : List (K × X)) (q : K)
    → lookup (same q) (filter (λ e. not (same p e.0)) es) ≡ cond (same p q) None (lookup (same q) es)
kept_left {same = same} laws p [] q = by_test (same p q) (λ t. rw t refl) (λ t. rw t refl)
kept_left {same = same} laws p (e ∷ es) q = by_test (same p e.0)
    (λ mine. rw mine (kept_left laws p es q ∙ by_test (same p q)
    (λ here. rw here refl)
    (λ apart. let other : same q e.0 ≡ false = laws.symm q e.0 ∙ sym (laws.congr p e.0 q mine) ∙ apart in rw (apart, other) refl)))
    (λ other. rw other (by_test (same p q)
    (λ here. let none : same q e.0 ≡ false = sym (laws.congr p q e.0 here) ∙ other in rw (here, none) (kept_left laws p es q ∙ rw here refl))
    (λ apart. rw apart (ap (λ o. cond (same q e.0) (Some e.1) o) (kept_left laws p es q ∙ rw apart refl)))))

absent_head : {K : Type 0} (same : K → K → Bool) (p : K) (e : K × ℕ) (us : List (K × ℕ)) → lookup (same p) (e ∷ us) ≡ None → (same p e.0 ≡ false) × (lookup (same p) us ≡ None)
absent_head same p e us none = by_test (same p e.0)
    (λ t. absurd (let h : Some e.1 ≡ None = sym (ap (λ b. cond b (Some e.1) (lookup (same p) us)) t) ∙ none in cc))
    (λ t. (t, sym (ap (λ b. cond b (Some e.1) (lookup (same p) us)) t) ∙ none))

behind : {K : Type 0} {same : K → K → Bool} (laws : IsEquivalence same) (p : K) (i : ℕ) (e : K × ℕ) (us vs : List (K × ℕ))
    → same p e.0 ≡ false → Adds same p i us vs → Adds same p i (e ∷ us) (e ∷ vs)
behind {same = same} laws p i e us vs other adds q = by_test (same p q)
    (λ here. let none : same q e.0 ≡ false = sym (laws.congr p q e.0 here) ∙ other in rw (here, none) (adds q ∙ rw here refl))
    (λ apart. rw apart (ap (λ o. cond (same q e.0) (Some e.1) o) (adds q ∙ rw apart refl)))

-- a place between two lists
pub added_between : {K : Type 0} {same : K → K → Bool} (laws : IsEquivalence same) (p : K) (i : ℕ) (xs ys : List (K × ℕ))
    → lookup (same p) (xs ++ ys) ≡ None → Adds same p i (xs ++ ys) ((xs ++ (p, i) ∷ []) ++ ys)
added_between {same = same} laws p i [] ys none = λ q. rw (laws.symm q p) refl
added_between {same = same} laws p i (e ∷ xs) ys none = let h = absent_head same p e (xs ++ ys) none in
    behind laws p i e (xs ++ ys) ((xs ++ (p, i) ∷ []) ++ ys) h.0 (added_between laws p i xs ys h.1)

-- a place in the second list
pub added_behind : {K : Type 0} {same : K → K → Bool} (laws : IsEquivalence same) (p : K) (i : ℕ) (xs ys zs : List (K × ℕ))
    → lookup (same p) (xs ++ ys) ≡ None → Adds same p i ys zs → Adds same p i (xs ++ ys) (xs ++ zs)
added_behind {same = same} laws p i [] ys zs none adds = adds
added_behind {same = same} laws p i (e ∷ xs) ys zs none adds = let h = absent_head same p e (xs ++ ys) none in
    behind laws p i e (xs ++ ys) (xs ++ zs) h.0 (added_behind laws p i xs ys zs h.1 adds)

-- a key that is nowhere is behind the first place
first_absent : {K : Type 0} (test : K → Bool) (a : Option (K × ℕ)) (us : List (K × ℕ)) → lookup test (with_first a us) ≡ None → lookup test us ≡ None
first_absent test None us none = none
first_absent test (Some e) us none = by_test (test e.0)
    (λ t. absurd (let h : Some e.1 ≡ None = sym (ap (λ b. cond b (Some e.1) (lookup test us)) t) ∙ none in cc))
    (λ t. sym (ap (λ b. cond b (Some e.1) (lookup test us)) t) ∙ none)

-- a place behind the first one
behind_first : {K : Type 0} {same : K → K → Bool} (laws : IsEquivalence same) (p : K) (i : ℕ) (a : Option (K × ℕ)) (us vs : List (K × ℕ))
    → lookup (same p) (with_first a us) ≡ None → Adds same p i us vs → Adds same p i (with_first a us) (with_first a vs)
behind_first laws p i None us vs none adds = adds
behind_first {same = same} laws p i (Some e) us vs none adds = behind laws p i e us vs (absent_head same p e us none).0 adds

-- a place that becomes the first one
at_first : {K : Type 0} {same : K → K → Bool} (laws : IsEquivalence same) (p : K) (i : ℕ) (a : Option (K × ℕ)) (us : List (K × ℕ)) → a ≡ None → Adds same p i (with_first a us) ((p, i) ∷ us)
at_first {same = same} laws p i a us none q = rw (none, laws.symm q p) refl

module _ {K : Type 0} {same : K → K → Bool} (laws : IsEquivalence same) (p : K) (i : ℕ) (a b c d : Option (K × ℕ)) (xs : List (K × ℕ)) (none : lookup (same p) (all_places a b c d xs) ≡ None) where
  none_b : lookup (same p) (with_first b (with_first c (with_first d xs))) ≡ None
  none_b = first_absent (same p) a (with_first b (with_first c (with_first d xs))) none

  none_c : lookup (same p) (with_first c (with_first d xs)) ≡ None
  none_c = first_absent (same p) b (with_first c (with_first d xs)) none_b

  none_d : lookup (same p) (with_first d xs) ≡ None
  none_d = first_absent (same p) c (with_first d xs) none_c

  -- the key is not among the others
  pub none_far : lookup (same p) xs ≡ None
  none_far = first_absent (same p) d xs none_d

  pub adds_first : a ≡ None → Adds same p i (all_places a b c d xs) (all_places (Some (p, i)) b c d xs)
  adds_first free = at_first laws p i a (with_first b (with_first c (with_first d xs))) free

  pub adds_second : b ≡ None → Adds same p i (all_places a b c d xs) (all_places a (Some (p, i)) c d xs)
  adds_second free = behind_first laws p i a (with_first b (with_first c (with_first d xs))) ((p, i) ∷ with_first c (with_first d xs)) none
      (at_first laws p i b (with_first c (with_first d xs)) free)

  pub adds_third : c ≡ None → Adds same p i (all_places a b c d xs) (all_places a b (Some (p, i)) d xs)
  adds_third free = behind_first laws p i a (with_first b (with_first c (with_first d xs))) (with_first b ((p, i) ∷ with_first d xs)) none
      (behind_first laws p i b (with_first c (with_first d xs)) ((p, i) ∷ with_first d xs) none_b
      (at_first laws p i c (with_first d xs) free))

  pub adds_fourth : d ≡ None → Adds same p i (all_places a b c d xs) (all_places a b c (Some (p, i)) xs)
  adds_fourth free = behind_first laws p i a (with_first b (with_first c (with_first d xs))) (with_first b (with_first c ((p, i) ∷ xs))) none
      (behind_first laws p i b (with_first c (with_first d xs)) (with_first c ((p, i) ∷ xs)) none_b
      (behind_first laws p i c (with_first d xs) ((p, i) ∷ xs) none_c
      (at_first laws p i d xs free)))

  -- a place among the others
  pub adds_far : (ys : List (K × ℕ)) → Adds same p i xs ys → Adds same p i (all_places a b c d xs) (all_places a b c d ys)
  adds_far ys adds = behind_first laws p i a (with_first b (with_first c (with_first d xs))) (with_first b (with_first c (with_first d ys))) none
      (behind_first laws p i b (with_first c (with_first d xs)) (with_first c (with_first d ys)) none_b
      (behind_first laws p i c (with_first d xs) (with_first d ys) none_c
      (behind_first laws p i d xs ys none_d adds)))

-- the place of a key leaves them all
pub all_left : {K : Type 0} {same : K → K → Bool} (laws : IsEquivalence same) (p : K) (a b c d : Option (K × ℕ)) (xs ys : List (K × ℕ)) → Leaves same p xs ys
    → Leaves same p (all_places a b c d xs) (all_places (without_first (same p) a) (without_first (same p) b) (without_first (same p) c) (without_first (same p) d) ys)
all_left {same = same} laws p a b c d xs ys left =
    let d_left = first_left laws p d xs ys left in
    let c_left = first_left laws p c (with_first d xs) (with_first (without_first (same p) d) ys) d_left in
    let b_left = first_left laws p b (with_first c (with_first d xs)) (with_first (without_first (same p) c) (with_first (without_first (same p) d) ys)) c_left in
    first_left laws p a (with_first b (with_first c (with_first d xs))) (with_first (without_first (same p) b) (with_first (without_first (same p) c) (with_first (without_first (same p) d) ys))) b_left

lookup_first : {K : Type 0} (test : K → Bool) (a : Option (K × ℕ)) (us : List (K × ℕ)) → lookup test (with_first a us) ≡ first_of_two (first_place test a) (lookup test us)
lookup_first test None us = refl
lookup_first test (Some e) us = by_test (test e.0) (λ t. rw t refl) (λ t. rw t refl)

first_of-assoc : {X : Type 0} (a b c : Option X) → first_of_two (first_of_two a b) c ≡ first_of_two a (first_of_two b c)
first_of-assoc None b c = refl
first_of-assoc (Some x) b c = refl

-- the places are searched one after the other
pub lookup_all : {K : Type 0} (test : K → Bool) (a b c d : Option (K × ℕ)) (xs : List (K × ℕ)) → lookup test (all_places a b c d xs) ≡ first_of_two (near_place test a b c d) (lookup test xs)
lookup_all test a b c d xs =
    let r1 = lookup_first test a (with_first b (with_first c (with_first d xs))) in
    let r2 = lookup_first test b (with_first c (with_first d xs)) in
    let r3 = lookup_first test c (with_first d xs) in
    let r4 = lookup_first test d xs in
    r1 ∙ ap (first_of_two (first_place test a)) (r2 ∙ ap (first_of_two (first_place test b)) (r3 ∙ ap (first_of_two (first_place test c)) r4))
    ∙ sym (first_of-assoc (first_place test a) (first_of_two (first_place test b) (first_of_two (first_place test c) (first_place test d))) (lookup test xs)
    ∙ ap (first_of_two (first_place test a)) (first_of-assoc (first_place test b) (first_of_two (first_place test c) (first_place test d)) (lookup test xs)
    ∙ ap (first_of_two (first_place test b)) (first_of-assoc (first_place test c) (first_place test d) (lookup test xs))))

-- nothing is left exactly if nothing is left of the last list
pub last_left : {K : Type 0} (xs ys : List (K × ℕ)) (r : Bool) → length xs ≡ 0 → (r ≡ true → length ys ≡ 0) → (length ys ≡ 0 → r ≡ true) → MatchBool r (xs ++ ys ≡ []) (xs ++ ys ≡ [] → ⊥)
last_left [] ys true few said back = empty_list ys (said refl)
last_left [] ys false few said back = λ e. (let h : false ≡ true = back (ap length e) in absurd cc)
last_left (x ∷ xs) ys r few said back = absurd cc

-- a place among the first ones is left
pub few_left : {K : Type 0} (xs ys : List (K × ℕ)) → (length xs ≡ 0 → ⊥) → xs ++ ys ≡ [] → ⊥
few_left [] ys some e = some refl
few_left (x ∷ xs) ys some e = absurd cc

-- a place in front is left
first_some : {K : Type 0} (a : Option (K × ℕ)) (us : List (K × ℕ)) → with_first a us ≡ [] → (is_some a ≡ false) × (us ≡ [])
first_some None us e = (refl, e)
first_some (Some x) us e = absurd cc

pub near_some : {K : Type 0} (a b c d : Option (K × ℕ)) (us : List (K × ℕ)) → all_places a b c d us ≡ [] → (is_some a ≡ false) × (is_some b ≡ false) × (is_some c ≡ false) × (is_some d ≡ false)
near_some a b c d us e =
    let p = first_some a (with_first b (with_first c (with_first d us))) e in
    let q = first_some b (with_first c (with_first d us)) p.1 in
    let r = first_some c (with_first d us) q.1 in
    (p.0, q.0, r.0, (first_some d us r.1).0)
