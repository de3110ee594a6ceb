-- What a search of tickets finds.
use Rattle.std.proofs.Common.{◌≡◌, ℕ, suc, ◌<◌, Bool, true, false, inl, inr, List, [], ◌∷◌, length, Result, Ok, Err, refl, sym, subst, ap, ◌∙◌, ◌+◌, ◌%◌, set, arith}
use Rattle.std.specs.Prelude.{◌==◌, is_ok, nat_lt, MatchBool}
use Rattle.std.specs.List.{list_any}
use Rattle.std.specs.List.Sorted.{IsNonDecreasing, IsBinarySearchResult}
use Rattle.std.specs.Ordering.{nat_cmp}
use Rattle.std.proofs.Math.ListN.{get_or}
use Rattle.std.proofs.lemmas.List.{get_or-set_same, get_or-set_other}
use Rattle.std.proofs.lemmas.Bool.{ltb-true, ltb-false}
use Rattle.std.proofs.lemmas.Bool.Decides.{eqb_tells}
use Rattle.std.proofs.lemmas.List.Folds.{list_any_at}
use Rattle.std.proofs.lemmas.List.Sorted.{searched}
use Rattle.broadcast_core.proofs.Distinct.{by_test}

equal : (x y : ℕ) → y ≡ x → (x == y) ≡ true
equal x y is = elim (eqb_tells x y) [ inl h ↦ h.0 | inr h ↦ absurd (h.1 (sym is)) ]

differs : (x y : ℕ) → (y ≡ x → ⊥) → (x == y) ≡ false
differs x y not = elim (eqb_tells x y) [ inl h ↦ absurd (not (sym h.1)) | inr h ↦ h.0 ]

nowhere : (x : ℕ) (ys : List ℕ) → ((k : ℕ) → k < length ys → get_or ys k 0 ≡ x → ⊥) → list_any (λ y. x == y) ys ≡ false
nowhere x [] away = refl
nowhere x (y ∷ ys) away = rw (differs x y (away 0 (omega arith))) (nowhere x ys (λ k within. away (suc k) (omega (arith, within))))

-- a search of sorted tickets finds those that are there
pub found-sorted : (xs : List ℕ) (x : ℕ) (r : Result ℕ ℕ) → IsNonDecreasing xs → IsBinarySearchResult (λ y. nat_cmp y x) xs r → is_ok r ≡ list_any (λ y. x == y) xs
found-sorted xs x (Ok i) sorted search =
    let at = searched xs x (Ok i) search (λ j k. sorted j k 0) in
    sym (list_any_at (λ y. x == y) xs i 0 at.0 (equal x (get_or xs i 0) at.1))
found-sorted xs x (Err i) sorted search =
    let at = searched xs x (Err i) search (λ j k. sorted j k 0) in
    sym (nowhere x xs (λ k within is. by_test (nat_lt k i)
    (λ t. let below = at.1 k (ltb-true k i t) in omega (arith, below, is))
    (λ f. let above = at.2 k (ltb-false k i f) within in omega (arith, above, is))))

-- the ten lowest bits of the first tickets are marked
abbrev pub Marks : List ℕ → ℕ → List Bool → Type 0
Marks xs n seen = (k : ℕ) → k < n → get_or seen (get_or xs k 0 % 1024) false ≡ true

pub marked : (xs : List ℕ) (i : ℕ) (seen : List Bool) → length seen ≡ 1024 → Marks xs i seen → Marks xs (i + 1) (set seen (get_or xs i 0 % 1024) true)
marked xs i seen len marks k within = elim (eqb_tells (get_or xs k 0 % 1024) (get_or xs i 0 % 1024)) [
  | inl h ↦ rw h.1 (get_or-set_same seen (get_or xs i 0 % 1024) true false (omega (arith, len)))
  | inr h ↦ get_or-set_other seen (get_or xs i 0 % 1024) (get_or xs k 0 % 1024) true false h.1 ∙ (elim (eqb_tells k i) [
    | inl e ↦ absurd (h.1 (ap (λ n. get_or xs n 0 % 1024) e.1))
    | inr e ↦ marks k (omega (arith, within, e.1))
  ])
]

-- a ticket whose ten lowest bits none of them has is not among them
pub none_seen : (xs : List ℕ) (x : ℕ) (low : List Bool)
    → ((k : ℕ) → k < length xs → get_or low (get_or xs k 0 % 1024) false ≡ true) → get_or low (x % 1024) false ≡ false → list_any (λ y. x == y) xs ≡ false
none_seen xs x low seen apart = nowhere x xs (λ k within is.
    let there : get_or low (x % 1024) false ≡ true = subst (λ y. get_or low (y % 1024) false ≡ true) is (seen k within) in
    let wrong : true ≡ false = sym there ∙ apart in absurd cc)

-- what an answer says if it is true
pub if_true : {A : Type 0} (B : Type 0) (b : Bool) → MatchBool b A B → b ≡ true → A
if_true B true h is = h
if_true B false h is = cc
