-- What is kept of a beginning of a list that grows by one item.
use Rattle.std.proofs.Common.{◌≡◌, ℕ, ◌+◌, ◌<◌, Bool, true, false, List, [], ◌∷◌, ◌||◌, ◌++◌, length, take, map, get_or, refl, sym, ap, ◌∙◌, append-nil}
use Rattle.std.specs.List.{AllZip, filter, list_any}
use Rattle.std.specs.Cmp.{IsEquivalence}
use Rattle.std.proofs.lemmas.List.{map-append, take_more}
use Rattle.std.proofs.lemmas.List.Elements.{filter-append}
use Rattle.std.specs.Ordering.{eq_by_cmp}
use Rattle.std.specs.declared.cmp.Ordering.{Ordering}
use Rattle.memory_network.specs.Nodes.{AreNodesOf, has_node}
use Rattle.memory_network.specs.declared.mail.Mail.{Mail}

module _ {A B : Type 0} (f : A → B) (p : B → Bool) (xs : List A) (i : ℕ) (x : A) where
  grown : i < length xs → x ≡ get_or xs i x
      → filter p (map f (take (i + 1) xs)) ≡ filter p (map f (take i xs)) ++ filter p (f x ∷ [])
  grown within is =
      ap (λ ys. filter p (map f ys)) (take_more xs i x within ∙ ap (λ y. take i xs ++ y ∷ []) (sym is))
      ∙ ap (filter p) (map-append f (take i xs) (x ∷ []))
      ∙ filter-append p (map f (take i xs)) (f x ∷ [])

  kept : p (f x) ≡ true → filter p (f x ∷ []) ≡ f x ∷ []
  kept passes = rw passes refl

  left : p (f x) ≡ false → filter p (f x ∷ []) ≡ []
  left fails = rw fails refl

  pub grown_yes : i < length xs → x ≡ get_or xs i x → p (f x) ≡ true
      → filter p (map f (take (i + 1) xs)) ≡ filter p (map f (take i xs)) ++ f x ∷ []
  grown_yes within is passes = grown within is ∙ ap (λ zs. filter p (map f (take i xs)) ++ zs) (kept passes)

  pub grown_no : i < length xs → x ≡ get_or xs i x → p (f x) ≡ false
      → filter p (map f (take (i + 1) xs)) ≡ filter p (map f (take i xs))
  grown_no within is fails = grown within is ∙ ap (λ zs. filter p (map f (take i xs)) ++ zs) (left fails)
      ∙ append-nil (filter p (map f (take i xs)))

module _ {A B : Type 0} (R : A → B → Type 0) where
  -- both lists have one more item
  pub AllZip-grown : (xs : List A) (ys : List B) (x : A) (y : B) → AllZip R xs ys → R x y
      → AllZip R (xs ++ x ∷ []) (ys ++ y ∷ [])
  AllZip-grown [] [] x y all is = (is, tt)
  AllZip-grown [] (z ∷ ys) x y all is = absurd all
  AllZip-grown (w ∷ xs) [] x y all is = absurd all
  AllZip-grown (w ∷ xs) (z ∷ ys) x y all is = (all.0, AllZip-grown xs ys x y all.1 is)

-- a network has a node for one more key
pub AreNodesOf-grown : {P X : Type 0} (cmp : P → P → Ordering) (f : X → Mail P) (xs : List P) (i : ℕ) (x : P) (old : List X) (m : X) (new : List X)
    → i < length xs → x ≡ get_or xs i x → AreNodesOf cmp (take i xs) (map f old) → eq_by_cmp cmp x (f m).key ≡ true → new ≡ old ++ m ∷ []
    → AreNodesOf cmp (take (i + 1) xs) (map f new)
AreNodesOf-grown {P} {X} cmp f xs i x old m new within is before same pushed =
    let keys : take (i + 1) xs ≡ take i xs ++ x ∷ [] = take_more xs i x within ∙ ap (λ y. take i xs ++ y ∷ []) (sym is) in
    let mails : map f new ≡ map f old ++ f m ∷ [] = ap (map f) pushed ∙ map-append f old (m ∷ []) in
    rw keys (rw mails (AllZip-grown (λ (key : P) (mail : Mail P). eq_by_cmp cmp key mail.key ≡ true) (take i xs) (map f old) x (f m) before same))

-- what one list has by one test the other has by another
pub any-alike : {A B : Type 0} (R : A → B → Type 0) (p : A → Bool) (r : B → Bool) (xs : List A) (ys : List B)
    → ((x : A) (y : B) → R x y → p x ≡ r y) → AllZip R xs ys → list_any p xs ≡ list_any r ys
any-alike R p r [] [] alike all = refl
any-alike R p r [] (y ∷ ys) alike all = absurd all
any-alike R p r (x ∷ xs) [] alike all = absurd all
any-alike R p r (x ∷ xs) (y ∷ ys) alike all = rw (alike x y all.0) (ap (λ b. r y || b) (any-alike R p r xs ys alike all.1))

-- of equal keys each has a node if the other has
pub has_node-alike : {P : Type 0} (cmp : P → P → Ordering) → IsEquivalence (eq_by_cmp cmp) → (key : P) (keys : List P) (mails : List (Mail P))
    → AreNodesOf cmp keys mails → has_node cmp key mails ≡ list_any (eq_by_cmp cmp key) keys
has_node-alike {P} cmp laws key keys mails nodes = sym (any-alike (λ (x : P) (m : Mail P). eq_by_cmp cmp x m.key ≡ true) (eq_by_cmp cmp key) (λ m. eq_by_cmp cmp m.key key) keys mails
    (λ x m same. laws.symm key x ∙ laws.congr x m.key key same) nodes)

pub any-copies : {P : Type 0} (cmp : P → P → Ordering) → IsEquivalence (eq_by_cmp cmp) → (key : P) (keys copies : List P)
    → AllZip (λ x y. eq_by_cmp cmp x y ≡ true) keys copies → list_any (eq_by_cmp cmp key) copies ≡ list_any (eq_by_cmp cmp key) keys
any-copies {P} cmp laws key keys copies all = sym (any-alike (λ (x y : P). eq_by_cmp cmp x y ≡ true) (eq_by_cmp cmp key) (eq_by_cmp cmp key) keys copies
    (λ x y same. laws.symm key x ∙ laws.congr x y key same ∙ laws.symm y key) all)
