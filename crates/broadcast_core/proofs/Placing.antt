-- Places of digests among nodes.
use Rattle.std.proofs.Common.{◌≡◌, ℕ, suc, Bool, true, false, ◌||◌, cond, List, [], ◌∷◌, ◌++◌, length, Option, Some, None, refl, sym, ap, ◌∙◌, subst}
use Rattle.std.specs.Prelude.{is_some, unwrap_or}
use Rattle.std.specs.Option.{option_map}
use Rattle.std.specs.List.{IsDistinct}
use Rattle.std.specs.Map.{lookup, keys_of}
use Rattle.std.specs.Cmp.{IsEquivalence}
use Rattle.std.proofs.lemmas.Map.Made.{lookup-map_values, keys_of-map_values}
use Rattle.entries.specs.Linked.{Node, IsApart}
use Rattle.entries.specs.Store.{values_of, items_at, moved}
use Rattle.entries.proofs.Stores.{moved-parts}
use Rattle.broadcast_core.specs.Content.{among, without}
use Rattle.broadcast_core.specs.Indexed.{place_of, digest_lists}
use Rattle.broadcast_core.proofs.Distinct.{by_test, or_false, IsDistinct-rest, among-head, among-equal, without-absent}

pub digests-append : {D : Type 0} (xs ys : List (Node D)) → values_of (xs ++ ys) ≡ values_of xs ++ values_of ys
digests-append [] ys = refl
digests-append (x ∷ xs) ys = ap (λ (l : List _). x.1 ∷ l) (digests-append xs ys)

-- the digests of a key's nodes
pub items_at-digests : {P D : Type 0} (key : P → P → Bool) (q : P) (lists : List (P × List (Node D))) → items_at key q (digest_lists lists) ≡ values_of (items_at key q lists)
items_at-digests {D = D} key q lists = ap (λ (o : Option (List D)). unwrap_or o []) (lookup-map_values values_of (key q) lists) ∙ within (lookup (key q) lists)
  where
    within : (o : Option (List (Node D))) → unwrap_or (option_map values_of o) [] ≡ values_of (unwrap_or o [])
    within None = refl
    within (Some ns) = refl

digests-length : {D : Type 0} (ms : List (Node D)) → length (values_of ms) ≡ length ms
digests-length [] = refl
digests-length (m ∷ ms) = ap suc (digests-length ms)

pub length-digests : {P D : Type 0} (key : P → P → Bool) (q : P) (lists : List (P × List (Node D))) → length (items_at key q (digest_lists lists)) ≡ length (items_at key q lists)
length-digests key q lists = ap length (items_at-digests key q lists) ∙ digests-length (items_at key q lists)

pub is_some-digests : {P D : Type 0} (key : P → P → Bool) (q : P) (lists : List (P × List (Node D))) → is_some (lookup (key q) (digest_lists lists)) ≡ is_some (lookup (key q) lists)
is_some-digests {D = D} key q lists = ap is_some (lookup-map_values values_of (key q) lists) ∙ some_map (lookup (key q) lists)
  where
    some_map : (o : Option (List (Node D))) → is_some (option_map values_of o) ≡ is_some o
    some_map None = refl
    some_map (Some ns) = refl

pub no-digests : {D : Type 0} (ns : List (Node D)) → values_of ns ≡ [] → ns ≡ []
no-digests [] h = refl
no-digests (n ∷ ns) h = cc

pub distinct-digests : {P D : Type 0} (key : P → P → Bool) (lists : List (P × List (Node D))) → IsDistinct key (keys_of lists) → IsDistinct key (keys_of (digest_lists lists))
distinct-digests key lists h = subst (IsDistinct key) (sym (keys_of-map_values values_of lists)) h

cond_true : {A : Type 0} (b : Bool) (x y : A) → b ≡ true → cond b x y ≡ x
cond_true true x y e = refl
cond_true false x y e = cc

cond_false : {A : Type 0} (b : Bool) (x y : A) → b ≡ false → cond b x y ≡ y
cond_false true x y e = cc
cond_false false x y e = refl

module _ {D : Type 0} {same : D → D → Bool} (laws : IsEquivalence same) where
  -- a digest is among those that have a place
  pub among-place : (d : D) (ns : List (Node D)) → among same d (values_of ns) ≡ is_some (place_of same d ns)
  among-place d [] = refl
  among-place d (n ∷ ns) = by_test (same d n.1)
      (λ h. ap (λ b. b || among same d (values_of ns)) h ∙ sym (ap is_some (cond_true (same d n.1) (Some n.0) (place_of same d ns) h)))
      (λ h. ap (λ b. b || among same d (values_of ns)) h ∙ among-place d ns ∙ sym (ap is_some (cond_false (same d n.1) (Some n.0) (place_of same d ns) h)))

  pub place-none : (d : D) (ns : List (Node D)) → among same d (values_of ns) ≡ false → place_of same d ns ≡ None
  place-none d ns h = none (place_of same d ns) (sym (among-place d ns) ∙ h)
    where
      none : (o : Option ℕ) → is_some o ≡ false → o ≡ None
      none None e = refl
      none (Some i) e = cc

  -- equal digests have one place
  pub place-equal : (d e : D) (ns : List (Node D)) → same d e ≡ true → place_of same d ns ≡ place_of same e ns
  place-equal d e [] h = refl
  place-equal d e (n ∷ ns) h = ap (λ b. cond b (Some n.0) (place_of same d ns)) (laws.congr d e n.1 h) ∙ ap (λ o. cond (same e n.1) (Some n.0) o) (place-equal d e ns h)

  -- the node of a place
  pub record Found (d : D) (i : ℕ) (ns : List (Node D)) : Type 0 where
    pub front : List (Node D)
    pub digest : D
    pub back : List (Node D)
    pub is : ns ≡ front ++ (i, digest) ∷ back
    pub equal : same d digest ≡ true

  pub found : (d : D) (i : ℕ) (ns : List (Node D)) → place_of same d ns ≡ Some i → Found d i ns
  found d i [] h = cc
  found d i (n ∷ ns) h = by_test (same d n.1)
      (λ t. let here : n.0 ≡ i = (let h' : Some n.0 ≡ Some i = sym (cond_true (same d n.1) (Some n.0) (place_of same d ns) t) ∙ h in cc) in
      record { front = []; digest = n.1; back = ns; is = ap (λ (j : ℕ). (j, n.1) ∷ ns) here; equal = t })
      (λ t. let r = found d i ns (sym (cond_false (same d n.1) (Some n.0) (place_of same d ns) t) ∙ h) in
      record { front = n ∷ r.front; digest = r.digest; back = r.back; is = ap (λ (l : List (Node D)). n ∷ l) r.is; equal = r.equal })

  -- a node of another digest does not matter
  pub place-beside : (e : D) (xs : List (Node D)) (n : Node D) (ys : List (Node D)) → same e n.1 ≡ false → place_of same e (xs ++ n ∷ ys) ≡ place_of same e (xs ++ ys)
  place-beside e [] n ys h = cond_false (same e n.1) (Some n.0) (place_of same e ys) h
  place-beside e (x ∷ xs) n ys h = ap (λ o. cond (same e x.1) (Some x.0) o) (place-beside e xs n ys h)

  pub place-first : (e : D) (n : Node D) (ns : List (Node D)) → same e n.1 ≡ true → place_of same e (n ∷ ns) ≡ Some n.0
  place-first e n ns h = cond_true (same e n.1) (Some n.0) (place_of same e ns) h

  pub place-later : (e : D) (n : Node D) (ns : List (Node D)) → same e n.1 ≡ false → place_of same e (n ∷ ns) ≡ place_of same e ns
  place-later e n ns h = cond_false (same e n.1) (Some n.0) (place_of same e ns) h

  -- of digests that differ, what equals one of them leaves that one out
  without-middle : (d w : D) (xs ys : List D) → same d w ≡ true → IsDistinct same (xs ++ w ∷ ys) → without same d (xs ++ w ∷ ys) ≡ xs ++ ys
  without-middle d w [] ys one distinct = rw one (without-absent laws d ys (among-equal laws d w ys one ∙ among-head laws w ys distinct))
  without-middle d w (x ∷ xs) ys one distinct =
      let apart : same d x ≡ false = laws.congr d w x one ∙ laws.symm w x ∙ (or_false (same x w) (among same x ys) (rest_apart x xs w ys (among-head laws x (xs ++ w ∷ ys) distinct))).0 in
      rw apart (ap (λ l. x ∷ l) (without-middle d w xs ys one (IsDistinct-rest laws x (xs ++ w ∷ ys) distinct)))
    where
      rest_apart : (x : D) (xs : List D) (w : D) (ys : List D) → among same x (xs ++ w ∷ ys) ≡ false → among same x (w ∷ ys) ≡ false
      rest_apart x [] w ys h = h
      rest_apart x (z ∷ zs) w ys h = rest_apart x zs w ys (or_false (same x z) (among same x (zs ++ w ∷ ys)) h).1

  -- what a move to the front makes of nodes
  pub moved-is : (d : D) (i : ℕ) (ns : List (Node D)) → IsApart ns → (f : Found d i ns) → moved i d ns ≡ (i, d) ∷ (f.front ++ f.back)
  moved-is d i ns apart f = ap (moved i d) f.is ∙ moved-parts i d f.digest f.front f.back (rw f.is at apart)

  pub digests-moved : (d : D) (i : ℕ) (ns : List (Node D)) → IsApart ns → IsDistinct same (values_of ns) → (f : Found d i ns) → values_of (moved i d ns) ≡ d ∷ without same d (values_of ns)
  digests-moved d i ns apart distinct f =
      let split : values_of ns ≡ values_of f.front ++ f.digest ∷ values_of f.back = ap values_of f.is ∙ digests-append f.front ((i, f.digest) ∷ f.back) in
      ap values_of (moved-is d i ns apart f)
      ∙ ap (λ (l : List D). d ∷ l) (digests-append f.front f.back ∙ sym (ap (without same d) split ∙ without-middle d f.digest (values_of f.front) (values_of f.back) f.equal (rw split at distinct)))

  pub place-moved : (e d : D) (i : ℕ) (ns : List (Node D)) → IsApart ns → place_of same d ns ≡ Some i → place_of same e (moved i d ns) ≡ place_of same e ns
  place-moved e d i ns apart there =
      let f = found d i ns there in
      ap (place_of same e) (moved-is d i ns apart f) ∙ by_test (same e d)
      (λ h. place-first e (i, d) (f.front ++ f.back) h ∙ sym there ∙ sym (place-equal e d ns h))
      (λ h.
      let other : same e f.digest ≡ false = laws.symm e f.digest ∙ sym (laws.congr d f.digest e f.equal) ∙ laws.symm d e ∙ h in
      place-later e (i, d) (f.front ++ f.back) h ∙ sym (place-beside e f.front (i, f.digest) f.back other) ∙ sym (ap (place_of same e) f.is))
