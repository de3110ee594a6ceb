-- What a write, an insert and a removal make of the places.
use Rattle.std.proofs.Common.{◌≡◌, ◌≢◌, ℕ, zero, suc, ◌<◌, Bool, true, false, cond, List, [], ◌∷◌, ◌++◌, map, length, get_or, set, Option, Some, None, slice_get, IsSome, refl, sym, ap, subst, ◌∙◌, arith, length-set}
use Rattle.std.proofs.lemmas.List.{map-set, length-map, get_or-map, get_or-set_same, get_or-set_other}
use Rattle.std.proofs.lemmas.Option.{slice_get_within, slice_get-get_or, get_or_from_slice_get}
use Rattle.entries.specs.declared.entry.Entry.{Entry}
use Rattle.entries.specs.Linked.{Relinks}
use Rattle.entries.specs.Places.{is_mark, shown, vacant_of, IsFree, IsPlaced}

module _ {D : Type 0} where
  -- what is seen at a place
  abbrev pub seen : List (Entry D) → ℕ → Option (Entry D)
  seen es j = get_or (map shown es) j None

  shown_free : (e : Entry D) → is_mark e.newer ≡ true → shown e ≡ None
  shown_free e free = ap (λ b. cond b None (Some e)) free

  pub shown_there : (e : Entry D) → is_mark e.newer ≡ false → shown e ≡ Some e
  shown_there e there = ap (λ b. cond b None (Some e)) there

  pub seen_at : (es : List (Entry D)) (j : ℕ) (e : Entry D) → slice_get es j ≡ Some e → seen es j ≡ shown e
  seen_at es j e found = get_or-map shown es j e None (slice_get_within es j e found) ∙ ap shown (get_or_from_slice_get es j e e found)

  -- an entry that is not marked stands at the place
  pub record Stands (es : List (Entry D)) (j : ℕ) : Type 0 where
    pub entry : Entry D
    pub found : slice_get es j ≡ Some entry
    pub there : is_mark entry.newer ≡ false
    pub within : j < length es

  pub stands : (es : List (Entry D)) (j : ℕ) → IsSome (seen es j) → Stands es j
  stands [] j is = cc
  stands (x ∷ xs) zero is = by (is_mark x.newer) refl
    where
      by : (b : Bool) → is_mark x.newer ≡ b → Stands (x ∷ xs) zero
      by true free = let no : IsSome {T = Entry D} None = subst (IsSome {T = Entry D}) (shown_free x free) is in absurd (cc)
      by false there = record { entry = x; found = refl; there = there; within = omega arith }
  stands (x ∷ xs) (suc j) is = let s = stands xs j is in record { entry = s.entry; found = s.found; there = s.there; within = omega (arith, s.within) }

  -- what is read there
  pub record Reads (es : List (Entry D)) (j : ℕ) (e : Entry D) : Type 0 where
    pub found : slice_get es j ≡ Some e
    pub there : is_mark e.newer ≡ false

  pub reads : (es : List (Entry D)) (j : ℕ) (e : Entry D) → Stands es j → e ≡ get_or es j e → Reads es j e
  reads es j e s read =
      let one : s.entry ≡ e = sym (read ∙ get_or_from_slice_get es j s.entry e s.found) in
      record { found = s.found ∙ ap Some one; there = ap (λ (x : Entry D). is_mark x.newer) (sym one) ∙ s.there }

  pub reads_free : (es : List (Entry D)) (j : ℕ) (e : Entry D) → j < length es → e ≡ get_or es j e → slice_get es j ≡ Some e
  reads_free es j e within read = slice_get-get_or es j e within ∙ ap Some (sym read)

  pub seen_set : (es : List (Entry D)) (i : ℕ) (e : Entry D) → i < length es → seen (set es i e) i ≡ shown e
  seen_set es i e within = ap (λ l. get_or l i None) (map-set shown es i e) ∙ get_or-set_same (map shown es) i (shown e) None (omega (arith, within, length-map es shown))

  pub seen_elsewhere : (es : List (Entry D)) (i j : ℕ) (e : Entry D) → j ≢ i → seen (set es i e) j ≡ seen es j
  seen_elsewhere es i j e differs = ap (λ l. get_or l j None) (map-set shown es i e) ∙ get_or-set_other (map shown es) i j (shown e) None differs

  pub seen_end : (es : List (Entry D)) (e : Entry D) → seen (es ++ e ∷ []) (length es) ≡ shown e
  seen_end [] e = refl
  seen_end (x ∷ xs) e = seen_end xs e

  pub seen_before : (es : List (Entry D)) (e : Entry D) (j : ℕ) → j ≢ length es → seen (es ++ e ∷ []) j ≡ seen es j
  seen_before [] e zero differs = absurd (differs refl)
  seen_before [] e (suc j) differs = refl
  seen_before (x ∷ xs) e zero differs = refl
  seen_before (x ∷ xs) e (suc j) differs = seen_before xs e j (λ same. differs (ap suc same))

  seen_past : (es : List (Entry D)) → seen es (length es) ≡ None
  seen_past [] = refl
  seen_past (x ∷ xs) = seen_past xs

  -- an entry that is there is changed, and no other
  pub relinks : (es : List (Entry D)) (i : ℕ) (e : Entry D) (change : Entry D → Entry D) → slice_get es i ≡ Some e → is_mark e.newer ≡ false → is_mark (change e).newer ≡ false
      → Relinks (seen es) (seen (set es i (change e))) (Some i) change
  relinks es i e change found there stays = record {
    changed = λ j x at was.
        let here : i ≡ j = cc in
        let one : e ≡ x = let both : Some e ≡ Some x = sym (seen_at es i e found ∙ shown_there e there) ∙ ap (seen es) here ∙ was in cc in
        sym (ap (seen (set es i (change e))) here) ∙ seen_set es i (change e) (slice_get_within es i e found) ∙ shown_there (change e) stays ∙ ap (λ (y : Entry D). Some (change y)) one;
    others = λ j differs. seen_elsewhere es i j (change e) (λ same. differs (ap Some (sym same)));
  }

  -- a link starts one run of free places at most
  IsFree-unique : (es : List (Entry D)) (m n : ℕ) (at : Option ℕ) → IsFree es m at → IsFree es n at → m ≡ n
  IsFree-unique es zero zero at p q = refl
  IsFree-unique es zero (suc n) at p q = let no : None ≡ Some q.0 = sym p ∙ q.1 in absurd (cc)
  IsFree-unique es (suc m) zero at p q = let no : None ≡ Some p.0 = sym q ∙ p.1 in absurd (cc)
  IsFree-unique es (suc m) (suc n) at p q =
      let places : p.0 ≡ q.0 = let both : Some p.0 ≡ Some q.0 = sym p.1 ∙ q.1 in cc in
      let one : q.2 ≡ p.2 = let both : Some q.2 ≡ Some p.2 = sym q.3 ∙ ap (slice_get es) (sym places) ∙ p.3 in cc in
      ap suc (IsFree-unique es m n p.2.older p.5 (subst (λ (e : Entry D). IsFree es n e.older) one q.5))

  -- a write at a place that is not one of them keeps free places
  IsFree-set : (es : List (Entry D)) (i : ℕ) (e : Entry D) (n : ℕ) (at : Option ℕ) → ((m : ℕ) → m < n → IsFree es (suc m) (Some i) → ⊥) → IsFree es n at → IsFree (set es i e) n at
  IsFree-set es i e zero at off p = p
  IsFree-set es i e (suc n) at off p =
      let other : p.0 ≢ i = λ same. off n (omega arith) (subst (IsFree es (suc n)) (p.1 ∙ ap Some same) p) in
      let within = slice_get_within es p.0 p.2 p.3 in
      let kept : slice_get (set es i e) p.0 ≡ Some p.2 =
      slice_get-get_or (set es i e) p.0 e (omega (arith, within, length-set es i e))
      ∙ ap Some (get_or-set_other es i p.0 e e other ∙ get_or_from_slice_get es p.0 p.2 e p.3) in
      (p.0, p.1, p.2, kept, p.4, IsFree-set es i e n p.2.older (λ m below. off m (omega (arith, below))) p.5)

  -- an entry that is there is at no free place
  off_free : (es : List (Entry D)) (i : ℕ) (x : Entry D) → slice_get es i ≡ Some x → is_mark x.newer ≡ false → (m : ℕ) → IsFree es (suc m) (Some i) → ⊥
  off_free es i x found there m p =
      let here : i ≡ p.0 = let both : Some i ≡ Some p.0 = p.1 in cc in
      let one : x ≡ p.2 = let both : Some x ≡ Some p.2 = sym found ∙ ap (slice_get es) here ∙ p.3 in cc in
      let no : false ≡ true = sym there ∙ ap (λ (y : Entry D). is_mark y.newer) one ∙ p.4 in cc

  -- a write at an entry that is there keeps free places
  pub rewrites : (es : List (Entry D)) (free : Option ℕ) (i : ℕ) (x y : Entry D) → IsPlaced es free → slice_get es i ≡ Some x → is_mark x.newer ≡ false → IsPlaced (set es i y) free
  rewrites es free i x y p found there = record { count = p.count; linked = IsFree-set es i y p.count free (λ m below. off_free es i x found there m) p.linked }

  -- the place of the next insert is free
  pub vacant_seen : (es : List (Entry D)) (free : Option ℕ) → IsPlaced es free → seen es (vacant_of es free) ≡ None
  vacant_seen es None p = seen_past es
  vacant_seen es (Some i) p = by p.count p.linked
    where
      by : (n : ℕ) → IsFree es n (Some i) → seen es i ≡ None
      by zero q = absurd (cc)
      by (suc n) q =
          let here : i ≡ q.0 = let both : Some i ≡ Some q.0 = q.1 in cc in
          ap (seen es) here ∙ seen_at es q.0 q.2 q.3 ∙ shown_free q.2 q.4

  -- the first free place is one of the vector
  pub free_within : (es : List (Entry D)) (i : ℕ) → IsPlaced es (Some i) → i < length es
  free_within es i p = by p.count p.linked
    where
      by : (n : ℕ) → IsFree es n (Some i) → i < length es
      by zero q = absurd (cc)
      by (suc n) q = let here : i ≡ q.0 = let both : Some i ≡ Some q.0 = q.1 in cc in omega (arith, here, slice_get_within es q.0 q.2 q.3)

  -- a vector without free places
  pub none_free : (es : List (Entry D)) → IsPlaced es None
  none_free es = record { count = 0; linked = refl }

  -- the first free place is taken
  pub takes : (es : List (Entry D)) (i : ℕ) (x y : Entry D) → IsPlaced es (Some i) → slice_get es i ≡ Some x → IsPlaced (set es i y) x.older
  takes es i x y p found = by p.count p.linked
    where
      by : (n : ℕ) → IsFree es n (Some i) → IsPlaced (set es i y) x.older
      by zero q = absurd (cc)
      by (suc n) q =
          let here : i ≡ q.0 = let both : Some i ≡ Some q.0 = q.1 in cc in
          let one : q.2 ≡ x = let both : Some q.2 ≡ Some x = sym q.3 ∙ ap (slice_get es) (sym here) ∙ found in cc in
          let off : (m : ℕ) → m < n → IsFree es (suc m) (Some i) → ⊥ = λ m below r. omega (arith, below, IsFree-unique es (suc m) (suc n) (Some i) r q) in
          record { count = n; linked = subst (λ (e : Entry D). IsFree (set es i y) n e.older) one (IsFree-set es i y n q.2.older off q.5) }

  -- a place becomes the first free one
  pub frees : (es : List (Entry D)) (free : Option ℕ) (i : ℕ) (x y : Entry D) → IsPlaced es free → slice_get es i ≡ Some x → is_mark x.newer ≡ false → is_mark y.newer ≡ true → y.older ≡ free → IsPlaced (set es i y) (Some i)
  frees es free i x y p found there marked next = record {
    count = suc p.count;
    linked = (
      i,
      refl,
      y,
      slice_get-get_or (set es i y) i y (omega (arith, slice_get_within es i x found, length-set es i y)) ∙ ap Some (get_or-set_same es i y y (slice_get_within es i x found)),
      marked,
      subst (IsFree (set es i y) p.count) (sym next) (IsFree-set es i y p.count free (λ m below. off_free es i x found there m) p.linked),
    );
  }

  pub freed_seen : (es : List (Entry D)) (i : ℕ) (y : Entry D) → i < length es → is_mark y.newer ≡ true → seen (set es i y) i ≡ None
  freed_seen es i y within marked = seen_set es i y within ∙ shown_free y marked
