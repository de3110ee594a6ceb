-- A message that is taken: what the lists and the table are then.
use Rattle.std.proofs.Common.{◌≡◌, ℕ, suc, ◌≤◌, ◌<◌, Bool, true, false, ◌||◌, inl, inr, List, [], ◌∷◌, ◌++◌, length, take, Option, Some, None, refl, sym, ap, ◌∙◌, subst, arith, length-append}
use Rattle.std.specs.Prelude.{is_some, MatchOption}
use Rattle.std.specs.Option.{option_map}
use Rattle.std.specs.List.{IsDistinct}
use Rattle.std.specs.Map.{lookup, keys_of, remove_entry}
use Rattle.std.specs.BTreeMap.{insert_entry}
use Rattle.std.specs.Ordering.{eq_by_cmp}
use Rattle.std.specs.Cmp.{IsEquivalence, IsTotalOrder, eq_by_cmp_equiv}
use Rattle.std.specs.declared.cmp.Ordering.{Ordering}
use Rattle.std.proofs.lemmas.List.{take_all, nil_from_length}
use Rattle.entries.specs.declared.entry.Charged.{Charged}
use Rattle.entries.specs.Linked.{Node, IsApart}
use Rattle.entries.specs.Placed.{Placed}
use Rattle.entries.specs.Store.{values_of, items_at, moved, Puts, Evicts, Extends}
use Rattle.entries.specs.Table.{messages_of, place_in, place_at, IsPlaced, Leaves}
use Rattle.entries.proofs.Stores.{found_same}
use Rattle.entries.proofs.Tables.{lookup-messages, remove-inserted}
use Rattle.broadcast_core.specs.Carried.{Carried}
use Rattle.broadcast_core.specs.Content.{Same, same_charged, among, without}
use Rattle.broadcast_core.specs.Indexed.{digest_lists, IsIndexed, stored_of, Origin, Holds}
use Rattle.broadcast_core.specs.Stored.{Stores}
use Rattle.broadcast_core.proofs.Distinct.{by_test, or_right, length-moved, without-absent}
use Rattle.broadcast_core.proofs.Staying.{charged_laws}
use Rattle.broadcast_core.proofs.Placing.{items_at-digests, digests-append}
use Rattle.broadcast_core.proofs.Indexing.{cond_true, cond_false, nodes-equal, sets-beside, sets-other, sets-here, moved-digests, among-stands, among-nowhere, IsIndexed-moved, IsIndexed-added, IsIndexed-evicted}
use Rattle.broadcast_core.proofs.Caching.{named-origin, Stores-made}

take-front : {X : Type 0} (n : ℕ) (xs ys : List X) → n ≡ length xs → take n (xs ++ ys) ≡ xs
take-front n xs ys is = rw is (front xs)
  where
    front : (zs : List _) → take (length zs) (zs ++ ys) ≡ zs
    front [] = refl
    front (z ∷ zs) = ap (λ (l : List _). z ∷ l) (front zs)

-- values are as many as their nodes
len-values : {D : Type 0} (ms : List (Node D)) → length (values_of ms) ≡ length ms
len-values [] = refl
len-values (m ∷ ms) = ap suc (len-values ms)

-- a list that is put after another
Puts-again : {K D : Type 0} {key : K → K → Bool} (laws : IsEquivalence key) (p : K) (ns ms : List (Node D)) (old mid new : List (K × List (Node D))) → Puts key p ns old mid → Puts key p ms mid new → Puts key p ms old new
Puts-again {key = key} laws p ns ms old mid new first last = record {
  lists = λ q. last.lists q ∙ by_test (key p q)
      (λ h. rw h refl)
      (λ h. rw h (first.lists q ∙ rw h refl));
  keys = λ q there. by_test (key p q)
      (λ h. rw h refl)
      (λ h. first.keys q (sym (ap (λ b. b || is_some (lookup (key q) mid)) h) ∙ last.keys q there));
  stays = λ q there. last.stays q (first.stays q there);
  distinct = last.distinct;
}

-- the node goes in front of the key's list, and what leaves that list leaves the table
pub record Pushed {P M D : Type 0} (same : Same P D) (p : P) (n : Node (Charged D)) (size : ℕ) (old new : List (P × List (Node (Charged D))))
    (old_items new_items : List (D × Placed P (Carried M D))) : Type 0 where
  pub stale : Option (Charged D)
  pub extends : Extends same.key p n size stale old new
  pub leaves : MatchOption stale (new_items ≡ old_items) (λ c. Leaves same.digest same.key c.digest p old_items new_items)

-- no list is there twice after a push
pub pushed_distinct : {P M D : Type 0} (same : Same P D) (p : P) (n : Node (Charged D)) (size : ℕ) (old new : List (P × List (Node (Charged D)))) (old_items new_items : List (D × Placed P (Carried M D)))
    → Pushed same p n size old new old_items new_items → IsDistinct same.key (keys_of new)
pushed_distinct {D = D} same p n size old new old_items new_items pushes = by pushes.stale pushes.extends.cut
  where
    by : (stale : Option (Charged D)) → MatchOption stale ((length (items_at same.key p pushes.extends.between) ≤ size) × (new ≡ pushes.extends.between))
        (λ d. (size < length (items_at same.key p pushes.extends.between)) × Evicts same.key p d pushes.extends.between new) → IsDistinct same.key (keys_of new)
    by None cut = subst (λ l. IsDistinct same.key (keys_of l)) (sym cut.1) pushes.extends.put.distinct
    by (Some d) cut = cut.1.put.distinct

abbrev pub by_order : {P D : Type 0} → (P → P → Bool) → (D → D → Ordering) → Same P D
by_order key R = record { key = key; digest = eq_by_cmp R }

has_item : {P X : Type 0} (o : Option (Placed P X)) → is_some (option_map (λ it. it.message) o) ≡ true → is_some o ≡ true
has_item None h = cc
has_item (Some it) h = refl

-- places of equal keys
place-same : {P D X : Type 0} (digest : D → D → Bool) {key : P → P → Bool} (laws : IsEquivalence key) (p q : P) (o : Option (Placed P X)) → key p q ≡ true → place_in digest key q o ≡ place_in digest key p o
place-same digest laws p q None h = refl
place-same digest laws p q (Some item) h = sym (found_same laws item.places p q h)

module _ {P M D : Type 0} (same : Same P D) (key_laws : IsEquivalence same.key) (laws : IsEquivalence same.digest) where
  module _ (p : P) (x : Carried M D) (n : ℕ) (size : ℕ) (lists new_lists : List (P × List (Node (Charged D)))) (items : List (D × Placed P (Carried M D))) (was : IsIndexed same lists items)
      (distinct : IsDistinct same.key (keys_of (digest_lists lists))) (new_distinct : IsDistinct same.key (keys_of (digest_lists new_lists))) where
    -- the digest with its charge
    abbrev c : Charged D
    c = record { digest = x.digest; charge = n }

    -- the list after the taking
    abbrev cs : List (Charged D)
    cs = take size (c ∷ without (same_charged same.digest) c (items_at same.key p (digest_lists lists)))

    abbrev ns : List (Node (Charged D))
    ns = items_at same.key p lists

    abbrev ds : List (Charged D)
    ds = items_at same.key p (digest_lists lists)

    ds-is : ds ≡ values_of ns
    ds-is = items_at-digests same.key p lists

    len-is : length ds ≡ length ns
    len-is = ap length ds-is ∙ len-values ns

    -- a digest that is on the list
    pub Stores-moved : (i : ℕ) → IsApart ns → place_at same.digest same.key items x.digest p ≡ Some i → Puts same.key p (moved i c ns) lists new_lists → length ds ≤ size
        → IsIndexed same new_lists items × Stores same p x cs (stored_of lists items) (stored_of new_lists items)
    Stores-moved i apart there puts fits =
        let now = IsIndexed-moved same key_laws laws p lists new_lists items was c i apart there puts in
        let there_ds : among (same_charged same.digest) c ds ≡ true = ap (among (same_charged same.digest) c) ds-is ∙ among-stands same key_laws laws p lists new_lists items was c i apart there in
        let is : values_of (moved i c ns) ≡ c ∷ without (same_charged same.digest) c ds =
        moved-digests same key_laws laws p lists new_lists items was c i apart there ∙ sym (ap (λ l. c ∷ without (same_charged same.digest) c l) ds-is) in (
          now,
          Stores-made same key_laws laws p x cs lists new_lists items items was now distinct new_distinct (moved i c ns) puts
              (is ∙ sym (take_all size (c ∷ without (same_charged same.digest) c ds) (omega (arith, fits, length-moved (charged_laws laws) c ds there_ds))))
              (λ d y h. inl h),
        )

    -- a list of which nothing is kept
    pub Stores-nowhere : size ≡ 0 → length ds ≤ size → new_lists ≡ lists → Stores same p x cs (stored_of lists items) (stored_of new_lists items)
    Stores-nowhere zero fits stays =
        let none : ns ≡ [] = nil_from_length ns (omega (arith, zero, fits, len-is)) in
        let now = subst (λ l. IsIndexed same l items) (sym stays) was in
        Stores-made same key_laws laws p x cs lists new_lists items items was now distinct new_distinct []
        (record {
          lists = λ q. ap (items_at same.key q) stays ∙ by_test (same.key p q)
              (λ h. nodes-equal key_laws lists p q h ∙ none ∙ sym (cond_true (same.key p q) [] (items_at same.key q lists) h))
              (λ h. sym (cond_false (same.key p q) [] (items_at same.key q lists) h));
          keys = λ q h. ap (λ b. same.key p q || b) (ap (λ l. is_some (lookup (same.key q) l)) (sym stays) ∙ h) ∙ or_right (same.key p q);
          stays = λ q h. ap (λ l. is_some (lookup (same.key q) l)) stays ∙ h;
          distinct = now.apart;
        })
        (rw zero refl)
        (λ d y h. inl h)

    module _ (none : place_at same.digest same.key items x.digest p ≡ None) where
      nowhere : among (same_charged same.digest) c ds ≡ false
      nowhere = ap (among (same_charged same.digest) c) ds-is ∙ among-nowhere same key_laws laws p lists new_lists items was c 0 none

      abbrev whole : List (Charged D)
      whole = c ∷ without (same_charged same.digest) c ds

      whole-is : whole ≡ c ∷ values_of ns
      whole-is = ap (λ l. c ∷ l) (without-absent (charged_laws laws) c ds nowhere ∙ ds-is)

      -- a digest that is not on the list
      pub Stores-pushed : (R : D → D → Ordering) (i : ℕ) (mid new_items : List (D × Placed P (Carried M D))) → Holds same R p x i items mid → IsPlaced same.digest same.key mid → IsPlaced same.digest same.key new_items → length ns ≤ size
          → Pushed same p (i, c) size lists new_lists mid new_items → IsIndexed same new_lists new_items × Stores same p x cs (stored_of lists items) (stored_of new_lists new_items)
      Stores-pushed R i mid new_items holds mid_placed placed fits pushes = cut pushes.stale pushes.extends.cut pushes.leaves
        where
          between : List (P × List (Node (Charged D)))
          between = pushes.extends.between

          at-key : items_at same.key p between ≡ (i, c) ∷ ns
          at-key = pushes.extends.put.lists p ∙ cond_true (same.key p p) ((i, c) ∷ ns) ns (key_laws.refl p)

          more : IsIndexed same between mid
          more = IsIndexed-added same key_laws laws p lists between items was c i none mid holds.places pushes.extends.put
              (named-origin same key_laws laws x (messages_of items) (messages_of mid) was.named holds.origin) mid_placed

          cut : (stale : Option (Charged D)) → MatchOption stale ((length (items_at same.key p between) ≤ size) × (new_lists ≡ between)) (λ d. (size < length (items_at same.key p between)) × Evicts same.key p d between new_lists)
              → MatchOption stale (new_items ≡ mid) (λ d. Leaves same.digest same.key d.digest p mid new_items) → IsIndexed same new_lists new_items × Stores same p x cs (stored_of lists items) (stored_of new_lists new_items)
          cut None stays same_items =
              let now : IsIndexed same new_lists new_items = subst (λ l. IsIndexed same l new_items) (sym stays.1) (subst (λ its. IsIndexed same between its) (sym same_items) more) in
              let short : length whole ≤ size = omega (arith, stays.0, ap length at-key, ap length whole-is, len-values ns) in (
                now,
                Stores-made same key_laws laws p x cs lists new_lists items new_items was now distinct new_distinct ((i, c) ∷ ns) (subst (λ l. Puts same.key p ((i, c) ∷ ns) lists l) (sym stays.1) pushes.extends.put)
                    (sym whole-is ∙ sym (take_all size whole short))
                    (subst (λ its. Origin same x (messages_of items) (messages_of its)) (sym same_items) holds.origin),
              )
          cut (Some stale) evicts leaves =
              let origin : Origin same x (messages_of items) (messages_of new_items) = λ d y h. holds.origin d y (leaves.fewer d y h) in
              let now = IsIndexed-evicted same key_laws laws p between new_lists mid more stale evicts.1.place evicts.1.rest new_items evicts.1.last leaves.places evicts.1.put
              (named-origin same key_laws laws x (messages_of items) (messages_of new_items) was.named origin) placed in
              let split : (i, c) ∷ ns ≡ evicts.1.rest ++ (evicts.1.place, stale) ∷ [] = sym at-key ∙ evicts.1.last in
              let full : size ≡ length (values_of evicts.1.rest) = omega (arith, evicts.0, fits, ap length at-key, ap length split, length-append evicts.1.rest ((evicts.1.place, stale) ∷ []), len-values evicts.1.rest) in (
                now,
                Stores-made same key_laws laws p x cs lists new_lists items new_items was now distinct new_distinct evicts.1.rest (Puts-again key_laws p ((i, c) ∷ ns) evicts.1.rest lists between new_lists pushes.extends.put evicts.1.put)
                    (sym (take-front size (values_of evicts.1.rest) (stale ∷ []) full) ∙ ap (take size) (sym (whole-is ∙ ap values_of split ∙ digests-append evicts.1.rest ((evicts.1.place, stale) ∷ []))))
                    origin,
              )

module _ {P M D : Type 0} {key : P → P → Bool} {R : D → D → Ordering} (key_laws : IsEquivalence key) (order : IsTotalOrder R) where
  module _ (p : P) (x : Carried M D) (i : ℕ) (items mid new_items : List (D × Placed P (Carried M D)))
      (none : place_at (eq_by_cmp R) key items x.digest p ≡ None) (holds : Holds (by_order key R) R p x i items mid)
      (leaves : Leaves (eq_by_cmp R) key x.digest p mid new_items) where
    -- what was held and left is as it was
    pub places-undone : (e : D) (q : P) → place_at (eq_by_cmp R) key new_items e q ≡ place_at (eq_by_cmp R) key items e q
    places-undone e q = by_test ((eq_by_cmp R) x.digest e)
        (λ h. by_test (key p q)
        (λ k. sets-here (by_order key R) key_laws (eq_by_cmp_equiv order) x.digest p None mid new_items leaves.places e q h k
        ∙ sym (place-same (eq_by_cmp R) key_laws p q (lookup ((eq_by_cmp R) e) items) k ∙ ap (place_in (eq_by_cmp R) key p) (sym (found_same (eq_by_cmp_equiv order) items x.digest e h)) ∙ none))
        (λ k. sets-other (by_order key R) key_laws (eq_by_cmp_equiv order) x.digest p None mid new_items leaves.places e q k ∙ sets-other (by_order key R) key_laws (eq_by_cmp_equiv order) x.digest p (Some i) items mid holds.places e q k))
        (λ h. sets-beside (by_order key R) key_laws (eq_by_cmp_equiv order) x.digest p None mid new_items leaves.places e q h ∙ sets-beside (by_order key R) key_laws (eq_by_cmp_equiv order) x.digest p (Some i) items mid holds.places e q h)

    no_place : (q : P) (j : ℕ) → place_at (eq_by_cmp R) key new_items x.digest q ≡ Some j → lookup ((eq_by_cmp R) x.digest) items ≡ None → ⊥
    no_place q j there absent =
        let gone : None ≡ Some j = sym (ap (place_in (eq_by_cmp R) key q) absent) ∙ sym (places-undone x.digest q) ∙ there in cc

    undone : (b : Bool) → is_some (lookup ((eq_by_cmp R) x.digest) items) ≡ b → IsPlaced (eq_by_cmp R) key items → IsPlaced (eq_by_cmp R) key new_items → messages_of new_items ≡ messages_of items
    undone true is placed new_placed =
        let kept : messages_of mid ≡ messages_of items = holds.messages ∙ rw is refl in
        elim leaves.messages [
          | inl stays ↦ stays ∙ kept
          | inr gone ↦
              let f = placed x.digest is in
              let no : None ≡ Some f.1 = sym (ap (place_in (eq_by_cmp R) key f.0) gone.1) ∙ places-undone x.digest f.0 ∙ f.2 in absurd (cc)
        ]
    undone false is placed new_placed =
        let put : messages_of mid ≡ insert_entry R (messages_of items) x.digest x = holds.messages ∙ rw is refl in
        let absent : lookup ((eq_by_cmp R) x.digest) items ≡ None = none_is (lookup ((eq_by_cmp R) x.digest) items) is in
        elim leaves.messages [
          | inl stays ↦
              let there : is_some (lookup ((eq_by_cmp R) x.digest) new_items) ≡ true = has_item (lookup ((eq_by_cmp R) x.digest) new_items) (sym (ap is_some (lookup-messages ((eq_by_cmp R) x.digest) new_items)) ∙ ap (λ l. is_some (lookup ((eq_by_cmp R) x.digest) l)) stays ∙ holds.cached) in
              let f = new_placed x.digest there in absurd (no_place f.0 f.1 f.2 absent)
          | inr gone ↦ gone.0 ∙ ap (remove_entry ((eq_by_cmp R) x.digest)) put ∙ remove-inserted order x.digest x (messages_of items) (lookup-messages ((eq_by_cmp R) x.digest) items ∙ ap (option_map (λ it. it.message)) absent)
        ]
      where
        none_is : (o : Option (Placed P (Carried M D))) → is_some o ≡ false → o ≡ None
        none_is None h = refl
        none_is (Some it) h = cc

    pub messages-undone : IsPlaced (eq_by_cmp R) key items → IsPlaced (eq_by_cmp R) key new_items → messages_of new_items ≡ messages_of items
    messages-undone placed new_placed = undone (is_some (lookup ((eq_by_cmp R) x.digest) items)) refl placed new_placed
