-- What changes of a list and of the table make of how they agree.
use Rattle.std.proofs.Common.{◌≡◌, ℕ, Bool, true, false, ◌&&◌, cond, List, [], ◌∷◌, ◌++◌, Option, Some, None, refl, sym, ap, ◌∙◌, subst, append-nil}
use Rattle.std.specs.Prelude.{is_some, unwrap_or}
use Rattle.std.specs.List.{IsDistinct}
use Rattle.std.specs.Map.{lookup, keys_of}
use Rattle.std.specs.Cmp.{IsEquivalence}
use Rattle.entries.specs.declared.entry.Charged.{Charged}
use Rattle.entries.specs.Linked.{Node, IsApart}
use Rattle.entries.specs.Placed.{Placed}
use Rattle.entries.specs.Store.{values_of, items_at, moved, Puts}
use Rattle.entries.specs.Table.{messages_of, place_at, IsPlaced, SetsPlace}
use Rattle.entries.proofs.Stores.{found_same}
use Rattle.broadcast_core.specs.Carried.{Carried}
use Rattle.broadcast_core.specs.Content.{Same, same_charged, among, without}
use Rattle.broadcast_core.specs.Indexed.{place_of, IsIndexed}
use Rattle.broadcast_core.proofs.Distinct.{by_test, among-equal, among-last, IsDistinct-init, IsDistinct-front, IsDistinct-moved}
use Rattle.broadcast_core.proofs.Staying.{charged_laws}
use Rattle.broadcast_core.proofs.Placing.{digests-append, among-place, place-none, place-beside, place-first, place-later, place-moved, found, digests-moved}

pub cond_true : {A : Type 0} (b : Bool) (x y : A) → b ≡ true → cond b x y ≡ x
cond_true true x y e = refl
cond_true false x y e = cc

pub cond_false : {A : Type 0} (b : Bool) (x y : A) → b ≡ false → cond b x y ≡ y
cond_false true x y e = cc
cond_false false x y e = refl

both_true : (a b : Bool) → a ≡ true → b ≡ true → (a && b) ≡ true
both_true true b p q = q
both_true false b p q = p

first_false : (a b : Bool) → a ≡ false → (a && b) ≡ false
first_false true b p = absurd cc
first_false false b p = refl

second_false : (a b : Bool) → b ≡ false → (a && b) ≡ false
second_false true b q = q
second_false false b q = refl

-- the nodes of equal keys
pub nodes-equal : {P X : Type 0} {key : P → P → Bool} (laws : IsEquivalence key) (lists : List (P × List X)) (p q : P) → key p q ≡ true → items_at key q lists ≡ items_at key p lists
nodes-equal {X = X} laws lists p q h = ap (λ (o : Option (List X)). unwrap_or o []) (sym (found_same laws lists p q h))

module _ {P M D : Type 0} (same : Same P D) (key_laws : IsEquivalence same.key) (laws : IsEquivalence same.digest) where
  module _ (d : D) (p : P) (place : Option ℕ) (old new : List (D × Placed P (Carried M D))) (sets : SetsPlace same.digest same.key d p place old new) (e : D) (q : P) where
    pub sets-here : same.digest d e ≡ true → same.key p q ≡ true → place_at same.digest same.key new e q ≡ place
    sets-here h k = sets e q ∙ cond_true (same.digest d e && same.key p q) place (place_at same.digest same.key old e q) (both_true _ _ h k)

    pub sets-beside : same.digest d e ≡ false → place_at same.digest same.key new e q ≡ place_at same.digest same.key old e q
    sets-beside h = sets e q ∙ cond_false (same.digest d e && same.key p q) place (place_at same.digest same.key old e q) (first_false _ _ h)

    pub sets-other : same.key p q ≡ false → place_at same.digest same.key new e q ≡ place_at same.digest same.key old e q
    sets-other h = sets e q ∙ cond_false (same.digest d e && same.key p q) place (place_at same.digest same.key old e q) (second_false _ _ h)

  abbrev Named : List (D × Placed P (Carried M D)) → Type 0
  Named items = (d : D) (x : Carried M D) → lookup (same.digest d) (messages_of items) ≡ Some x → same.digest d x.digest ≡ true

  module _ (p : P) (lists new_lists : List (P × List (Node (Charged D)))) (items : List (D × Placed P (Carried M D))) (was : IsIndexed same lists items) where
    abbrev ns : List (Node (Charged D))
    ns = items_at same.key p lists

    -- what the table has at a key that equals p
    at-key : (e : Charged D) (q : P) → same.key p q ≡ true → place_at same.digest same.key items e.digest q ≡ place_of (same_charged same.digest) e ns
    at-key e q h = was.finds e q ∙ ap (place_of (same_charged same.digest) e) (nodes-equal key_laws lists p q h)

    indexed : (ms : List (Node (Charged D))) (new_items : List (D × Placed P (Carried M D))) → Puts same.key p ms lists new_lists
        → ((e : Charged D) (q : P) → same.key p q ≡ false → place_at same.digest same.key new_items e.digest q ≡ place_at same.digest same.key items e.digest q)
        → ((e : Charged D) (q : P) → same.key p q ≡ true → place_at same.digest same.key new_items e.digest q ≡ place_of (same_charged same.digest) e ms)
        → IsDistinct (same_charged same.digest) (values_of ms) → Named new_items → IsPlaced same.digest same.key new_items → IsIndexed same new_lists new_items
    indexed ms new_items puts other here distinct named placed = record {
      finds = λ e q. by_test (same.key p q)
          (λ h. here e q h ∙ sym (ap (place_of (same_charged same.digest) e) (puts.lists q ∙ cond_true (same.key p q) ms (items_at same.key q lists) h)))
          (λ h. other e q h ∙ was.finds e q ∙ sym (ap (place_of (same_charged same.digest) e) (puts.lists q ∙ cond_false (same.key p q) ms (items_at same.key q lists) h)));
      distinct = λ q. by_test (same.key p q)
          (λ h. subst (λ l. IsDistinct (same_charged same.digest) (values_of l)) (sym (puts.lists q ∙ cond_true (same.key p q) ms (items_at same.key q lists) h)) distinct)
          (λ h. subst (λ l. IsDistinct (same_charged same.digest) (values_of l)) (sym (puts.lists q ∙ cond_false (same.key p q) ms (items_at same.key q lists) h)) (was.distinct q));
      named = named;
      placed = placed;
      apart = puts.distinct;
    }

    -- a digest of the list moves to its front
    module _ (d : Charged D) (i : ℕ) (apart : IsApart ns) (there : place_at same.digest same.key items d.digest p ≡ Some i) where
      stands : place_of (same_charged same.digest) d ns ≡ Some i
      stands = sym (was.finds d p) ∙ there

      pub moved-digests : values_of (moved i d ns) ≡ d ∷ without (same_charged same.digest) d (values_of ns)
      moved-digests = digests-moved (charged_laws laws) d i ns apart (was.distinct p) (found (charged_laws laws) d i ns stands)

      pub among-stands : among (same_charged same.digest) d (values_of ns) ≡ true
      among-stands = among-place (charged_laws laws) d ns ∙ ap is_some stands

      pub IsIndexed-moved : Puts same.key p (moved i d ns) lists new_lists → IsIndexed same new_lists items
      IsIndexed-moved puts = indexed (moved i d ns) items puts
          (λ e q h. refl)
          (λ e q h. at-key e q h ∙ sym (place-moved (charged_laws laws) e d i ns apart stands))
          (subst (IsDistinct (same_charged same.digest)) (sym moved-digests) (IsDistinct-moved (charged_laws laws) d (values_of ns) (was.distinct p)))
          was.named was.placed

    -- a digest that was nowhere goes in front
    module _ (d : Charged D) (i : ℕ) (none : place_at same.digest same.key items d.digest p ≡ None) where
      pub among-nowhere : among (same_charged same.digest) d (values_of ns) ≡ false
      among-nowhere = among-place (charged_laws laws) d ns ∙ ap is_some (sym (was.finds d p) ∙ none)

      pub IsIndexed-added : (new_items : List (D × Placed P (Carried M D))) → SetsPlace same.digest same.key d.digest p (Some i) items new_items → Puts same.key p ((i, d) ∷ ns) lists new_lists
          → Named new_items → IsPlaced same.digest same.key new_items → IsIndexed same new_lists new_items
      IsIndexed-added new_items sets puts named placed = indexed ((i, d) ∷ ns) new_items puts
          (λ e q h. sets-other d.digest p (Some i) items new_items sets e.digest q h)
          (λ e q h. by_test ((same_charged same.digest) d e)
          (λ t. sets-here d.digest p (Some i) items new_items sets e.digest q t h ∙ sym (place-first (charged_laws laws) e (i, d) ns ((charged_laws laws).symm e d ∙ t)))
          (λ t. sets-beside d.digest p (Some i) items new_items sets e.digest q t ∙ at-key e q h ∙ sym (place-later (charged_laws laws) e (i, d) ns ((charged_laws laws).symm e d ∙ t))))
          (IsDistinct-front (charged_laws laws) d (values_of ns) among-nowhere (was.distinct p))
          named placed

    -- the oldest digest leaves
    pub IsIndexed-evicted : (stale : Charged D) (i : ℕ) (rest : List (Node (Charged D))) (new_items : List (D × Placed P (Carried M D))) → ns ≡ rest ++ (i, stale) ∷ [] → SetsPlace same.digest same.key stale.digest p None items new_items
        → Puts same.key p rest lists new_lists → Named new_items → IsPlaced same.digest same.key new_items → IsIndexed same new_lists new_items
    IsIndexed-evicted stale i rest new_items last drops puts named placed =
        let split : IsDistinct (same_charged same.digest) (values_of rest ++ stale ∷ []) = subst (IsDistinct (same_charged same.digest)) (ap values_of last ∙ digests-append rest ((i, stale) ∷ [])) (was.distinct p) in
        indexed rest new_items puts
        (λ e q h. sets-other stale.digest p None items new_items drops e.digest q h)
        (λ e q h. by_test ((same_charged same.digest) stale e)
        (λ t. sets-here stale.digest p None items new_items drops e.digest q t h ∙ sym (place-none (charged_laws laws) e rest (sym (among-equal (charged_laws laws) stale e (values_of rest) t) ∙ among-last (charged_laws laws) (values_of rest) stale split)))
        (λ t. sets-beside stale.digest p None items new_items drops e.digest q t ∙ at-key e q h ∙ ap (place_of (same_charged same.digest) e) last
        ∙ place-beside (charged_laws laws) e rest (i, stale) [] ((charged_laws laws).symm e stale ∙ t) ∙ ap (place_of (same_charged same.digest) e) (append-nil rest)))
        (IsDistinct-init (charged_laws laws) (values_of rest) stale split)
        named placed

  -- the same places and messages
  pub IsIndexed-same : (lists : List (P × List (Node (Charged D)))) (items new_items : List (D × Placed P (Carried M D))) → IsIndexed same lists items → messages_of new_items ≡ messages_of items
      → ((e : D) (q : P) → place_at same.digest same.key new_items e q ≡ place_at same.digest same.key items e q) → IsPlaced same.digest same.key new_items → IsIndexed same lists new_items
  IsIndexed-same lists items new_items was messages places placed = record {
    finds = λ c q. places c.digest q ∙ was.finds c q;
    distinct = was.distinct;
    named = λ e x h. was.named e x (ap (lookup (same.digest e)) (sym messages) ∙ h);
    placed = placed;
    apart = was.apart;
  }

  -- the list of a key is gone, and it was empty
  pub IsIndexed-closed : (p : P) (lists new_lists : List (P × List (Node (Charged D)))) (items : List (D × Placed P (Carried M D))) → IsIndexed same lists items → items_at same.key p lists ≡ []
      → ((q : P) → items_at same.key q new_lists ≡ cond (same.key p q) [] (items_at same.key q lists)) → IsDistinct same.key (keys_of new_lists) → IsIndexed same new_lists items
  IsIndexed-closed p lists new_lists items was empty at distinct =
      let stays : (q : P) → items_at same.key q new_lists ≡ items_at same.key q lists = λ q. at q ∙ by_test (same.key p q)
      (λ h. cond_true (same.key p q) [] (items_at same.key q lists) h ∙ sym (nodes-equal key_laws lists p q h ∙ empty))
      (λ h. cond_false (same.key p q) [] (items_at same.key q lists) h) in
      record {
        finds = λ e q. was.finds e q ∙ sym (ap (place_of (same_charged same.digest) e) (stays q));
        distinct = λ q. subst (λ l. IsDistinct (same_charged same.digest) (values_of l)) (sym (stays q)) (was.distinct q);
        named = was.named;
        placed = was.placed;
        apart = distinct;
      }
