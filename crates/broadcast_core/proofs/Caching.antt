-- What is cached: the messages of the digests on some list.
use Rattle.std.proofs.Common.{◌≡◌, ℕ, Bool, true, false, ◌||◌, ◌⊎◌, inl, inr, cond, List, [], ◌∷◌, Option, Some, None, refl, sym, ap, ◌∙◌}
use Rattle.std.specs.Prelude.{is_some, unwrap_or}
use Rattle.std.specs.Option.{option_map}
use Rattle.std.specs.List.{IsDistinct}
use Rattle.std.specs.Map.{lookup, keys_of}
use Rattle.std.specs.Cmp.{IsEquivalence}
use Rattle.std.proofs.lemmas.Map.{lookup-none}
use Rattle.std.proofs.lemmas.Map.Keys.{IsDistinct-tail}
use Rattle.std.proofs.lemmas.Map.Entries.{none_past_head}
use Rattle.entries.specs.declared.entry.Charged.{Charged}
use Rattle.entries.specs.Linked.{Node}
use Rattle.entries.specs.Placed.{Placed}
use Rattle.entries.specs.Store.{values_of, items_at, Puts}
use Rattle.entries.specs.Table.{messages_of, place_in}
use Rattle.entries.proofs.Tables.{lookup-messages}
use Rattle.broadcast_core.specs.Carried.{Carried}
use Rattle.broadcast_core.specs.Content.{Same, same_charged}
use Rattle.broadcast_core.specs.Indexed.{place_of, digest_lists, IsIndexed, Origin}
use Rattle.broadcast_core.specs.Stored.{Stored, PutsList, Stores, has_digest, is_stored}
use Rattle.broadcast_core.proofs.Distinct.{by_test, same_truth, or_right}
use Rattle.broadcast_core.proofs.Staying.{charged_laws}
use Rattle.broadcast_core.proofs.Placing.{items_at-digests, is_some-digests, among-place}
use Rattle.broadcast_core.proofs.Indexing.{cond_true, cond_false}

module _ {P D : Type 0} (same : Same P D) where
  -- a list with the digest is some list
  pub stored-at : (q : P) (e : D) (ls : List (P × List (Charged D))) → has_digest same.digest e (items_at same.key q ls) ≡ true → is_stored same e ls ≡ true
  stored-at q e [] h = absurd cc
  stored-at q e (x ∷ ls) h = by_test (same.key q x.0)
      (λ t. let here : has_digest same.digest e x.1 ≡ true = sym (ap (λ b. has_digest same.digest e (unwrap_or (cond b (Some x.1) (lookup (same.key q) ls)) [])) t) ∙ h in rw here refl)
      (λ t. let there : has_digest same.digest e (unwrap_or (lookup (same.key q) ls) []) ≡ true = sym (ap (λ b. has_digest same.digest e (unwrap_or (cond b (Some x.1) (lookup (same.key q) ls)) [])) t) ∙ h in
      ap (λ b. has_digest same.digest e x.1 || b) (stored-at q e ls there) ∙ or_right (has_digest same.digest e x.1))

  module _ (laws : IsEquivalence same.key) where
    -- some key whose list has the digest
    pub record HasHolder (d : D) (lists : List (P × List (Charged D))) : Type 0 where
      pub key : P
      pub there : is_some (lookup (same.key key) lists) ≡ true
      pub listed : has_digest same.digest d (items_at same.key key lists) ≡ true

    holder-first : (d : D) (e : P × List (Charged D)) (es : List (P × List (Charged D))) → has_digest same.digest d e.1 ≡ true → HasHolder d (e ∷ es)
    holder-first d e es h = record { key = e.0; there = rw (laws.refl e.0) refl; listed = rw (laws.refl e.0) h }

    holder-later : (d : D) (e : P × List (Charged D)) (es : List (P × List (Charged D))) → IsDistinct same.key (keys_of (e ∷ es)) → HasHolder d es → HasHolder d (e ∷ es)
    holder-later d e es distinct r =
        let apart : same.key r.key e.0 ≡ false = by_test (same.key r.key e.0)
        (λ t. absurd (let none : is_some (lookup (same.key r.key) es) ≡ false = ap is_some (lookup-none (same.key r.key) es (none_past_head laws r.key e es distinct t)) in let some = r.there in cc))
        (λ t. t) in
        record { key = r.key; there = rw apart r.there; listed = rw apart r.listed }

    pub holder : (d : D) (lists : List (P × List (Charged D))) → IsDistinct same.key (keys_of lists) → is_stored same d lists ≡ true → HasHolder d lists
    holder d [] distinct h = absurd cc
    holder d (e ∷ es) distinct h = by_test (has_digest same.digest d e.1)
        (λ t. holder-first d e es t)
        (λ t. holder-later d e es distinct (holder d es (IsDistinct-tail same.key e.0 (keys_of es) distinct) (let rest : is_stored same d es ≡ true = sym (ap (λ b. b || is_stored same d es) t) ∙ h in rest)))

-- the digest at some charge, which does not matter
abbrev any : {D : Type 0} → D → Charged D
any d = record { digest = d; charge = 0 }

some_item : {P D X : Type 0} (digest : D → D → Bool) (key : P → P → Bool) (p : P) (o : Option (Placed P X)) (i : ℕ) → place_in digest key p o ≡ Some i → is_some o ≡ true
some_item digest key p None i h = cc
some_item digest key p (Some item) i h = refl

some_place : (o : Option ℕ) → is_some o ≡ true → (i : ℕ) × (o ≡ Some i)
some_place None h = cc
some_place (Some i) h = (i, refl)

some_message : {P X : Type 0} (o : Option (Placed P X)) → is_some (option_map (λ i. i.message) o) ≡ is_some o
some_message None = refl
some_message (Some item) = refl

module _ {P D : Type 0} (same : Same P D) where
  -- a list of places that is put is a list of digests that is put
  pub puts-digests : (p : P) (ns : List (Node (Charged D))) (ds : List (Charged D)) (lists new_lists : List (P × List (Node (Charged D)))) → Puts same.key p ns lists new_lists → values_of ns ≡ ds
      → IsDistinct same.key (keys_of (digest_lists new_lists)) → PutsList same.key p ds (digest_lists lists) (digest_lists new_lists)
  puts-digests p ns ds lists new_lists puts is distinct = record {
    lists = λ q. items_at-digests same.key q new_lists ∙ ap values_of (puts.lists q) ∙ by_test (same.key p q)
        (λ h. ap values_of (cond_true (same.key p q) ns (items_at same.key q lists) h) ∙ is ∙ sym (cond_true (same.key p q) ds (items_at same.key q (digest_lists lists)) h))
        (λ h. ap values_of (cond_false (same.key p q) ns (items_at same.key q lists) h) ∙ sym (items_at-digests same.key q lists) ∙ sym (cond_false (same.key p q) ds (items_at same.key q (digest_lists lists)) h));
    keys = λ q there. ap (λ b. same.key p q || b) (is_some-digests same.key q lists) ∙ puts.keys q (sym (is_some-digests same.key q new_lists) ∙ there);
    stays = λ q there. is_some-digests same.key q new_lists ∙ puts.stays q (sym (is_some-digests same.key q lists) ∙ there);
    distinct = distinct;
  }

module _ {P M D : Type 0} (same : Same P D) (key_laws : IsEquivalence same.key) (laws : IsEquivalence same.digest) where
  -- a digest is on some list exactly where it has a message
  pub stored-cached : (lists : List (P × List (Node (Charged D)))) (items : List (D × Placed P (Carried M D))) → IsIndexed same lists items → IsDistinct same.key (keys_of (digest_lists lists))
      → (d : D) → is_stored same d (digest_lists lists) ≡ is_some (lookup (same.digest d) (messages_of items))
  stored-cached lists items was distinct d =
      let has_message : is_some (lookup (same.digest d) (messages_of items)) ≡ is_some (lookup (same.digest d) items) = ap is_some (lookup-messages (same.digest d) items) ∙ some_message (lookup (same.digest d) items) in
      same_truth _ _
      (λ h.
      let r = holder same key_laws d (digest_lists lists) distinct h in
      let f = some_place (place_of (same_charged same.digest) (any d) (items_at same.key r.key lists)) (sym (among-place (charged_laws laws) (any d) (items_at same.key r.key lists)) ∙ sym (ap (has_digest same.digest d) (items_at-digests same.key r.key lists)) ∙ r.listed) in
      has_message ∙ some_item same.digest same.key r.key (lookup (same.digest d) items) f.0 (was.finds (any d) r.key ∙ f.1))
      (λ h.
      let f = was.placed d (sym has_message ∙ h) in
      stored-at same f.0 d (digest_lists lists)
      (ap (has_digest same.digest d) (items_at-digests same.key f.0 lists) ∙ among-place (charged_laws laws) (any d) (items_at same.key f.0 lists) ∙ ap is_some (sym (was.finds (any d) f.0) ∙ f.2)))

  pub named-origin : (x : Carried M D) (old new : List (D × Carried M D)) → ((d : D) (y : Carried M D) → lookup (same.digest d) old ≡ Some y → same.digest d y.digest ≡ true) → Origin same x old new
      → (d : D) (y : Carried M D) → lookup (same.digest d) new ≡ Some y → same.digest d y.digest ≡ true
  named-origin x old new was origin d y h = elim (origin d y h) [
    | inl there ↦ was d y there
    | inr made ↦ ap (λ (z : Carried M D). same.digest d z.digest) made.1 ∙ laws.symm d x.digest ∙ made.2
  ]

  pub origin-cases : (x : Carried M D) (s t : Bool) (o n : Option (Carried M D)) → t ≡ is_some n → s ≡ is_some o
      → ((y : Carried M D) → n ≡ Some y → (o ≡ Some y) ⊎ ((o ≡ None) × (y ≡ x))) → n ≡ cond t (cond s o (Some x)) None
  origin-cases x s t o None is_t is_s origin = sym (cond_false t (cond s o (Some x)) None is_t)
  origin-cases x s t o (Some y) is_t is_s origin = sym (cond_true t (cond s o (Some x)) None is_t ∙ elim (origin y refl) [
    | inl there ↦ cond_true s o (Some x) (is_s ∙ ap is_some there) ∙ there
    | inr made ↦ cond_false s o (Some x) (is_s ∙ ap is_some made.0) ∙ ap Some (sym made.1)
  ])

  pub fewer-cases : (t : Bool) (o n : Option (Carried M D)) → t ≡ is_some n → ((y : Carried M D) → n ≡ Some y → o ≡ Some y) → n ≡ cond t o None
  fewer-cases t o None is_t fewer = sym (cond_false t o None is_t)
  fewer-cases t o (Some y) is_t fewer = sym (cond_true t o None is_t ∙ fewer y refl)

  module _ (p : P) (x : Carried M D) (cs : List (Charged D)) (lists new_lists : List (P × List (Node (Charged D)))) (items new_items : List (D × Placed P (Carried M D)))
      (was : IsIndexed same lists items) (now : IsIndexed same new_lists new_items)
      (distinct : IsDistinct same.key (keys_of (digest_lists lists))) (new_distinct : IsDistinct same.key (keys_of (digest_lists new_lists))) where
    abbrev old : Stored P M D
    old = record { lists = digest_lists lists; messages = messages_of items }

    abbrev new : Stored P M D
    new = record { lists = digest_lists new_lists; messages = messages_of new_items }

    pub Stores-made : (ns : List (Node (Charged D))) → Puts same.key p ns lists new_lists → values_of ns ≡ cs
        → Origin same x (messages_of items) (messages_of new_items) → Stores same p x cs old new
    Stores-made ns puts is origin = record {
      put = puts-digests same p ns cs lists new_lists puts is new_distinct;
      messages = λ d. origin-cases x (is_stored same d (digest_lists lists)) (is_stored same d (digest_lists new_lists)) (lookup (same.digest d) (messages_of items)) (lookup (same.digest d) (messages_of new_items))
          (stored-cached new_lists new_items now new_distinct d) (stored-cached lists items was distinct d)
          (λ y h. elim (origin d y h) [ inl there ↦ inl there | inr made ↦ inr (made.0, made.1) ]);
    }
