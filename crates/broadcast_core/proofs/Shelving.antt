-- What a shelf is after a message is taken: its lists of items, by their names, and its table.
use Rattle.std.proofs.Common.{◌≡◌, ℕ, ◌≤◌, Bool, List, ◌∷◌, length, take, Option, Some, None, sym, ap, ◌∙◌, subst}
use Rattle.std.specs.Prelude.{is_some}
use Rattle.std.specs.List.{IsDistinct}
use Rattle.std.specs.Map.{keys_of}
use Rattle.std.specs.Ordering.{eq_by_cmp}
use Rattle.std.specs.Cmp.{IsEquivalence, IsTotalOrder, eq_by_cmp_equiv}
use Rattle.std.specs.declared.cmp.Ordering.{Ordering}
use Rattle.entries.specs.declared.entry.Charged.{Charged}
use Rattle.entries.specs.Linked.{Node, IsApart}
use Rattle.entries.specs.Placed.{Placed}
use Rattle.entries.specs.Store.{items_at, moved, Puts}
use Rattle.entries.specs.Table.{place_at, IsPlaced}
use Rattle.broadcast_core.specs.Carried.{Carried}
use Rattle.broadcast_core.specs.Content.{Same, same_charged, at_charge, without}
use Rattle.broadcast_core.specs.Indexed.{digest_lists, named_lists, IsShelved, stored_of, Holds}
use Rattle.broadcast_core.specs.Stored.{Stores}
use Rattle.broadcast_core.proofs.Placing.{distinct-digests}
use Rattle.broadcast_core.proofs.Indexing.{IsIndexed-same}
use Rattle.broadcast_core.proofs.Filling.{by_order, Pushed, pushed_distinct, Stores-moved, Stores-pushed, messages-undone, places-undone}
use Rattle.broadcast_core.proofs.Naming.{items_at-named, Puts-named, AllNamed-puts, named-moved, AreNamed-moved, IsApart-named}
use Rattle.broadcast_core.proofs.Leaving.{Quits, Pushes, Renamed-more, Renamed-left, Pushed-named, Renamed-pushed}

module _ {P M D : Type 0} (same : Same P D) (key_laws : IsEquivalence same.key) (laws : IsEquivalence same.digest) where
  module _ (p : P) (x : Carried M D) (charge size : ℕ) (names : ℕ → Option D) (lists new_lists : List (P × List (Node (Charged ℕ)))) (items : List (D × Placed P (Carried M D))) (was : IsShelved same names lists items) where
    abbrev old : List (P × List (Node (Charged D)))
    old = named_lists names lists

    abbrev ns : List (Node (Charged ℕ))
    ns = items_at same.key p lists

    abbrev c : Charged D
    c = at_charge x.digest charge

    -- the list after the taking
    abbrev cs : List (Charged D)
    cs = take size (c ∷ without (same_charged same.digest) c (items_at same.key p (digest_lists old)))

    distinct : IsDistinct same.key (keys_of (digest_lists old))
    distinct = distinct-digests same.key old was.indexed.apart

    -- a digest that is on the list
    pub Shelved-moved : (i item : ℕ) → names item ≡ Some x.digest → IsApart ns → place_at same.digest same.key items x.digest p ≡ Some i → Puts same.key p (moved i (at_charge item charge) ns) lists new_lists
        → length (items_at same.key p (digest_lists old)) ≤ size → IsShelved same names new_lists items × Stores same p x cs (stored_of old items) (stored_of (named_lists names new_lists) items)
    Shelved-moved i item is apart there puts fits =
        let front = at_charge item charge in
        let named_puts : Puts same.key p (moved i c (items_at same.key p old)) old (named_lists names new_lists) =
        subst (λ l. Puts same.key p l old (named_lists names new_lists)) (named-moved names i front x.digest ns (was.named p) is ∙ ap (moved i c) (sym (items_at-named names same.key p lists)))
        (Puts-named names same.key p (moved i front ns) lists new_lists puts) in
        let r = Stores-moved same key_laws laws p x charge size old (named_lists names new_lists) items was.indexed distinct (distinct-digests same.key (named_lists names new_lists) named_puts.distinct) i
        (subst IsApart (sym (items_at-named names same.key p lists)) (IsApart-named names ns apart)) there named_puts fits in (
          record { indexed = r.0; named = AllNamed-puts names same.key p (moved i front ns) lists new_lists puts was.named (AreNamed-moved names i front ns (was.named p) (ap is_some is)) },
          r.1,
        )

    module _ {i item : ℕ} {mid new : ℕ → Option D} {mid_items new_items : List (D × Placed P (Carried M D))} {R : D → D → Ordering} where
      -- a digest that is not on the list
      pub Shelved-pushed : ((n : ℕ) (d : D) → names n ≡ Some d → mid n ≡ Some d) → mid item ≡ Some x.digest
          → place_at same.digest same.key items x.digest p ≡ None → Holds same R p x i items mid_items → IsPlaced same.digest same.key mid_items → IsPlaced same.digest same.key new_items
          → length (items_at same.key p old) ≤ size → Pushes same p (i, at_charge item charge) size lists new_lists mid new mid_items new_items
          → IsShelved same new new_lists new_items × Stores same p x cs (stored_of old items) (stored_of (named_lists new new_lists) new_items)
      Shelved-pushed more is none holds mid_placed placed fits pushes =
          let held = Renamed-more same key_laws laws names mid lists items was more in
          let pushed : Pushed same p (i, c) size old (named_lists mid new_lists) mid_items new_items = subst (λ l. Pushed same p (i, c) size l (named_lists mid new_lists) mid_items new_items) held.is
          (Pushed-named same key_laws laws mid p i item charge x.digest is size lists new_lists new mid_items new_items held.shelved.named pushes) in
          let apart = distinct-digests same.key (named_lists mid new_lists) (pushed_distinct same p (i, c) size old (named_lists mid new_lists) mid_items new_items pushed) in
          let r = Stores-pushed same key_laws laws p x charge size old (named_lists mid new_lists) items was.indexed distinct apart none R i mid_items new_items holds mid_placed placed fits pushed in
          let left = Renamed-pushed same key_laws laws mid p i item charge x.digest is size lists new_lists new mid_items new_items held.shelved.named pushes r.0 in
          (left.shelved, subst (λ l. Stores same p x cs (stored_of old items) (stored_of l new_items)) (sym left.is) r.1)

module _ {P M D : Type 0} {key : P → P → Bool} {R : D → D → Ordering} (key_laws : IsEquivalence key) (order : IsTotalOrder R)
    {p : P} {x : Carried M D} {i item : ℕ} {names mid new : ℕ → Option D} {lists : List (P × List (Node (Charged ℕ)))} {items mid_items new_items : List (D × Placed P (Carried M D))} where
  -- a digest that is held, and refused by the lists
  pub Shelved-refused : IsShelved (by_order key R) names lists items → ((n : ℕ) (d : D) → names n ≡ Some d → mid n ≡ Some d) → mid item ≡ Some x.digest → place_at (eq_by_cmp R) key items x.digest p ≡ None
      → Holds (by_order key R) R p x i items mid_items → Quits (by_order key R) item p mid new mid_items new_items
      → IsShelved (by_order key R) new lists new_items × (stored_of (named_lists new lists) new_items ≡ stored_of (named_lists names lists) items)
  Shelved-refused was more is none holds quits =
      let laws = eq_by_cmp_equiv order in
      let leaves = quits.left x.digest is in
      let messages = messages-undone key_laws order p x i items mid_items new_items none holds leaves was.indexed.placed quits.placed in
      let indexed = IsIndexed-same (by_order key R) key_laws laws (named_lists names lists) items new_items was.indexed messages (places-undone key_laws order p x i items mid_items new_items none holds leaves) quits.placed in
      let held = Renamed-more (by_order key R) key_laws laws names mid lists new_items (record { indexed = indexed; named = was.named }) more in
      let left = Renamed-left (by_order key R) key_laws laws mid new lists new_items held.shelved item x.digest is quits.others (λ q. quits.stays x.digest q is) in (
        left.shelved,
        ap (λ l. stored_of l new_items) (left.is ∙ held.is) ∙ ap (λ m. record { lists = digest_lists (named_lists names lists); messages = m }) messages,
      )
