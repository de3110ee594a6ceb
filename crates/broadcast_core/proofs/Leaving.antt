-- What names are kept when an item leaves a list, and when one comes.
use Rattle.std.proofs.Common.{◌≡◌, ℕ, ◌<◌, ◌≤◌, Bool, true, ◌||◌, inl, inr, List, [], ◌∷◌, length, Option, Some, None, sym, ap, ◌∙◌, subst, arith}
use Rattle.std.specs.Prelude.{is_some, MatchOption}
use Rattle.std.specs.List.{list_any, IsDistinct}
use Rattle.std.specs.Map.{keys_of}
use Rattle.std.specs.Cmp.{IsEquivalence}
use Rattle.std.proofs.lemmas.Bool.{cases_eq}
use Rattle.std.proofs.lemmas.Map.Made.{keys_of-map_values}
use Rattle.entries.specs.declared.entry.Charged.{Charged}
use Rattle.entries.specs.Linked.{Node}
use Rattle.entries.specs.Placed.{Placed}
use Rattle.entries.specs.Store.{values_of, items_at, Puts, Evicts, Extends}
use Rattle.std.specs.declared.cmp.Ordering.{Ordering}
use Rattle.entries.specs.Table.{place_at, IsPlaced, Leaves, Tabled, items_of, Takes}
use Rattle.broadcast_core.specs.Carried.{Carried}
use Rattle.broadcast_core.specs.Content.{Same, same_charged, at_charge, bytes_of}
use Rattle.broadcast_core.specs.Numbered.{same_listed}
use Rattle.broadcast_core.specs.Stored.{has_digest}
use Rattle.broadcast_core.specs.Indexed.{place_of, named_front, named_nodes, named_lists, AreNamed, AllNamed, IsIndexed, IsShelved, names_of, Pushes as PushesItem}
use Rattle.broadcast_core.proofs.Distinct.{or_right}
use Rattle.broadcast_core.proofs.Staying.{charged_laws}
use Rattle.broadcast_core.proofs.Placing.{among-place}
use Rattle.broadcast_core.proofs.Dropping.{Clearing, Clearing-step}
use Rattle.broadcast_core.proofs.Shortening.{Shortening, Shortening-step}
use Rattle.broadcast_core.proofs.Filling.{Pushed}
use Rattle.broadcast_core.proofs.Naming.{some_of, named-node, AreNamed-front, AreNamed-back, length-named, bytes-named, items_at-named, Puts-named, Evicts-named, AllNamed-puts, SameNames, same-more, named_lists-same, AllNamed-same}

module _ {P M D : Type 0} (same : Same P D) where
  -- the key's place leaves the item, which keeps its name while it has a place; other items keep theirs
  pub record Quits (item : ℕ) (p : P) (old new : ℕ → Option D)
      (old_items new_items : List (D × Placed P (Carried M D))) : Type 0 where
    pub left : (d : D) → old item ≡ Some d → Leaves same.digest same.key d p old_items new_items
    pub placed : IsPlaced same.digest same.key new_items
    pub stays : (d : D) (q : P) → old item ≡ Some d
        → is_some (place_at same.digest same.key new_items d q) ≡ true → new item ≡ Some d
    pub others : (n : ℕ) → (n ≡ item → ⊥) → new n ≡ old n

  -- the node goes in front of the key's list, and what leaves that list leaves its item
  pub record Pushes (p : P) (n : Node (Charged ℕ)) (size : ℕ) (old new : List (P × List (Node (Charged ℕ))))
      (old_names new_names : ℕ → Option D) (old_items new_items : List (D × Placed P (Carried M D))) : Type 0 where
    pub stale : Option (Charged ℕ)
    pub extends : Extends same.key p n size stale old new
    pub leaves : MatchOption stale ((new_names ≡ old_names) × (new_items ≡ old_items))
        (λ c. Quits c.digest p old_names new_names old_items new_items)

module _ {M D : Type 0} (cmp : D → D → Ordering) where
  pub quits-item : (item p : ℕ) (old new : Tabled D (Carried M D)) → Takes cmp (λ m. m.digest) item p old new
      → Quits (same_listed cmp) item p (names_of old) (names_of new) (items_of old) (items_of new)
  quits-item item p old new takes = record { left = takes.left; placed = takes.tabled.placed; stays = takes.stays; others = takes.others }

  pub pushes-item : (p : ℕ) (n : Node (Charged ℕ)) (size : ℕ) (old new : List (ℕ × List (Node (Charged ℕ)))) (table new_table : Tabled D (Carried M D)) → PushesItem cmp p n size old new table new_table
      → Pushes (same_listed cmp) p n size old new (names_of table) (names_of new_table) (items_of table) (items_of new_table)
  pushes-item p n size old new table new_table pushes = record { stale = pushes.stale; extends = pushes.extends; leaves = by pushes.stale pushes.leaves }
    where
      by : (stale : Option (Charged ℕ)) → MatchOption stale (new_table ≡ table) (λ c. Takes cmp (λ m. m.digest) c.digest p table new_table)
          → MatchOption stale ((names_of new_table ≡ names_of table) × (items_of new_table ≡ items_of table)) (λ c. Quits (same_listed cmp) c.digest p (names_of table) (names_of new_table) (items_of table) (items_of new_table))
      by None is = (ap names_of is, ap items_of is)
      by (Some c) takes = quits-item c.digest p table new_table takes

-- what lists are when their items keep their names
pub record Renamed {P M D : Type 0} (same : Same P D) (old new : ℕ → Option D) (lists : List (P × List (Node (Charged ℕ)))) (items : List (D × Placed P (Carried M D))) : Type 0 where
  pub is : named_lists new lists ≡ named_lists old lists
  pub shelved : IsShelved same new lists items

module _ {P M D : Type 0} (same : Same P D) (key_laws : IsEquivalence same.key) (laws : IsEquivalence same.digest) where
  module _ (old new : ℕ → Option D) (lists : List (P × List (Node (Charged ℕ)))) (items : List (D × Placed P (Carried M D))) (was : IsShelved same old lists items) where
    keys-apart : IsDistinct same.key (keys_of lists)
    keys-apart = subst (IsDistinct same.key) (keys_of-map_values (named_nodes old) lists) was.indexed.apart

    renamed : ((q : P) → SameNames old new (items_at same.key q lists)) → Renamed same old new lists items
    renamed kept =
        let is = named_lists-same old new key_laws lists keys-apart kept in
        record {
          is = is;
          shelved = record { indexed = subst (λ l. IsIndexed same l items) (sym is) was.indexed; named = AllNamed-same old new key_laws lists kept was.named };
        }

    -- names only come
    pub Renamed-more : ((n : ℕ) (d : D) → old n ≡ Some d → new n ≡ Some d) → Renamed same old new lists items
    Renamed-more more = renamed (λ q. same-more old new more (items_at same.key q lists) (was.named q))

    module _ (item : ℕ) (x : D) (there : old item ≡ Some x) (others : (n : ℕ) → (n ≡ item → ⊥) → new n ≡ old n) where
      any-front : (test : Charged D → Bool) (o : Option D) (n : Node (Charged ℕ)) (ns : List (Node (Charged D))) → list_any test (values_of ns) ≡ true → list_any test (values_of (named_front o n ns)) ≡ true
      any-front test None n ns h = h
      any-front test (Some d) n ns h = ap (λ b. test (at_charge d n.1.charge) || b) h ∙ or_right (test (at_charge d n.1.charge))

      same-kept : (ns : List (Node (Charged ℕ))) → (has_digest same.digest x (values_of (named_nodes old ns)) ≡ true → new item ≡ Some x) → SameNames old new ns
      same-kept [] kept = tt
      same-kept (n ∷ ns) kept = (
        elim (cases_eq n.1.digest item) [
          | inl is ↦
              let name : old n.1.digest ≡ Some x = ap old is ∙ there in
              let here : has_digest same.digest x (values_of (named_nodes old (n ∷ ns))) ≡ true = ap (λ l. has_digest same.digest x (values_of l)) (named-node old n ns x name)
              ∙ ap (λ b. b || has_digest same.digest x (values_of (named_nodes old ns))) (laws.refl x) in
              ap new is ∙ kept here ∙ sym name
          | inr differs ↦ others n.1.digest differs
        ],
        same-kept ns (λ h. kept (any-front (λ c. same.digest x c.digest) (old n.1.digest) n (named_nodes old ns) h)),
      )

      listed-placed : (q : P) → has_digest same.digest x (values_of (named_nodes old (items_at same.key q lists))) ≡ true → is_some (place_at same.digest same.key items x q) ≡ true
      listed-placed q h =
          let c = at_charge x 0 in
          ap is_some (was.indexed.finds c q ∙ ap (place_of (same_charged same.digest) c) (items_at-named old same.key q lists))
          ∙ sym (among-place (charged_laws laws) c (named_nodes old (items_at same.key q lists))) ∙ h

      -- an item that keeps its name while it has a place
      pub Renamed-left : ((q : P) → is_some (place_at same.digest same.key items x q) ≡ true → new item ≡ Some x) → Renamed same old new lists items
      Renamed-left stays = renamed (λ q. same-kept (items_at same.key q lists) (λ h. stays q (listed-placed q h)))

  -- the oldest item of a list leaves it
  module _ (p : P) (first : List (P × List (Node (Charged D)))) (now next : List (P × List (Node (Charged ℕ)))) (mid new : ℕ → Option D) (old_items mid_items new_items : List (D × Placed P (Carried M D)))
      (all : AllNamed mid same.key now) (stale : Charged ℕ) (evicts : Evicts same.key p stale now next) (quits : Quits same stale.digest p mid new mid_items new_items) where
    stale-name : (d : D) × (mid stale.digest ≡ Some d)
    stale-name = some_of (mid stale.digest) (AreNamed-back mid evicts.rest ((evicts.place, stale) ∷ []) (subst (AreNamed mid) evicts.last (all p))).0

    next-named : AllNamed mid same.key next
    next-named = AllNamed-puts mid same.key p evicts.rest now next evicts.put all (AreNamed-front mid evicts.rest ((evicts.place, stale) ∷ []) (subst (AreNamed mid) evicts.last (all p)))

    abbrev gone : Charged D
    gone = at_charge stale-name.0 stale.charge

    evicts-named : Evicts same.key p gone (named_lists mid now) (named_lists mid next)
    evicts-named = Evicts-named mid same.key p stale stale-name.0 now next stale-name.1 evicts

    after : IsIndexed same (named_lists mid next) new_items → Renamed same mid new next new_items
    after indexed = Renamed-left mid new next new_items (record { indexed = indexed; named = next-named }) stale.digest stale-name.0 stale-name.1 quits.others (λ q. quits.stays stale-name.0 q stale-name.1)

    pub Clearing-item : Clearing same p first (named_lists mid now) old_items mid_items → Clearing same p first (named_lists new next) old_items new_items × AllNamed new same.key next
    Clearing-item c =
        let step = Clearing-step same key_laws laws p first (named_lists mid now) (named_lists mid next) old_items mid_items new_items c gone evicts-named (quits.left stale-name.0 stale-name.1) quits.placed in
        let r = after step.indexed in
        (subst (λ l. Clearing same p first l old_items new_items) (sym r.is) step, r.shelved.named)

    pub Shortening-item : (b : ℕ) → Shortening same p b first (named_lists mid now) old_items mid_items → b < bytes_of (values_of (items_at same.key p now))
        → Shortening same p b first (named_lists new next) old_items new_items × AllNamed new same.key next
    Shortening-item b c over =
        let over_named : b < bytes_of (values_of (items_at same.key p (named_lists mid now))) =
        subst (λ k. b < k) (sym (ap (λ l. bytes_of (values_of l)) (items_at-named mid same.key p now) ∙ bytes-named mid (items_at same.key p now) (all p))) over in
        let step = Shortening-step same key_laws laws p b first (named_lists mid now) (named_lists mid next) old_items mid_items new_items c gone over_named evicts-named (quits.left stale-name.0 stale-name.1) quits.placed in
        let r = after step.clearing.indexed in
        (subst (λ l. Shortening same p b first l old_items new_items) (sym r.is) step, r.shelved.named)

  -- a push, by names
  module _ (names : ℕ → Option D) (p : P) (i n : ℕ) (charge : ℕ) (d : D) (is : names n ≡ Some d) (size : ℕ) (old new : List (P × List (Node (Charged ℕ)))) (new_names : ℕ → Option D)
      (old_items new_items : List (D × Placed P (Carried M D))) (all : AllNamed names same.key old) (pushes : Pushes same p (i, at_charge n charge) size old new names new_names old_items new_items) where
    abbrev node : Node (Charged ℕ)
    node = (i, at_charge n charge)

    abbrev ns : List (Node (Charged ℕ))
    ns = items_at same.key p old

    abbrev between : List (P × List (Node (Charged ℕ)))
    between = pushes.extends.between

    node-named : named_nodes names (node ∷ ns) ≡ (i, at_charge d charge) ∷ items_at same.key p (named_lists names old)
    node-named = named-node names node ns d is ∙ ap (λ l. (i, at_charge d charge) ∷ l) (sym (items_at-named names same.key p old))

    put-named : Puts same.key p ((i, at_charge d charge) ∷ items_at same.key p (named_lists names old)) (named_lists names old) (named_lists names between)
    put-named = subst (λ l. Puts same.key p l (named_lists names old) (named_lists names between)) node-named (Puts-named names same.key p (node ∷ ns) old between pushes.extends.put)

    between-named : AllNamed names same.key between
    between-named = AllNamed-puts names same.key p (node ∷ ns) old between pushes.extends.put all (ap is_some is, all p)

    len-between : length (items_at same.key p (named_lists names between)) ≡ length (items_at same.key p between)
    len-between = ap length (items_at-named names same.key p between) ∙ length-named names (items_at same.key p between) (between-named p)

    pub Pushed-named : Pushed same p (i, at_charge d charge) size (named_lists names old) (named_lists names new) old_items new_items
    Pushed-named = by pushes.stale pushes.extends.cut pushes.leaves
      where
        by : (stale : Option (Charged ℕ)) → MatchOption stale ((length (items_at same.key p between) ≤ size) × (new ≡ between)) (λ c. (size < length (items_at same.key p between)) × Evicts same.key p c between new)
            → MatchOption stale ((new_names ≡ names) × (new_items ≡ old_items)) (λ c. Quits same c.digest p names new_names old_items new_items)
            → Pushed same p (i, at_charge d charge) size (named_lists names old) (named_lists names new) old_items new_items
        by None stays same_items = record {
          stale = None;
          extends = record { between = named_lists names between; put = put-named; cut = (omega (arith, stays.0, len-between), ap (named_lists names) stays.1) };
          leaves = same_items.1;
        }
        by (Some c) cut quits =
            let name = stale-name p [] between new names new_names old_items old_items new_items between-named c cut.1 quits in
            record {
              stale = Some (at_charge name.0 c.charge);
              extends = record { between = named_lists names between; put = put-named; cut = (omega (arith, cut.0, len-between), Evicts-named names same.key p c name.0 between new name.1 cut.1) };
              leaves = quits.left name.0 name.1;
            }

    pub Renamed-pushed : IsIndexed same (named_lists names new) new_items → Renamed same names new_names new new_items
    Renamed-pushed indexed = by pushes.stale pushes.extends.cut pushes.leaves
      where
        by : (stale : Option (Charged ℕ)) → MatchOption stale ((length (items_at same.key p between) ≤ size) × (new ≡ between)) (λ c. (size < length (items_at same.key p between)) × Evicts same.key p c between new)
            → MatchOption stale ((new_names ≡ names) × (new_items ≡ old_items)) (λ c. Quits same c.digest p names new_names old_items new_items) → Renamed same names new_names new new_items
        by None stays same_items =
            Renamed-more names new_names new new_items (record { indexed = indexed; named = subst (AllNamed names same.key) (sym stays.1) between-named })
            (λ m y h. ap (λ (f : ℕ → Option D). f m) same_items.0 ∙ h)
        by (Some c) cut quits = after p [] between new names new_names old_items old_items new_items between-named c cut.1 quits indexed
