-- What leaves a cache: what was there and is not any more.
use Rattle.std.proofs.Common.{◌≡◌, ℕ, zero, suc, ◌+◌, ◌≤◌, ◌<◌, ◌⊎◌, take, Bool, true, false, cond, inl, inr, List, [], ◌∷◌, ◌++◌, length, Option, Some, None, refl, sym, ap, ◌∙◌, arith, subst, length-append}
use Rattle.std.specs.Prelude.{is_some, IfSome, MatchOption, unwrap_or, nat_le}
use Rattle.std.specs.List.{filter, IsDistinct}
use Rattle.std.specs.Map.{lookup, keys_of, remove_entry}
use Rattle.std.specs.Option.{option_map, option_to_list}
use Rattle.std.specs.Ordering.{eq_by_cmp}
use Rattle.std.specs.Cmp.{IsEquivalence, IsTotalOrder, eq_by_cmp_equiv}
use Rattle.std.specs.declared.cmp.Ordering.{Ordering}
use Rattle.std.proofs.lemmas.Bool.{le-leb}
use Rattle.std.proofs.lemmas.Map.{lookup-remove_entry}
use Rattle.std.proofs.lemmas.Map.Made.{keys_of-map_values}
use Rattle.std.proofs.lemmas.List.{append-nil, append_assoc}
use Rattle.std.proofs.lemmas.List.Elements.{filter-append}
use Rattle.entries.specs.declared.entry.Charged.{Charged}
use Rattle.entries.specs.Linked.{Node}
use Rattle.entries.specs.Placed.{Placed}
use Rattle.entries.specs.Overlaid.{same_number}
use Rattle.entries.specs.Table.{Tabled, item_at, name_at, items_of, messages_of, left_from, IsTabled, Leaves, Takes, Joins}
use Rattle.entries.proofs.Stores.{found_same}
use Rattle.entries.proofs.Tables.{lookup-messages}
use Rattle.entries.proofs.Tabled.{by_option, no_some, lookup-name, name_there}
use Rattle.broadcast_core.specs.Carried.{Carried}
use Rattle.broadcast_core.specs.Content.{Content, Same, at_charge, items_at}
use Rattle.broadcast_core.specs.Fronted.{within}
use Rattle.broadcast_core.specs.Stored.{Stored, Shelf, Sheds, Stores, Cuts, has_digest, is_stored}
use Rattle.broadcast_core.specs.Reports.{HaveLeft, Reports}
use Rattle.broadcast_core.specs.Left.{Left, HasRoom, Widens, Adds}
use Rattle.broadcast_core.specs.Indexed.{IsIndexed, Pushes, digest_lists}
use Rattle.broadcast_core.proofs.Distinct.{by_test}
use Rattle.broadcast_core.proofs.Holding.{some_message}
use Rattle.broadcast_core.proofs.Indexing.{cond_true}
use Rattle.broadcast_core.proofs.Placing.{distinct-digests}
use Rattle.broadcast_core.proofs.Caching.{stored-at, stored-cached}
use Rattle.broadcast_core.proofs.Dropping.{fewer_from}

-- what is still there has not left
none-left : {X : Type 0} (l : Option X) → option_to_list (cond (is_some l) None l) ≡ []
none-left None = refl
none-left (Some x) = refl

-- one entry less
remove-length : {D X : Type 0} (test : D → Bool) (es : List (D × X)) → is_some (lookup test es) ≡ true → length (remove_entry test es) + 1 ≡ length es
remove-length test [] there = absurd cc
remove-length test (e ∷ es) there = by (test e.0) there (remove-length test es)
  where
    by : (b : Bool) → is_some (cond b (Some e.1) (lookup test es)) ≡ true → (is_some (lookup test es) ≡ true → length (remove_entry test es) + 1 ≡ length es)
        → length (cond b es (e ∷ remove_entry test es)) + 1 ≡ length (e ∷ es)
    by true h rest = omega arith
    by false h rest = omega (arith, rest h)

module _ {M D : Type 0} (same : D → D → Bool) where
  -- nothing leaves where nothing changes
  pub Adds-none : (m : List (D × Carried M D)) (a b : Option (List (Carried M D))) → b ≡ a → Adds same m m a b
  Adds-none m a b is = record { gone = []; added = is ∙ by a; each = λ d. sym (none-left (lookup (same d) m)) }
    where
      by : (o : Option (List (Carried M D))) → o ≡ option_map (λ xs. xs ++ []) o
      by None = refl
      by (Some xs) = ap Some (sym (append-nil xs))

  -- what leaves in two steps, of which the second puts nothing in
  pub Adds-then : (old mid new : List (D × Carried M D)) (a b c : Option (List (Carried M D))) → Adds same old mid a b → Adds same mid new b c
      → ((d : D) (y : Carried M D) → lookup (same d) mid ≡ Some y → lookup (same d) new ≡ None → lookup (same d) old ≡ Some y)
      → ((d : D) → is_some (lookup (same d) new) ≡ true → is_some (lookup (same d) mid) ≡ true) → Adds same old new a c
  Adds-then old mid new a b c first last was kept = record {
    gone = first.gone ++ last.gone;
    added = last.added ∙ ap (option_map (λ xs. xs ++ last.gone)) first.added ∙ joined a;
    each = λ d. filter-append (λ (x : Carried M D). same d x.digest) first.gone last.gone
        ∙ ap (λ (xs : List (Carried M D)). xs ++ filter (λ (x : Carried M D). same d x.digest) last.gone) (first.each d) ∙ ap (λ (xs : List (Carried M D)). option_to_list (cond (is_some (lookup (same d) mid)) None (lookup (same d) old)) ++ xs) (last.each d)
        ∙ by (lookup (same d) old) (lookup (same d) mid) (lookup (same d) new) (was d) (kept d);
  }
    where
      joined : (o : Option (List (Carried M D))) → option_map (λ xs. xs ++ last.gone) (option_map (λ xs. xs ++ first.gone) o) ≡ option_map (λ xs. xs ++ (first.gone ++ last.gone)) o
      joined None = refl
      joined (Some xs) = ap Some (append_assoc xs first.gone last.gone)

      by : (o m n : Option (Carried M D)) → ((y : Carried M D) → m ≡ Some y → n ≡ None → o ≡ Some y) → (is_some n ≡ true → is_some m ≡ true)
          → option_to_list (cond (is_some m) None o) ++ option_to_list (cond (is_some n) None m) ≡ option_to_list (cond (is_some n) None o)
      by o None None was kept = append-nil (option_to_list o)
      by o None (Some z) was kept = let no = kept refl in absurd cc
      by o (Some y) None was kept = ap option_to_list (sym (was y refl refl))
      by o (Some y) (Some z) was kept = refl

  pub Adds-fewer : (old mid new : List (D × Carried M D)) (a b c : Option (List (Carried M D))) → Adds same old mid a b → Adds same mid new b c
      → ((d : D) (y : Carried M D) → lookup (same d) mid ≡ Some y → lookup (same d) old ≡ Some y)
      → ((d : D) (y : Carried M D) → lookup (same d) new ≡ Some y → lookup (same d) mid ≡ Some y) → Adds same old new a c
  Adds-fewer old mid new a b c first last was kept = Adds-then old mid new a b c first last (λ d y h no. was d y h)
      (λ d there. by_option (lookup (same d) new) (λ no. let bad : false ≡ true = sym (ap is_some no) ∙ there in absurd (cc)) (λ y is. ap is_some (kept d y is)))

-- nothing leaves a shelf that stays
pub Sheds-none : {P M D : Type 0} (same : D → D → Bool) (s : Shelf P M D) → Sheds same s s
Sheds-none same s = record { deque_size = refl; byte_budget = refl; left = Adds-none same s.stored.messages s.left s.left refl }

-- more room is room
pub room-wider : {X : Type 0} (n : ℕ) (a b : Left X) → Widens a b → HasRoom n a → HasRoom n b
room-wider {X = X} n a b widens room = by b.items a.items widens.0 room
  where
    by : (o p : Option (List X)) → o ≡ p → IfSome p (λ xs. length xs + n ≤ a.room) → IfSome o (λ xs. length xs + n ≤ b.room)
    by None p is h = tt
    by (Some xs) None is h = absurd cc
    by (Some xs) (Some ys) is h =
        let one : xs ≡ ys = cc in
        omega (arith, h, widens.1, ap length one)

-- one that is kept takes one place
pub room-pushed : {X : Type 0} (n m : ℕ) (x : X) (a b : Left X) → b.items ≡ option_map (λ xs. xs ++ x ∷ []) a.items → b.room ≡ a.room → n + 1 ≡ m → HasRoom m a → HasRoom n b
room-pushed {X = X} n m x a b items room less has = by a.items b.items items has
  where
    by : (o p : Option (List X)) → p ≡ option_map (λ xs. xs ++ x ∷ []) o → IfSome o (λ xs. length xs + m ≤ a.room) → IfSome p (λ xs. length xs + n ≤ b.room)
    by None None is h = tt
    by None (Some ys) is h = absurd cc
    by (Some xs) None is h = absurd cc
    by (Some xs) (Some ys) is h =
        let one : ys ≡ xs ++ x ∷ [] = cc in
        omega (arith, h, room, less, ap length one, length-append xs (x ∷ []))

-- room for some is room for one
pub room-one : {X : Type 0} (n m : ℕ) (a : Left X) → n + 1 ≡ m → HasRoom m a → HasRoom 1 a
room-one {X = X} n m a less has = by a.items has
  where
    by : (o : Option (List X)) → IfSome o (λ xs. length xs + m ≤ a.room) → IfSome o (λ xs. length xs + 1 ≤ a.room)
    by None h = tt
    by (Some xs) h = omega (arith, h, less)

module _ {M D : Type 0} {cmp : D → D → Ordering} (order : IsTotalOrder cmp) (n list : ℕ) (old new : Tabled D (Carried M D))
    (ok : IsTabled cmp (λ m. m.digest) old) (distinct : IsDistinct (eq_by_cmp cmp) (keys_of (items_of old))) (takes : Takes cmp (λ m. m.digest) n list old new) where
  laws : IsEquivalence (eq_by_cmp cmp)
  laws = eq_by_cmp_equiv order

  abbrev was : List (D × Carried M D)
  was = messages_of (items_of old)

  abbrev now : List (D × Carried M D)
  now = messages_of (items_of new)

  -- what is handed out is what left, and the messages are fewer by it
  pub record Parts (out : Option (Carried M D)) : Type 0 where
    pub each : HaveLeft (eq_by_cmp cmp) was now (option_to_list out)
    pub fewer : (m : Carried M D) → out ≡ Some m → length now + 1 ≡ length was
    pub stays : out ≡ None → now ≡ was

  same-messages : now ≡ was → Parts None
  same-messages is = record {
    each = λ d. sym (ap (λ l. option_to_list (cond (is_some (lookup (eq_by_cmp cmp d) l)) None (lookup (eq_by_cmp cmp d) was))) is ∙ none-left (lookup (eq_by_cmp cmp d) was));
    fewer = λ m no. absurd cc;
    stays = λ h. is;
  }

  message-of : (t : Tabled D (Carried M D)) → IsTabled cmp (λ m. m.digest) t → (d : D) → name_at (λ m. m.digest) t n ≡ Some d
      → lookup (eq_by_cmp cmp d) (messages_of (items_of t)) ≡ option_map (λ i. i.message) (item_at t n)
  message-of t tabled d named = lookup-messages (eq_by_cmp cmp d) (items_of t) ∙ ap (option_map (λ i. i.message)) (lookup-name order t tabled n d named)

  module _ (d : D) (named : name_at (λ m. m.digest) old n ≡ Some d) where
    leaves : Leaves (eq_by_cmp cmp) same_number d list (items_of old) (items_of new)
    leaves = takes.left d named

    -- the item keeps a place
    kept-place : now ≡ was → is_some (item_at new n) ≡ true
    kept-place is =
        let there : is_some (lookup (eq_by_cmp cmp d) (items_of new)) ≡ true =
        sym (some_message (lookup (eq_by_cmp cmp d) (items_of new))) ∙ ap is_some (sym (lookup-messages (eq_by_cmp cmp d) (items_of new))) ∙ ap (λ l. is_some (lookup (eq_by_cmp cmp d) l)) is
        ∙ ap is_some (message-of old ok d named) ∙ some_message (item_at old n) ∙ name_there (λ m. m.digest) (item_at old n) d named in
        let f = takes.tabled.placed d there in
        name_there (λ m. m.digest) (item_at new n) d (takes.stays d f.0 named (ap is_some f.2))

    -- the item is gone with its message
    no-item : lookup (eq_by_cmp cmp d) (items_of new) ≡ None → is_some (item_at new n) ≡ false
    no-item none = by_option (item_at new n) (λ no. ap is_some no)
        (λ it is.
        let its : name_at (λ m. m.digest) new n ≡ Some it.message.digest = ap (option_map (λ i. i.message.digest)) is in
        let one : Some it.message.digest ≡ Some d = sym (takes.fewer n it.message.digest its) ∙ named in
        let there : lookup (eq_by_cmp cmp d) (items_of new) ≡ Some it = lookup-name order new takes.tabled n d (its ∙ one) ∙ is in no_some none there)

    left-message : now ≡ remove_entry (eq_by_cmp cmp d) was → (it : Placed ℕ (Carried M D)) → item_at old n ≡ Some it → Parts (Some it.message)
    left-message removed it is =
        let found : lookup (eq_by_cmp cmp d) was ≡ Some it.message = message-of old ok d named ∙ ap (option_map (λ i. i.message)) is in
        let name : it.message.digest ≡ d = (let one : Some it.message.digest ≡ Some d = ap (option_map (λ i. i.message.digest)) (sym is) ∙ named in cc) in
        let keys : IsDistinct (eq_by_cmp cmp) (keys_of was) = subst (IsDistinct (eq_by_cmp cmp)) (sym (keys_of-map_values (λ i. i.message) (items_of old))) distinct in
        record {
          each = λ e. by_test (eq_by_cmp cmp d e)
              (λ t.
              let gone : lookup (eq_by_cmp cmp e) now ≡ None = ap (lookup (eq_by_cmp cmp e)) removed ∙ lookup-remove_entry laws (eq_by_cmp cmp d) (λ x y h. laws.congr d x y h) e was keys ∙ rw t refl in
              let at : lookup (eq_by_cmp cmp e) was ≡ Some it.message = sym (found_same laws was d e t) ∙ found in
              let back : eq_by_cmp cmp e it.message.digest ≡ true = ap (eq_by_cmp cmp e) name ∙ laws.symm e d ∙ t in
              rw (gone, at, back) refl)
              (λ t.
              let kept : lookup (eq_by_cmp cmp e) now ≡ lookup (eq_by_cmp cmp e) was = ap (lookup (eq_by_cmp cmp e)) removed ∙ lookup-remove_entry laws (eq_by_cmp cmp d) (λ x y h. laws.congr d x y h) e was keys ∙ rw t refl in
              let back : eq_by_cmp cmp e it.message.digest ≡ false = ap (eq_by_cmp cmp e) name ∙ laws.symm e d ∙ t in
              rw (kept, back) (sym (none-left (lookup (eq_by_cmp cmp e) was))));
          fewer = λ m h. ap (λ (l : List (D × Carried M D)). length l + 1) removed ∙ remove-length (eq_by_cmp cmp d) was (ap is_some found);
          stays = λ h. absurd cc;
        }

    named-parts : (it : Placed ℕ (Carried M D)) → item_at old n ≡ Some it → Parts (left_from n old new)
    named-parts it is = elim leaves.messages [
      | inl stays ↦ subst Parts (sym (rw (kept-place stays) refl)) (same-messages stays)
      | inr gone ↦ subst Parts (sym (rw (no-item gone.1, is) refl)) (left-message gone.0 it is)
    ]

  pub parts-is : Parts (left_from n old new)
  parts-is = by_option (item_at old n)
      (λ none.
      let same : new ≡ old = takes.none (ap (option_map (λ i. i.message.digest)) none) in
      let out : left_from n old new ≡ None = rw (ap (λ t. item_at t n) same, none) refl in
      subst Parts (sym out) (same-messages (ap (λ t. messages_of (items_of t)) same)))
      (λ it is. named-parts it.message.digest (ap (option_map (λ i. i.message.digest)) is) it is)

-- a message that is put in takes none away
pub Adds-joined : {P M D : Type 0} {same : D → D → Bool} {key : P → P → Bool} {cmp : D → D → Ordering} {is_clone : Carried M D → Carried M D → Type 0} (x : Carried M D) (p : P) (place : ℕ) (old new : List (D × Placed P (Carried M D))) (a b : Option (List (Carried M D)))
    → Joins same key cmp is_clone x.digest x p place old new → b ≡ a → Adds same (messages_of old) (messages_of new) a b
unfolding Adds-none
Adds-joined {M = M} {D = D} {same = same} x p place old new a b joins is = by_option (lookup (same x.digest) old)
    (λ none. let c = joins.cached none in more (λ e. c.copy) (λ e. same x.digest e) (λ e. c.finds e))
    (λ it there. rw (joins.stays (ap is_some there)) (Adds-none same (messages_of old) a b is))
  where
    more : (y : D → Carried M D) (test : D → Bool) → ((e : D) → lookup (same e) (messages_of new) ≡ cond (test e) (Some (y e)) (lookup (same e) (messages_of old))) → Adds same (messages_of old) (messages_of new) a b
    more y test finds = record {
      gone = [];
      added = (Adds-none same (messages_of old) a b is).added;
      each = λ e. by_test (test e)
          (λ t. let there : lookup (same e) (messages_of new) ≡ Some (y e) = finds e ∙ rw t refl in rw there refl)
          (λ t. let there : lookup (same e) (messages_of new) ≡ lookup (same e) (messages_of old) = finds e ∙ rw t refl in rw there (sym (none-left (lookup (same e) (messages_of old)))));
    }

-- what is there after an item leaves a list was there before
pub takes-fewer : {M D : Type 0} {cmp : D → D → Ordering} {n list : ℕ} (old new : Tabled D (Carried M D)) → Takes cmp (λ m. m.digest) n list old new
    → (e : D) (y : Carried M D) → lookup (eq_by_cmp cmp e) (messages_of (items_of new)) ≡ Some y → lookup (eq_by_cmp cmp e) (messages_of (items_of old)) ≡ Some y
takes-fewer {cmp = cmp} {n = n} old new takes e y there = by_option (name_at (λ m. m.digest) old n)
    (λ none. ap (λ t. lookup (eq_by_cmp cmp e) (messages_of (items_of t))) (sym (takes.none none)) ∙ there)
    (λ d named. (takes.left d named).fewer e y there)

pub pushes-fewer : {M D : Type 0} {cmp : D → D → Ordering} {p : ℕ} {node : Node (Charged ℕ)} {size : ℕ} {old_lists new_lists : List (ℕ × List (Node (Charged ℕ)))} (old new : Tabled D (Carried M D)) → Pushes cmp p node size old_lists new_lists old new
    → (e : D) (y : Carried M D) → lookup (eq_by_cmp cmp e) (messages_of (items_of new)) ≡ Some y → lookup (eq_by_cmp cmp e) (messages_of (items_of old)) ≡ Some y
pushes-fewer {M = M} {D = D} {cmp = cmp} {p = p} old new pushes e y there = by pushes.stale pushes.leaves
  where
    by : (stale : Option (Charged ℕ)) → MatchOption stale (new ≡ old) (λ c. Takes cmp (λ m. m.digest) c.digest p old new) → lookup (eq_by_cmp cmp e) (messages_of (items_of old)) ≡ Some y
    by None is = ap (λ t. lookup (eq_by_cmp cmp e) (messages_of (items_of t))) (sym is) ∙ there
    by (Some c) takes = takes-fewer old new takes e y there

module _ {M D : Type 0} {same : D → D → Bool} (laws : IsEquivalence same) where
  -- a message is put in, which stays, and others may leave
  pub Adds-entered : (x : Carried M D) (old mid new : List (D × Carried M D)) (a b c : Option (List (Carried M D))) → Adds same old mid a b → Adds same mid new b c
      → ((d : D) (y : Carried M D) → lookup (same d) mid ≡ Some y → (lookup (same d) old ≡ Some y) ⊎ (same x.digest d ≡ true))
      → ((d : D) (y : Carried M D) → lookup (same d) new ≡ Some y → lookup (same d) mid ≡ Some y) → is_some (lookup (same x.digest) new) ≡ true → Adds same old new a c
  Adds-entered x old mid new a b c first last origin fewer there = Adds-then same old mid new a b c first last
      (λ d y h none. elim (origin d y h) [
        | inl was ↦ was
        | inr one ↦ let no : true ≡ false = sym there ∙ ap is_some (found_same laws new x.digest d one ∙ none) in absurd (cc)
      ])
      (λ d h. by_option (lookup (same d) new) (λ no. let bad : false ≡ true = sym (ap is_some no) ∙ h in absurd (cc)) (λ y is. ap is_some (fewer d y is)))

module _ {P M D : Type 0} (same : Same P D) (key_laws : IsEquivalence same.key) (laws : IsEquivalence same.digest) where
  -- the message of a digest in front of a list that has a place is there
  pub front-there : (p : P) (x : Carried M D) (charge size : ℕ) (cs : List (Charged D)) (lists : List (P × List (Node (Charged D)))) (items : List (D × Placed P (Carried M D))) → IsIndexed same lists items → 0 < size
      → items_at same.key p (digest_lists lists) ≡ take size (at_charge x.digest charge ∷ cs) → is_some (lookup (same.digest x.digest) (messages_of items)) ≡ true
  front-there p x charge size cs lists items indexed some is =
      sym (stored-cached same key_laws laws lists items indexed (distinct-digests same.key lists indexed.apart) x.digest)
      ∙ stored-at same p x.digest (digest_lists lists) (ap (has_digest same.digest x.digest) is ∙ first size some)
    where
      first : (s : ℕ) → 0 < s → has_digest same.digest x.digest (take s (at_charge x.digest charge ∷ cs)) ≡ true
      first zero h = absurd (omega (arith, h))
      first (suc k) h = rw (laws.refl x.digest) refl

  -- a taking, and a cut that leaves its digest on the list
  module _ (p : P) (x : Carried M D) (charge size budget : ℕ) (cs : List (Charged D)) (old mid new : Stored P M D) (a b c : Option (List (Carried M D))) where
    abbrev whole : List (Charged D)
    whole = take size (at_charge x.digest charge ∷ cs)

    pub still-there : Stores same p x whole old mid → Cuts same p (within budget (items_at same.key p mid.lists)) mid new → 0 < size → charge ≤ budget
        → is_some (lookup (same.digest x.digest) mid.messages) ≡ true → is_some (lookup (same.digest x.digest) new.messages) ≡ true
    still-there stores cuts some fits there =
        let at_mid : items_at same.key p mid.lists ≡ whole = stores.put.lists p ∙ cond_true (same.key p p) whole (items_at same.key p old.lists) (key_laws.refl p) in
        let at_new : items_at same.key p new.lists ≡ within budget (items_at same.key p mid.lists) = cuts.put.lists p ∙ cond_true (same.key p p) (within budget (items_at same.key p mid.lists)) (items_at same.key p mid.lists) (key_laws.refl p) in
        let listed : has_digest same.digest x.digest (items_at same.key p new.lists) ≡ true = ap (has_digest same.digest x.digest) (at_new ∙ ap (within budget) at_mid) ∙ first size some in
        let stored : is_stored same x.digest new.lists ≡ true = stored-at same p x.digest new.lists listed in
        ap is_some (cuts.messages x.digest ∙ cond_true (is_stored same x.digest new.lists) (lookup (same.digest x.digest) mid.messages) None stored) ∙ there
      where
        first : (s : ℕ) → 0 < s → has_digest same.digest x.digest (within budget (take s (at_charge x.digest charge ∷ cs))) ≡ true
        first zero h = absurd (omega (arith, h))
        first (suc k) h = let yes : nat_le charge budget ≡ true = le-leb charge budget fits in rw (yes, laws.refl x.digest) refl

    pub Adds-cut : Stores same p x whole old mid → Cuts same p (within budget (items_at same.key p mid.lists)) mid new → 0 < size → charge ≤ budget
        → is_some (lookup (same.digest x.digest) mid.messages) ≡ true → ((d : D) (y : Carried M D) → lookup (same.digest d) mid.messages ≡ Some y → same.digest d y.digest ≡ true)
        → Adds same.digest old.messages mid.messages a b → Adds same.digest mid.messages new.messages b c → Adds same.digest old.messages new.messages a c
    Adds-cut stores cuts some fits there named first last = Adds-entered laws x old.messages mid.messages new.messages a b c first last
        (λ d y h. by_test (is_stored same d mid.lists)
        (λ on. by_test (is_stored same d old.lists)
        (λ was. inl (sym (stores.messages d ∙ rw (on, was) refl) ∙ h))
        (λ was.
        let made : Some x ≡ Some y = sym (stores.messages d ∙ rw (on, was) refl) ∙ h in
        let one : x ≡ y = cc in
        inr (laws.symm x.digest d ∙ ap (λ (z : Carried M D). same.digest d z.digest) one ∙ named d y h)))
        (λ off. let no : None ≡ Some y = sym (stores.messages d ∙ rw off refl) ∙ h in absurd (cc)))
        (λ d y h. fewer_from (is_stored same d new.lists) (lookup (same.digest d) mid.messages) (lookup (same.digest d) new.messages) (cuts.messages d) y h)
        (still-there stores cuts some fits there)

-- what is kept is said of all that left
pub Reports-added : {P M D W : Type 0} (same : Same P D) (old new : Content P M D W) (a b : Option (List (Carried M D))) → is_some a ≡ true → Adds same.digest old.cached new.cached a b
    → Reports same (record { core = old; left = unwrap_or a [] }) (record { core = new; left = unwrap_or b [] })
Reports-added {M = M} {D = D} same old new a b on adds = record { gone = adds.gone; added = by a b on adds.added; each = adds.each }
  where
    by : (o p : Option (List (Carried M D))) → is_some o ≡ true → p ≡ option_map (λ xs. xs ++ adds.gone) o → unwrap_or p [] ≡ unwrap_or o [] ++ adds.gone
    by None p h is = absurd cc
    by (Some xs) p h is = ap (λ q. unwrap_or q []) is

pub still-on : {M D : Type 0} {same : D → D → Bool} {old new : List (D × Carried M D)} (a b : Option (List (Carried M D))) → is_some a ≡ true → Adds same old new a b → is_some b ≡ true
still-on {M = M} {D = D} a b on adds = by a b on adds.added
  where
    by : (o p : Option (List (Carried M D))) → is_some o ≡ true → p ≡ option_map (λ xs. xs ++ adds.gone) o → is_some p ≡ true
    by None p h is = absurd cc
    by (Some xs) p h is = ap is_some is

-- nothing leaves where nothing changes, and nothing else is told
pub none-gone : {M D : Type 0} {same : D → D → Bool} (laws : IsEquivalence same) (m : List (D × Carried M D)) (gone : List (Carried M D)) → HaveLeft same m m gone → gone ≡ []
none-gone laws m [] each = refl
none-gone {same = same} laws m (x ∷ xs) each =
    let some : filter (λ z. same x.digest z.digest) (x ∷ xs) ≡ x ∷ filter (λ z. same x.digest z.digest) xs = rw (laws.refl x.digest) refl in
    let no : x ∷ filter (λ z. same x.digest z.digest) xs ≡ [] = sym some ∙ each x.digest ∙ none-left (lookup (same x.digest) m) in absurd (cc)

-- one that is handed out
pub record Popped {X : Type 0} (out : Option X) (a b : Option (List X)) : Type 0 where
  pub left : unwrap_or a [] ≡ unwrap_or b [] ++ option_to_list out
  pub on : is_some b ≡ true

pub popped-is : {X : Type 0} (out : Option X) (a b : Option (List X)) → is_some a ≡ true → a ≡ option_map (λ xs. xs ++ option_to_list out) b → Popped out a b
popped-is {X = X} out a b on is = record { left = left a b on is; on = there a b on is }
  where
    left : (o p : Option (List X)) → is_some o ≡ true → o ≡ option_map (λ xs. xs ++ option_to_list out) p → unwrap_or o [] ≡ unwrap_or p [] ++ option_to_list out
    left o None h is = let no : false ≡ true = sym (ap is_some is) ∙ h in absurd (cc)
    left o (Some xs) h is = ap (λ q. unwrap_or q []) is

    there : (o p : Option (List X)) → is_some o ≡ true → o ≡ option_map (λ xs. xs ++ option_to_list out) p → is_some p ≡ true
    there o None h is = sym (ap is_some is) ∙ h
    there o (Some xs) h is = refl

-- where one is handed out there is still room
pub room-popped : {X : Type 0} (n : ℕ) (out : Option X) (a b : Left X) → HasRoom n a → a.items ≡ option_map (λ xs. xs ++ option_to_list out) b.items → b.room ≡ a.room → HasRoom n b
room-popped {X = X} n out a b has is same_room = room a.items b.items has is
  where
    room : (o p : Option (List X)) → IfSome o (λ xs. length xs + n ≤ a.room) → o ≡ option_map (λ xs. xs ++ option_to_list out) p → IfSome p (λ xs. length xs + n ≤ b.room)
    room o None h is = tt
    room None (Some ys) h is = absurd cc
    room (Some xs) (Some ys) h is =
        let one : xs ≡ ys ++ option_to_list out = cc in
        omega (arith, h, same_room, ap length one, length-append ys (option_to_list out))

pub nothing-kept : {X : Type 0} (o : Option (List X)) → IfSome o (λ xs. xs ≡ []) → unwrap_or o [] ≡ []
nothing-kept None is = refl
nothing-kept (Some xs) is = is

-- there is room for none
pub room-none : {X : Type 0} (a : Left X) (b : Bool) → a.items ≡ cond b (Some []) None → HasRoom 0 a
room-none {X = X} a b is = by a.items b is
  where
    by : (o : Option (List X)) (c : Bool) → o ≡ cond c (Some []) None → IfSome o (λ xs. length xs + 0 ≤ a.room)
    by None c h = tt
    by (Some xs) false h = absurd cc
    by (Some xs) true h =
        let none : xs ≡ [] = cc in
        rw none (omega arith)
