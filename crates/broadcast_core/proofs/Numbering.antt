-- Lists by number, read under their peers.
use Rattle.std.proofs.Common.{Bool, true, false, cond, ◌||◌, ◌≡◌, ℕ, List, [], ◌∷◌, Option, Some, None, Result, Ok, Err, OnOk, OnErr, refl, sym, ap, subst, ◌∙◌}
use Rattle.std.specs.Prelude.{unwrap_or, map, is_some}
use Rattle.std.specs.Option.{option_map}
use Rattle.std.specs.List.{IsDistinct}
use Rattle.std.specs.Map.{lookup, keys_of}
use Rattle.std.specs.Cmp.{IsEquivalence}
use Rattle.std.specs.Ordering.{eq_by_cmp}
use Rattle.std.specs.declared.cmp.Ordering.{Ordering}
use Rattle.std.proofs.lemmas.Map.Made.{lookup-map_values, keys_of-map_values}
use Rattle.entries.specs.Overlaid.{same_number}
use Rattle.entries.specs.declared.entry.Charged.{Charged}
use Rattle.entries.proofs.Slots.{number_laws, number_eq, number_ne, number_same}
use Rattle.entries.proofs.Stores.{found_same}
use Rattle.broadcast_core.specs.Carried.{Carried}
use Rattle.broadcast_core.specs.Content.{items_at, same_by}
use Rattle.broadcast_core.specs.Fronted.{fronted}
use Rattle.broadcast_core.specs.Numbered.{same_listed, named_of, IsNumbered, Opens, Closes}
use Rattle.broadcast_core.specs.Stored.{Stored, PutsList, Stores, Drops, has_digest, is_stored, is_dropped}
use Rattle.broadcast_core.proofs.Distinct.{by_test, same_truth, or_right}
use Rattle.broadcast_core.proofs.Indexing.{cond_true, cond_false}
use Rattle.broadcast_core.proofs.Caching.{stored-at, holder}
use Rattle.broadcast_core.proofs.Dropping.{one-dropped}

module _ {P X : Type 0} (same : P → P → Bool) (numbers : List (P × ℕ)) (lists : List (ℕ × List X)) (p : P) where
  abbrev read : Option ℕ → List X
  read o = unwrap_or (option_map (λ n. items_at same_number n lists) o) []

  named_at : items_at same p (map (λ e. (e.0, items_at same_number e.1 lists)) numbers) ≡ read (lookup (same p) numbers)
  named_at = ap (λ (o : Option (List X)). unwrap_or o []) (lookup-map_values (λ n. items_at same_number n lists) (same p) numbers)

  -- the list of a peer that has a number
  pub named_there : (n : ℕ) → lookup (same p) numbers ≡ Some n → items_at same p (map (λ e. (e.0, items_at same_number e.1 lists)) numbers) ≡ items_at same_number n lists
  named_there n found = named_at ∙ ap read found

  -- the list of a peer that has none
  pub named_nowhere : lookup (same p) numbers ≡ None → items_at same p (map (λ e. (e.0, items_at same_number e.1 lists)) numbers) ≡ []
  named_nowhere none = named_at ∙ ap read none

  -- a peer has a list exactly if it has a number
  pub some_named : is_some (lookup (same p) (map (λ e. (e.0, items_at same_number e.1 lists)) numbers)) ≡ is_some (lookup (same p) numbers)
  some_named = ap is_some (lookup-map_values (λ n. items_at same_number n lists) (same p) numbers) ∙ some_map (lookup (same p) numbers)
    where
      some_map : (o : Option ℕ) → is_some (option_map (λ n. items_at same_number n lists) o) ≡ is_some o
      some_map None = refl
      some_map (Some n) = refl

  pub none_named : lookup (same p) (map (λ e. (e.0, items_at same_number e.1 lists)) numbers) ≡ None → lookup (same p) numbers ≡ None
  none_named none = is_none (lookup (same p) numbers) (sym some_named ∙ ap is_some none)
    where
      is_none : (o : Option ℕ) → is_some o ≡ false → o ≡ None
      is_none None e = refl
      is_none (Some n) e = cc

  pub named_none : lookup (same p) numbers ≡ None → lookup (same p) (map (λ e. (e.0, items_at same_number e.1 lists)) numbers) ≡ None
  named_none none = lookup-map_values (λ n. items_at same_number n lists) (same p) numbers ∙ ap (option_map (λ n. items_at same_number n lists)) none

-- the same lists have the same content
pub named-same : {P M D : Type 0} (numbers : List (P × ℕ)) (s t : Stored ℕ M D) → ((n : ℕ) → items_at same_number n t.lists ≡ items_at same_number n s.lists) → t.messages ≡ s.messages
    → named_of numbers t ≡ named_of numbers s
named-same {P = P} {M = M} {D = D} numbers s t lists messages = ap (λ (l : List (P × List (Charged D))). let r : Stored P M D = record { lists = l; messages = t.messages } in r) (each numbers)
    ∙ ap (λ (m : List (D × Carried M D)). let r : Stored P M D = record { lists = (named_of numbers s).lists; messages = m } in r) messages
  where
    each : (es : List (P × ℕ)) → (named_of es t).lists ≡ (named_of es s).lists
    each [] = refl
    each (e ∷ es) = ap (λ (cs : List (Charged D)). let first : P × List (Charged D) = (e.0, cs) in first ∷ (named_of es t).lists) (lists e.1)
        ∙ ap (λ (l : List (P × List (Charged D))). let first : P × List (Charged D) = (e.0, items_at same_number e.1 s.lists) in first ∷ l) (each es)

-- a digest is on some list before and after, where the lists are the same
pub stored-same : {M D : Type 0} (digest : D → D → Ordering) (s t : Stored ℕ M D) → IsDistinct same_number (keys_of s.lists) → IsDistinct same_number (keys_of t.lists)
    → ((n : ℕ) → items_at same_number n t.lists ≡ items_at same_number n s.lists) → (d : D) → is_stored (same_listed digest) d t.lists ≡ is_stored (same_listed digest) d s.lists
stored-same digest s t distinct new_distinct lists d = same_truth _ _
    (λ h. let r = holder (same_listed digest) number_laws d t.lists new_distinct h in stored-at (same_listed digest) r.key d s.lists (ap (has_digest (eq_by_cmp digest) d) (sym (lists r.key)) ∙ r.listed))
    (λ h. let r = holder (same_listed digest) number_laws d s.lists distinct h in stored-at (same_listed digest) r.key d t.lists (ap (has_digest (eq_by_cmp digest) d) (lists r.key) ∙ r.listed))

-- a message that is cached with its list is there exactly if its digest is on a list
cached-stored : {M D : Type 0} (digest : D → D → Ordering) (n : ℕ) (x : Carried M D) (cs : List (Charged D)) (s t : Stored ℕ M D) → ((d : D) → is_some (lookup (eq_by_cmp digest d) s.messages) ≡ is_stored (same_listed digest) d s.lists)
    → Stores (same_listed digest) n x cs s t → (d : D) → is_some (lookup (eq_by_cmp digest d) t.messages) ≡ is_stored (same_listed digest) d t.lists
cached-stored digest n x cs s t was stores d = ap is_some (stores.messages d) ∙ by_test (is_stored (same_listed digest) d t.lists)
    (λ h. rw h (by_test (is_stored (same_listed digest) d s.lists) (λ k. rw k (was d ∙ k)) (λ k. rw k refl)))
    (λ h. rw h refl)

module _ {P M D : Type 0} (cmp : P → P → Ordering) (digest : D → D → Ordering) (laws : IsEquivalence (eq_by_cmp cmp)) where
  distinct_named : (numbers : List (P × ℕ)) (s : Stored ℕ M D) → IsDistinct (eq_by_cmp cmp) (keys_of numbers) → IsDistinct (eq_by_cmp cmp) (keys_of (named_of numbers s).lists)
  distinct_named numbers s peers = subst (IsDistinct (eq_by_cmp cmp)) (sym (keys_of-map_values (λ n. items_at same_number n s.lists) numbers)) peers

  module _ (numbers : List (P × ℕ)) (shelf : Stored ℕ M D) (ok : IsNumbered cmp digest numbers shelf) where
    by_number : (d : D) (p : P) (o : Option ℕ) → lookup (eq_by_cmp cmp p) numbers ≡ o
        → has_digest (eq_by_cmp digest) d (items_at (eq_by_cmp cmp) p (named_of numbers shelf).lists) ≡ true
        → is_stored (same_listed digest) d shelf.lists ≡ true
    by_number d p None found has =
        let no : false ≡ true = sym (ap (has_digest (eq_by_cmp digest) d) (named_nowhere (eq_by_cmp cmp) numbers shelf.lists p found)) ∙ has in absurd (cc)
    by_number d p (Some n) found has =
        stored-at (same_listed digest) n d shelf.lists (sym (ap (has_digest (eq_by_cmp digest) d) (named_there (eq_by_cmp cmp) numbers shelf.lists p n found)) ∙ has)

    -- the same digests are on some list
    pub stored_named : (d : D) → is_stored (same_by cmp digest) d (named_of numbers shelf).lists ≡ is_stored (same_listed digest) d shelf.lists
    stored_named d = same_truth _ _
        (λ h. let r = holder (same_by cmp digest) laws d (named_of numbers shelf).lists (distinct_named numbers shelf ok.peers) h in by_number d r.key (lookup (eq_by_cmp cmp r.key) numbers) refl r.listed)
        (λ h. let r = holder (same_listed digest) number_laws d shelf.lists ok.lists h in
        let p = ok.named r.key r.there in
        stored-at (same_by cmp digest) p.0 d (named_of numbers shelf).lists (ap (has_digest (eq_by_cmp digest) d) (named_there (eq_by_cmp cmp) numbers shelf.lists p.0 r.key p.1) ∙ r.listed))

    -- a message is there exactly if its digest is on a list
    pub cached_named : (d : D) → is_stored (same_by cmp digest) d (named_of numbers shelf).lists ≡ is_some (lookup (eq_by_cmp digest d) (named_of numbers shelf).messages)
    cached_named d = stored_named d ∙ sym (ok.cached d)

    -- no two peers have one list
    pub distinct_peers : IsDistinct (eq_by_cmp cmp) (keys_of (named_of numbers shelf).lists)
    distinct_peers = distinct_named numbers shelf ok.peers

  -- the list of a peer that has a number is replaced
  module _ (numbers : List (P × ℕ)) (p : P) (n : ℕ) (found : lookup (eq_by_cmp cmp p) numbers ≡ Some n) (s t : Stored ℕ M D) (ok : IsNumbered cmp digest numbers s) where
    put_lists : (cs : List (Charged D)) → PutsList same_number n cs s.lists t.lists → (q : P) (o : Option ℕ) → lookup (eq_by_cmp cmp q) numbers ≡ o
        → items_at (eq_by_cmp cmp) q (named_of numbers t).lists ≡ cond (eq_by_cmp cmp p q) cs (items_at (eq_by_cmp cmp) q (named_of numbers s).lists)
    put_lists cs put q None none = by_test (eq_by_cmp cmp p q)
        (λ here. let no : None ≡ Some n = sym none ∙ sym (found_same laws numbers p q here) ∙ found in absurd (cc))
        (λ apart. named_nowhere (eq_by_cmp cmp) numbers t.lists q none ∙ sym (cond_false (eq_by_cmp cmp p q) cs (items_at (eq_by_cmp cmp) q (named_of numbers s).lists) apart ∙ named_nowhere (eq_by_cmp cmp) numbers s.lists q none))
    put_lists cs put q (Some m) there = named_there (eq_by_cmp cmp) numbers t.lists q m there ∙ put.lists m ∙ by_test (eq_by_cmp cmp p q)
        (λ here.
        let one : n ≡ m = (let both : Some n ≡ Some m = sym found ∙ found_same laws numbers p q here ∙ there in cc) in
        cond_true (same_number n m) cs (items_at same_number m s.lists) (number_eq n m one) ∙ sym (cond_true (eq_by_cmp cmp p q) cs (items_at (eq_by_cmp cmp) q (named_of numbers s).lists) here))
        (λ apart.
        let other : same_number n m ≡ false = number_ne n m (λ e. let no : true ≡ false = sym (ok.apart p q n found (there ∙ ap Some (sym e))) ∙ apart in cc) in
        cond_false (same_number n m) cs (items_at same_number m s.lists) other ∙ sym (cond_false (eq_by_cmp cmp p q) cs (items_at (eq_by_cmp cmp) q (named_of numbers s).lists) apart ∙ named_there (eq_by_cmp cmp) numbers s.lists q m there))

    pub PutsList-named : (cs : List (Charged D)) → PutsList same_number n cs s.lists t.lists → PutsList (eq_by_cmp cmp) p cs (named_of numbers s).lists (named_of numbers t).lists
    PutsList-named cs put = record {
      lists = λ q. put_lists cs put q (lookup (eq_by_cmp cmp q) numbers) refl;
      keys = λ q there. ap (λ b. eq_by_cmp cmp p q || b) (some_named (eq_by_cmp cmp) numbers s.lists q ∙ sym (some_named (eq_by_cmp cmp) numbers t.lists q) ∙ there) ∙ or_right (eq_by_cmp cmp p q);
      stays = λ q there. some_named (eq_by_cmp cmp) numbers t.lists q ∙ sym (some_named (eq_by_cmp cmp) numbers s.lists q) ∙ there;
      distinct = distinct_named numbers t ok.peers;
    }

    module _ (x : Carried M D) (cs : List (Charged D)) (stores : Stores (same_listed digest) n x cs s t) where
      pub IsNumbered-stores : IsNumbered cmp digest numbers t
      IsNumbered-stores = record {
        peers = ok.peers;
        lists = stores.put.distinct;
        there = λ q m f. stores.put.stays m (ok.there q m f);
        named = λ m h. ok.named m (by_test (same_number n m)
            (λ here. ap is_some (sym (found_same number_laws s.lists n m here)) ∙ ok.there p n found)
            (λ apart. sym (ap (λ b. b || is_some (lookup (same_number m) s.lists)) apart) ∙ stores.put.keys m h));
        apart = ok.apart;
        cached = cached-stored digest n x cs s t ok.cached stores;
      }

      pub Stores-named : Stores (same_by cmp digest) p x cs (named_of numbers s) (named_of numbers t)
      Stores-named = record {
        put = PutsList-named cs stores.put;
        messages = λ d. rw (stored_named numbers t IsNumbered-stores d, stored_named numbers s ok d) (stores.messages d);
      }

    -- what comes of a taking that may be refused
    pub IsNumbered-taken : {A E : Type 0} (x : Carried M D) (cs : List (Charged D)) (r : Result A E) → OnOk r (Stores (same_listed digest) n x cs s t) → OnErr r (t ≡ s) → IsNumbered cmp digest numbers t
    IsNumbered-taken x cs (Ok a) stores stays = IsNumbered-stores x cs stores
    IsNumbered-taken x cs (Err e) stores stays = subst (IsNumbered cmp digest numbers) (sym stays) ok

    pub Stores-taken : {A E : Type 0} (x : Carried M D) (cs : List (Charged D)) (r : Result A E) → OnOk r (Stores (same_listed digest) n x cs s t)
        → OnOk r (Stores (same_by cmp digest) p x cs (named_of numbers s) (named_of numbers t))
    Stores-taken x cs (Ok a) stores = Stores-named x cs stores
    Stores-taken x cs (Err e) stores = tt

  -- a list is opened for a peer that has none
  module _ (numbers : List (P × ℕ)) (p : P) (n : ℕ) (s o : Stored ℕ M D) (ok : IsNumbered cmp digest numbers s) (none : lookup (eq_by_cmp cmp p) numbers ≡ None) (opens : Opens n s o) where
    -- the lists are as they were
    pub opened_lists : (m : ℕ) → items_at same_number m o.lists ≡ items_at same_number m s.lists
    opened_lists m = opens.put.lists m ∙ by_test (same_number n m)
        (λ here. cond_true (same_number n m) [] (items_at same_number m s.lists) here
        ∙ sym (ap (λ (l : Option (List (Charged D))). unwrap_or l []) (sym (found_same number_laws s.lists n m here) ∙ opens.fresh)))
        (λ apart. cond_false (same_number n m) [] (items_at same_number m s.lists) apart)

    -- the new list is empty
    pub opened_first : items_at same_number n o.lists ≡ []
    opened_first = opens.put.lists n ∙ cond_true (same_number n n) [] (items_at same_number n s.lists) (number_laws.refl n)

    opened_stored : (d : D) → is_stored (same_listed digest) d o.lists ≡ is_stored (same_listed digest) d s.lists
    opened_stored d = stored-same digest s o ok.lists opens.put.distinct opened_lists d

    -- no other peer's number is the new one
    other_number : (q : P) (m : ℕ) → lookup (eq_by_cmp cmp q) numbers ≡ Some m → same_number n m ≡ false
    other_number q m there = number_ne n m (λ e. let no : false ≡ true = sym (ap is_some opens.fresh) ∙ ap (λ i. is_some (lookup (same_number i) s.lists)) e ∙ ok.there q m there in cc)

    module _ (more : List (P × ℕ)) (at : (q : P) → lookup (eq_by_cmp cmp q) more ≡ cond (eq_by_cmp cmp p q) (Some n) (lookup (eq_by_cmp cmp q) numbers)) (distinct : IsDistinct (eq_by_cmp cmp) (keys_of more)) where
      here_is : (q : P) → eq_by_cmp cmp p q ≡ true → lookup (eq_by_cmp cmp q) more ≡ Some n
      here_is q here = at q ∙ cond_true (eq_by_cmp cmp p q) (Some n) (lookup (eq_by_cmp cmp q) numbers) here

      there_is : (q : P) → eq_by_cmp cmp p q ≡ false → lookup (eq_by_cmp cmp q) more ≡ lookup (eq_by_cmp cmp q) numbers
      there_is q apart = at q ∙ cond_false (eq_by_cmp cmp p q) (Some n) (lookup (eq_by_cmp cmp q) numbers) apart

      pub found_first : lookup (eq_by_cmp cmp p) more ≡ Some n
      found_first = here_is p (laws.refl p)

      -- a peer that had a number is another
      not_new : (q : P) (m : ℕ) → lookup (eq_by_cmp cmp q) numbers ≡ Some m → eq_by_cmp cmp p q ≡ false
      not_new q m there = by_test (eq_by_cmp cmp p q)
          (λ here. let no : None ≡ Some m = sym none ∙ found_same laws numbers p q here ∙ there in absurd (cc))
          (λ apart. apart)

      pub IsNumbered-opened : IsNumbered cmp digest more o
      IsNumbered-opened = record {
        peers = distinct;
        lists = opens.put.distinct;
        there = λ q m f. by_test (eq_by_cmp cmp p q)
            (λ here. let one : n ≡ m = (let both : Some n ≡ Some m = sym (here_is q here) ∙ f in cc) in subst (λ i. is_some (lookup (same_number i) o.lists) ≡ true) one opens.there)
            (λ apart. opens.put.stays m (ok.there q m (sym (there_is q apart) ∙ f)));
        named = λ m h. by_test (same_number n m)
            (λ here. (p, found_first ∙ ap Some (number_same n m here)))
            (λ apart.
            let old = ok.named m (sym (ap (λ b. b || is_some (lookup (same_number m) s.lists)) apart) ∙ opens.put.keys m h) in
            (old.0, there_is old.0 (not_new old.0 m old.1) ∙ old.1));
        apart = λ q r m f g. by_test (eq_by_cmp cmp p q)
            (λ hq. by_test (eq_by_cmp cmp p r)
            (λ hr. sym (laws.congr p q r hq) ∙ hr)
            (λ ar. absurd (crossed q r m hq ar f g)))
            (λ aq. by_test (eq_by_cmp cmp p r)
            (λ hr. absurd (crossed r q m hr aq g f))
            (λ ar. ok.apart q r m (sym (there_is q aq) ∙ f) (sym (there_is r ar) ∙ g)));
        cached = λ d. ap (λ l. is_some (lookup (eq_by_cmp digest d) l)) opens.messages ∙ ok.cached d ∙ sym (opened_stored d);
      }
        where
          crossed : (q r : P) (m : ℕ) → eq_by_cmp cmp p q ≡ true → eq_by_cmp cmp p r ≡ false → lookup (eq_by_cmp cmp q) more ≡ Some m → lookup (eq_by_cmp cmp r) more ≡ Some m → ⊥
          crossed q r m hq ar f g =
              let one : n ≡ m = (let both : Some n ≡ Some m = sym (here_is q hq) ∙ f in cc) in
              let no : true ≡ false = sym (number_eq n m one) ∙ other_number r m (sym (there_is r ar) ∙ g) in cc

      opened_at : (q : P) (m : Option ℕ) → lookup (eq_by_cmp cmp q) numbers ≡ m → eq_by_cmp cmp p q ≡ false → items_at (eq_by_cmp cmp) q (named_of more o).lists ≡ items_at (eq_by_cmp cmp) q (named_of numbers s).lists
      opened_at q None found apart = named_nowhere (eq_by_cmp cmp) more o.lists q (there_is q apart ∙ found) ∙ sym (named_nowhere (eq_by_cmp cmp) numbers s.lists q found)
      opened_at q (Some m) found apart = named_there (eq_by_cmp cmp) more o.lists q m (there_is q apart ∙ found) ∙ opened_lists m ∙ sym (named_there (eq_by_cmp cmp) numbers s.lists q m found)

      some_more : (q : P) → is_some (lookup (eq_by_cmp cmp q) more) ≡ (eq_by_cmp cmp p q || is_some (lookup (eq_by_cmp cmp q) numbers))
      some_more q = ap is_some (at q) ∙ put (eq_by_cmp cmp p q) (lookup (eq_by_cmp cmp q) numbers)
        where
          put : (b : Bool) (l : Option ℕ) → is_some (cond b (Some n) l) ≡ (b || is_some l)
          put true l = refl
          put false l = refl

      -- the first list of a peer
      pub Stores-first : (x : Carried M D) (cs : List (Charged D)) (t : Stored ℕ M D) → Stores (same_listed digest) n x cs o t
          → Stores (same_by cmp digest) p x cs (named_of numbers s) (named_of more t)
      Stores-first x cs t stores =
          let named = Stores-named more p n found_first o t IsNumbered-opened x cs stores in
          let stored : (d : D) → is_stored (same_by cmp digest) d (named_of more o).lists ≡ is_stored (same_by cmp digest) d (named_of numbers s).lists = λ d.
          stored_named more o IsNumbered-opened d ∙ opened_stored d ∙ sym (stored_named numbers s ok d) in
          record {
            put = record {
              lists = λ q. named.put.lists q ∙ by_test (eq_by_cmp cmp p q)
                  (λ h. rw h refl)
                  (λ h. rw h (opened_at q (lookup (eq_by_cmp cmp q) numbers) refl h));
              keys = λ q there. ap (λ b. eq_by_cmp cmp p q || b) (some_named (eq_by_cmp cmp) numbers s.lists q) ∙ sym (some_more q) ∙ sym (some_named (eq_by_cmp cmp) more t.lists q) ∙ there;
              stays = λ q there. some_named (eq_by_cmp cmp) more t.lists q ∙ some_more q ∙ ap (λ b. eq_by_cmp cmp p q || b) (sym (some_named (eq_by_cmp cmp) numbers s.lists q) ∙ there) ∙ or_right (eq_by_cmp cmp p q);
              distinct = named.put.distinct;
            };
            messages = λ d. named.messages d ∙ ap (λ b. cond (is_stored (same_by cmp digest) d (named_of more t).lists) (cond b (lookup (eq_by_cmp digest d) o.messages) (Some x)) None) (stored d)
                ∙ ap (λ l. cond (is_stored (same_by cmp digest) d (named_of more t).lists) (cond (is_stored (same_by cmp digest) d (named_of numbers s).lists) (lookup (eq_by_cmp digest d) l) (Some x)) None) opens.messages;
          }

    -- the list is closed again
    module _ (c : Stored ℕ M D) (closes : Closes n o c) where
      undone_lists : (m : ℕ) → items_at same_number m c.lists ≡ items_at same_number m s.lists
      undone_lists m = closes.lists m ∙ opened_lists m

      pub named-undone : named_of numbers c ≡ named_of numbers s
      named-undone = named-same numbers s c undone_lists (closes.messages ∙ opens.messages)

      pub IsNumbered-undone : IsNumbered cmp digest numbers c
      IsNumbered-undone = record {
        peers = ok.peers;
        lists = closes.distinct;
        there = λ q m f. closes.stays m (other_number q m f) (opens.put.stays m (ok.there q m f));
        named = λ m h. let r = closes.keys m h in ok.named m (sym (ap (λ b. b || is_some (lookup (same_number m) s.lists)) r.0) ∙ opens.put.keys m r.1);
        apart = ok.apart;
        cached = λ d. ap (λ l. is_some (lookup (eq_by_cmp digest d) l)) (closes.messages ∙ opens.messages) ∙ ok.cached d ∙ sym (stored-same digest s c ok.lists closes.distinct undone_lists d);
      }

  -- the list of a peer that has a number is dropped
  module _ (numbers less : List (P × ℕ)) (p : P) (s : Stored ℕ M D) (ok : IsNumbered cmp digest numbers s)
      (at : (q : P) → lookup (eq_by_cmp cmp q) less ≡ cond (eq_by_cmp cmp p q) None (lookup (eq_by_cmp cmp q) numbers)) (distinct : IsDistinct (eq_by_cmp cmp) (keys_of less)) where
    left_is : (q : P) → eq_by_cmp cmp p q ≡ false → lookup (eq_by_cmp cmp q) less ≡ lookup (eq_by_cmp cmp q) numbers
    left_is q apart = at q ∙ cond_false (eq_by_cmp cmp p q) None (lookup (eq_by_cmp cmp q) numbers) apart

    gone_is : (q : P) → eq_by_cmp cmp p q ≡ true → lookup (eq_by_cmp cmp q) less ≡ None
    gone_is q here = at q ∙ cond_true (eq_by_cmp cmp p q) None (lookup (eq_by_cmp cmp q) numbers) here

    -- a peer that is left is another
    left_apart : (q : P) (m : ℕ) → lookup (eq_by_cmp cmp q) less ≡ Some m → eq_by_cmp cmp p q ≡ false
    left_apart q m there = by_test (eq_by_cmp cmp p q)
        (λ here. let no : None ≡ Some m = sym (gone_is q here) ∙ there in absurd (cc))
        (λ apart. apart)

    -- where it has a list
    module _ (n : ℕ) (found : lookup (eq_by_cmp cmp p) numbers ≡ Some n) (t : Stored ℕ M D) (drops : Drops (same_listed digest) (n ∷ []) [] s t) where
      drops_other : (m : ℕ) → same_number n m ≡ false → is_dropped (same_listed digest) (n ∷ []) [] m ≡ false
      drops_other m apart = one-dropped (same_listed digest) number_laws n m ∙ apart

      number_apart : (q : P) (m : ℕ) → eq_by_cmp cmp p q ≡ false → lookup (eq_by_cmp cmp q) numbers ≡ Some m → same_number n m ≡ false
      number_apart q m apart there = number_ne n m (λ e. let no : true ≡ false = sym (ok.apart p q n found (there ∙ ap Some (sym e))) ∙ apart in cc)

      was_stored : (d : D) → is_stored (same_listed digest) d t.lists ≡ true → is_stored (same_listed digest) d s.lists ≡ true
      was_stored d h =
          let r = holder (same_listed digest) number_laws d t.lists drops.distinct h in
          let left = (drops.keys r.key r.there).0 in
          stored-at (same_listed digest) r.key d s.lists (ap (has_digest (eq_by_cmp digest) d) (sym (drops.lists r.key ∙ cond_false (is_dropped (same_listed digest) (n ∷ []) [] r.key) [] (items_at same_number r.key s.lists) left)) ∙ r.listed)

      pub IsNumbered-dropped : IsNumbered cmp digest less t
      IsNumbered-dropped = record {
        peers = distinct;
        lists = drops.distinct;
        there = λ q m f.
            let apart = left_apart q m f in
            let was : lookup (eq_by_cmp cmp q) numbers ≡ Some m = sym (left_is q apart) ∙ f in
            drops.stays m (drops_other m (number_apart q m apart was)) (ok.there q m was);
        named = λ m h.
            let r = drops.keys m h in
            let old = ok.named m r.1 in
            let apart : eq_by_cmp cmp p old.0 ≡ false = by_test (eq_by_cmp cmp p old.0)
            (λ here.
            let one : n ≡ m = (let both : Some n ≡ Some m = sym found ∙ found_same laws numbers p old.0 here ∙ old.1 in cc) in
            let no : true ≡ false = sym (number_eq n m one) ∙ sym (one-dropped (same_listed digest) number_laws n m) ∙ r.0 in absurd (cc))
            (λ apart. apart) in
            (old.0, left_is old.0 apart ∙ old.1);
        apart = λ q r m f g. ok.apart q r m (sym (left_is q (left_apart q m f)) ∙ f) (sym (left_is r (left_apart r m g)) ∙ g);
        cached = λ d. ap is_some (drops.messages d) ∙ by_test (is_stored (same_listed digest) d t.lists)
            (λ h. rw h (ok.cached d ∙ was_stored d h))
            (λ h. rw h refl);
      }

      dropped_at : (q : P) (o : Option ℕ) → lookup (eq_by_cmp cmp q) numbers ≡ o → eq_by_cmp cmp p q ≡ false → items_at (eq_by_cmp cmp) q (named_of less t).lists ≡ items_at (eq_by_cmp cmp) q (named_of numbers s).lists
      dropped_at q None none apart = named_nowhere (eq_by_cmp cmp) less t.lists q (left_is q apart ∙ none) ∙ sym (named_nowhere (eq_by_cmp cmp) numbers s.lists q none)
      dropped_at q (Some m) there apart = named_there (eq_by_cmp cmp) less t.lists q m (left_is q apart ∙ there) ∙ drops.lists m
          ∙ cond_false (is_dropped (same_listed digest) (n ∷ []) [] m) [] (items_at same_number m s.lists) (drops_other m (number_apart q m apart there)) ∙ sym (named_there (eq_by_cmp cmp) numbers s.lists q m there)

      pub Drops-named : Drops (same_by cmp digest) (p ∷ []) [] (named_of numbers s) (named_of less t)
      Drops-named = record {
        lists = λ q. by_test (eq_by_cmp cmp p q)
            (λ here. named_nowhere (eq_by_cmp cmp) less t.lists q (gone_is q here)
            ∙ sym (cond_true (is_dropped (same_by cmp digest) (p ∷ []) [] q) [] (items_at (eq_by_cmp cmp) q (named_of numbers s).lists) (one-dropped (same_by cmp digest) laws p q ∙ here)))
            (λ apart. dropped_at q (lookup (eq_by_cmp cmp q) numbers) refl apart
            ∙ sym (cond_false (is_dropped (same_by cmp digest) (p ∷ []) [] q) [] (items_at (eq_by_cmp cmp) q (named_of numbers s).lists) (one-dropped (same_by cmp digest) laws p q ∙ apart)));
        keys = λ q there. by_test (eq_by_cmp cmp p q)
            (λ here. let no : false ≡ true = sym (ap is_some (gone_is q here)) ∙ sym (some_named (eq_by_cmp cmp) less t.lists q) ∙ there in absurd (cc))
            (λ apart. (one-dropped (same_by cmp digest) laws p q ∙ apart, some_named (eq_by_cmp cmp) numbers s.lists q ∙ sym (ap is_some (left_is q apart)) ∙ sym (some_named (eq_by_cmp cmp) less t.lists q) ∙ there));
        stays = λ q left there.
            some_named (eq_by_cmp cmp) less t.lists q ∙ ap is_some (left_is q (sym (one-dropped (same_by cmp digest) laws p q) ∙ left)) ∙ sym (some_named (eq_by_cmp cmp) numbers s.lists q) ∙ there;
        distinct = distinct_named less t distinct;
        messages = λ d. rw (stored_named less t IsNumbered-dropped d) (drops.messages d);
      }

  -- where it has none
  pub Drops-nothing : (numbers : List (P × ℕ)) (p : P) (s : Stored ℕ M D) → IsNumbered cmp digest numbers s → lookup (eq_by_cmp cmp p) numbers ≡ None
      → Drops (same_by cmp digest) (p ∷ []) [] (named_of numbers s) (named_of numbers s)
  Drops-nothing numbers p s ok none = record {
    lists = λ q. by_test (eq_by_cmp cmp p q)
        (λ here. named_nowhere (eq_by_cmp cmp) numbers s.lists q (sym (found_same laws numbers p q here) ∙ none)
        ∙ sym (cond_true (is_dropped (same_by cmp digest) (p ∷ []) [] q) [] (items_at (eq_by_cmp cmp) q (named_of numbers s).lists) (one-dropped (same_by cmp digest) laws p q ∙ here)))
        (λ apart. sym (cond_false (is_dropped (same_by cmp digest) (p ∷ []) [] q) [] (items_at (eq_by_cmp cmp) q (named_of numbers s).lists) (one-dropped (same_by cmp digest) laws p q ∙ apart)));
    keys = λ q there. by_test (eq_by_cmp cmp p q)
        (λ here. let no : false ≡ true = sym (ap is_some (sym (found_same laws numbers p q here) ∙ none)) ∙ sym (some_named (eq_by_cmp cmp) numbers s.lists q) ∙ there in absurd (cc))
        (λ apart. (one-dropped (same_by cmp digest) laws p q ∙ apart, there));
    stays = λ q left there. there;
    distinct = distinct_named numbers s ok.peers;
    messages = λ d. kept (is_stored (same_by cmp digest) d (named_of numbers s).lists) (lookup (eq_by_cmp digest d) s.messages) (cached_named numbers s ok d);
  }
    where
      kept : {X : Type 0} (b : Bool) (o : Option X) → b ≡ is_some o → o ≡ cond b o None
      kept true o is = refl
      kept false None is = refl
      kept false (Some x) is = absurd (cc)

  -- nothing is put where nothing is kept
  pub Stores-nothing : (numbers : List (P × ℕ)) (p : P) (s : Stored ℕ M D) (x : Carried M D) → IsNumbered cmp digest numbers s → lookup (eq_by_cmp cmp p) numbers ≡ None
      → Stores (same_by cmp digest) p x [] (named_of numbers s) (named_of numbers s)
  Stores-nothing numbers p s x ok none = record {
    put = record {
      lists = λ q. by_test (eq_by_cmp cmp p q)
          (λ here. named_nowhere (eq_by_cmp cmp) numbers s.lists q (sym (found_same laws numbers p q here) ∙ none) ∙ sym (cond_true (eq_by_cmp cmp p q) [] (items_at (eq_by_cmp cmp) q (named_of numbers s).lists) here))
          (λ apart. sym (cond_false (eq_by_cmp cmp p q) [] (items_at (eq_by_cmp cmp) q (named_of numbers s).lists) apart));
      keys = λ q there. ap (λ b. eq_by_cmp cmp p q || b) there ∙ or_right (eq_by_cmp cmp p q);
      stays = λ q there. there;
      distinct = distinct_named numbers s ok.peers;
    };
    messages = λ d. kept x (is_stored (same_by cmp digest) d (named_of numbers s).lists) (lookup (eq_by_cmp digest d) s.messages) (cached_named numbers s ok d);
  }
    where
      kept : {X : Type 0} (y : X) (b : Bool) (o : Option X) → b ≡ is_some o → o ≡ cond b (cond b o (Some y)) None
      kept y true o is = refl
      kept y false None is = refl
      kept y false (Some z) is = absurd (cc)

-- a list that keeps nothing
pub front-nothing : {D : Type 0} (same : D → D → Bool) (size budget : ℕ) (c : Charged D) (cs : List (Charged D)) → size ≡ 0 → fronted same size budget c cs ≡ []
front-nothing same size budget c cs zero = rw zero refl

-- no list and no message
pub IsNumbered-empty : {P M D : Type 0} (cmp : P → P → Ordering) (digest : D → D → Ordering) → IsNumbered {M = M} cmp digest [] (record { lists = []; messages = [] })
unfolding IsDistinct
IsNumbered-empty cmp digest = record {
  peers = tt;
  lists = tt;
  there = λ p n f. absurd (cc);
  named = λ n h. absurd (cc);
  apart = λ p q n f g. absurd (cc);
  cached = λ d. refl;
}
