-- Nodes and lists of items, seen under the names of their items.
use Rattle.std.proofs.Common.{◌≡◌, ℕ, suc, Bool, true, false, not, ◌||◌, ◌+◌, cond, List, [], ◌∷◌, ◌++◌, length, Option, Some, None, refl, sym, ap, ◌∙◌, subst}
use Rattle.std.specs.Prelude.{is_some, unwrap_or, ◌==◌}
use Rattle.std.specs.Option.{option_map}
use Rattle.std.specs.List.{IsDistinct, AllByRecursion}
use Rattle.std.specs.Map.{lookup, keys_of}
use Rattle.std.specs.Cmp.{IsEquivalence}
use Rattle.std.proofs.lemmas.List.Sums.{sum_by-cons}
use Rattle.std.proofs.lemmas.Map.Made.{lookup-map_values, keys_of-map_values}
use Rattle.entries.specs.declared.entry.Charged.{Charged}
use Rattle.entries.specs.Linked.{Node, Misses, IsApart}
use Rattle.entries.specs.Store.{values_of, items_at, has_place, elsewhere, moved, Puts, Evicts, Removes}
use Rattle.broadcast_core.specs.Content.{at_charge, digests_of, bytes_of}
use Rattle.broadcast_core.specs.Indexed.{named_front, named_nodes, named_lists, AreNamed, AllNamed, digest_lists}
use Rattle.broadcast_core.proofs.Distinct.{by_test}
use Rattle.broadcast_core.proofs.Placing.{items_at-digests, length-digests}
use Rattle.broadcast_core.proofs.Indexing.{cond_true, cond_false}

-- the value of what is there
pub some_of : {X : Type 0} (o : Option X) → is_some o ≡ true → (x : X) × (o ≡ Some x)
some_of None h = absurd cc
some_of (Some x) h = (x, refl)

-- the name in front of the others, if there is one
abbrev pub named_in : {D : Type 0} → Option D → List D → List D
named_in None ds = ds
named_in (Some d) ds = d ∷ ds

module _ {D : Type 0} (names : ℕ → Option D) where
  -- a node whose item has this name
  pub named-node : (n : Node (Charged ℕ)) (ns : List (Node (Charged ℕ))) (d : D) → names n.1.digest ≡ Some d
      → named_nodes names (n ∷ ns) ≡ (n.0, at_charge d n.1.charge) ∷ named_nodes names ns
  named-node n ns d is = ap (λ o. named_front o n (named_nodes names ns)) is

  front-append : (o : Option D) (n : Node (Charged ℕ)) (xs ys : List (Node (Charged D))) → named_front o n xs ++ ys ≡ named_front o n (xs ++ ys)
  front-append None n xs ys = refl
  front-append (Some d) n xs ys = refl

  pub named-append : (xs ys : List (Node (Charged ℕ))) → named_nodes names (xs ++ ys) ≡ named_nodes names xs ++ named_nodes names ys
  named-append [] ys = refl
  named-append (x ∷ xs) ys = ap (named_front (names x.1.digest) x) (named-append xs ys) ∙ sym (front-append (names x.1.digest) x (named_nodes names xs) (named_nodes names ys))

  pub AreNamed-front : (xs ys : List (Node (Charged ℕ))) → AreNamed names (xs ++ ys) → AreNamed names xs
  AreNamed-front [] ys all = tt
  AreNamed-front (x ∷ xs) ys all = (all.0, AreNamed-front xs ys all.1)

  pub AreNamed-back : (xs ys : List (Node (Charged ℕ))) → AreNamed names (xs ++ ys) → AreNamed names ys
  AreNamed-back [] ys all = all
  AreNamed-back (x ∷ xs) ys all = AreNamed-back xs ys all.1

  pub length-named : (ns : List (Node (Charged ℕ))) → AreNamed names ns → length (named_nodes names ns) ≡ length ns
  length-named [] all = refl
  length-named (n ∷ ns) all =
      let s = some_of (names n.1.digest) all.0 in
      ap length (named-node n ns s.0 s.1) ∙ ap suc (length-named ns all.1)

  -- a list that has no named node is empty
  pub none-named : (ns : List (Node (Charged ℕ))) → AreNamed names ns → named_nodes names ns ≡ [] → ns ≡ []
  none-named [] all none = refl
  none-named (n ∷ ns) all none = let no : length (n ∷ ns) ≡ 0 = sym (length-named (n ∷ ns) all) ∙ ap length none in absurd (cc)

  pub bytes-named : (ns : List (Node (Charged ℕ))) → AreNamed names ns → bytes_of (values_of (named_nodes names ns)) ≡ bytes_of (values_of ns)
  bytes-named [] all = refl
  bytes-named (n ∷ ns) all =
      let s = some_of (names n.1.digest) all.0 in
      ap (λ l. bytes_of (values_of l)) (named-node n ns s.0 s.1)
      ∙ sum_by-cons (λ (c : Charged D). c.charge) (at_charge s.0 n.1.charge) (values_of (named_nodes names ns))
      ∙ ap (λ k. n.1.charge + k) (bytes-named ns all.1)
      ∙ sym (sum_by-cons (λ (c : Charged ℕ). c.charge) n.1 (values_of ns))

  -- places stay
  has_place-named : (place : ℕ) (ns : List (Node (Charged ℕ))) → AreNamed names ns → has_place place (named_nodes names ns) ≡ has_place place ns
  has_place-named place [] all = refl
  has_place-named place (n ∷ ns) all =
      let s = some_of (names n.1.digest) all.0 in
      ap (has_place place) (named-node n ns s.0 s.1) ∙ ap (λ b. (n.0 == place) || b) (has_place-named place ns all.1)

  front-elsewhere : (place : ℕ) (o : Option D) (n : Node (Charged ℕ)) (ns : List (Node (Charged D))) (kept : Bool) → not (n.0 == place) ≡ kept
      → elsewhere place (named_front o n ns) ≡ cond kept (named_front o n (elsewhere place ns)) (elsewhere place ns)
  front-elsewhere place None n ns true is = refl
  front-elsewhere place None n ns false is = refl
  front-elsewhere place (Some d) n ns true is = rw is refl
  front-elsewhere place (Some d) n ns false is = rw is refl

  named-elsewhere : (place : ℕ) (ns : List (Node (Charged ℕ))) → named_nodes names (elsewhere place ns) ≡ elsewhere place (named_nodes names ns)
  named-elsewhere place [] = refl
  named-elsewhere place (n ∷ ns) = by_test (not (n.0 == place))
      (λ h. rw h (ap (named_front (names n.1.digest) n) (named-elsewhere place ns) ∙ sym (front-elsewhere place (names n.1.digest) n (named_nodes names ns) true h)))
      (λ h. rw h (named-elsewhere place ns ∙ sym (front-elsewhere place (names n.1.digest) n (named_nodes names ns) false h)))

  AreNamed-elsewhere : (place : ℕ) (ns : List (Node (Charged ℕ))) → AreNamed names ns → AreNamed names (elsewhere place ns)
  AreNamed-elsewhere place [] all = tt
  AreNamed-elsewhere place (n ∷ ns) all = by_test (not (n.0 == place))
      (λ h. rw h (all.0, AreNamed-elsewhere place ns all.1))
      (λ h. rw h (AreNamed-elsewhere place ns all.1))

  -- a node that moves to the front, to an item of this name
  pub named-moved : (place : ℕ) (c : Charged ℕ) (d : D) (ns : List (Node (Charged ℕ))) → AreNamed names ns → names c.digest ≡ Some d
      → named_nodes names (moved place c ns) ≡ moved place (at_charge d c.charge) (named_nodes names ns)
  named-moved place c d ns all is = by_test (has_place place ns)
      (λ h. rw (has_place-named place ns all, h) (named-node (place, c) (elsewhere place ns) d is ∙ ap (λ l. (place, at_charge d c.charge) ∷ l) (named-elsewhere place ns)))
      (λ h. rw (has_place-named place ns all, h) refl)

  pub AreNamed-moved : (place : ℕ) (c : Charged ℕ) (ns : List (Node (Charged ℕ))) → AreNamed names ns → is_some (names c.digest) ≡ true → AreNamed names (moved place c ns)
  AreNamed-moved place c ns all is = by_test (has_place place ns)
      (λ h. rw h (is, AreNamed-elsewhere place ns all))
      (λ h. rw h all)

  front-Misses : (at : Option ℕ) (o : Option D) (n : Node (Charged ℕ)) (ns : List (Node (Charged D))) → ((at ≡ Some n.0) → ⊥) → Misses at ns → Misses at (named_front o n ns)
  front-Misses at None n ns apart rest = rest
  front-Misses at (Some d) n ns apart rest = (apart, rest)

  Misses-named : (at : Option ℕ) (ns : List (Node (Charged ℕ))) → Misses at ns → Misses at (named_nodes names ns)
  Misses-named at [] misses = tt
  Misses-named at (n ∷ ns) misses = front-Misses at (names n.1.digest) n (named_nodes names ns) misses.0 (Misses-named at ns misses.1)

  front-IsApart : (o : Option D) (n : Node (Charged ℕ)) (ns : List (Node (Charged D))) → Misses (Some n.0) ns → IsApart ns → IsApart (named_front o n ns)
  front-IsApart None n ns misses rest = rest
  front-IsApart (Some d) n ns misses rest = (misses, rest)

  pub IsApart-named : (ns : List (Node (Charged ℕ))) → IsApart ns → IsApart (named_nodes names ns)
  IsApart-named [] apart = tt
  IsApart-named (n ∷ ns) apart = front-IsApart (names n.1.digest) n (named_nodes names ns) (Misses-named (Some n.0) ns apart.0) (IsApart-named ns apart.1)

  module _ {P : Type 0} (key : P → P → Bool) where
    -- the nodes of a key's list
    pub items_at-named : (q : P) (lists : List (P × List (Node (Charged ℕ)))) → items_at key q (named_lists names lists) ≡ named_nodes names (items_at key q lists)
    items_at-named q lists = ap (λ (o : Option (List (Node (Charged D)))). unwrap_or o []) (lookup-map_values (named_nodes names) (key q) lists) ∙ within (lookup (key q) lists)
      where
        within : (o : Option (List (Node (Charged ℕ)))) → unwrap_or (option_map (named_nodes names) o) [] ≡ named_nodes names (unwrap_or o [])
        within None = refl
        within (Some ns) = refl

    pub is_some-named : (q : P) (lists : List (P × List (Node (Charged ℕ)))) → is_some (lookup (key q) (named_lists names lists)) ≡ is_some (lookup (key q) lists)
    is_some-named q lists = ap is_some (lookup-map_values (named_nodes names) (key q) lists) ∙ some_map (lookup (key q) lists)
      where
        some_map : (o : Option (List (Node (Charged ℕ)))) → is_some (option_map (named_nodes names) o) ≡ is_some o
        some_map None = refl
        some_map (Some ns) = refl

    pub distinct-named : (lists : List (P × List (Node (Charged ℕ)))) → IsDistinct key (keys_of lists) → IsDistinct key (keys_of (named_lists names lists))
    distinct-named lists h = subst (IsDistinct key) (sym (keys_of-map_values (named_nodes names) lists)) h

    -- a list that is replaced
    pub Puts-named : (p : P) (ns : List (Node (Charged ℕ))) (old new : List (P × List (Node (Charged ℕ)))) → Puts key p ns old new
        → Puts key p (named_nodes names ns) (named_lists names old) (named_lists names new)
    Puts-named p ns old new puts = record {
      lists = λ q. items_at-named q new ∙ ap (named_nodes names) (puts.lists q) ∙ by_test (key p q)
          (λ h. ap (named_nodes names) (cond_true (key p q) ns (items_at key q old) h) ∙ sym (cond_true (key p q) (named_nodes names ns) (items_at key q (named_lists names old)) h))
          (λ h. ap (named_nodes names) (cond_false (key p q) ns (items_at key q old) h) ∙ sym (items_at-named q old) ∙ sym (cond_false (key p q) (named_nodes names ns) (items_at key q (named_lists names old)) h));
      keys = λ q there. ap (λ b. key p q || b) (is_some-named q old) ∙ puts.keys q (sym (is_some-named q new) ∙ there);
      stays = λ q there. is_some-named q new ∙ puts.stays q (sym (is_some-named q old) ∙ there);
      distinct = distinct-named new puts.distinct;
    }

    -- the oldest item leaves
    pub Evicts-named : (p : P) (stale : Charged ℕ) (d : D) (old new : List (P × List (Node (Charged ℕ)))) → names stale.digest ≡ Some d → Evicts key p stale old new
        → Evicts key p (at_charge d stale.charge) (named_lists names old) (named_lists names new)
    Evicts-named p stale d old new is evicts = record {
      place = evicts.place;
      rest = named_nodes names evicts.rest;
      last = items_at-named p old ∙ ap (named_nodes names) evicts.last ∙ named-append evicts.rest ((evicts.place, stale) ∷ [])
          ∙ ap (λ l. named_nodes names evicts.rest ++ l) (named-node (evicts.place, stale) [] d is);
      put = Puts-named p evicts.rest old new evicts.put;
    }

    pub AllNamed-puts : (p : P) (ns : List (Node (Charged ℕ))) (old new : List (P × List (Node (Charged ℕ)))) → Puts key p ns old new → AllNamed names key old → AreNamed names ns → AllNamed names key new
    AllNamed-puts p ns old new puts all one q = by_test (key p q)
        (λ h. subst (AreNamed names) (sym (puts.lists q ∙ cond_true (key p q) ns (items_at key q old) h)) one)
        (λ h. subst (AreNamed names) (sym (puts.lists q ∙ cond_false (key p q) ns (items_at key q old) h)) (all q))

    -- a list that is gone
    pub Removes-named : (p : P) (old new : List (P × List (Node (Charged ℕ)))) → Removes key p old new → Removes key p (named_lists names old) (named_lists names new)
    Removes-named p old new removes = record {
      lists = λ q. items_at-named q new ∙ ap (named_nodes names) (removes.lists q) ∙ by_test (key p q)
          (λ h. ap (named_nodes names) (cond_true (key p q) [] (items_at key q old) h) ∙ sym (cond_true (key p q) [] (items_at key q (named_lists names old)) h))
          (λ h. ap (named_nodes names) (cond_false (key p q) [] (items_at key q old) h) ∙ sym (items_at-named q old) ∙ sym (cond_false (key p q) [] (items_at key q (named_lists names old)) h));
      keys = λ q there. let r = removes.keys q (sym (is_some-named q new) ∙ there) in (r.0, is_some-named q old ∙ r.1);
      stays = λ q apart there. is_some-named q new ∙ removes.stays q apart (sym (is_some-named q old) ∙ there);
      distinct = distinct-named new removes.distinct;
    }

    pub AllNamed-removes : (p : P) (old new : List (P × List (Node (Charged ℕ)))) → Removes key p old new → AllNamed names key old → AllNamed names key new
    AllNamed-removes p old new removes all q = by_test (key p q)
        (λ h. subst (AreNamed names) (sym (removes.lists q ∙ cond_true (key p q) [] (items_at key q old) h)) tt)
        (λ h. subst (AreNamed names) (sym (removes.lists q ∙ cond_false (key p q) [] (items_at key q old) h)) (all q))

    pub bytes_at-named : (p : P) (lists : List (P × List (Node (Charged ℕ)))) → AllNamed names key lists → bytes_of (values_of (items_at key p (named_lists names lists))) ≡ bytes_of (values_of (items_at key p lists))
    bytes_at-named p lists all = ap (λ l. bytes_of (values_of l)) (items_at-named p lists) ∙ bytes-named (items_at key p lists) (all p)

    pub length_at-named : (p : P) (lists : List (P × List (Node (Charged ℕ)))) → AllNamed names key lists → length (items_at key p (named_lists names lists)) ≡ length (items_at key p lists)
    length_at-named p lists all = ap length (items_at-named p lists) ∙ length-named (items_at key p lists) (all p)

  -- the names of numbers
  abbrev pub names_at : List ℕ → List D
  names_at [] = []
  names_at (n ∷ ns) = named_in (names n) (names_at ns)

  digests-front : (o : Option D) (n : Node (Charged ℕ)) (ns : List (Node (Charged D))) → digests_of (values_of (named_front o n ns)) ≡ named_in o (digests_of (values_of ns))
  digests-front None n ns = refl
  digests-front (Some d) n ns = refl

  -- the digests of nodes of items
  pub digests-named : (ns : List (Node (Charged ℕ))) → digests_of (values_of (named_nodes names ns)) ≡ names_at (digests_of (values_of ns))
  digests-named [] = refl
  digests-named (n ∷ ns) = digests-front (names n.1.digest) n (named_nodes names ns) ∙ ap (named_in (names n.1.digest)) (digests-named ns)

  module _ {P : Type 0} (key : P → P → Bool) (p : P) (lists : List (P × List (Node (Charged ℕ)))) where
    -- the digests of a list of items
    pub listed-named : digests_of (items_at key p (digest_lists (named_lists names lists))) ≡ names_at (digests_of (values_of (items_at key p lists)))
    listed-named = ap digests_of (items_at-digests key p (named_lists names lists) ∙ ap values_of (items_at-named key p lists)) ∙ digests-named (items_at key p lists)

    pub length-listed : AllNamed names key lists → length (items_at key p (digest_lists (named_lists names lists))) ≡ length (items_at key p lists)
    length-listed all = length-digests key p (named_lists names lists) ∙ length_at-named key p lists all

    pub bytes-listed : AllNamed names key lists → bytes_of (items_at key p (digest_lists (named_lists names lists))) ≡ bytes_of (values_of (items_at key p lists))
    bytes-listed all = ap bytes_of (items_at-digests key p (named_lists names lists)) ∙ bytes_at-named key p lists all

module _ {D : Type 0} (old new : ℕ → Option D) where
  -- the items have the names that they had
  abbrev pub SameNames : List (Node (Charged ℕ)) → Type 0
  SameNames [] = Unit {0}
  SameNames (n ∷ ns) = (new n.1.digest ≡ old n.1.digest) × SameNames ns

  pub named-same : (ns : List (Node (Charged ℕ))) → SameNames ns → named_nodes new ns ≡ named_nodes old ns
  named-same [] same = refl
  named-same (n ∷ ns) same = ap (λ o. named_front o n (named_nodes new ns)) same.0 ∙ ap (named_front (old n.1.digest) n) (named-same ns same.1)

  AreNamed-same : (ns : List (Node (Charged ℕ))) → SameNames ns → AreNamed old ns → AreNamed new ns
  AreNamed-same [] same all = tt
  AreNamed-same (n ∷ ns) same all = (ap is_some same.0 ∙ all.0, AreNamed-same ns same.1 all.1)

  -- names that stay are the same
  pub same-more : ((n : ℕ) (d : D) → old n ≡ Some d → new n ≡ Some d) → (ns : List (Node (Charged ℕ))) → AreNamed old ns → SameNames ns
  same-more more [] all = tt
  same-more more (n ∷ ns) all =
      let s = some_of (old n.1.digest) all.0 in
      (more n.1.digest s.0 s.1 ∙ sym s.1, same-more more ns all.1)

  module _ {P : Type 0} {key : P → P → Bool} (laws : IsEquivalence key) where
    -- lists whose items keep their names
    pub named_lists-same : (lists : List (P × List (Node (Charged ℕ)))) → IsDistinct key (keys_of lists) → ((q : P) → SameNames (items_at key q lists)) → named_lists new lists ≡ named_lists old lists
    unfolding IsDistinct
    named_lists-same [] distinct same = refl
    named_lists-same (e ∷ es) distinct same =
        let here : items_at key e.0 (e ∷ es) ≡ e.1 = ap (λ (o : Option (List (Node (Charged ℕ)))). unwrap_or o []) (cond_true (key e.0 e.0) (Some e.1) (lookup (key e.0) es) (laws.refl e.0)) in
        let rest : (q : P) → SameNames (items_at key q es) = λ q. by_test (key q e.0)
        (λ h. subst SameNames (sym (ap (λ (o : Option (List (Node (Charged ℕ)))). unwrap_or o []) (absent q e.0 es h distinct.0))) tt)
        (λ h. subst SameNames (ap (λ (o : Option (List (Node (Charged ℕ)))). unwrap_or o []) (cond_false (key q e.0) (Some e.1) (lookup (key q) es) h)) (same q)) in
        ap (λ ns. (e.0, ns) ∷ named_lists new es) (named-same e.1 (subst SameNames here (same e.0))) ∙ ap (λ l. (e.0, named_nodes old e.1) ∷ l) (named_lists-same es distinct.1 rest)
      where
        absent : (q k : P) (fs : List (P × List (Node (Charged ℕ)))) → key q k ≡ true → AllByRecursion (λ y. key k y ≡ false) (keys_of fs) → lookup (key q) fs ≡ None
        absent q k [] h none = refl
        absent q k (f ∷ fs) h none = cond_false (key q f.0) (Some f.1) (lookup (key q) fs) (laws.congr q k f.0 h ∙ none.0) ∙ absent q k fs h none.1

    pub AllNamed-same : (lists : List (P × List (Node (Charged ℕ)))) → ((q : P) → SameNames (items_at key q lists)) → AllNamed old key lists → AllNamed new key lists
    AllNamed-same lists same all q = AreNamed-same (items_at key q lists) (same q) (all q)
