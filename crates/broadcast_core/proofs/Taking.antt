-- What the changes of a cache make of a core's content.
use Rattle.std.proofs.Common.{◌≡◌, ℕ, Bool, true, false, not, ◌&&◌, ◌||◌, cond, ◌⊎◌, inl, inr, List, [], ◌∷◌, take, Option, Some, None, Result, Ok, Err, OnOk, OnErr, refl, sym, ap, subst, ◌∙◌, arith}
use Rattle.std.specs.Prelude.{is_some, nat_le, unwrap_or, MatchBool}
use Rattle.std.specs.List.{list_any, AllByRecursion, IsDistinct}
use Rattle.std.specs.Map.{lookup, keys_of}
use Rattle.std.specs.Cmp.{IsEquivalence}
use Rattle.std.proofs.lemmas.List.{length-take}
use Rattle.entries.specs.declared.entry.Charged.{Charged}
use Rattle.broadcast_core.specs.Carried.{Carried}
use Rattle.broadcast_core.specs.Content.{Content, Same, affordable, at_charge, among, items_at, digests_of, same_charged, without}
use Rattle.broadcast_core.specs.Fronted.{fronted}
use Rattle.broadcast_core.specs.Changes.{Takes, TakesPeers}
use Rattle.broadcast_core.specs.Stored.{Stored, Stores, StoresIf, Drops, IsCached, Unawaited, has_digest, is_stored}
use Rattle.broadcast_core.proofs.Distinct.{by_test, same_truth, or_right, among-equal, among-without_other, list_any-same}
use Rattle.broadcast_core.proofs.Caching.{stored-at, holder}
use Rattle.broadcast_core.proofs.Indexing.{nodes-equal}
use Rattle.broadcast_core.proofs.Cutting.{none-taken}
use Rattle.broadcast_core.proofs.Staying.{charged_laws, within-bounded, length-within, none-within}

-- whether a digest is among those of a list
pub among-names : {D : Type 0} (same : D → D → Bool) (d : D) (cs : List (Charged D)) → among same d (digests_of cs) ≡ has_digest same d cs
among-names same d [] = refl
among-names same d (c ∷ cs) = ap (λ b. same d c.digest || b) (among-names same d cs)

-- digests that differ at their charges differ without them
apart-names : {D : Type 0} (same : D → D → Bool) (d : D) (cs : List (Charged D)) → AllByRecursion (λ c. same d c.digest ≡ false) cs → AllByRecursion (λ e. same d e ≡ false) (digests_of cs)
apart-names same d [] h = tt
apart-names same d (c ∷ cs) h = (h.0, apart-names same d cs h.1)

pub distinct-names : {D : Type 0} (same : D → D → Bool) (cs : List (Charged D)) → IsDistinct (same_charged same) cs → IsDistinct same (digests_of cs)
unfolding IsDistinct
distinct-names same [] h = tt
distinct-names same (c ∷ cs) h = (apart-names same c.digest cs h.0, distinct-names same cs h.1)

module _ {P D : Type 0} (same : Same P D) (laws : IsEquivalence same.key) where
  on-primary : (p : P) (d : D) (lists : List (P × List (Charged D))) (primary : List P) → has_digest same.digest d (items_at same.key p lists) ≡ true → list_any (same.key p) primary ≡ true
      → list_any (λ q. has_digest same.digest d (items_at same.key q lists)) primary ≡ true
  on-primary p d lists [] h there = absurd cc
  on-primary p d lists (q ∷ qs) h there = by_test (same.key p q)
      (λ t. let here : has_digest same.digest d (items_at same.key q lists) ≡ true = ap (has_digest same.digest d) (nodes-equal laws lists p q t) ∙ h in rw here refl)
      (λ t. let rest : list_any (same.key p) qs ≡ true = sym (ap (λ b. b || list_any (same.key p) qs) t) ∙ there in
      ap (λ b. has_digest same.digest d (items_at same.key q lists) || b) (on-primary p d lists qs h rest) ∙ or_right (has_digest same.digest d (items_at same.key q lists)))

  from-primary : (d : D) (lists : List (P × List (Charged D))) (primary : List P) → list_any (λ q. has_digest same.digest d (items_at same.key q lists)) primary ≡ true → is_stored same d lists ≡ true
  from-primary d lists [] h = absurd cc
  from-primary d lists (q ∷ qs) h = by_test (has_digest same.digest d (items_at same.key q lists))
      (λ t. stored-at same q d lists t)
      (λ t. from-primary d lists qs (sym (ap (λ b. b || list_any (λ r. has_digest same.digest d (items_at same.key r lists)) qs) t) ∙ h))

  -- a digest is on some deque exactly where it is on the list of a primary key
  pub stored-listed : {M : Type 0} (size budget : ℕ) (primary : List P) (stored : Stored P M D) → IsCached same size budget primary stored → (d : D)
      → is_stored same d stored.lists ≡ list_any (λ q. among same.digest d (digests_of (items_at same.key q stored.lists))) primary
  stored-listed size budget primary stored core d = same_truth (is_stored same d stored.lists) (list_any (λ q. has_digest same.digest d (items_at same.key q stored.lists)) primary)
      (λ h. let r = holder same laws d stored.lists core.distinct h in on-primary r.key d stored.lists primary r.listed (core.primary_only r.key r.there))
      (λ h. from-primary d stored.lists primary h)
      ∙ list_any-same (λ q. has_digest same.digest d (items_at same.key q stored.lists)) (λ q. among same.digest d (digests_of (items_at same.key q stored.lists))) primary
      (λ q. sym (among-names same.digest d (items_at same.key q stored.lists)))

pub on_err : {A E P Q : Type 0} (r : Result A E) → (P → Q) → OnErr r P → OnErr r Q
on_err (Ok a) f h = tt
on_err (Err e) f h = f h

pub on_false : {P Q : Type 0} (A : Type 0) (b : Bool) → (P → Q) → MatchBool b A P → MatchBool b A Q
on_false A true f h = h
on_false A false f h = f h

none_from_no_some : {X : Type 0} (o : Option X) → is_some o ≡ false → o ≡ None
none_from_no_some None h = refl
none_from_no_some (Some x) h = absurd cc

abbrev pub content : {P M D W : Type 0} → P → ℕ → ℕ → List P → Stored P M D → List (D × List W) → Content P M D W
content own size budget primary stored waiters = record { own = own; deque_size = size; byte_budget = budget; primary = primary; lists = stored.lists; cached = stored.messages; waiters = waiters }

-- only these keys keep their lists, and messages whose digest is on no list are dropped
pub record Keeps {P M D : Type 0} (same : Same P D) (peers : List P) (old new : Stored P M D) : Type 0 where
  pub lists : (q : P) → items_at same.key q new.lists ≡ cond (list_any (same.key q) peers) (items_at same.key q old.lists) []
  pub keys : (q : P) → is_some (lookup (same.key q) new.lists) ≡ true → list_any (same.key q) peers ≡ true
  pub distinct : IsDistinct same.key (keys_of new.lists)
  pub messages : (d : D) → lookup (same.digest d) new.messages ≡ cond (is_stored same d new.lists) (lookup (same.digest d) old.messages) None

module _ {P M D : Type 0} (same : Same P D) (key_laws : IsEquivalence same.key) (size budget : ℕ) where
  module _ (laws : IsEquivalence same.digest) (p : P) (x : Carried M D) (primary : List P) (old new : Stored P M D) (core : IsCached same size budget primary old) where
    module _ (c : Charged D) (one : c.digest ≡ x.digest) (eligible : list_any (same.key p) primary ≡ true)
        (stores : Stores same p x (fronted same.digest size budget c (items_at same.key p old.lists)) old new) where
      abbrev eq : Charged D → Charged D → Bool
      eq = same_charged same.digest

      abbrev put : List (Charged D)
      put = c ∷ without eq c (items_at same.key p old.lists)

      -- what is not on the key's deque, and is not taken, is not on the new one
      not-put : (d : D) → same.digest x.digest d ≡ false → has_digest same.digest d (items_at same.key p old.lists) ≡ false
          → has_digest same.digest d (fronted same.digest size budget c (items_at same.key p old.lists)) ≡ false
      not-put d other absent =
          let any : Charged D = at_charge d 0 in
          let apart : same.digest c.digest d ≡ false = ap (λ z. same.digest z d) one ∙ other in
          let whole : has_digest same.digest d put ≡ false = rw (laws.symm d c.digest ∙ apart) (among-without_other (charged_laws laws) c any (items_at same.key p old.lists) apart ∙ absent) in
          none-within (λ y. same.digest d y.digest) budget (take size put) (none-taken (λ y. same.digest d y.digest) size put whole)

      -- what is stored was stored, or is taken
      stored-before : (d : D) → same.digest x.digest d ≡ false → is_stored same d new.lists ≡ true → is_stored same d old.lists ≡ true
      stored-before d other h =
          let r = holder same key_laws d new.lists stores.put.distinct h in
          by_test (same.key p r.key)
          (λ t. stored-at same p d old.lists (by_test (has_digest same.digest d (items_at same.key p old.lists))
          (λ k. k)
          (λ k. absurd (let none : false ≡ true = sym (not-put d other k) ∙ sym (ap (has_digest same.digest d) (stores.put.lists r.key ∙ rw t refl)) ∙ r.listed in cc))))
          (λ t. stored-at same r.key d old.lists (sym (ap (has_digest same.digest d) (stores.put.lists r.key ∙ rw t refl)) ∙ r.listed))

      pub IsCached-stored : IsCached same size budget primary new
      IsCached-stored = record {
        bounded = λ q. by_test (same.key p q)
            (λ h. rw (stores.put.lists q, h) (omega (arith, length-within budget (take size put), length-take size put)))
            (λ h. rw (stores.put.lists q, h) (core.bounded q));
        budget_fits = core.budget_fits;
        affordable = λ q. by_test (same.key p q)
            (λ h. rw (stores.put.lists q, h) (within-bounded budget (take size put)))
            (λ h. rw (stores.put.lists q, h) (core.affordable q));
        primary_only = λ q there. by_test (same.key p q)
            (λ h. sym (among-equal key_laws p q primary h) ∙ eligible)
            (λ h. core.primary_only q (let was : is_some (lookup (same.key q) old.lists) ≡ true = sym (ap (λ b. b || is_some (lookup (same.key q) old.lists)) h) ∙ stores.put.keys q there in was));
        distinct = stores.put.distinct;
        messages = λ d. by_test (is_stored same d new.lists)
            (λ h. by_test (is_stored same d old.lists)
            (λ k. rw (stores.messages d, h, k) (core.messages d ∙ k))
            (λ k. rw (stores.messages d, h, k) refl))
            (λ h. rw (stores.messages d, h) refl);
      }

    -- where a refusal changes nothing
    pub IsCached-took : {A E : Type 0} (r : Result A E) (c : Charged D) → c.digest ≡ x.digest → list_any (same.key p) primary ≡ true
        → OnOk r (Stores same p x (fronted same.digest size budget c (items_at same.key p old.lists)) old new) → OnErr r (new ≡ old) → IsCached same size budget primary new
    IsCached-took (Ok a) c one eligible stores stays = IsCached-stored c one eligible stores
    IsCached-took (Err e) c one eligible stores stays = subst (IsCached same size budget primary) (sym stays) core

    module _ {W : Type 0} (w0 w1 : List (D × List W)) (waits : (d : D) → items_at same.digest d w1 ≡ cond (same.digest x.digest d) [] (items_at same.digest d w0)) where
      module _ (c : Charged D) (one : c.digest ≡ x.digest) (eligible : list_any (same.key p) primary ≡ true)
          (stores : Stores same p x (fronted same.digest size budget c (items_at same.key p old.lists)) old new) where
        unawaited-stored : Unawaited same old w0 → Unawaited same new w1
        unawaited-stored none = λ d h. by_test (same.digest x.digest d)
            (λ t. waits d ∙ rw t refl)
            (λ t. waits d ∙ rw t (none d (core.messages d ∙ stored-before c one eligible stores d t (sym ((IsCached-stored c one eligible stores).messages d) ∙ h))))

        pub Takes-stored : (n : Option ℕ) → affordable budget x.digest n ≡ Some c → (own : P) → Takes same p x n (content own size budget primary old w0) (content own size budget primary new w1)
        Takes-stored n affords own = record {
          own = refl;
          deque_size = refl;
          byte_budget = refl;
          primary = refl;
          lists = λ q. stores.put.lists q ∙ rw (eligible, affords) refl;
          cached = λ d. rw (← stored-listed same key_laws size budget primary new (IsCached-stored c one eligible stores) d, ← stored-listed same key_laws size budget primary old core d) (stores.messages d);
          waiters = waits;
        }

      module _ (stays : new ≡ old) where
        unawaited-ineligible : Unawaited same old w0 → Unawaited same new w1
        unawaited-ineligible none = rw stays (λ d h. by_test (same.digest x.digest d)
            (λ t. waits d ∙ rw t refl)
            (λ t. waits d ∙ rw t (none d h)))

        pub Takes-ineligible : (n : Option ℕ) → (list_any (same.key p) primary ≡ false) ⊎ (affordable budget x.digest n ≡ None) → (own : P) → Takes same p x n (content own size budget primary old w0) (content own size budget primary new w1)
        Takes-ineligible n why own = rw stays (record {
          own = refl;
          deque_size = refl;
          byte_budget = refl;
          primary = refl;
          lists = λ q. by_test (same.key p q)
              (λ h. rw (h, nodes-equal key_laws old.lists p q h) (elim why [
                | inl ineligible ↦ rw ineligible refl
                | inr oversize ↦ by_test (list_any (same.key p) primary) (λ k. rw (k, oversize) refl) (λ k. rw k refl)
              ]))
              (λ h. rw h refl);
          cached = λ d. rw (← stored-listed same key_laws size budget primary old core d) (by_test (is_stored same d old.lists)
              (λ h. rw h refl)
              (λ h. rw h (none_from_no_some (lookup (same.digest d) old.messages) (core.messages d ∙ h))));
          waiters = waits;
        })

      -- the list changes where the charge is within the budget
      module _ (n : Option ℕ) where
        named : (o : Option (Charged D)) → affordable budget x.digest n ≡ o → (c : Charged D) → o ≡ Some c → c.digest ≡ x.digest
        named o is c some = by n is
          where
            by : (m : Option ℕ) → affordable budget x.digest m ≡ o → c.digest ≡ x.digest
            by None was = let no : None ≡ Some c = was ∙ some in absurd (cc)
            by (Some k) was = by_test (nat_le k budget)
                (λ h.
                let z : Charged D = at_charge x.digest k in
                let yes : affordable budget x.digest (Some k) ≡ Some z = rw h refl in
                let made : Some z ≡ Some c = sym yes ∙ was ∙ some in
                let one : z ≡ c = cc in
                ap (λ (y : Charged D). y.digest) (sym one))
                (λ h.
                let none : affordable budget x.digest (Some k) ≡ None = rw h refl in
                let no : None ≡ Some c = sym none ∙ was ∙ some in absurd (cc))

        stored-if : (o : Option (Charged D)) → affordable budget x.digest n ≡ o → list_any (same.key p) primary ≡ true → StoresIf same p x size budget o old new → Unawaited same old w0 → Unawaited same new w1
        stored-if None is eligible stays none = unawaited-ineligible stays none
        stored-if (Some c) is eligible stores none = unawaited-stored c (named (Some c) is c refl) eligible stores none

        takes-if : (own : P) (o : Option (Charged D)) → affordable budget x.digest n ≡ o → list_any (same.key p) primary ≡ true → StoresIf same p x size budget o old new
            → Takes same p x n (content own size budget primary old w0) (content own size budget primary new w1)
        takes-if own None is eligible stays = Takes-ineligible stays n (inr is) own
        takes-if own (Some c) is eligible stores = Takes-stored c (named (Some c) is c refl) eligible stores n is own

        pub Unawaited-taken : (b : Bool) → b ≡ list_any (same.key p) primary → MatchBool b (StoresIf same p x size budget (affordable budget x.digest n) old new) (new ≡ old)
            → Unawaited same old w0 → Unawaited same new w1
        Unawaited-taken true is h none = stored-if (affordable budget x.digest n) refl (sym is) h none
        Unawaited-taken false is h none = unawaited-ineligible h none

        pub Takes-taken : (own : P) (b : Bool) → b ≡ list_any (same.key p) primary → MatchBool b (StoresIf same p x size budget (affordable budget x.digest n) old new) (new ≡ old)
            → Takes same p x n (content own size budget primary old w0) (content own size budget primary new w1)
        Takes-taken own true is h = takes-if own (affordable budget x.digest n) refl (sym is) h
        Takes-taken own false is h = Takes-ineligible h n (inl (sym is)) own

  -- where only primary keys have lists, those that leave are all but those that stay
  pub kept : (peers primary : List P) (old new : Stored P M D) → IsCached same size budget primary old → Drops same primary peers old new → Keeps same peers old new
  kept peers primary old new core drops = record {
    lists = λ q. drops.lists q ∙ by_test (list_any (same.key q) peers)
        (λ h. rw h (off (list_any (same.key q) primary) (items_at same.key q old.lists)))
        (λ h. rw h (by_test (list_any (same.key q) primary)
        (λ k. rw k refl)
        (λ k. rw k (ap (λ (o : Option (List (Charged D))). unwrap_or o []) (none_from_no_some (lookup (same.key q) old.lists) (not_some q k))))));
    keys = λ q there. let left = drops.keys q there in stays (list_any (same.key q) primary) (list_any (same.key q) peers) (core.primary_only q left.1) left.0;
    distinct = drops.distinct;
    messages = drops.messages;
  }
    where
      off : (b : Bool) (ds : List (Charged D)) → cond (b && false) [] ds ≡ ds
      off true ds = refl
      off false ds = refl

      stays : (a b : Bool) → a ≡ true → (a && not b) ≡ false → b ≡ true
      stays true true h k = refl
      stays true false h k = absurd cc
      stays false b h k = absurd cc

      not_some : (q : P) → list_any (same.key q) primary ≡ false → is_some (lookup (same.key q) old.lists) ≡ false
      not_some q k = by_test (is_some (lookup (same.key q) old.lists))
          (λ t. let no : false ≡ true = sym k ∙ core.primary_only q t in absurd (cc))
          (λ t. t)

  module _ (peers primary : List P) (old new : Stored P M D) (core : IsCached same size budget primary old) (keeps : Keeps same peers old new) where
    was_stored : (d : D) → is_stored same d new.lists ≡ true → is_stored same d old.lists ≡ true
    was_stored d h =
        let r = holder same key_laws d new.lists keeps.distinct h in
        stored-at same r.key d old.lists (by_test (list_any (same.key r.key) peers)
        (λ t. let is : items_at same.key r.key new.lists ≡ items_at same.key r.key old.lists = keeps.lists r.key ∙ rw t refl in sym (ap (has_digest same.digest d) is) ∙ r.listed)
        (λ t. let is : items_at same.key r.key new.lists ≡ [] = keeps.lists r.key ∙ rw t refl in absurd (let none : false ≡ true = sym (ap (has_digest same.digest d) is) ∙ r.listed in cc)))

    pub IsCached-kept : IsCached same size budget peers new
    IsCached-kept = record {
      bounded = λ q. by_test (list_any (same.key q) peers)
          (λ h. rw (keeps.lists q, h) (core.bounded q))
          (λ h. rw (keeps.lists q, h) (omega arith));
      budget_fits = core.budget_fits;
      affordable = λ q. by_test (list_any (same.key q) peers)
          (λ h. rw (keeps.lists q, h) (core.affordable q))
          (λ h. rw (keeps.lists q, h) (omega arith));
      primary_only = keeps.keys;
      distinct = keeps.distinct;
      messages = λ d. by_test (is_stored same d new.lists)
          (λ h. rw (keeps.messages d, h) (core.messages d ∙ was_stored d h))
          (λ h. rw (keeps.messages d, h) refl);
    }

    pub Unawaited-kept : {W : Type 0} (waiters : List (D × List W)) → Unawaited same old waiters → Unawaited same new waiters
    Unawaited-kept waiters none = λ d h. none d (core.messages d ∙ was_stored d (sym (IsCached-kept.messages d) ∙ h))

    pub TakesPeers-kept : {W : Type 0} (waiters : List (D × List W)) (own : P) → TakesPeers same peers (content own size budget primary old waiters) (content own size budget peers new waiters)
    TakesPeers-kept waiters own = record {
      own = refl;
      deque_size = refl;
      byte_budget = refl;
      primary = refl;
      lists = keeps.lists;
      cached = λ d. rw (← stored-listed same key_laws size budget peers new IsCached-kept d) (keeps.messages d);
      waiters = λ d. refl;
    }
