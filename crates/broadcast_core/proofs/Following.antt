-- What is listed and cached after one happening more, and how a core's store follows the history.
use Rattle.std.proofs.Common.{◌≡◌, true, false, if◌then◌else◌, List, [], ◌∷◌, Option, Some, None, is_some, refl, sym, ap, ◌∙◌}
use Rattle.std.specs.List.{list_any}
use Rattle.std.specs.Cmp.{IsEquivalence}
use Rattle.broadcast_core.specs.Content.{Content, among, digests_of, items_at, charged_at, list_at, message_at, waiting_at}
use Rattle.broadcast_core.specs.Fronted.{with_taken, has_primary, is_on_list, outcome_at, list_with}
use Rattle.broadcast_core.specs.Carried.{Carried}
use Rattle.broadcast_core.specs.Changes.{Takes, TakesPeers, KeepsStore}
use Rattle.broadcast_core.specs.Setting.{Setting}
use Rattle.broadcast_core.specs.Happening.{Taking, carried_by, Happening, peers, taken}
use Rattle.broadcast_core.specs.HasContent.{HasContent}
use Rattle.broadcast_core.specs.Lists.{outcome, charge, charged, charged_list, list}
use Rattle.broadcast_core.proofs.Distinct.{by_test, list_any-same}
use Rattle.broadcast_core.specs.Peers.{primary, is_primary}
use Rattle.broadcast_core.specs.Cache.{is_listed, message}
use Rattle.broadcast_core.specs.Waiting.{waiting_for}
use Rattle.broadcast_core.proofs.Listing.{any-weaker, from-any, primary-taken, is_primary-equal, list-empty, list-none, list-other, list-equal, charged-peers, charged-other, charged-equal, charged-taken}

module _ {P M D W V : Type 0} (s : Setting P M D) where
  module _ (key_laws : IsEquivalence s.same.key) where
    -- what stands on the list of any key is listed
    pub listed : (d : D) (p : P) (past : List (Happening P M D W V)) → among s.same.digest d (list s p past) ≡ true → is_listed s d past ≡ true
    listed d p past h = by_test (is_primary s p past)
        (λ here. any-weaker (s.same.key p) (λ q. among s.same.digest d (list s q past)) (primary s past)
        (λ q k. ap (among s.same.digest d) (sym (list-equal s key_laws p q past k)) ∙ h) here)
        (λ gone. absurd (let none : among s.same.digest d (list s p past) ≡ false = ap (among s.same.digest d) (list-empty s p past gone) in cc))

    -- an event that takes nothing makes no digest listed
    pub listed-before : (d : D) (e : Happening P M D W V) (past : List (Happening P M D W V)) → taken s e ≡ None → is_listed s d (e ∷ past) ≡ true → is_listed s d past ≡ true
    listed-before d e past none h = from-any (λ q. among s.same.digest d (list s q (e ∷ past))) (primary s (e ∷ past)) h
        (λ q there. by_test (is_primary s q (e ∷ past))
        (λ k. let same_list : list s q (e ∷ past) ≡ list s q past = list-none s q e past none ∙ rw k refl in
        listed d q past (ap (among s.same.digest d) (sym same_list) ∙ there))
        (λ k. absurd (let gone : among s.same.digest d (list s q (e ∷ past)) ≡ false = ap (among s.same.digest d) (list-empty s q (e ∷ past) k) in cc)))

  -- only listed digests have messages
  pub message-none : (d : D) (past : List (Happening P M D W V)) → is_listed s d past ≡ false → message s d past ≡ None
  message-none d [] h = refl
  message-none d (e ∷ past) h = rw h refl

  module _ (key_laws : IsEquivalence s.same.key) where
    -- an event that makes a digest listed has a message
    carries : (d : D) (e : Happening P M D W V) (past : List (Happening P M D W V)) (o : Option (Taking P M D)) → taken s e ≡ o
        → is_listed s d (e ∷ past) ≡ true → is_listed s d past ≡ false → is_some (carried_by s o) ≡ true
    carries d e past None is h new = absurd (let old = listed-before key_laws d e past is h in cc)
    carries d e past (Some t) is h new = refl

    -- and listed digests have them
    pub message-some : (d : D) (past : List (Happening P M D W V)) → is_listed s d past ≡ true → is_some (message s d past) ≡ true
    message-some d [] h = absurd cc
    message-some d (e ∷ past) h = by_test (is_listed s d past)
        (λ old. rw (h, old) (message-some d past old))
        (λ new. rw (h, new) (carries d e past (taken s e) refl h new))

  -- an event that takes nothing and names no peers changes nothing of the store
  pub is_listed-other : (d : D) (e : Happening P M D W V) (past : List (Happening P M D W V)) → taken s e ≡ None → primary s (e ∷ past) ≡ primary s past
      → is_listed s d (e ∷ past) ≡ is_listed s d past
  is_listed-other d e past none stays =
      ap (λ ps. list_any (λ p. among s.same.digest d (list s p (e ∷ past))) ps) stays
      ∙ list_any-same (λ p. among s.same.digest d (list s p (e ∷ past))) (λ p. among s.same.digest d (list s p past)) (primary s past)
      (λ p. ap (among s.same.digest d) (list-other s p e past none stays))

  pub message-other : (d : D) (e : Happening P M D W V) (past : List (Happening P M D W V)) → taken s e ≡ None → primary s (e ∷ past) ≡ primary s past
      → message s d (e ∷ past) ≡ message s d past
  message-other d e past none stays =
      let still = is_listed-other d e past none stays in
      by_test (is_listed s d past)
      (λ h. rw (still ∙ h, h) refl)
      (λ h. message-none d (e ∷ past) (still ∙ h) ∙ sym (message-none d past h))

  -- the core has what the history gives, but perhaps for those that wait
  pub record HasStore (past : List (Happening P M D W V)) (core : Content P M D W) : Type 0 where
    pub own : core.own ≡ s.own
    pub deque_size : core.deque_size ≡ s.deque_size
    pub byte_budget : core.byte_budget ≡ s.byte_budget
    pub primary : core.primary ≡ primary s past
    pub lists : (p : P) → charged_at s.same core p ≡ charged_list s p past
    pub cached : (d : D) → message_at s.same core d ≡ message s d past

  pub HasStore-content : (past : List (Happening P M D W V)) (core : Content P M D W) → HasContent s past core → HasStore past core
  HasStore-content past core has = record { own = has.own; deque_size = has.deque_size; byte_budget = has.byte_budget; primary = has.primary; lists = has.lists; cached = has.cached }

  pub HasContent-store : (past : List (Happening P M D W V)) (core : Content P M D W) → HasStore past core
      → ((d : D) → waiting_at s.same core d ≡ waiting_for s d past) → HasContent s past core
  HasContent-store past core has waiters =
      record { own = has.own; deque_size = has.deque_size; byte_budget = has.byte_budget; primary = has.primary; lists = has.lists; cached = has.cached; waiters = waiters }

  -- what is asked of a core is what is asked of its history
  module _ (past : List (Happening P M D W V)) (core : Content P M D W) where
    on_list-followed : core.primary ≡ primary s past → ((p : P) → charged_at s.same core p ≡ charged_list s p past) → (d : D) → is_on_list s.same core d ≡ is_listed s d past
    on_list-followed keys lists d =
        ap (λ ps. list_any (λ p. among s.same.digest d (list_at s.same core p)) ps) keys
        ∙ list_any-same (λ p. among s.same.digest d (list_at s.same core p)) (λ p. among s.same.digest d (list s p past)) (primary s past)
        (λ p. ap (λ cs. among s.same.digest d (digests_of cs)) (lists p))

    module _ (has : HasStore past core) where
      pub is_on_list-followed : (d : D) → is_on_list s.same core d ≡ is_listed s d past
      is_on_list-followed d = on_list-followed has.primary has.lists d

      pub has_primary-followed : (p : P) → has_primary s.same core p ≡ is_primary s p past
      has_primary-followed p = ap (λ ps. list_any (s.same.key p) ps) has.primary

      pub outcome-followed : (p : P) (c : Carried M D) → outcome_at s.same core p c.digest (charge s c) ≡ outcome s p c past
      outcome-followed p c = rw (has_primary-followed p, has.byte_budget, has.lists p) refl

      pub list_with-followed : (p : P) (c : Carried M D) → list_with s.same core p c.digest (charge s c)
          ≡ (if is_primary s p past then with_taken s.same.digest s.deque_size s.byte_budget (charged s c) (charged_list s p past) else charged_list s p past)
      list_with-followed p c = rw (has_primary-followed p, has.lists p, has.deque_size, has.byte_budget) refl

  -- nothing has happened yet
  pub HasStore-empty : (core : Content P M D W) → core.own ≡ s.own → core.deque_size ≡ s.deque_size → core.byte_budget ≡ s.byte_budget → core.primary ≡ [] → core.lists ≡ [] → core.cached ≡ [] → HasStore [] core
  HasStore-empty core own size budget keys lists cached = record {
    own = own;
    deque_size = size;
    byte_budget = budget;
    primary = keys;
    lists = λ p. ap (λ es. items_at s.same.key p es) lists;
    cached = λ d. rw cached refl;
  }

  -- an event that takes nothing and names no peers
  pub HasStore-other : (e : Happening P M D W V) (past : List (Happening P M D W V)) (old new : Content P M D W) → HasStore past old → KeepsStore s.same old new
      → taken s e ≡ None → primary s (e ∷ past) ≡ primary s past → HasStore (e ∷ past) new
  HasStore-other e past old new has keeps none stays = record {
    own = keeps.own ∙ has.own;
    deque_size = keeps.deque_size ∙ has.deque_size;
    byte_budget = keeps.byte_budget ∙ has.byte_budget;
    primary = keeps.primary ∙ has.primary ∙ sym stays;
    lists = λ p. ap (λ es. items_at s.same.key p es) keeps.lists ∙ has.lists p ∙ sym (charged-other s p e past none stays);
    cached = λ d. (let kept : message_at s.same new d ≡ message_at s.same old d = rw keeps.cached refl in kept) ∙ has.cached d ∙ sym (message-other d e past none stays);
  }

  module _ (key_laws : IsEquivalence s.same.key) where
    -- a peer set
    pub HasStore-peers : (ps : List P) (past : List (Happening P M D W V)) (old new : Content P M D W) → HasStore past old → TakesPeers s.same ps old new → HasStore (peers ps ∷ past) new
    HasStore-peers ps past old new has takes =
        let lists : (q : P) → charged_at s.same new q ≡ charged_list s q (peers ps ∷ past) = λ q. takes.lists q ∙ rw (has.lists q) (sym (charged-peers s q ps past)) in
        record {
          own = takes.own ∙ has.own;
          deque_size = takes.deque_size ∙ has.deque_size;
          byte_budget = takes.byte_budget ∙ has.byte_budget;
          primary = takes.primary;
          lists = lists;
          cached = λ d. by_test (is_listed s d (peers ps ∷ past))
              (λ h. rw (takes.cached d, on_list-followed (peers ps ∷ past) new takes.primary lists d, h, listed-before key_laws d (peers ps) past refl h) (has.cached d))
              (λ h. rw (takes.cached d, on_list-followed (peers ps ∷ past) new takes.primary lists d, h) refl);
        }

    module _ (laws : IsEquivalence s.same.digest) where
      -- a taking as it changes a core's lists
      list-stored : (e : Happening P M D W V) (t : Taking P M D) (past : List (Happening P M D W V)) (q : P) → taken s e ≡ Some t
          → charged_list s q (e ∷ past) ≡ (if s.same.key t.key q
          then (if is_primary s t.key past then with_taken s.same.digest s.deque_size s.byte_budget (charged s t.carried) (charged_list s t.key past) else charged_list s t.key past)
          else charged_list s q past)
      list-stored e t past q some = by_test (s.same.key t.key q)
          (λ h. rw (h, charged-equal s key_laws t.key q past h, is_primary-equal s key_laws t.key q past h)
          (charged-taken s laws q e t past some ∙ rw (key_laws.symm q t.key ∙ h) refl))
          (λ h. rw h (charged-taken s laws q e t past some ∙ rw (key_laws.symm q t.key ∙ h) refl))

      -- an event that takes a message
      pub HasStore-taken : (e : Happening P M D W V) (t : Taking P M D) (past : List (Happening P M D W V)) (old new : Content P M D W) → HasStore past old
          → Takes s.same t.key t.carried (charge s t.carried) old new → taken s e ≡ Some t → HasStore (e ∷ past) new
      HasStore-taken e t past old new has takes some =
          let keys : new.primary ≡ primary s (e ∷ past) = takes.primary ∙ has.primary ∙ sym (primary-taken s e t past some) in
          let lists : (q : P) → charged_at s.same new q ≡ charged_list s q (e ∷ past) =
          λ q. takes.lists q ∙ rw (list_with-followed past old has t.key t.carried, has.lists q) (sym (list-stored e t past q some)) in
          record {
            own = takes.own ∙ has.own;
            deque_size = takes.deque_size ∙ has.deque_size;
            byte_budget = takes.byte_budget ∙ has.byte_budget;
            primary = keys;
            lists = lists;
            cached = λ d. takes.cached d
                ∙ rw (on_list-followed (e ∷ past) new keys lists d, is_on_list-followed past old has d, has.cached d, some) refl;
          }
