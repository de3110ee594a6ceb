-- The list of a key, event by event.
use Rattle.std.proofs.Common.{◌≡◌, Bool, true, false, ◌||◌, ◌&&◌, ◌++◌, if◌then◌else◌, List, [], ◌∷◌, Option, Some, None, refl, sym, ap, ◌∙◌}
use Rattle.std.specs.List.{list_any}
use Rattle.std.specs.Option.{option_to_list}
use Rattle.std.specs.Cmp.{IsEquivalence}
use Rattle.entries.specs.declared.entry.Charged.{Charged}
use Rattle.broadcast_core.specs.Content.{digests_of}
use Rattle.broadcast_core.specs.Fronted.{with_taken}
use Rattle.broadcast_core.specs.Company.{stayed}
use Rattle.broadcast_core.specs.Setting.{Setting}
use Rattle.broadcast_core.specs.Happening.{Taking, Happening, peers, broadcast, arrival, subscribe, get, cleanup, taken}
use Rattle.broadcast_core.specs.Peers.{primary, is_primary, since}
use Rattle.broadcast_core.specs.Lists.{charged, digest_under, digests_under, charged_list, list}
use Rattle.broadcast_core.proofs.Distinct.{by_test, or_right, among-equal}
use Rattle.broadcast_core.proofs.Staying.{stayed-taken}

-- one that passes the first test passes the second
pub any-weaker : {X : Type 0} (p q : X → Bool) (xs : List X) → ((x : X) → p x ≡ true → q x ≡ true) → list_any p xs ≡ true → list_any q xs ≡ true
any-weaker p q [] h some = absurd cc
any-weaker p q (x ∷ xs) h some = by_test (p x)
    (λ e. rw (h x e) refl)
    (λ e. let rest : list_any p xs ≡ true = sym (ap (λ b. b || list_any p xs) e) ∙ some in
    ap (λ b. q x || b) (any-weaker p q xs h rest) ∙ or_right (q x))

-- what follows from each that passes follows from any
pub from-any : {X Q : Type 0} (p : X → Bool) (xs : List X) → list_any p xs ≡ true → ((x : X) → p x ≡ true → Q) → Q
from-any p [] some h = absurd cc
from-any p (x ∷ xs) some h = by_test (p x)
    (λ e. h x e)
    (λ e. let rest : list_any p xs ≡ true = sym (ap (λ b. b || list_any p xs) e) ∙ some in from-any p xs rest h)

module _ {P M D : Type 0} (s : Setting P M D) (key_laws : IsEquivalence s.same.key) where
  digest_under-equal : (p q : P) (o : Option (Taking P M D)) → s.same.key p q ≡ true → digest_under s p o ≡ digest_under s q o
  digest_under-equal p q None h = refl
  digest_under-equal p q (Some t) h = rw (key_laws.congr p q t.key h) refl

module _ {P M D : Type 0} (s : Setting P M D) where
  abbrev staying : List (Charged D) → List (Charged D)
  staying cs = stayed s.same.digest s.deque_size s.byte_budget cs

module _ {P M D W V : Type 0} (s : Setting P M D) where
  -- a taking leaves the peers
  pub primary-taken : (e : Happening P M D W V) (t : Taking P M D) (past : List (Happening P M D W V)) → taken s e ≡ Some t → primary s (e ∷ past) ≡ primary s past
  primary-taken (peers ps) t past h = absurd cc
  primary-taken (broadcast r c) t past h = refl
  primary-taken (arrival p c) t past h = refl
  primary-taken (subscribe w d) t past h = refl
  primary-taken (get v d) t past h = refl
  primary-taken (cleanup test) t past h = refl

  pub since-empty : (p : P) (past : List (Happening P M D W V)) → is_primary s p past ≡ false → since s p past ≡ []
  since-empty p [] h = refl
  since-empty p (e ∷ past) h = rw h refl

  -- a key that is not primary has an empty list
  pub charged-empty : (p : P) (past : List (Happening P M D W V)) → is_primary s p past ≡ false → charged_list s p past ≡ []
  charged-empty p past h = ap (λ es. staying s (digests_under s p es)) (since-empty p past h)

  pub list-empty : (p : P) (past : List (Happening P M D W V)) → is_primary s p past ≡ false → list s p past ≡ []
  list-empty p past h = ap digests_of (charged-empty p past h)

  -- an event that takes nothing leaves the lists of those that are primary after it, the others have none
  pub charged-none : (q : P) (e : Happening P M D W V) (past : List (Happening P M D W V)) → taken s e ≡ None
      → charged_list s q (e ∷ past) ≡ (if is_primary s q (e ∷ past) then charged_list s q past else [])
  charged-none q e past none = by_test (is_primary s q (e ∷ past))
      (λ h. let kept : digests_under s q (since s q (e ∷ past)) ≡ digests_under s q (since s q past) = rw h (rw none refl) in ap (staying s) kept ∙ rw h refl)
      (λ h. charged-empty q (e ∷ past) h ∙ rw h refl)

  -- a peer set
  pub charged-peers : (q : P) (ps : List P) (past : List (Happening P M D W V))
      → charged_list s q (peers ps ∷ past) ≡ (if list_any (s.same.key q) ps then charged_list s q past else [])
  charged-peers q ps past = charged-none q (peers ps) past refl

  -- an event that takes nothing and leaves the peers leaves all lists
  pub charged-other : (q : P) (e : Happening P M D W V) (past : List (Happening P M D W V)) → taken s e ≡ None → primary s (e ∷ past) ≡ primary s past
      → charged_list s q (e ∷ past) ≡ charged_list s q past
  charged-other q e past none stays =
      let still : is_primary s q (e ∷ past) ≡ is_primary s q past = ap (λ ps. list_any (s.same.key q) ps) stays in
      by_test (is_primary s q past)
      (λ h. charged-none q e past none ∙ rw (still ∙ h) refl)
      (λ h. charged-empty q (e ∷ past) (still ∙ h) ∙ sym (charged-empty q past h))

  pub list-none : (q : P) (e : Happening P M D W V) (past : List (Happening P M D W V)) → taken s e ≡ None
      → list s q (e ∷ past) ≡ (if is_primary s q (e ∷ past) then list s q past else [])
  list-none q e past none = ap digests_of (charged-none q e past none) ∙ by_test (is_primary s q (e ∷ past)) (λ h. rw h refl) (λ h. rw h refl)

  pub list-other : (q : P) (e : Happening P M D W V) (past : List (Happening P M D W V)) → taken s e ≡ None → primary s (e ∷ past) ≡ primary s past
      → list s q (e ∷ past) ≡ list s q past
  list-other q e past none stays = ap digests_of (charged-other q e past none stays)

  module _ (key_laws : IsEquivalence s.same.key) where
    -- equal keys are primary alike, and since the same event
    pub is_primary-equal : (p q : P) (past : List (Happening P M D W V)) → s.same.key p q ≡ true → is_primary s p past ≡ is_primary s q past
    is_primary-equal p q past h = among-equal key_laws p q (primary s past) h

    pub since-equal : (p q : P) (past : List (Happening P M D W V)) → s.same.key p q ≡ true → since s p past ≡ since s q past
    since-equal p q [] h = refl
    since-equal p q (e ∷ past) h = rw (is_primary-equal p q (e ∷ past) h, since-equal p q past h) refl

    digests_under-equal : (p q : P) (past : List (Happening P M D W V)) → s.same.key p q ≡ true → digests_under s p past ≡ digests_under s q past
    digests_under-equal p q [] h = refl
    digests_under-equal p q (e ∷ past) h = rw (digest_under-equal s key_laws p q (taken s e) h, digests_under-equal p q past h) refl

    -- equal keys have one list
    pub charged-equal : (p q : P) (past : List (Happening P M D W V)) → s.same.key p q ≡ true → charged_list s p past ≡ charged_list s q past
    charged-equal p q past h = ap (staying s) (ap (digests_under s p) (since-equal p q past h) ∙ digests_under-equal p q (since s q past) h)

    pub list-equal : (p q : P) (past : List (Happening P M D W V)) → s.same.key p q ≡ true → list s p past ≡ list s q past
    list-equal p q past h = ap digests_of (charged-equal p q past h)

  module _ (laws : IsEquivalence s.same.digest) where
    -- a taking within the budget comes to the front of the list of its key, where that is primary
    pub charged-taken : (q : P) (e : Happening P M D W V) (t : Taking P M D) (past : List (Happening P M D W V)) → taken s e ≡ Some t
        → charged_list s q (e ∷ past) ≡ (if s.same.key q t.key && is_primary s q past
        then with_taken s.same.digest s.deque_size s.byte_budget (charged s t.carried) (charged_list s q past) else charged_list s q past)
    charged-taken q e t past some =
        let still : is_primary s q (e ∷ past) ≡ is_primary s q past = ap (λ ps. list_any (s.same.key q) ps) (primary-taken e t past some) in
        by_test (is_primary s q past)
        (λ h. by_test (s.same.key q t.key)
        (λ k.
        let more : digests_under s q (since s q (e ∷ past)) ≡ option_to_list (charged s t.carried) ++ digests_under s q (since s q past) = rw (still ∙ h, some, k) refl in
        let made = ap (staying s) more ∙ stayed-taken laws s.deque_size s.byte_budget (charged s t.carried) (digests_under s q (since s q past)) in
        made ∙ rw (k, h) refl)
        (λ k.
        let kept : digests_under s q (since s q (e ∷ past)) ≡ digests_under s q (since s q past) = rw (still ∙ h, some, k) refl in
        ap (staying s) kept ∙ rw k refl))
        (λ h. charged-empty q (e ∷ past) (still ∙ h) ∙ sym (charged-empty q past h) ∙ rw h (by_test (s.same.key q t.key) (λ k. rw k refl) (λ k. rw k refl)))
