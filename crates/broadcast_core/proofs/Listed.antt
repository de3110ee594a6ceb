-- What stands on a list was taken, and how long a list is.
use Rattle.std.proofs.Common.{◌≡◌, ℕ, zero, suc, ◌≤◌, Bool, true, false, not, ◌||◌, List, [], ◌∷◌, take, length, Option, Some, None, refl, sym, ap, ◌∙◌, subst, arith}
use Rattle.std.specs.Prelude.{nat_le}
use Rattle.std.specs.Option.{option_to_list}
use Rattle.std.specs.List.{filter, list_any}
use Rattle.std.specs.Cmp.{IsEquivalence}
use Rattle.std.proofs.lemmas.List.{length-take}
use Rattle.broadcast_core.specs.Carried.{Carried}
use Rattle.entries.specs.declared.entry.Charged.{Charged}
use Rattle.broadcast_core.specs.Content.{affordable, bytes_of, first_places, digests_of, same_charged, without}
use Rattle.broadcast_core.specs.Fronted.{with_taken, within}
use Rattle.broadcast_core.specs.Company.{has_stayed, stayed}
use Rattle.broadcast_core.specs.Setting.{Setting}
use Rattle.broadcast_core.specs.Happening.{History}
use Rattle.broadcast_core.specs.Peers.{since}
use Rattle.broadcast_core.specs.Lists.{charge, charged, digests_under, charged_list, list}
use Rattle.broadcast_core.proofs.Distinct.{by_test}
use Rattle.broadcast_core.proofs.Staying.{length-names, list-step, list-bounded, any-within}

any_filter : {X : Type 0} (test kept : X → Bool) (xs : List X) → list_any test (filter kept xs) ≡ true → list_any test xs ≡ true
any_filter test kept [] h = h
any_filter test kept (x ∷ xs) h = by_test (test x)
    (λ t. rw t refl)
    (λ t. rw t (by_test (kept x)
    (λ u. let more = rw u at h in any_filter test kept xs (rw t at more))
    (λ u. any_filter test kept xs (rw u at h))))

any_first : {X : Type 0} (same : X → X → Bool) (test : X → Bool) (xs : List X) → list_any test (first_places same xs) ≡ true → list_any test xs ≡ true
any_first same test [] h = h
any_first same test (x ∷ xs) h = by_test (test x)
    (λ t. rw t refl)
    (λ t. rw t (any_first same test xs (any_filter test (λ y. not (same x y)) (first_places same xs) (rw t at h))))

any_take : {X : Type 0} (test : X → Bool) (n : ℕ) (xs : List X) → list_any test (take n xs) ≡ true → list_any test xs ≡ true
any_take test zero xs h = absurd cc
any_take test (suc n) [] h = absurd cc
any_take test (suc n) (x ∷ xs) h = by_test (test x)
    (λ t. rw t refl)
    (λ t. rw t (any_take test n xs (rw t at h)))

pub any-names : {D : Type 0} (test : D → Bool) (cs : List (Charged D)) → list_any test (digests_of cs) ≡ list_any (λ c. test c.digest) cs
any-names test [] = refl
any-names test (c ∷ cs) = ap (λ b. test c.digest || b) (any-names test cs)

module _ {P M D W V : Type 0} (s : Setting P M D) where
  -- what stands on a list was taken under the key since it was last not primary
  pub list-from : (test : D → Bool) (p : P) (past : History P M D W V) → list_any test (list s p past) ≡ true → list_any (λ c. test c.digest) (digests_under s p (since s p past)) ≡ true
  list-from test p past h =
      let ts = digests_under s p (since s p past) in
      any_first (same_charged s.same.digest) (λ c. test c.digest) ts
      (any_filter (λ c. test c.digest) (λ c. has_stayed s.same.digest s.deque_size s.byte_budget c ts) (first_places (same_charged s.same.digest) ts)
      (sym (any-names test (charged_list s p past)) ∙ h))

-- a list has at most its size, and at most its bytes
length-stayed : {D : Type 0} {same : D → D → Bool} (laws : IsEquivalence same) (size budget : ℕ) (ts : List (Charged D)) → length (stayed same size budget ts) ≤ size
length-stayed laws size budget [] = omega arith
length-stayed {same = same} laws size budget (t ∷ ts) =
    let kept = within budget (t ∷ without (same_charged same) t (stayed same size budget ts)) in
    subst (λ cs. length cs ≤ size) (sym (list-step laws size budget t ts)) (omega (arith, length-take size kept))

module _ {P M D W V : Type 0} (s : Setting P M D) (laws : IsEquivalence s.same.digest) where
  pub list-few : (p : P) (past : History P M D W V) → length (list s p past) ≤ s.deque_size
  list-few p past = omega (arith, length-names (charged_list s p past), length-stayed laws s.deque_size s.byte_budget (digests_under s p (since s p past)))

  pub list-affordable : (p : P) (past : History P M D W V) → bytes_of (charged_list s p past) ≤ s.byte_budget
  list-affordable p past = list-bounded laws s.deque_size s.byte_budget (digests_under s p (since s p past))

-- what stands on a list after a taking is the digest that was taken, or stood there
pub with_taken-from : {D : Type 0} (same : D → D → Bool) (size budget : ℕ) (test : D → Bool) (c : Charged D) (cs : List (Charged D)) → list_any test (digests_of (with_taken same size budget (Some c) cs)) ≡ true
    → test c.digest ≡ false → list_any test (digests_of cs) ≡ true
with_taken-from same size budget test c cs h other =
    let all = c ∷ without (same_charged same) c cs in
    let deep = any_take (λ x. test x.digest) size all (any-within (λ x. test x.digest) budget (take size all) (sym (any-names test (with_taken same size budget (Some c) cs)) ∙ h)) in
    any-names test cs ∙ any_filter (λ x. test x.digest) (λ x. not (same_charged same c x)) cs (rw other at deep)

module _ {P M D : Type 0} (s : Setting P M D) where
  -- a message within the budget is charged by its digest
  affordable-digest : (test : D → Bool) (d : D) (n : Option ℕ) → list_any (λ c. test c.digest) (option_to_list (affordable s.byte_budget d n)) ≡ true → test d ≡ true
  affordable-digest test d None h = absurd cc
  affordable-digest test d (Some n) h = by_test (nat_le n s.byte_budget)
      (λ k. by_test (test d) (λ t. t) (λ t. absurd (let no = rw (k, t) at h in cc)))
      (λ k. absurd (let no = rw k at h in cc))

  pub charged-digest : (test : D → Bool) (c : Carried M D) → list_any (λ x. test x.digest) (option_to_list (charged s c)) ≡ true → test c.digest ≡ true
  charged-digest test c h = affordable-digest test c.digest (charge s c) h

module _ {P M D : Type 0} (s : Setting P M D) where
  -- what stands on a list after a taking of another digest stood there before
  pub listed-before : (test : D → Bool) (c : Carried M D) (cs : List (Charged D)) → test c.digest ≡ false
      → list_any test (digests_of (with_taken s.same.digest s.deque_size s.byte_budget (charged s c) cs)) ≡ true → list_any test (digests_of cs) ≡ true
  listed-before test c cs other h = before (charged s c) (charged-digest s test c) h
    where
      before : (o : Option (Charged D)) → (list_any (λ x. test x.digest) (option_to_list o) ≡ true → test c.digest ≡ true)
          → list_any test (digests_of (with_taken s.same.digest s.deque_size s.byte_budget o cs)) ≡ true → list_any test (digests_of cs) ≡ true
      before None only h = h
      before (Some x) only h = with_taken-from s.same.digest s.deque_size s.byte_budget test x cs h
          (by_test (test x.digest) (λ z. absurd (let no = sym other ∙ only (rw z refl) in cc)) (λ z. z))
