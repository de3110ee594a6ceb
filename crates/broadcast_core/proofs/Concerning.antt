-- A key's list depends on what concerns the key alone.
use Rattle.std.proofs.Common.{◌≡◌, ℕ, zero, suc, Bool, true, false, if◌then◌else◌, List, [], ◌∷◌, ◌++◌, take, map, refl, sym, ap, subst, ◌∙◌}
use Rattle.std.specs.Prelude.{◌-◌, IsTrue, nat_le}
use Rattle.std.specs.List.{AllZip, list_any}
use Rattle.entries.specs.declared.entry.Charged.{Charged}
use Rattle.std.specs.Cmp.{IsEquivalence}
use Rattle.broadcast_core.specs.Content.{digests_of, same_charged, without}
use Rattle.broadcast_core.specs.Fronted.{within}
use Rattle.broadcast_core.specs.Company.{stayed}
use Rattle.broadcast_core.specs.Setting.{Setting}
use Rattle.broadcast_core.specs.Happening.{Happening, History, peers, broadcast, arrival, subscribe, get, cleanup, taken}
use Rattle.broadcast_core.specs.Peers.{primary, is_primary, since}
use Rattle.broadcast_core.specs.Lists.{digest_under, digests_under, charged_list, list}
use Rattle.broadcast_core.specs.Concerns.{Concern, peer_set, digest, concerns, AreAlike, AreEqual}
use Rattle.broadcast_core.proofs.Distinct.{by_test}
use Rattle.broadcast_core.proofs.Staying.{list-step}
use Rattle.broadcast_core.proofs.Listing.{since-empty}

module _ {D : Type 0} where
  -- whether the key is primary, by what concerns it
  abbrev has_set : List (Concern D) → Bool
  has_set [] = false
  has_set (peer_set b ∷ cs) = b
  has_set (digest d ∷ cs) = has_set cs

  -- the digests taken since the key was last not primary
  abbrev stay : List (Concern D) → List (Charged D)
  stay [] = []
  stay (peer_set b ∷ cs) = if b then stay cs else []
  stay (digest d ∷ cs) = if has_set cs then d ∷ stay cs else []

  has_set-after : (ds : List (Charged D)) (cs : List (Concern D)) → has_set (map digest ds ++ cs) ≡ has_set cs
  has_set-after [] cs = refl
  has_set-after (d ∷ ds) cs = has_set-after ds cs

  stay-more : (ds : List (Charged D)) (cs : List (Concern D)) → has_set cs ≡ true → stay (map digest ds ++ cs) ≡ ds ++ stay cs
  stay-more [] cs h = refl
  stay-more (d ∷ ds) cs h = rw (has_set-after ds cs ∙ h) (ap (λ xs. d ∷ xs) (stay-more ds cs h))

  stay-none : (ds : List (Charged D)) (cs : List (Concern D)) → has_set cs ≡ false → stay cs ≡ [] → stay (map digest ds ++ cs) ≡ []
  stay-none [] cs h k = k
  stay-none (d ∷ ds) cs h k = rw (has_set-after ds cs ∙ h) refl

module _ {P M D W V : Type 0} (s : Setting P M D) where
  none-under : (p : P) (past : History P M D W V) → is_primary s p past ≡ false → digests_under s p (since s p past) ≡ []
  none-under p past h = rw (since-empty s p past h) refl

  -- what concerns a key tells whether it is primary, and the digests of its stay
  record Tells (p : P) (past : History P M D W V) : Type 0 where
    set : is_primary s p past ≡ has_set (concerns s p past)
    digests : digests_under s p (since s p past) ≡ stay (concerns s p past)

  -- a happening that is no peer set keeps the primary set, and adds what it takes under the key
  tells-next : (p : P) (e : Happening P M D W V) (older : History P M D W V) → Tells p older → primary s (e ∷ older) ≡ primary s older
      → concerns s p (e ∷ older) ≡ map digest (digest_under s p (taken s e)) ++ concerns s p older → Tells p (e ∷ older)
  tells-next p e older tells kept more =
      let ds = digest_under s p (taken s e) in
      let cs = concerns s p older in
      let still : is_primary s p (e ∷ older) ≡ is_primary s p older = ap (λ ps. list_any (s.same.key p) ps) kept in
      record {
        set = still ∙ tells.set ∙ sym (has_set-after ds cs) ∙ ap has_set (sym more);
        digests = by_test (is_primary s p older)
            (λ h. rw (still ∙ h) (ap (λ xs. ds ++ xs) tells.digests ∙ sym (stay-more ds cs (sym tells.set ∙ h)) ∙ ap stay (sym more)))
            (λ h. rw (still ∙ h) (sym (ap stay more ∙ stay-none ds cs (sym tells.set ∙ h) (sym tells.digests ∙ none-under p older h))));
      }

  tells : (p : P) (past : History P M D W V) → Tells p past
  tells p [] = record { set = refl; digests = refl }
  tells p (peers ps ∷ older) = record {
    set = refl;
    digests = by_test (list_any (s.same.key p) ps) (λ h. rw h (tells p older).digests) (λ h. rw h refl);
  }
  tells p (broadcast r c ∷ older) = tells-next p (broadcast r c) older (tells p older) refl refl
  tells p (arrival q c ∷ older) = tells-next p (arrival q c) older (tells p older) refl refl
  tells p (subscribe w d ∷ older) = tells-next p (subscribe w d) older (tells p older) refl refl
  tells p (get v d ∷ older) = tells-next p (get v d) older (tells p older) refl refl
  tells p (cleanup test ∷ older) = tells-next p (cleanup test) older (tells p older) refl refl

  -- a key's list by what concerns the key
  list-stay : (p : P) (past : History P M D W V) → charged_list s p past ≡ stayed s.same.digest s.deque_size s.byte_budget (stay (concerns s p past))
  list-stay p past = ap (stayed s.same.digest s.deque_size s.byte_budget) (tells p past).digests

module _ {D : Type 0} {same : D → D → Bool} (laws : IsEquivalence same) where
  has_set-alike : (cs ds : List (Concern D)) → AreAlike same cs ds → has_set cs ≡ has_set ds
  has_set-alike [] [] h = refl
  has_set-alike [] (d ∷ ds) h = absurd h
  has_set-alike (c ∷ cs) [] h = absurd h
  has_set-alike (peer_set a ∷ cs) (peer_set b ∷ ds) h = h.0
  has_set-alike (digest d ∷ cs) (digest e ∷ ds) h = has_set-alike cs ds h.1
  has_set-alike (peer_set a ∷ cs) (digest e ∷ ds) h = absurd h.0
  has_set-alike (digest d ∷ cs) (peer_set b ∷ ds) h = absurd h.0

  -- equal digests at one charge
  abbrev Like : List (Charged D) → List (Charged D) → Type 0
  Like xs ys = AllZip (λ a b. IsTrue (same a.digest b.digest) × (a.charge ≡ b.charge)) xs ys

  abbrev eq : Charged D → Charged D → Bool
  eq = same_charged same

  if-like : (b : Bool) (xs ys : List (Charged D)) → Like xs ys → Like (if b then xs else []) (if b then ys else [])
  if-like true xs ys h = h
  if-like false xs ys h = tt

  stay-alike : (cs ds : List (Concern D)) → AreAlike same cs ds → Like (stay cs) (stay ds)
  stay-alike [] [] h = tt
  stay-alike [] (d ∷ ds) h = absurd h
  stay-alike (c ∷ cs) [] h = absurd h
  stay-alike (peer_set a ∷ cs) (peer_set b ∷ ds) h = rw h.0 (if-like b (stay cs) (stay ds) (stay-alike cs ds h.1))
  stay-alike (digest d ∷ cs) (digest e ∷ ds) h = rw (has_set-alike cs ds h.1) (if-like (has_set ds) (d ∷ stay cs) (e ∷ stay ds) (h.0, stay-alike cs ds h.1))
  stay-alike (peer_set a ∷ cs) (digest e ∷ ds) h = absurd h.0
  stay-alike (digest d ∷ cs) (peer_set b ∷ ds) h = absurd h.0

  without-like : (d e : Charged D) (xs ys : List (Charged D)) → eq d e ≡ true → Like xs ys → Like (without eq d xs) (without eq e ys)
  without-like d e [] [] is h = tt
  without-like d e [] (y ∷ ys) is h = absurd h
  without-like d e (x ∷ xs) [] is h = absurd h
  without-like d e (x ∷ xs) (y ∷ ys) is h =
      let both : eq d x ≡ eq e y = laws.congr d.digest e.digest x.digest is ∙ laws.symm e.digest x.digest ∙ laws.congr x.digest y.digest e.digest h.0.0 ∙ laws.symm y.digest e.digest in
      rw both (by_test (eq e y)
      (λ t. rw t (without-like d e xs ys is h.1))
      (λ t. rw t (h.0, without-like d e xs ys is h.1)))

  within-like : (b : ℕ) (xs ys : List (Charged D)) → Like xs ys → Like (within b xs) (within b ys)
  within-like b [] [] h = tt
  within-like b [] (y ∷ ys) h = absurd h
  within-like b (x ∷ xs) [] h = absurd h
  within-like b (x ∷ xs) (y ∷ ys) h =
      subst (λ (k : ℕ). Like (if nat_le x.charge b then x ∷ within (b - x.charge) xs else []) (if nat_le k b then y ∷ within (b - k) ys else [])) h.0.1
      (if-like (nat_le x.charge b) (x ∷ within (b - x.charge) xs) (y ∷ within (b - x.charge) ys) (h.0, within-like (b - x.charge) xs ys h.1))

  take-like : (n : ℕ) (xs ys : List (Charged D)) → Like xs ys → Like (take n xs) (take n ys)
  take-like zero xs ys h = tt
  take-like (suc n) [] [] h = tt
  take-like (suc n) [] (y ∷ ys) h = absurd h
  take-like (suc n) (x ∷ xs) [] h = absurd h
  take-like (suc n) (x ∷ xs) (y ∷ ys) h = (h.0, take-like n xs ys h.1)

  stayed-like : (size budget : ℕ) (xs ys : List (Charged D)) → Like xs ys → Like (stayed same size budget xs) (stayed same size budget ys)
  stayed-like size budget [] [] h = tt
  stayed-like size budget [] (y ∷ ys) h = absurd h
  stayed-like size budget (x ∷ xs) [] h = absurd h
  stayed-like size budget (x ∷ xs) (y ∷ ys) h =
      let next = take-like size (within budget (x ∷ without eq x (stayed same size budget xs))) (within budget (y ∷ without eq y (stayed same size budget ys)))
      (within-like budget (x ∷ without eq x (stayed same size budget xs)) (y ∷ without eq y (stayed same size budget ys))
      (h.0, without-like x y (stayed same size budget xs) (stayed same size budget ys) h.0.0 (stayed-like size budget xs ys h.1))) in
      subst (λ zs. Like zs (stayed same size budget (y ∷ ys))) (sym (list-step laws size budget x xs))
      (subst (λ zs. Like (take size (within budget (x ∷ without eq x (stayed same size budget xs)))) zs) (sym (list-step laws size budget y ys)) next)

  names-like : (xs ys : List (Charged D)) → Like xs ys → AreEqual same (digests_of xs) (digests_of ys)
  names-like [] [] h = tt
  names-like [] (y ∷ ys) h = absurd h
  names-like (x ∷ xs) [] h = absurd h
  names-like (x ∷ xs) (y ∷ ys) h = (h.0.0, names-like xs ys h.1)

-- two histories, each by its setting: of one size and budget, and with one equality of digests
module _ {P M D W V X Y : Type 0} (s t : Setting P M D) (size : t.deque_size ≡ s.deque_size) (budget : t.byte_budget ≡ s.byte_budget) (same : t.same.digest ≡ s.same.digest)
    (p q : P) (past : History P M D W V) (other : History P M D X Y) where
  list-turned : charged_list t q other ≡ stayed s.same.digest s.deque_size s.byte_budget (stay (concerns t q other))
  list-turned = list-stay t q other ∙ ap (λ n. stayed t.same.digest n t.byte_budget (stay (concerns t q other))) size
      ∙ ap (λ n. stayed t.same.digest s.deque_size n (stay (concerns t q other))) budget
      ∙ ap (λ m. stayed m s.deque_size s.byte_budget (stay (concerns t q other))) same

  -- same concerns, same list
  pub charged-same : concerns t q other ≡ concerns s p past → charged_list t q other ≡ charged_list s p past
  charged-same h = list-turned ∙ ap (λ cs. stayed s.same.digest s.deque_size s.byte_budget (stay cs)) h ∙ sym (list-stay s p past)

  pub list-same : concerns t q other ≡ concerns s p past → list t q other ≡ list s p past
  list-same h = ap digests_of (charged-same h)

  -- alike concerns, equal lists
  pub list-alike : IsEquivalence s.same.digest → AreAlike s.same.digest (concerns t q other) (concerns s p past) → AreEqual s.same.digest (list t q other) (list s p past)
  list-alike laws h =
      let equal = names-like laws (stayed s.same.digest s.deque_size s.byte_budget (stay (concerns t q other))) (stayed s.same.digest s.deque_size s.byte_budget (stay (concerns s p past)))
      (stayed-like laws s.deque_size s.byte_budget (stay (concerns t q other)) (stay (concerns s p past)) (stay-alike laws (concerns t q other) (concerns s p past) h)) in
      subst (λ xs. AreEqual s.same.digest xs (list s p past)) (ap digests_of (sym list-turned))
      (subst (λ ys. AreEqual s.same.digest (digests_of (stayed s.same.digest s.deque_size s.byte_budget (stay (concerns t q other)))) ys) (ap digests_of (sym (list-stay s p past))) equal)
