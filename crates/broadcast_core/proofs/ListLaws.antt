-- What follows from the definition of a list.
use Rattle.std.proofs.Common.{◌≡◌, ℕ, zero, suc, ◌≤◌, Bool, true, false, ◌||◌, ◌&&◌, List, [], ◌∷◌, ◌++◌, map, take, Option, None, Some, is_some, refl, sym, ap, ◌∙◌, subst, arith}
use Rattle.std.specs.Prelude.{unwrap_or}
use Rattle.std.specs.Option.{option_to_list}
use Rattle.std.specs.List.{AllByRecursion, sum_by}
use Rattle.std.specs.Cmp.{IsEquivalence}
use Rattle.std.proofs.lemmas.Bool.{le-leb}
use Rattle.std.proofs.lemmas.List.{map-append}
use Rattle.std.proofs.lemmas.List.Sums.{sum_by-append}
use Rattle.entries.specs.declared.entry.Charged.{Charged}
use Rattle.broadcast_core.specs.Carried.{Carried}
use Rattle.broadcast_core.specs.Content.{affordable, among, at_charge, bytes_of, digests_of, first_places, same_charged, without}
use Rattle.broadcast_core.specs.Company.{company, fits, has_stayed}
use Rattle.broadcast_core.specs.Setting.{Setting}
use Rattle.broadcast_core.specs.Happening.{History, Taking, taken}
use Rattle.broadcast_core.specs.Peers.{since}
use Rattle.broadcast_core.specs.Lists.{charge, charged, digest_under, digests_under, list}
use Rattle.broadcast_core.specs.ListLaw.{FitTogether, HasAlwaysFitted, last_distinct, message_under, messages_under}
use Rattle.broadcast_core.proofs.Distinct.{by_test, or_false}
use Rattle.broadcast_core.proofs.Staying.{bytes_of-append, list-old}

both-true : (a b : Bool) → (a && b) ≡ true → (a ≡ true) × (b ≡ true)
both-true true b h = (refl, h)
both-true false b h = absurd cc

all-append : {X : Type 0} (Q : X → Type 0) (xs ys : List X) → AllByRecursion Q (xs ++ ys) → AllByRecursion Q xs × AllByRecursion Q ys
all-append Q [] ys h = (tt, h)
all-append Q (x ∷ xs) ys h = let rest = all-append Q xs ys h.1 in ((h.0, rest.0), rest.1)

-- the digests of charged digests
module _ {D : Type 0} (same : D → D → Bool) where
  digests-without : (c : Charged D) (cs : List (Charged D)) → digests_of (without (same_charged same) c cs) ≡ without same c.digest (digests_of cs)
  digests-without c [] = refl
  digests-without c (x ∷ xs) = by_test (same c.digest x.digest)
      (λ h. rw h (digests-without c xs))
      (λ h. rw h (ap (λ ds. x.digest ∷ ds) (digests-without c xs)))

  digests-first : (cs : List (Charged D)) → digests_of (first_places (same_charged same) cs) ≡ first_places same (digests_of cs)
  digests-first [] = refl
  digests-first (c ∷ cs) = ap (λ ds. c.digest ∷ ds) (digests-without c (first_places (same_charged same) cs) ∙ ap (without same c.digest) (digests-first cs))

digests-take : {D : Type 0} (n : ℕ) (cs : List (Charged D)) → digests_of (take n cs) ≡ take n (digests_of cs)
digests-take zero cs = refl
digests-take (suc n) [] = refl
digests-take (suc n) (c ∷ cs) = ap (λ ds. c.digest ∷ ds) (digests-take n cs)

-- a charge within the budget
affords : {D : Type 0} (budget : ℕ) (d : D) (o : Option ℕ) → is_some o ≡ true → unwrap_or o 0 ≤ budget → option_to_list (affordable budget d o) ≡ at_charge d (unwrap_or o 0) ∷ []
affords budget d None some le = absurd cc
affords budget d (Some n) some le = rw (le-leb n budget le) refl

module _ {P M D : Type 0} (s : Setting P M D) where
  abbrev size_of : Carried M D → ℕ
  size_of c = unwrap_or (charge s c) 0

  abbrev Encoded : Carried M D → Type 0
  Encoded c = is_some (charge s c) ≡ true

  -- the charged digests are those of the messages
  record AreCharged (cs : List (Charged D)) (ms : List (Carried M D)) : Type 0 where
    bytes : bytes_of cs ≡ sum_by size_of ms
    digests : digests_of cs ≡ map (λ m. m.digest) ms

  AreCharged-under : (p : P) (o : Option (Taking P M D)) → AllByRecursion Encoded (message_under s p o) → sum_by size_of (message_under s p o) ≤ s.byte_budget
      → AreCharged (digest_under s p o) (message_under s p o)
  AreCharged-under p None all le = record { bytes = refl; digests = refl }
  AreCharged-under p (Some t) all le = by_test (s.same.key p t.key)
      (λ h. let here : Encoded t.carried = (rw h at all).0 in
      let room : size_of t.carried ≤ s.byte_budget = omega (arith, rw h at le) in
      let is : option_to_list (charged s t.carried) ≡ at_charge t.carried.digest (size_of t.carried) ∷ [] = affords s.byte_budget t.carried.digest (charge s t.carried) here room in
      rw (h, is) (record { bytes = refl; digests = refl }))
      (λ h. rw h (record { bytes = refl; digests = refl }))

  AreCharged-append : (cs ds : List (Charged D)) (ms ns : List (Carried M D)) → AreCharged cs ms → AreCharged ds ns → AreCharged (cs ++ ds) (ms ++ ns)
  AreCharged-append cs ds ms ns front back = record {
    bytes = omega (arith, bytes_of-append cs ds, sum_by-append size_of ms ns, front.bytes, back.bytes);
    digests = map-append (λ (c : Charged D). c.digest) cs ds ∙ ap (λ xs. xs ++ digests_of ds) front.digests ∙ ap (λ xs. map (λ m. m.digest) ms ++ xs) back.digests
        ∙ sym (map-append (λ (m : Carried M D). m.digest) ms ns);
  }

module _ {P M D W V : Type 0} (s : Setting P M D) where
  messages-charged : (p : P) (past : History P M D W V) → AllByRecursion (Encoded s) (messages_under s p past) → sum_by (size_of s) (messages_under s p past) ≤ s.byte_budget
      → AreCharged s (digests_under s p past) (messages_under s p past)
  messages-charged p [] all le = record { bytes = refl; digests = refl }
  messages-charged p (e ∷ older) all le =
      let ms = message_under s p (taken s e) in
      let both = all-append (Encoded s) ms (messages_under s p older) all in
      let sum = sum_by-append (size_of s) ms (messages_under s p older) in
      AreCharged-append s (digest_under s p (taken s e)) (digests_under s p older) ms (messages_under s p older)
      (AreCharged-under s p (taken s e) both.0 (omega (arith, le, sum)))
      (messages-charged p older both.1 (omega (arith, le, sum)))

  -- if all fit together, the list has the last distinct digests
  pub list-whole : IsEquivalence s.same.digest → (p : P) (past : History P M D W V) → FitTogether s (messages_under s p (since s p past)) → list s p past ≡ last_distinct s p past
  list-whole laws p past fit =
      let xs = since s p past in
      let are = messages-charged p xs fit.encoded fit.sum in
      let cs = digests_under s p xs in
      ap digests_of (list-old laws s.deque_size s.byte_budget cs (omega (arith, are.bytes, fit.sum)))
      ∙ digests-take s.deque_size (first_places (same_charged s.same.digest) cs)
      ∙ ap (take s.deque_size) (digests-first s.same.digest cs ∙ ap (first_places s.same.digest) are.digests)

-- a digest has stayed exactly if it was taken, and its company fitted at every moment since
module _ {D : Type 0} {same : D → D → Bool} (laws : IsEquivalence same) (size budget : ℕ) where
  abbrev fitted : Charged D → List (Charged D) → Bool
  fitted c ts = fits size budget (company same c ts)

  stayed-fitted : (c : Charged D) (newer older : List (Charged D)) → has_stayed same size budget c (newer ++ older) ≡ true
      → among (same_charged same) c newer ≡ false → among (same_charged same) c older ≡ true → fitted c older ≡ true
  stayed-fitted c [] [] h new old = absurd cc
  stayed-fitted c [] (t ∷ older) h new old = (both-true (fitted c (t ∷ older)) (same_charged same c t || has_stayed same size budget c older) h).0
  stayed-fitted c (n ∷ newer) older h new old =
      let apart = or_false (same_charged same c n) (among (same_charged same) c newer) new in
      let later = (both-true (fitted c (n ∷ (newer ++ older))) (same_charged same c n || has_stayed same size budget c (newer ++ older)) h).1 in
      stayed-fitted c newer older (sym (ap (λ b. b || has_stayed same size budget c (newer ++ older)) apart.0) ∙ later) apart.1 old

  fitted-stayed : (c : Charged D) (ts : List (Charged D)) → HasAlwaysFitted same size budget c ts → has_stayed same size budget c ts ≡ true
  fitted-stayed c [] always = absurd (let no = always.was_taken in cc)
  fitted-stayed c (t ∷ older) always =
      let now : fitted c (t ∷ older) ≡ true = always.fitted [] (t ∷ older) refl refl always.was_taken in
      rw now (by_test (same_charged same c t)
      (λ e. rw e refl)
      (λ e. rw e (fitted-stayed c older (record {
        was_taken = sym (ap (λ b. b || among (same_charged same) c older) e) ∙ always.was_taken;
        fitted = λ newer since is new old. always.fitted (t ∷ newer) since (ap (λ us. t ∷ us) is) (rw e new) old;
      }))))

  stayed-was_taken : (c : Charged D) (ts : List (Charged D)) → has_stayed same size budget c ts ≡ true → among (same_charged same) c ts ≡ true
  stayed-was_taken c [] h = absurd cc
  stayed-was_taken c (t ∷ older) h = by_test (same_charged same c t)
      (λ e. rw e refl)
      (λ e. rw e (stayed-was_taken c older (sym (ap (λ b. b || has_stayed same size budget c older) e)
      ∙ (both-true (fitted c (t ∷ older)) (same_charged same c t || has_stayed same size budget c older) h).1)))

  pub stayed-always : (c : Charged D) (ts : List (Charged D)) → (has_stayed same size budget c ts ≡ true → HasAlwaysFitted same size budget c ts) × (HasAlwaysFitted same size budget c ts → has_stayed same size budget c ts ≡ true)
  stayed-always c ts = (
    λ h. record {
      was_taken = stayed-was_taken c ts h;
      fitted = λ newer older is new old. stayed-fitted c newer older (subst (λ us. has_stayed same size budget c us ≡ true) is h) new old;
    },
    λ always. fitted-stayed c ts always,
  )
