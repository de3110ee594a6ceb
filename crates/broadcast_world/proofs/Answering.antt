-- The answers to requests, in a history and in one that lacks arrivals of hostile keys.
use Rattle.std.proofs.Common.{◌≡◌, ℕ, ◌+◌, Bool, true, false, not, ◌||◌, ◌&&◌, List, [], ◌∷◌, ◌++◌, reverse, is_some, is_none, Option, Some, None, option_map, ◌⊎◌, inl, inr, refl, sym, ap, ◌∙◌, append-nil}
use Rattle.std.specs.List.{list_any}
use Rattle.std.specs.Cmp.{IsEquivalence}
use Rattle.std.proofs.lemmas.List.{reverse-append}
use Rattle.broadcast_core.proofs.Distinct.{by_test}
use Rattle.broadcast_core.proofs.Following.{listed, message-some}
use Rattle.broadcast_core.proofs.Listing.{from-any, charged-taken}
use Rattle.broadcast_core.proofs.Listed.{listed-before}
use Rattle.broadcast_core.specs.Carried.{Carried}
use Rattle.broadcast_core.specs.Setting.{Setting}
use Rattle.broadcast_core.specs.Content.{among, digests_of}
use Rattle.broadcast_core.specs.Happening.{Happening, History, Future, Taking, peers, broadcast, arrival, subscribe, get, cleanup, carried_by, taken, takes, of_digest}
use Rattle.broadcast_core.specs.Peers.{primary, is_primary}
use Rattle.broadcast_core.specs.Lists.{charged_list, list}
use Rattle.broadcast_core.specs.Cache.{is_listed, message}
use Rattle.broadcast_core.specs.Waiting.{Awaiting, Reply, cleans, reply, reply_from, waits}
use Rattle.broadcast_world.proofs.Merging.{IsHonest, Merged, both, attack, all, kept, attacked, all-append, attacked-append, kept-append, listed-added, listed-kept}

pub is-some : {X : Type 0} (o : Option X) → is_some o ≡ true → (x : X) × (o ≡ Some x)
is-some None h = absurd (let no = h in cc)
is-some (Some x) h = (x, refl)

pub is_some-map : {X Y : Type 0} (f : X → Y) (o : Option X) → is_some (option_map f o) ≡ is_some o
is_some-map f None = refl
is_some-map f (Some x) = refl

is_none-some : {X : Type 0} (o : Option X) → is_none o ≡ not (is_some o)
is_none-some None = refl
is_none-some (Some x) = refl

and_both : (a b : Bool) → (a && b) ≡ true → (a ≡ true) × (b ≡ true)
and_both true b h = (refl, h)
and_both false b h = absurd (let no = h in cc)

module _ {M D : Type 0} where
  -- the message of a reply
  abbrev pub message_of : Option (Reply M D) → Option (Carried M D)
  message_of o = option_map (λ r. r.1) o

  abbrev at_once : Option (Carried M D) → Option (Reply M D)
  at_once o = option_map (λ c. (0, c)) o

  abbrev later : Option (Reply M D) → Option (Reply M D)
  later o = option_map (λ r. (r.0 + 1, r.1)) o

  later-second : (o : Option (Reply M D)) → message_of (later o) ≡ message_of o
  later-second None = refl
  later-second (Some r) = refl

  cached-second : (o : Option (Carried M D)) → message_of (at_once o) ≡ o
  cached-second None = refl
  cached-second (Some c) = refl

  later-some : (o : Option (Reply M D)) → is_some (later o) ≡ is_some o
  later-some None = refl
  later-some (Some r) = refl

  cached-some : (o : Option (Carried M D)) → is_some (at_once o) ≡ is_some o
  cached-some None = refl
  cached-some (Some c) = refl

-- a subscribe
abbrev pub asking : {W D : Type 0} → ℕ → W → D → Awaiting W D
asking i k d = record { place = i; waiter = k; digest = d }

pub reverse-next : {X : Type 0} (x : X) (xs : List X) → reverse (x ∷ xs) ≡ reverse xs ++ x ∷ []
reverse-next x xs = reverse-append (x ∷ []) xs

module _ {P M D : Type 0} (s : Setting P M D) where
  taking-for : (d : D) (o : Option (Taking P M D)) (c : Carried M D) → of_digest s d o ≡ true → message_of (option_map (λ x. (1, x)) (carried_by s o)) ≡ Some c
      → (carried_by s o ≡ Some c) × (s.same.digest d c.digest ≡ true)
  taking-for d None c t h = absurd (let no = t in cc)
  taking-for d (Some x) c t h = let is : x.carried ≡ c = cc in (h, ap (λ y. s.same.digest d y.digest) (sym is) ∙ t)

module _ {P M D W V : Type 0} (s : Setting P M D) where
  -- some happening takes the message
  abbrev pub IsIn : Carried M D → List (Happening P M D W V) → Type 0
  IsIn c [] = ⊥
  IsIn c (e ∷ es) = (carried_by s (taken s e) ≡ Some c) ⊎ IsIn c es

  pub in-right : (c : Carried M D) (xs ys : List (Happening P M D W V)) → IsIn c ys → IsIn c (xs ++ ys)
  in-right c [] ys h = h
  in-right c (x ∷ xs) ys h = inr (in-right c xs ys h)

  pub in-left : (c : Carried M D) (xs ys : List (Happening P M D W V)) → IsIn c xs → IsIn c (xs ++ ys)
  in-left c [] ys h = absurd h
  in-left c (x ∷ xs) ys (inl h) = inl h
  in-left c (x ∷ xs) ys (inr h) = inr (in-left c xs ys h)

  in-either : (c : Carried M D) (xs ys : List (Happening P M D W V)) → IsIn c (xs ++ ys) → IsIn c xs ⊎ IsIn c ys
  in-either c [] ys h = inr h
  in-either c (x ∷ xs) ys (inl h) = inl (inl h)
  in-either c (x ∷ xs) ys (inr h) = elim (in-either c xs ys h) [ inl k ↦ inl (inr k) | inr k ↦ inr k ]

  in-one : (c : Carried M D) (e : Happening P M D W V) (es : List (Happening P M D W V)) → IsIn c es ⊎ IsIn c (e ∷ []) → IsIn c (e ∷ es)
  in-one c e es (inl h) = inr h
  in-one c e es (inr (inl h)) = inl h
  in-one c e es (inr (inr h)) = absurd h

  pub in-reverse : (c : Carried M D) (es : List (Happening P M D W V)) → IsIn c (reverse es) → IsIn c es
  in-reverse c [] h = h
  in-reverse c (e ∷ es) h =
      let split = in-either c (reverse es) (e ∷ []) (rw (sym (reverse-next e es)) h) in
      in-one c e es (elim split [ inl k ↦ inl (in-reverse c es k) | inr k ↦ inr k ])

  -- a message that is taken, and goes by the digest
  abbrev pub IsFor : D → Carried M D → List (Happening P M D W V) → Type 0
  IsFor d c es = IsIn c es × (s.same.digest d c.digest ≡ true)

  module _ (key_laws : IsEquivalence s.same.key) (laws : IsEquivalence s.same.digest) where
    -- a digest that comes on a list is that of the taking
    listed-by : (d : D) (e : Happening P M D W V) (past : History P M D W V) (o : Option (Taking P M D)) (c : Carried M D) → taken s e ≡ o → carried_by s o ≡ Some c
        → is_listed s d (e ∷ past) ≡ true → is_listed s d past ≡ false → s.same.digest d c.digest ≡ true
    listed-by d e past None c some is h new = absurd (let no = is in cc)
    listed-by d e past (Some t) c some is h new =
        let carried : t.carried ≡ c = cc in
        ap (λ x. s.same.digest d x.digest) (sym carried) ∙ from-any (λ q. among s.same.digest d (list s q (e ∷ past))) (primary s (e ∷ past)) h (λ q there.
        let now = sym (ap (λ cs. among s.same.digest d (digests_of cs)) (charged-taken s laws q e t past some)) ∙ there in
        by_test (s.same.key q t.key && is_primary s q past)
        (λ u. by_test (s.same.digest d t.carried.digest)
        (λ v. v)
        (λ v. absurd (let no = sym new ∙ listed s key_laws d q past (listed-before s (s.same.digest d) t.carried (charged_list s q past) v (rw u at now)) in cc)))
        (λ u. absurd (let no = sym new ∙ listed s key_laws d q past (rw u at now) in cc)))

    -- a cached message was taken, and goes by its digest
    pub message-for : (d : D) (past : History P M D W V) (c : Carried M D) → message s d past ≡ Some c → IsFor d c past
    message-for d [] c h = absurd (let no = h in cc)
    message-for d (e ∷ past) c h = by_test (is_listed s d (e ∷ past))
        (λ t. by_test (is_listed s d past)
        (λ u. let was = message-for d past c (rw (t, u) at h) in (inr was.0, was.1))
        (λ u. let now = rw (t, u) at h in (inl now, listed-by d e past (taken s e) c refl now t u)))
        (λ t. absurd (let no = rw t at h in cc))

    pub reply_from-for : (a : Awaiting W D) (es : Future P M D W V) (c : Carried M D) → message_of (reply_from s a es) ≡ Some c → IsFor a.digest c es
    reply_from-for a [] c h = absurd (let no = h in cc)
    reply_from-for a (e ∷ es) c h = by_test (takes s a.digest e)
        (λ t. let it = taking-for s a.digest (taken s e) c t (rw t at h) in (inl it.0, it.1))
        (λ t. by_test (cleans s a e)
        (λ u. absurd (let no = rw (t, u) at h in cc))
        (λ u. let it = reply_from-for a es c (sym (later-second (reply_from s a es)) ∙ (rw (t, u) at h)) in (inr it.0, it.1)))

    -- so was the message of a reply
    pub reply-for : (a : Awaiting W D) (past es : History P M D W V) (c : Carried M D) → message_of (reply s a past es) ≡ Some c
        → (IsIn c past ⊎ IsIn c es) × (s.same.digest a.digest c.digest ≡ true)
    reply-for a past es c h = by_test (is_listed s a.digest past)
        (λ t. let it = message-for a.digest past c (sym (cached-second (message s a.digest past)) ∙ (rw t at h)) in (inl it.0, it.1))
        (λ t. let it = reply_from-for a es c (rw t at h) in (inr it.0, it.1))

module _ {P M D W V : Type 0} (s : Setting P M D) (hostile : P → Bool)
    (alike : (p q : P) → s.same.key p q ≡ true → hostile p ≡ hostile q) where
  -- what the second history takes, the first takes
  pub in-all : (c : Carried M D) (xs : List (Merged W V s hostile)) → IsIn s c (kept xs) → IsIn s c (all xs)
  in-all c [] h = h
  in-all c (both e k ∷ xs) (inl h) = inl h
  in-all c (both e k ∷ xs) (inr h) = inr (in-all c xs h)
  in-all c (attack p x k ∷ xs) h = inr (in-all c xs h)

  pub all-reverse : (xs : List (Merged W V s hostile)) → all (reverse xs) ≡ reverse (all xs)
  all-reverse [] = refl
  all-reverse (both e h ∷ xs) = ap all (reverse-next (both e h) xs) ∙ all-append (reverse xs) (both e h ∷ []) ∙ ap (λ es. es ++ e ∷ []) (all-reverse xs) ∙ sym (reverse-next e (all xs))
  all-reverse (attack p c h ∷ xs) = ap all (reverse-next (attack p c h) xs) ∙ all-append (reverse xs) (attack p c h ∷ []) ∙ ap (λ es. es ++ arrival p c ∷ []) (all-reverse xs) ∙ sym (reverse-next (arrival p c) (all xs))

  pub kept-reverse : (xs : List (Merged W V s hostile)) → kept (reverse xs) ≡ reverse (kept xs)
  kept-reverse [] = refl
  kept-reverse (both e h ∷ xs) = ap kept (reverse-next (both e h) xs) ∙ kept-append (reverse xs) (both e h ∷ []) ∙ ap (λ es. es ++ e ∷ []) (kept-reverse xs) ∙ sym (reverse-next e (kept xs))
  kept-reverse (attack p c h ∷ xs) = ap kept (reverse-next (attack p c h) xs) ∙ kept-append (reverse xs) (attack p c h ∷ []) ∙ append-nil (kept (reverse xs)) ∙ kept-reverse xs

  pub attacked-reverse : (d : D) (xs : List (Merged W V s hostile)) → attacked d (reverse xs) ≡ true → attacked d xs ≡ true
  attacked-reverse d [] h = h
  attacked-reverse d (both e k ∷ xs) h =
      let split = sym (attacked-append d (reverse xs) (both e k ∷ [])) ∙ sym (ap (attacked d) (reverse-next (both e k) xs)) ∙ h in
      by_test (attacked d (reverse xs)) (λ t. attacked-reverse d xs t) (λ t. absurd (let no = rw t at split in cc))
  attacked-reverse d (attack p c k ∷ xs) h =
      let split = sym (attacked-append d (reverse xs) (attack p c k ∷ [])) ∙ sym (ap (attacked d) (reverse-next (attack p c k) xs)) ∙ h in
      by_test (s.same.digest d c.digest)
      (λ u. rw u refl)
      (λ u. by_test (attacked d (reverse xs)) (λ t. rw u (attacked-reverse d xs t)) (λ t. absurd (let no = rw (t, u) at split in cc)))

  -- two subscribes that differ in their places
  module _ (i j : ℕ) (k : W) (d : D) where
    cleans-same : (e : Happening P M D W V) → IsHonest s hostile e → cleans s (asking i k d) e ≡ cleans s (asking j k d) e
    cleans-same (cleanup test) h = h i j k
    cleans-same (peers ps) h = refl
    cleans-same (broadcast r c) h = refl
    cleans-same (arrival p c) h = refl
    cleans-same (subscribe w x) h = refl
    cleans-same (get v x) h = refl

    pub cleaned-same : (es : List (Merged W V s hostile)) → list_any (cleans s (asking i k d)) (all es) ≡ list_any (cleans s (asking j k d)) (kept es)
    cleaned-same [] = refl
    cleaned-same (both e h ∷ es) = rw (cleans-same e h, cleaned-same es) refl
    cleaned-same (attack p c h ∷ es) = cleaned-same es

    -- a reply that comes in the second comes in the first
    reply_from-kept : (es : List (Merged W V s hostile)) → is_some (reply_from s (asking j k d) (kept es)) ≡ true → is_some (reply_from s (asking i k d) (all es)) ≡ true
    reply_from-kept [] h = absurd (let no = h in cc)
    reply_from-kept (both e x ∷ es) h = by_test (takes s d e)
        (λ t. rw t (rw t at h))
        (λ t. by_test (cleans s (asking j k d) e)
        (λ u. absurd (let no = rw (t, u) at h in cc))
        (λ u. rw (t, cleans-same e x ∙ u) (later-some (reply_from s (asking i k d) (all es)) ∙ reply_from-kept es (sym (later-some (reply_from s (asking j k d) (kept es))) ∙ (rw (t, u) at h)))))
    reply_from-kept (attack p c x ∷ es) h = by_test (s.same.digest d c.digest)
        (λ t. rw t refl)
        (λ t. rw t (later-some (reply_from s (asking i k d) (all es)) ∙ reply_from-kept es h))

    -- one that comes in the first alone is for what a hostile key brought
    reply_from-added : (es : List (Merged W V s hostile)) → is_some (reply_from s (asking i k d) (all es)) ≡ true → is_some (reply_from s (asking j k d) (kept es)) ≡ false → attacked d es ≡ true
    reply_from-added [] h none = absurd (let no = h in cc)
    reply_from-added (both e x ∷ es) h none = by_test (takes s d e)
        (λ t. absurd (let no = sym (rw t at h) ∙ (rw t at none) in cc))
        (λ t. by_test (cleans s (asking j k d) e)
        (λ u. absurd (let no = rw (t, cleans-same e x ∙ u) at h in cc))
        (λ u. reply_from-added es (sym (later-some (reply_from s (asking i k d) (all es))) ∙ (rw (t, cleans-same e x ∙ u) at h)) (sym (later-some (reply_from s (asking j k d) (kept es))) ∙ (rw (t, u) at none))))
    reply_from-added (attack p c x ∷ es) h none = by_test (s.same.digest d c.digest)
        (λ t. rw t refl)
        (λ t. rw t (reply_from-added es (sym (later-some (reply_from s (asking i k d) (all es))) ∙ (rw t at h)) none))

    module _ (key_laws : IsEquivalence s.same.key) where
      reply-listed : (a : Awaiting W D) (past es : History P M D W V) → is_listed s a.digest past ≡ true → is_some (reply s a past es) ≡ true
      reply-listed a past es h = rw h (cached-some (message s a.digest past) ∙ message-some s key_laws a.digest past h)

      reply-unlisted : (a : Awaiting W D) (past es : History P M D W V) → is_listed s a.digest past ≡ false → is_some (reply s a past es) ≡ is_some (reply_from s a es)
      reply-unlisted a past es h = rw h refl

      pub reply-kept : (xs es : List (Merged W V s hostile)) → is_some (reply s (asking j k d) (kept xs) (kept es)) ≡ true → is_some (reply s (asking i k d) (all xs) (all es)) ≡ true
      reply-kept xs es h = by_test (is_listed s d (all xs))
          (λ t. reply-listed (asking i k d) (all xs) (all es) t)
          (λ t. by_test (is_listed s d (kept xs))
          (λ u. absurd (let no = sym t ∙ listed-kept W V s hostile alike d xs u in cc))
          (λ u. reply-unlisted (asking i k d) (all xs) (all es) t ∙ reply_from-kept es (sym (reply-unlisted (asking j k d) (kept xs) (kept es) u) ∙ h)))

      pub reply-added : (xs es : List (Merged W V s hostile)) → is_some (reply s (asking i k d) (all xs) (all es)) ≡ true → is_some (reply s (asking j k d) (kept xs) (kept es)) ≡ false → (attacked d es || attacked d xs) ≡ true
      reply-added xs es h none = by_test (is_listed s d (kept xs))
          (λ u. absurd (let no = sym none ∙ reply-listed (asking j k d) (kept xs) (kept es) u in cc))
          (λ u. by_test (is_listed s d (all xs))
          (λ t. let it = listed-added W V s hostile alike d xs t u in by_test (attacked d es) (λ v. rw v refl) (λ v. rw v it))
          (λ t. rw (reply_from-added es (sym (reply-unlisted (asking i k d) (all xs) (all es) t) ∙ h) (sym (reply-unlisted (asking j k d) (kept xs) (kept es) u) ∙ none)) refl))

      pub waits-kept : (xs es : List (Merged W V s hostile)) → waits s (asking i k d) (all xs) (all es) ≡ true → waits s (asking j k d) (kept xs) (kept es) ≡ true
      waits-kept xs es h =
          let parts = and_both (is_none (reply s (asking i k d) (all xs) (all es))) (not (list_any (cleans s (asking i k d)) (all es))) h in
          let unanswered : not (is_some (reply s (asking i k d) (all xs) (all es))) ≡ true = sym (is_none-some (reply s (asking i k d) (all xs) (all es))) ∙ parts.0 in
          by_test (is_some (reply s (asking j k d) (kept xs) (kept es)))
          (λ t. absurd (let no = sym (ap not (reply-kept xs es t)) ∙ unanswered in cc))
          (λ t. rw (is_none-some (reply s (asking j k d) (kept xs) (kept es)), t) (ap not (sym (cleaned-same es)) ∙ parts.1))
