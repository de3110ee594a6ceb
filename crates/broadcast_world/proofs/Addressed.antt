-- The nodes that a broadcast is addressed to, one key after the other.
use Rattle.std.proofs.Common.{◌≡◌, ℕ, ◌+◌, ◌<◌, Bool, true, false, ◌||◌, if◌then◌else◌, List, [], ◌∷◌, ◌++◌, length, take, get_or, Some, None, refl, sym, ap, ◌∙◌, subst, append-nil}
use Rattle.std.specs.List.{AllByRecursion, IsDistinct, filter_map, find, list_any}
use Rattle.std.proofs.lemmas.List.{take_more}
use Rattle.std.specs.Cmp.{IsEquivalence, IsTotalOrder, eq_by_cmp_equiv}
use Rattle.std.specs.Ordering.{eq_by_cmp}
use Rattle.std.specs.declared.cmp.Ordering.{Ordering}
use Rattle.std.proofs.lemmas.List.Elements.{filter_map-append}
use Rattle.broadcast_core.specs.Content.{first_places, without}
use Rattle.broadcast_core.proofs.Distinct.{among-head, by_test, IsDistinct-rest, without-absent}
use Rattle.broadcast_world.specs.Scene.{Scene}
use Rattle.broadcast_world.specs.Packet.{Packet}
use Rattle.broadcast_core.specs.Concerns.{AreEqual}
use Rattle.broadcast_world.specs.Steps.{AreCopies}
use Rattle.broadcast_world.proofs.Places.{AllZip-append, map_next}
use Rattle.broadcast_world.specs.World.{addressed_of, node, packets_to}

module _ {P : Type 0} (same : P → P → Bool) where
  without-push : (n x : P) (xs : List P) → without same n (xs ++ x ∷ []) ≡ without same n xs ++ (if same n x then [] else x ∷ [])
  without-push n x [] = by_test (same n x) (λ t. rw t refl) (λ t. rw t refl)
  without-push n x (d ∷ ds) = by_test (same n d)
      (λ t. rw t (without-push n x ds))
      (λ t. rw t (ap (λ zs. d ∷ zs) (without-push n x ds)))

module _ {P : Type 0} (same : P → P → Bool) (laws : IsEquivalence same) where
  is_in : P → List P → Bool
  is_in x xs = list_any (λ d. same d x) xs

  any_without : (n x : P) (xs : List P) → same n x ≡ false → list_any (λ d. same d x) (without same n xs) ≡ list_any (λ d. same d x) xs
  any_without n x [] h = refl
  any_without n x (d ∷ ds) h = by_test (same n d)
      (λ t. let other : same d x ≡ false = sym (laws.congr n d x t) ∙ h in rw (t, other) (any_without n x ds h))
      (λ t. rw t (ap (λ b. same d x || b) (any_without n x ds h)))

  any_first : (x : P) (xs : List P) → list_any (λ d. same d x) (first_places same xs) ≡ list_any (λ d. same d x) xs
  any_first x [] = refl
  any_first x (d ∷ ds) = by_test (same d x)
      (λ t. rw t refl)
      (λ t. rw t (any_without d x (first_places same ds) t ∙ any_first x ds))

  -- one more at the end
  first-push : (x : P) (xs : List P) → first_places same (xs ++ x ∷ []) ≡ first_places same xs ++ (if list_any (λ d. same d x) xs then [] else x ∷ [])
  first-push x [] = refl
  first-push x (d ∷ ds) = by_test (list_any (λ e. same e x) ds)
      (λ t. by_test (same d x)
      (λ u. rw (first-push x ds, t, u) (ap (λ zs. d ∷ without same d zs) (append-nil (first_places same ds)) ∙ sym (append-nil (d ∷ without same d (first_places same ds)))))
      (λ u. rw (first-push x ds, t, u) (ap (λ zs. d ∷ without same d zs) (append-nil (first_places same ds)) ∙ sym (append-nil (d ∷ without same d (first_places same ds))))))
      (λ t. by_test (same d x)
      (λ u. rw (first-push x ds, t, u) (ap (λ zs. d ∷ zs) (without-push same d x (first_places same ds) ∙ rw u refl)))
      (λ u. rw (first-push x ds, t, u) (ap (λ zs. d ∷ zs) (without-push same d x (first_places same ds) ∙ rw u refl))))

  -- a key that is the sender's, or there already, changes nothing
  pub addressed-sender : (n x : P) (xs : List P) → same n x ≡ true → without same n (first_places same (xs ++ x ∷ [])) ≡ without same n (first_places same xs)
  addressed-sender n x xs h = by_test (list_any (λ d. same d x) xs)
      (λ t. rw (first-push x xs, t) (ap (without same n) (append-nil (first_places same xs))))
      (λ t. rw (first-push x xs, t) (without-push same n x (first_places same xs) ∙ rw h (append-nil (without same n (first_places same xs)))))

  found : (n x : P) (xs : List P) → same n x ≡ false → list_any (λ d. same d x) (without same n (first_places same xs)) ≡ list_any (λ d. same d x) xs
  found n x xs h = any_without n x (first_places same xs) h ∙ any_first x xs

  pub addressed-again : (n x : P) (xs : List P) → same n x ≡ false → list_any (λ d. same d x) (without same n (first_places same xs)) ≡ true
      → without same n (first_places same (xs ++ x ∷ [])) ≡ without same n (first_places same xs)
  addressed-again n x xs h again =
      let t : list_any (λ d. same d x) xs ≡ true = sym (found n x xs h) ∙ again in
      rw (first-push x xs, t) (ap (without same n) (append-nil (first_places same xs)))

  pub addressed-new : (n x : P) (xs : List P) → same n x ≡ false → list_any (λ d. same d x) (without same n (first_places same xs)) ≡ false
      → without same n (first_places same (xs ++ x ∷ [])) ≡ without same n (first_places same xs) ++ x ∷ []
  addressed-new n x xs h fresh =
      let t : list_any (λ d. same d x) xs ≡ false = sym (found n x xs h) ∙ fresh in
      rw (first-push x xs, t) (without-push same n x (first_places same xs) ∙ rw h refl)

module _ {P : Type 0} (same : P → P → Bool) where
  found-each : (all ps : List P) → AllByRecursion (λ p. find (same p) all ≡ Some p) ps → filter_map (λ p. find (same p) all) ps ≡ ps
  found-each all [] h = refl
  found-each all (p ∷ ps) h = rw h.0 (ap (λ qs. p ∷ qs) (found-each all ps h.1))

  module _ (laws : IsEquivalence same) where
    find-later : (x : P) (keys ps : List P) → AllByRecursion (λ p. same x p ≡ false) ps → AllByRecursion (λ p. find (same p) keys ≡ Some p) ps
        → AllByRecursion (λ p. find (same p) (x ∷ keys) ≡ Some p) ps
    find-later x keys [] apart h = tt
    find-later x keys (p ∷ ps) apart h = (rw (laws.symm p x ∙ apart.0) h.0, find-later x keys ps apart.1 h.1)

    -- each of distinct keys is found by itself
    find-each : (keys : List P) → IsDistinct same keys → AllByRecursion (λ p. find (same p) keys ≡ Some p) keys
    unfolding IsDistinct
    find-each [] apart = tt
    find-each (x ∷ keys) apart = (rw (laws.refl x) refl, find-later x keys keys apart.0 (find-each keys apart.1))

    first_places-apart : (keys : List P) → IsDistinct same keys → first_places same keys ≡ keys
    first_places-apart [] apart = refl
    first_places-apart (x ∷ keys) apart = rw (first_places-apart keys (IsDistinct-rest laws x keys apart)) (ap (λ ks. x ∷ ks) (without-absent laws x keys (among-head laws x keys apart)))

  -- one more key, unless it is left out
  pub without-next : (n x : P) (keys : List P) (i : ℕ) → i < length keys → x ≡ get_or keys i x → without same n (take (i + 1) keys) ≡ without same n (take i keys) ++ (if same n x then [] else x ∷ [])
  without-next n x keys i within is =
      ap (without same n) (take_more keys i x within ∙ ap (λ y. take i keys ++ y ∷ []) (sym is)) ∙ without-push same n x (take i keys)

module _ {P : Type 0} (cmp : P → P → Ordering) (w : Scene P) where
  -- a key that names no node
  pub addressed-none : (n key : P) (keys : List P) → node cmp w key ≡ None → addressed_of cmp w n (keys ++ key ∷ []) ≡ addressed_of cmp w n keys
  addressed-none n key keys h =
      rw (filter_map-append (node cmp w) keys (key ∷ []), h) (ap (λ ps. without (eq_by_cmp cmp) n (first_places (eq_by_cmp cmp) ps)) (append-nil (filter_map (node cmp w) keys)))

  -- a key that names one
  pub addressed-some : (n key x : P) (keys : List P) → node cmp w key ≡ Some x
      → addressed_of cmp w n (keys ++ key ∷ []) ≡ without (eq_by_cmp cmp) n (first_places (eq_by_cmp cmp) (filter_map (node cmp w) keys ++ x ∷ []))
  addressed-some n key x keys h = rw (filter_map-append (node cmp w) keys (key ∷ []), h) refl

  -- all nodes are addressed but the sender
  pub addressed-all : IsTotalOrder cmp → IsDistinct (eq_by_cmp cmp) w.nodes → (n : P) → addressed_of cmp w n w.nodes ≡ without (eq_by_cmp cmp) n w.nodes
  addressed-all total apart n =
      let laws = eq_by_cmp_equiv total in
      ap (λ ps. without (eq_by_cmp cmp) n (first_places (eq_by_cmp cmp) ps)) (found-each (eq_by_cmp cmp) w.nodes w.nodes (find-each (eq_by_cmp cmp) laws w.nodes apart))
      ∙ ap (without (eq_by_cmp cmp) n) (first_places-apart (eq_by_cmp cmp) laws w.nodes apart)

  -- one packet more
  pub packets-push : (n : P) (bytes : List ℕ) (nodes : List P) (i : ℕ) {node : P} (old : List (Packet P)) (packet : Packet P) → i < length nodes → node ≡ get_or nodes i node
      → AreCopies cmp old (packets_to cmp w n (take i nodes) (Some bytes)) → AreCopies cmp (packet ∷ []) (packets_to cmp w n (node ∷ []) (Some bytes))
      → AreCopies cmp (old ++ packet ∷ []) (packets_to cmp w n (take (i + 1) nodes) (Some bytes))
  packets-push n bytes nodes i old packet within read were is =
      let made : P → Packet P = λ p. record { sender = n; addressee = p; bytes = bytes } in
      subst (λ ps. AreCopies cmp (old ++ packet ∷ []) ps) (sym (map_next made nodes i _ within read)) (AllZip-append _ old _ (packet ∷ []) _ were is)

  -- packets for copies of keys
  pub packets-copied : IsTotalOrder cmp → (n : P) (bytes : List ℕ) (packets : List (Packet P)) (copies given : List P) → AreCopies cmp packets (packets_to cmp w n copies (Some bytes)) → AreEqual (eq_by_cmp cmp) copies given
      → AreCopies cmp packets (packets_to cmp w n given (Some bytes))
  packets-copied total n bytes [] [] [] h is = tt
  packets-copied total n bytes [] [] (q ∷ given) h is = absurd is
  packets-copied total n bytes [] (p ∷ copies) given h is = absurd h
  packets-copied total n bytes (x ∷ packets) [] given h is = absurd h
  packets-copied total n bytes (x ∷ packets) (p ∷ copies) [] h is = absurd is
  packets-copied total n bytes (x ∷ packets) (p ∷ copies) (q ∷ given) h is =
      let laws = eq_by_cmp_equiv total in
      ((h.0.0, laws.congr x.addressee p q h.0.1 ∙ is.0, h.0.2), packets-copied total n bytes packets copies given h.1 is.1)

  -- equal keys are among equal keys alike
  pub any-copied : IsTotalOrder cmp → (x : P) (copies given : List P) → AreEqual (eq_by_cmp cmp) copies given → list_any (λ k. eq_by_cmp cmp k x) copies ≡ list_any (λ k. eq_by_cmp cmp k x) given
  any-copied total x [] [] is = refl
  any-copied total x [] (q ∷ given) is = absurd is
  any-copied total x (p ∷ copies) [] is = absurd is
  any-copied total x (p ∷ copies) (q ∷ given) is = rw ((eq_by_cmp_equiv total).congr p q x is.0, any-copied total x copies given is.1) refl
