-- Histories that are the same but for equal keys.
use Rattle.std.proofs.Common.{◌≡◌, ℕ, suc, Bool, true, if◌then◌else◌, List, [], ◌∷◌, length, map, Option, Some, None, Result, Ok, Err, refl, ap, ◌∙◌}
use Rattle.std.specs.Prelude.{IsTrue, ◌==◌}
use Rattle.std.specs.List.{AllZip, count_by, list_any}
use Rattle.std.specs.Cmp.{IsEquivalence, IsTotalOrder, eq_by_cmp_equiv}
use Rattle.std.specs.Ordering.{eq_by_cmp}
use Rattle.std.specs.declared.cmp.Ordering.{Ordering}
use Rattle.broadcast_core.specs.Carried.{Carried}
use Rattle.broadcast_core.specs.Content.{among, digests_of}
use Rattle.broadcast_core.specs.Company.{stayed}
use Rattle.std.specs.Option.{option_to_list}
use Rattle.broadcast_core.specs.Setting.{own_digested, whole}
use Rattle.broadcast_core.specs.TestMessage.{Parts, encoding_of, read_message}
use Rattle.broadcast_core.specs.Happening.{Happening, Future, peers, broadcast, arrival, subscribe, get, cleanup, taken, takes, carried_by}
use Rattle.broadcast_core.specs.Peers.{primary, is_primary, since}
use Rattle.broadcast_core.specs.Lists.{charged, charged_list, digest_under, digests_under, list, outcome}
use Rattle.broadcast_core.specs.Cache.{is_listed, message}
use Rattle.broadcast_core.specs.Waiting.{Awaiting, cleans, reply_from, reply, waits, comes_after, subscribes, waiting, replied_at}
use Rattle.broadcast_core.specs.Answers.{answer_to, answer_to_taking, answer_to_broadcast, answer_to_payload, answer_to_subscribe, may_allocate}
use Rattle.broadcast_core.specs.Log.{after, arrived}
use Rattle.broadcast_core.specs.declared.codec.CodecError.{CodecError}
use Rattle.broadcast_core.specs.declared.event.Event.TheVariants.{Peers, Broadcast, Payload, Subscribe, Get, Cleanup}
use Rattle.broadcast_core.specs.declared.event.Answer.TheVariants as answer
use Rattle.broadcast_core.specs.declared.ordered.Recipients.{Recipients}
use Rattle.broadcast_core.proofs.Distinct.{by_test, list_any-same}
use Rattle.broadcast_core.proofs.Listing.{list-equal, is_primary-equal}
use Rattle.broadcast_world.specs.Scene.{Scene}
use Rattle.broadcast_world.specs.World.{NodeEvent, NodeHistory, at, may_be_refused}

-- a happening, and the same with equal keys
pub data Twin {P : Type 0} (same : P → P → Bool) : Type 0 where
  twin_peers : (ps qs : List P) → AllZip (λ p q. IsTrue (same p q)) ps qs → Twin same
  twin_arrival : (p q : P) → IsTrue (same p q) → Carried Parts (List ℕ) → Twin same
  twin_broadcast : Recipients P → Carried Parts (List ℕ) → Twin same
  twin_subscribe : ℕ → List ℕ → Twin same
  twin_get : ℕ → List ℕ → Twin same
  twin_cleanup : (ℕ → ℕ → Bool) → Twin same

module _ {P : Type 0} {same : P → P → Bool} where
  abbrev pub given : Twin same → Happening P Parts (List ℕ) ℕ ℕ
  given (twin_peers ps qs h) = peers ps
  given (twin_arrival p q h c) = arrival p c
  given (twin_broadcast r c) = broadcast r c
  given (twin_subscribe k d) = subscribe k d
  given (twin_get k d) = get k d
  given (twin_cleanup test) = cleanup test

  abbrev pub kept : Twin same → Happening P Parts (List ℕ) ℕ ℕ
  kept (twin_peers ps qs h) = peers qs
  kept (twin_arrival p q h c) = arrival q c
  kept (twin_broadcast r c) = broadcast r c
  kept (twin_subscribe k d) = subscribe k d
  kept (twin_get k d) = get k d
  kept (twin_cleanup test) = cleanup test

module _ {P : Type 0} {same : P → P → Bool} (laws : IsEquivalence same) where
  same_right : (p x y : P) → same x y ≡ true → same p x ≡ same p y
  same_right p x y h = laws.symm p x ∙ laws.congr x y p h ∙ laws.symm y p

  -- a test that equal keys pass alike
  any-zip : (test : P → Bool) → ((x y : P) → same x y ≡ true → test x ≡ test y) → (ps qs : List P) → AllZip (λ p q. IsTrue (same p q)) ps qs → list_any test ps ≡ list_any test qs
  any-zip test f [] [] h = refl
  any-zip test f [] (q ∷ qs) h = absurd h
  any-zip test f (p ∷ ps) [] h = absurd h
  any-zip test f (p ∷ ps) (q ∷ qs) h = rw (f p q h.0, any-zip test f ps qs h.1) refl

module _ {P : Type 0} (cmp : P → P → Ordering) (total : IsTotalOrder cmp) (w : Scene P) (n k : P) (own : eq_by_cmp cmp n k ≡ true) where
  pub primary-twin : (xs : List (Twin (eq_by_cmp cmp))) → AllZip (λ p q. IsTrue (eq_by_cmp cmp p q)) (primary (at cmp w n) (map given xs)) (primary (at cmp w k) (map kept xs))
  primary-twin [] = tt
  primary-twin (twin_peers ps qs h ∷ xs) = h
  primary-twin (twin_arrival p q h c ∷ xs) = primary-twin xs
  primary-twin (twin_broadcast r c ∷ xs) = primary-twin xs
  primary-twin (twin_subscribe i d ∷ xs) = primary-twin xs
  primary-twin (twin_get i d ∷ xs) = primary-twin xs
  primary-twin (twin_cleanup test ∷ xs) = primary-twin xs

  is_primary-twin : (p : P) (xs : List (Twin (eq_by_cmp cmp))) → is_primary (at cmp w n) p (map given xs) ≡ is_primary (at cmp w k) p (map kept xs)
  is_primary-twin p xs = any-zip (eq_by_cmp_equiv total) (eq_by_cmp cmp p) (λ x y h. same_right (eq_by_cmp_equiv total) p x y h) (primary (at cmp w n) (map given xs)) (primary (at cmp w k) (map kept xs)) (primary-twin xs)

  under-twin : (p : P) (x : Twin (eq_by_cmp cmp)) → digest_under (at cmp w n) p (taken (at cmp w n) (given x)) ≡ digest_under (at cmp w k) p (taken (at cmp w k) (kept x))
  under-twin p (twin_peers ps qs h) = refl
  under-twin p (twin_arrival x y h c) = ap (λ b. if b then option_to_list (charged (at cmp w k) c) else []) (same_right (eq_by_cmp_equiv total) p x y h)
  under-twin p (twin_broadcast r c) = ap (λ b. if b then option_to_list (charged (at cmp w k) c) else []) (same_right (eq_by_cmp_equiv total) p n k own)
  under-twin p (twin_subscribe i d) = refl
  under-twin p (twin_get i d) = refl
  under-twin p (twin_cleanup test) = refl

  since-twin : (p : P) (xs : List (Twin (eq_by_cmp cmp))) → digests_under (at cmp w n) p (since (at cmp w n) p (map given xs)) ≡ digests_under (at cmp w k) p (since (at cmp w k) p (map kept xs))
  since-twin p [] = refl
  since-twin p (x ∷ xs) = by_test (is_primary (at cmp w k) p (map kept (x ∷ xs)))
      (λ t. rw (is_primary-twin p (x ∷ xs) ∙ t, t) (rw (under-twin p x, since-twin p xs) refl))
      (λ t. rw (is_primary-twin p (x ∷ xs) ∙ t, t) refl)

  pub charged-twin : (p : P) (xs : List (Twin (eq_by_cmp cmp))) → charged_list (at cmp w n) p (map given xs) ≡ charged_list (at cmp w k) p (map kept xs)
  charged-twin p xs = ap (stayed (at cmp w n).same.digest w.deque_size w.byte_budget) (since-twin p xs)

  pub list-twin : (p : P) (xs : List (Twin (eq_by_cmp cmp))) → list (at cmp w n) p (map given xs) ≡ list (at cmp w k) p (map kept xs)
  list-twin p xs = ap digests_of (charged-twin p xs)

  listed-twin : (d : List ℕ) (xs : List (Twin (eq_by_cmp cmp))) → is_listed (at cmp w n) d (map given xs) ≡ is_listed (at cmp w k) d (map kept xs)
  listed-twin d xs =
      list_any-same (λ p. among (at cmp w n).same.digest d (list (at cmp w n) p (map given xs))) (λ p. among (at cmp w n).same.digest d (list (at cmp w k) p (map kept xs))) (primary (at cmp w n) (map given xs))
      (λ p. ap (among (at cmp w n).same.digest d) (list-twin p xs))
      ∙ any-zip (eq_by_cmp_equiv total) (λ p. among (at cmp w n).same.digest d (list (at cmp w k) p (map kept xs)))
      (λ x y h. ap (among (at cmp w n).same.digest d) (list-equal (at cmp w k) (eq_by_cmp_equiv total) x y (map kept xs) h))
      (primary (at cmp w n) (map given xs)) (primary (at cmp w k) (map kept xs)) (primary-twin xs)

  carried-twin : (x : Twin (eq_by_cmp cmp)) → carried_by (at cmp w n) (taken (at cmp w n) (given x)) ≡ carried_by (at cmp w k) (taken (at cmp w k) (kept x))
  carried-twin (twin_peers ps qs h) = refl
  carried-twin (twin_arrival x y h c) = refl
  carried-twin (twin_broadcast r c) = refl
  carried-twin (twin_subscribe i d) = refl
  carried-twin (twin_get i d) = refl
  carried-twin (twin_cleanup test) = refl

  takes-twin : (d : List ℕ) (x : Twin (eq_by_cmp cmp)) → takes (at cmp w n) d (given x) ≡ takes (at cmp w k) d (kept x)
  takes-twin d (twin_peers ps qs h) = refl
  takes-twin d (twin_arrival x y h c) = refl
  takes-twin d (twin_broadcast r c) = refl
  takes-twin d (twin_subscribe i e) = refl
  takes-twin d (twin_get i e) = refl
  takes-twin d (twin_cleanup test) = refl

  cleans-twin : (a : Awaiting ℕ (List ℕ)) (x : Twin (eq_by_cmp cmp)) → cleans (at cmp w n) a (given x) ≡ cleans (at cmp w k) a (kept x)
  cleans-twin a (twin_peers ps qs h) = refl
  cleans-twin a (twin_arrival x y h c) = refl
  cleans-twin a (twin_broadcast r c) = refl
  cleans-twin a (twin_subscribe i e) = refl
  cleans-twin a (twin_get i e) = refl
  cleans-twin a (twin_cleanup test) = refl

  pub message-twin : (d : List ℕ) (xs : List (Twin (eq_by_cmp cmp))) → message (at cmp w n) d (map given xs) ≡ message (at cmp w k) d (map kept xs)
  message-twin d [] = refl
  message-twin d (x ∷ xs) = rw (listed-twin d (x ∷ xs), listed-twin d xs, message-twin d xs, carried-twin x) refl

  reply_from-twin : (a : Awaiting ℕ (List ℕ)) (es : List (Twin (eq_by_cmp cmp))) → reply_from (at cmp w n) a (map given es) ≡ reply_from (at cmp w k) a (map kept es)
  reply_from-twin a [] = refl
  reply_from-twin a (x ∷ es) = rw (takes-twin a.digest x, carried-twin x, cleans-twin a x, reply_from-twin a es) refl

  reply-twin : (a : Awaiting ℕ (List ℕ)) (xs es : List (Twin (eq_by_cmp cmp))) → reply (at cmp w n) a (map given xs) (map given es) ≡ reply (at cmp w k) a (map kept xs) (map kept es)
  reply-twin a xs es = rw (listed-twin a.digest xs, message-twin a.digest xs, reply_from-twin a es) refl

  cleaned-twin : (a : Awaiting ℕ (List ℕ)) (es : List (Twin (eq_by_cmp cmp))) → list_any (cleans (at cmp w n) a) (map given es) ≡ list_any (cleans (at cmp w k) a) (map kept es)
  cleaned-twin a [] = refl
  cleaned-twin a (x ∷ es) = rw (cleans-twin a x, cleaned-twin a es) refl

  waits-twin : (a : Awaiting ℕ (List ℕ)) (xs es : List (Twin (eq_by_cmp cmp))) → waits (at cmp w n) a (map given xs) (map given es) ≡ waits (at cmp w k) a (map kept xs) (map kept es)
  waits-twin a xs es = rw (reply-twin a xs es, cleaned-twin a es) refl

  lengths : (xs : List (Twin (eq_by_cmp cmp))) → length (map given xs) ≡ length (map kept xs)
  lengths [] = refl
  lengths (x ∷ xs) = ap suc (lengths xs)

  -- subscribes that pass tests which agree
  subscribes-twin : (f g : Awaiting ℕ (List ℕ) → NodeHistory P → Future P Parts (List ℕ) ℕ ℕ → Bool)
      → ((a : Awaiting ℕ (List ℕ)) (xs es : List (Twin (eq_by_cmp cmp))) → f a (map given xs) (map given es) ≡ g a (map kept xs) (map kept es))
      → (es xs : List (Twin (eq_by_cmp cmp))) → subscribes (at cmp w n) f (map given es) (map given xs) ≡ subscribes (at cmp w k) g (map kept es) (map kept xs)
  subscribes-twin f g h es [] = refl
  subscribes-twin f g h es (twin_peers ps qs e ∷ xs) = subscribes-twin f g h (twin_peers ps qs e ∷ es) xs
  subscribes-twin f g h es (twin_arrival x y e c ∷ xs) = subscribes-twin f g h (twin_arrival x y e c ∷ es) xs
  subscribes-twin f g h es (twin_broadcast r c ∷ xs) = subscribes-twin f g h (twin_broadcast r c ∷ es) xs
  subscribes-twin f g h es (twin_subscribe i d ∷ xs) =
      rw (subscribes-twin f g h (twin_subscribe i d ∷ es) xs, h (record { place = length (map given xs); waiter = i; digest = d }) (twin_subscribe i d ∷ xs) es, lengths xs) refl
  subscribes-twin f g h es (twin_get i d ∷ xs) = subscribes-twin f g h (twin_get i d ∷ es) xs
  subscribes-twin f g h es (twin_cleanup test ∷ xs) = subscribes-twin f g h (twin_cleanup test ∷ es) xs

  pub waiting-twin : (xs : List (Twin (eq_by_cmp cmp))) → waiting (at cmp w n) (map given xs) ≡ waiting (at cmp w k) (map kept xs)
  waiting-twin xs = subscribes-twin (waits (at cmp w n)) (waits (at cmp w k)) waits-twin [] xs

  pub replied-twin : (x : Twin (eq_by_cmp cmp)) (xs : List (Twin (eq_by_cmp cmp))) → replied_at (at cmp w n) (given x) (map given xs) ≡ replied_at (at cmp w k) (kept x) (map kept xs)
  replied-twin x xs = subscribes-twin
      (λ a b es. comes_after (length es) (reply (at cmp w n) a b es)) (λ a b es. comes_after (length es) (reply (at cmp w k) a b es))
      (λ a b es. rw (lengths es, reply-twin a b es) refl) (x ∷ []) xs

  pub outcome-twin : (p q : P) (c : Carried Parts (List ℕ)) (xs : List (Twin (eq_by_cmp cmp))) → IsTrue (eq_by_cmp cmp p q) → outcome (at cmp w n) p c (map given xs) ≡ outcome (at cmp w k) q c (map kept xs)
  outcome-twin p q c xs h =
      rw (is_primary-twin p xs ∙ is_primary-equal (at cmp w k) (eq_by_cmp_equiv total) p q (map kept xs) h, list-twin p xs ∙ list-equal (at cmp w k) (eq_by_cmp_equiv total) p q (map kept xs) h) refl

  -- a taking is answered the same
  taking-twin : (p q : P) (x : Twin (eq_by_cmp cmp)) (c : Carried Parts (List ℕ)) (xs : List (Twin (eq_by_cmp cmp))) → IsTrue (eq_by_cmp cmp p q)
      → answer_to_taking (at cmp w n) p c (given x) (map given xs) ≡ answer_to_taking (at cmp w k) q c (kept x) (map kept xs)
  taking-twin p q x c xs h = rw (outcome-twin p q c xs h, replied-twin x xs) refl

-- an event, and the same with equal keys
pub data TwinEvent {P : Type 0} (same : P → P → Bool) : Type 0 where
  event_peers : (ps qs : List P) → AllZip (λ p q. IsTrue (same p q)) ps qs → TwinEvent same
  event_payload : (p q : P) → IsTrue (same p q) → List ℕ → TwinEvent same
  event_broadcast : Recipients P → Carried Parts (List ℕ) → TwinEvent same
  event_subscribe : ℕ → List ℕ → TwinEvent same
  event_get : ℕ → List ℕ → TwinEvent same
  event_cleanup : List ℕ → TwinEvent same

module _ {P : Type 0} {same : P → P → Bool} where
  abbrev pub given_event : TwinEvent same → NodeEvent P
  given_event (event_peers ps qs h) = Peers ps
  given_event (event_payload p q h b) = Payload p b
  given_event (event_broadcast r c) = Broadcast r c
  given_event (event_subscribe i d) = Subscribe i d
  given_event (event_get i d) = Get i d
  given_event (event_cleanup gone) = Cleanup gone

  abbrev pub kept_event : TwinEvent same → NodeEvent P
  kept_event (event_peers ps qs h) = Peers qs
  kept_event (event_payload p q h b) = Payload q b
  kept_event (event_broadcast r c) = Broadcast r c
  kept_event (event_subscribe i d) = Subscribe i d
  kept_event (event_get i d) = Get i d
  kept_event (event_cleanup gone) = Cleanup gone

module _ {P : Type 0} (cmp : P → P → Ordering) (total : IsTotalOrder cmp) (w : Scene P) (n k : P) (own : eq_by_cmp cmp n k ≡ true) (xs : List (Twin (eq_by_cmp cmp))) where
  broadcast-answer : (r : Recipients P) (c : Carried Parts (List ℕ)) (o : Option (List ℕ)) → answer_to_broadcast (at cmp w n) r c o (map given xs) ≡ answer_to_broadcast (at cmp w k) r c o (map kept xs)
  broadcast-answer r c None = refl
  broadcast-answer r c (Some bytes) = taking-twin cmp total w n k own n k (twin_broadcast r c) c xs own

  payload-answer : (p q : P) (h : IsTrue (eq_by_cmp cmp p q)) (r : Result Parts CodecError) → answer_to_payload (at cmp w n) p r (map given xs) ≡ answer_to_payload (at cmp w k) q r (map kept xs)
  payload-answer p q h (Ok m) = taking-twin cmp total w n k own p q (twin_arrival p q h (own_digested (at cmp w n) m)) (own_digested (at cmp w n) m) xs h
  payload-answer p q h (Err why) = refl

  pub answer-twin : (e : TwinEvent (eq_by_cmp cmp)) → answer_to (at cmp w n) (given_event e) (map given xs) ≡ answer_to (at cmp w k) (kept_event e) (map kept xs)
  answer-twin (event_peers ps qs h) = refl
  answer-twin (event_payload p q h b) = payload-answer p q h (whole (read_message w.range) b)
  answer-twin (event_broadcast r c) = broadcast-answer r c (encoding_of c.message)
  answer-twin (event_subscribe i d) = ap (λ m. answer_to_subscribe (at cmp w n) m) (message-twin cmp total w n k own d (twin_subscribe i d ∷ xs))
  answer-twin (event_get i d) = ap (λ m. answer.Got m) (message-twin cmp total w n k own d (twin_get i d ∷ xs))
  answer-twin (event_cleanup gone) = ap (λ ws. answer.Removed (count_by (λ a. list_any (λ x. a.waiter == x) gone) ws)) (waiting-twin cmp total w n k own xs)

  -- an event that may be refused for one may be for the other
  pub refusable-twin : (e : TwinEvent (eq_by_cmp cmp)) → IsTrue (may_allocate (at cmp w k) (kept_event e) (map kept xs)) → IsTrue (may_be_refused cmp w n (given_event e) (map given xs))
  refusable-twin (event_peers ps qs h) m = refl
  refusable-twin (event_payload p q h b) m = m
  refusable-twin (event_broadcast r c) m = m
  refusable-twin (event_subscribe i d) m = m
  refusable-twin (event_get i d) m = listed-twin cmp total w n k own d (twin_get i d ∷ xs) ∙ m
  refusable-twin (event_cleanup gone) m = absurd (let no = m in cc)

  -- the histories after the event
  abbrev arrived-twins : (p q : P) → IsTrue (eq_by_cmp cmp p q) → Result Parts CodecError → List (Twin (eq_by_cmp cmp))
  arrived-twins p q h (Ok m) = twin_arrival p q h (own_digested (at cmp w n) m) ∷ xs
  arrived-twins p q h (Err why) = xs

  arrived-given : (p q : P) (h : IsTrue (eq_by_cmp cmp p q)) (r : Result Parts CodecError) → map given (arrived-twins p q h r) ≡ arrived (at cmp w n) p r (map given xs)
  arrived-given p q h (Ok m) = refl
  arrived-given p q h (Err why) = refl

  arrived-kept : (p q : P) (h : IsTrue (eq_by_cmp cmp p q)) (r : Result Parts CodecError) → map kept (arrived-twins p q h r) ≡ arrived (at cmp w k) q r (map kept xs)
  arrived-kept p q h (Ok m) = refl
  arrived-kept p q h (Err why) = refl

  abbrev pub after-twins : TwinEvent (eq_by_cmp cmp) → List (Twin (eq_by_cmp cmp))
  after-twins (event_peers ps qs h) = twin_peers ps qs h ∷ xs
  after-twins (event_payload p q h b) = arrived-twins p q h (whole (read_message w.range) b)
  after-twins (event_broadcast r c) = twin_broadcast r c ∷ xs
  after-twins (event_subscribe i d) = twin_subscribe i d ∷ xs
  after-twins (event_get i d) = twin_get i d ∷ xs
  after-twins (event_cleanup gone) = twin_cleanup (λ i j. list_any (λ x. j == x) gone) ∷ xs

  pub after-given : (e : TwinEvent (eq_by_cmp cmp)) → map given (after-twins e) ≡ after (at cmp w n) (given_event e) (map given xs)
  after-given (event_peers ps qs h) = refl
  after-given (event_payload p q h b) = arrived-given p q h (whole (read_message w.range) b)
  after-given (event_broadcast r c) = refl
  after-given (event_subscribe i d) = refl
  after-given (event_get i d) = refl
  after-given (event_cleanup gone) = refl

  pub after-kept : (e : TwinEvent (eq_by_cmp cmp)) → map kept (after-twins e) ≡ after (at cmp w k) (kept_event e) (map kept xs)
  after-kept (event_peers ps qs h) = refl
  after-kept (event_payload p q h b) = arrived-kept p q h (whole (read_message w.range) b)
  after-kept (event_broadcast r c) = refl
  after-kept (event_subscribe i d) = refl
  after-kept (event_get i d) = refl
  after-kept (event_cleanup gone) = refl
