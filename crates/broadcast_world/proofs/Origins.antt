-- Where the digests of a list come from.
use Rattle.std.proofs.Common.{◌≡◌, ℕ, zero, suc, Bool, true, false, not, filter, ◌||◌, List, [], ◌∷◌, ◌++◌, length, map, take, Option, Some, None, Result, Ok, Err, ◌⊎◌, inl, inr, refl, sym, ap, ◌∙◌, append-nil}
use Rattle.std.specs.Prelude.{◌==◌}
use Rattle.std.specs.List.{AllByRecursion, AllZip, find, list_any, slice_get}
use Rattle.std.specs.Option.{option_map}
use Rattle.std.specs.Cmp.{IsEquivalence, IsTotalOrder, eq_by_cmp_equiv}
use Rattle.std.specs.Ordering.{eq_by_cmp}
use Rattle.std.specs.declared.cmp.Ordering.{Ordering}
use Rattle.broadcast_core.proofs.Distinct.{by_test, or_right, list_any-append}
use Rattle.broadcast_core.specs.Carried.{Carried}
use Rattle.broadcast_core.specs.Setting.{all_taken, whole}
use Rattle.broadcast_core.specs.MessageLaws.{message_reads_back}
use Rattle.broadcast_core.specs.Content.{first_places, among, list_at, digests_of}
use Rattle.broadcast_core.specs.Happening.{Happening, peers, broadcast, arrival, subscribe, get, cleanup, taken}
use Rattle.broadcast_core.proofs.Listed.{list-from, charged-digest}
use Rattle.broadcast_core.specs.Lists.{list, digest_under, digests_under}
use Rattle.broadcast_core.specs.Peers.{is_primary, since}
use Rattle.broadcast_core.specs.declared.codec.CodecError.{CodecError}
use Rattle.sha2.specs.Sha256.{sha256}
use Rattle.broadcast_core.specs.TestMessage.{Parts, encoding_of, read_message}
use Rattle.broadcast_core.specs.Log.{after, arrived, is_refused}
use Rattle.broadcast_core.specs.declared.event.Event.TheVariants as event
use Rattle.broadcast_core.specs.declared.ordered.Recipients.{Recipients}
use Rattle.broadcast_world.proofs.Places.{AllZip-weaker}
use Rattle.broadcast_world.specs.Packet.{Packet}
use Rattle.broadcast_world.specs.Scene.{Scene}
use Rattle.broadcast_world.specs.World.{Log, NodeEvent, NodeHistory, accepted, addressed, at, delivery, event_of, history, history_with, made_by, node, packets, packets_by, packets_to, unless_refused}
use Rattle.broadcast_world.specs.Steps.{HasNode, NodeContent}
use Rattle.broadcast_world.specs.Broadcasts.{Broadcasting, HasOrigins, broadcast_by, broadcast_in, broadcasts, was_broadcast}
use Rattle.broadcast_world.specs.declared.step.Step.{Step}
use Rattle.broadcast_world.specs.declared.step.Step.TheVariants.{Peers, Broadcast, Subscribe, Get, Cleanup, Deliver, Hostile}
use Rattle.broadcast_world.specs.declared.step.WorldAnswer.{WorldAnswer}
use Rattle.broadcast_world.specs.declared.step.WorldAnswer.TheVariants.{Given, NoSuch}

-- x is an element: whatever test it passes, some element passes
abbrev pub In : {X : Type 0} → X → List X → Type 0
In {X} x xs = (test : X → Bool) → test x ≡ true → list_any test xs ≡ true

In-right : {X : Type 0} (x : X) (xs ys : List X) → In x ys → In x (xs ++ ys)
In-right x xs ys h test t = list_any-append test xs ys ∙ ap (λ b. list_any test xs || b) (h test t) ∙ or_right (list_any test xs)

In-front : {X : Type 0} (x : X) (ys : List X) → In x ((x ∷ []) ++ ys)
In-front x ys test t = rw t refl

pub All-append : {X : Type 0} (Q : X → Type 0) (xs ys : List X) → AllByRecursion Q xs → AllByRecursion Q ys → AllByRecursion Q (xs ++ ys)
All-append Q [] ys h k = k
All-append Q (x ∷ xs) ys h k = (h.0, All-append Q xs ys h.1 k)

All-weaker : {X : Type 0} (Q R : X → Type 0) (xs : List X) → ((x : X) → Q x → R x) → AllByRecursion Q xs → AllByRecursion R xs
All-weaker Q R [] f h = tt
All-weaker Q R (x ∷ xs) f h = (f x h.0, All-weaker Q R xs f h.1)

All-map : {X Y : Type 0} (Q : Y → Type 0) (f : X → Y) (xs : List X) → AllByRecursion (λ x. Q (f x)) xs → AllByRecursion Q (map f xs)
All-map Q f [] h = tt
All-map Q f (x ∷ xs) h = (h.0, All-map Q f xs h.1)

pub at_place : {X : Type 0} (Q : X → Type 0) (xs : List X) (i : ℕ) (x : X) → slice_get xs i ≡ Some x → AllByRecursion Q xs → Q x
at_place Q [] i x h all = absurd (let no = h in cc)
at_place Q (y ∷ ys) zero x h all = let is : y ≡ x = cc in rw (sym is) all.0
at_place Q (y ∷ ys) (suc i) x h all = at_place Q ys i x h all.1

module _ {P : Type 0} (same : P → P → Bool) (laws : IsEquivalence same) where
  All-self : (ps : List P) → AllByRecursion (λ p. list_any (same p) ps ≡ true) ps
  All-self [] = tt
  All-self (p ∷ ps) = (rw (laws.refl p) refl, All-weaker (λ q. list_any (same q) ps ≡ true) (λ q. list_any (same q) (p ∷ ps) ≡ true) ps (λ q h. rw h (or_right (same q p))) (All-self ps))

  pub any-equal : (p q : P) (ps : List P) → same p q ≡ true → list_any (same p) ps ≡ list_any (same q) ps
  any-equal p q [] h = refl
  any-equal p q (x ∷ ps) h = rw (laws.congr p q x h, any-equal p q ps h) refl

pub found-passes : {X : Type 0} (test : X → Bool) (xs : List X) (x : X) → find test xs ≡ Some x → test x ≡ true
found-passes test [] x h = absurd (let no = h in cc)
found-passes test (y ∷ ys) x h = by_test (test y)
    (λ t. let is : y ≡ x = (let k = rw t at h in cc) in ap test (sym is) ∙ t)
    (λ t. found-passes test ys x (rw t at h))

pub any_take : {X : Type 0} (test : X → Bool) (n : ℕ) (xs : List X) → list_any test (take n xs) ≡ true → list_any test xs ≡ true
any_take test zero xs h = absurd (let no = h in cc)
any_take test (suc n) [] h = h
any_take test (suc n) (x ∷ xs) h = by_test (test x) (λ t. rw t refl) (λ t. rw t (any_take test n xs (rw t at h)))

pub any_filter : {X : Type 0} (test kept : X → Bool) (xs : List X) → list_any test (filter kept xs) ≡ true → list_any test xs ≡ true
any_filter test kept [] h = h
any_filter test kept (x ∷ xs) h = by_test (test x)
    (λ t. rw t refl)
    (λ t. rw t (by_test (kept x)
    (λ u. let more = rw u at h in any_filter test kept xs (rw t at more))
    (λ u. any_filter test kept xs (rw u at h))))

pub any_first : {X : Type 0} (same : X → X → Bool) (test : X → Bool) (xs : List X) → list_any test (first_places same xs) ≡ true → list_any test xs ≡ true
any_first same test [] h = h
any_first same test (x ∷ xs) h = by_test (test x)
    (λ t. rw t refl)
    (λ t. rw t (any_first same test xs (any_filter test (λ y. not (same x y)) (first_places same xs) (rw t at h))))

module _ {P : Type 0} (cmp : P → P → Ordering) (total : IsTotalOrder cmp) (w : Scene P) where
  -- a packet is the encoding of a broadcast at its sender, and its addressee was addressed
  pub record WasSent (log : Log P) (p : Packet P) : Type 0 where
    pub by : Broadcasting P
    pub in_log : In by (broadcasts cmp w log)
    pub sender : by.node ≡ p.sender
    pub addressed : list_any (eq_by_cmp cmp p.addressee) (addressed cmp w by.node by.recipients) ≡ true
    pub encoded : encoding_of by.message ≡ Some p.bytes

  sent-later : (x : Step P × WorldAnswer) (log : Log P) (p : Packet P) → WasSent log p → WasSent (x ∷ log) p
  sent-later x log p was = record {
    by = was.by;
    in_log = In-right was.by (broadcast_by cmp w (accepted cmp w x log)) (broadcasts cmp w log) was.in_log;
    sender = was.sender;
    addressed = was.addressed;
    encoded = was.encoded;
  }

  sent-to : (n : P) (r : Recipients P) (m : Parts) (o : Option (List ℕ)) (log : Log P) (ps : List P) → encoding_of m ≡ o
      → In (record { node = n; recipients = r; message = m }) (broadcasts cmp w log)
      → AllByRecursion (λ p. list_any (eq_by_cmp cmp p) (addressed cmp w n r) ≡ true) ps → AllByRecursion (WasSent log) (packets_to cmp w n ps o)
  sent-to n r m None log ps is in_log to = tt
  sent-to n r m (Some bytes) log ps is in_log to =
      All-map (WasSent log) (λ p. record { sender = n; addressee = p; bytes = bytes }) ps
      (All-weaker (λ p. list_any (eq_by_cmp cmp p) (addressed cmp w n r) ≡ true) (λ p. WasSent log (record { sender = n; addressee = p; bytes = bytes })) ps
      (λ p h. record { by = record { node = n; recipients = r; message = m }; in_log = in_log; sender = refl; addressed = h; encoded = is }) to)

  made-in : (n : P) (e : NodeEvent P) (older : List (Broadcasting P)) (log : Log P) → broadcasts cmp w log ≡ broadcast_in cmp w n e ++ older → AllByRecursion (WasSent log) (packets_by cmp w n e)
  made-in n (event.Broadcast r c) older log is =
      sent-to n r c.message (encoding_of c.message) log (addressed cmp w n r) refl (rw is (In-front (record { node = n; recipients = r; message = c.message }) older)) (All-self (eq_by_cmp cmp) (eq_by_cmp_equiv total) (addressed cmp w n r))
  made-in n (event.Peers ps) older log is = tt
  made-in n (event.Payload p b) older log is = tt
  made-in n (event.Subscribe t d) older log is = tt
  made-in n (event.Get t d) older log is = tt
  made-in n (event.Cleanup gone) older log is = tt

  made-sent : (e : Option (P × NodeEvent P)) (older : List (Broadcasting P)) (log : Log P) → broadcasts cmp w log ≡ broadcast_by cmp w e ++ older
      → AllByRecursion (WasSent log) (made_by cmp w e)
  made-sent None older log is = tt
  made-sent (Some e) older log is = made-in e.0 e.1 older log is

  -- so is each packet of a log
  pub packets-sent : (log : Log P) → AllByRecursion (WasSent log) (packets cmp w log)
  packets-sent [] = tt
  packets-sent (x ∷ log) =
      All-append (WasSent (x ∷ log)) (packets cmp w log) (made_by cmp w (accepted cmp w x log))
      (All-weaker (WasSent log) (WasSent (x ∷ log)) (packets cmp w log) (sent-later x log) (packets-sent log))
      (made-sent (accepted cmp w x log) (broadcasts cmp w log) (x ∷ log) refl)

  -- a message that came to node n under the key was broadcast there to n, unless the key is hostile
  pub record SentTo (n : P) (log : Log P) (p : P) (m : Parts) : Type 0 where
    pub by : Broadcasting P
    pub in_log : In by (broadcasts cmp w log)
    pub sender : by.node ≡ p
    pub addressed : list_any (eq_by_cmp cmp n) (addressed cmp w by.node by.recipients) ≡ true
    pub message : by.message ≡ m

  abbrev pub Origin : P → Log P → P → Parts → Type 0
  Origin n log p m = (list_any (eq_by_cmp cmp p) w.hostile ≡ true) ⊎ SentTo n log p m

  abbrev pub Came : P → Log P → Happening P Parts (List ℕ) ℕ ℕ → Type 0
  Came n log (arrival p c) = Origin n log p c.message × (c.digest ≡ sha256 c.message.content)
  Came n log (peers ps) = Unit {0}
  Came n log (broadcast r c) = Unit {0}
  Came n log (subscribe t d) = Unit {0}
  Came n log (get t d) = Unit {0}
  Came n log (cleanup test) = Unit {0}

  origin-later : (n : P) (x : Step P × WorldAnswer) (log : Log P) (p : P) (m : Parts) → Origin n log p m → Origin n (x ∷ log) p m
  origin-later n x log p m (inl h) = inl h
  origin-later n x log p m (inr h) = inr (record {
    by = h.by;
    in_log = In-right h.by (broadcast_by cmp w (accepted cmp w x log)) (broadcasts cmp w log) h.in_log;
    sender = h.sender;
    addressed = h.addressed;
    message = h.message;
  })

  came-later : (n : P) (x : Step P × WorldAnswer) (log : Log P) (e : Happening P Parts (List ℕ) ℕ ℕ) → Came n log e → Came n (x ∷ log) e
  came-later n x log (arrival p c) h = (origin-later n x log p c.message h.0, h.1)
  came-later n x log (peers ps) h = tt
  came-later n x log (broadcast r c) h = tt
  came-later n x log (subscribe t d) h = tt
  came-later n x log (get t d) h = tt
  came-later n x log (cleanup test) h = tt

  pub event-is : (o : Option P) (e : NodeEvent P) (x : P × NodeEvent P) → option_map (λ n. (n, e)) o ≡ Some x → (o ≡ Some x.0) × (e ≡ x.1)
  event-is None e x h = absurd (let no = h in cc)
  event-is (Some n) e x h = let is : (n, e) ≡ x = cc in (ap (λ y. Some y.0) is, ap (λ y. y.1) is)

  pub accepted-is : (a : WorldAnswer) (e : Option (P × NodeEvent P)) (x : P × NodeEvent P) → unless_refused cmp w a e ≡ Some x → e ≡ Some x
  accepted-is NoSuch e x h = h
  accepted-is (Given a) e x h = by_test (is_refused a) (λ t. absurd (let no = rw t at h in cc)) (λ t. rw t at h)

  reads_as : (m : Parts) (bytes : List ℕ) (r : Result (Parts × ℕ) CodecError) → all_taken (length bytes) r ≡ Ok m → (k : ℕ) × (r ≡ Ok (m, k))
  reads_as m bytes (Err e) h = absurd (let no = h in cc)
  reads_as m bytes (Ok v) h = by_test (v.1 == length bytes)
      (λ t. let is : v.0 ≡ m = (let k = rw t at h in cc) in (v.1, ap (λ x. Ok (x, v.1)) is))
      (λ t. absurd (let no = rw t at h in cc))

  read-back : (v m : Parts) (bytes : List ℕ) → encoding_of v ≡ Some bytes → whole (read_message w.range) bytes ≡ Ok m → v ≡ m
  read-back v m bytes encoded read =
      let got = reads_as m bytes (read_message w.range bytes) read in
      sym (message_reads_back w.range v m bytes [] got.0 encoded (ap (read_message w.range) (append-nil bytes) ∙ got.1)).0

  module _ (n p : P) {b : List ℕ} (m : Parts) (log : Log P) (read : whole (read_message w.range) b ≡ Ok m) where
    -- a packet that was delivered
    delivered : (k : ℕ) (o : Option (Packet P)) (x : P × NodeEvent P) → slice_get (packets cmp w log) k ≡ o → delivery cmp w o ≡ Some x → x.1 ≡ event.Payload p b → eq_by_cmp cmp n x.0 ≡ true → Origin n log p m
    delivered k None x there is load to = absurd (let no = is in cc)
    delivered k (Some pk) x there is load to =
        let laws = eq_by_cmp_equiv total in
        let named = event-is (node cmp w pk.addressee) (event.Payload pk.sender pk.bytes) x is in
        let e = named.1 in
        let sender : pk.sender ≡ p = cc in
        let bytes : pk.bytes ≡ b = cc in
        let was = at_place (WasSent log) (packets cmp w log) k pk there (packets-sent log) in
        let its : eq_by_cmp cmp pk.addressee x.0 ≡ true = found-passes (eq_by_cmp cmp pk.addressee) w.nodes x.0 named.0 in
        let one : eq_by_cmp cmp n pk.addressee ≡ true = laws.symm n pk.addressee ∙ laws.congr pk.addressee x.0 n its ∙ laws.symm x.0 n ∙ to in
        inr (record {
          by = was.by;
          in_log = was.in_log;
          sender = was.sender ∙ sender;
          addressed = any-equal (eq_by_cmp cmp) laws n pk.addressee (addressed cmp w was.by.node was.by.recipients) one ∙ was.addressed;
          message = read-back was.by.message m pk.bytes was.encoded (ap (whole (read_message w.range)) bytes ∙ read);
        })

    -- where a payload comes from
    payload-origin : (step : Step P) (x : P × NodeEvent P) → event_of cmp w step (packets cmp w log) ≡ Some x → x.1 ≡ event.Payload p b → eq_by_cmp cmp n x.0 ≡ true → Origin n log p m
    payload-origin (Peers key ps) x is load to = absurd (let e = (event-is (node cmp w key) (event.Peers ps) x is).1 in cc)
    payload-origin (Broadcast key r c) x is load to = absurd (let e = (event-is (node cmp w key) (event.Broadcast r c) x is).1 in cc)
    payload-origin (Subscribe key t d) x is load to = absurd (let e = (event-is (node cmp w key) (event.Subscribe t d) x is).1 in cc)
    payload-origin (Get key t d) x is load to = absurd (let e = (event-is (node cmp w key) (event.Get t d) x is).1 in cc)
    payload-origin (Cleanup key gone) x is load to = absurd (let e = (event-is (node cmp w key) (event.Cleanup gone) x is).1 in cc)
    payload-origin (Deliver k) x is load to = delivered k (slice_get (packets cmp w log) k) x refl is load to
    payload-origin (Hostile from key bytes) x is load to = by_test (list_any (eq_by_cmp cmp from) w.hostile)
        (λ t. let e = (event-is (node cmp w key) (event.Payload from bytes) x (rw t at is)).1 in let same : from ≡ p = cc in inl (ap (λ q. list_any (eq_by_cmp cmp q) w.hostile) (sym same) ∙ t))
        (λ t. absurd (let no = rw t at is in cc))

  -- what an accepted event makes of the history
  came-payload : (n p : P) (past : NodeHistory P) (log : Log P) (r : Result Parts CodecError) → ((m : Parts) → r ≡ Ok m → Origin n log p m)
      → AllByRecursion (Came n log) past → AllByRecursion (Came n log) (arrived (at cmp w n) p r past)
  came-payload n p past log (Ok m) from all = ((from m refl, refl), all)
  came-payload n p past log (Err why) from all = all

  came-after : (n : P) (e : NodeEvent P) (past : NodeHistory P) (log : Log P) → ((p : P) (b : List ℕ) (m : Parts) → e ≡ event.Payload p b → whole (read_message w.range) b ≡ Ok m → Origin n log p m)
      → AllByRecursion (Came n log) past → AllByRecursion (Came n log) (after (at cmp w n) e past)
  came-after n (event.Peers ps) past log from all = (tt, all)
  came-after n (event.Broadcast r c) past log from all = (tt, all)
  came-after n (event.Payload p b) past log from all = came-payload n p past log (whole (read_message w.range) b) (λ m read. from p b m refl read) all
  came-after n (event.Subscribe t d) past log from all = (tt, all)
  came-after n (event.Get t d) past log from all = (tt, all)
  came-after n (event.Cleanup gone) past log from all = (tt, all)

  came-with : (n : P) (x : Step P × WorldAnswer) (log : Log P) (o : Option (P × NodeEvent P)) (past : NodeHistory P) → accepted cmp w x log ≡ o
      → AllByRecursion (Came n (x ∷ log)) past → AllByRecursion (Came n (x ∷ log)) (history_with cmp w n o past)
  came-with n x log None past is all = all
  came-with n x log (Some e) past is all = by_test (eq_by_cmp cmp n e.0)
      (λ t. rw t (came-after n e.1 past (x ∷ log)
      (λ p b m load read. origin-later n x log p m (payload-origin n p m log read x.0 e (accepted-is x.1 (event_of cmp w x.0 (packets cmp w log)) e is) load t)) all))
      (λ t. rw t all)

  pub history-came : (n : P) (log : Log P) → AllByRecursion (Came n log) (history cmp w n log)
  history-came n [] = tt
  history-came n (x ∷ log) = came-with n x log (accepted cmp w x log) (history cmp w n log) refl
      (All-weaker (Came n log) (Came n (x ∷ log)) (history cmp w n log) (came-later n x log) (history-came n log))

  -- a digest taken under the key arrived under it
  record Arrived (n : P) (log : Log P) (p : P) (test : List ℕ → Bool) : Type 0 where
    from : P
    carried : Carried Parts (List ℕ)
    key : eq_by_cmp cmp p from ≡ true
    digest : test carried.digest ≡ true
    origin : Origin n log from carried.message
    own : carried.digest ≡ sha256 carried.message.content

  taken-arrived : (n : P) (log : Log P) (p : P) (test : List ℕ → Bool) (e : Happening P Parts (List ℕ) ℕ ℕ) → eq_by_cmp cmp p n ≡ false → Came n log e
      → list_any (λ c. test c.digest) (digest_under (at cmp w n) p (taken (at cmp w n) e)) ≡ true → Arrived n log p test
  taken-arrived n log p test (arrival q c) other came h = by_test (eq_by_cmp cmp p q)
      (λ t. record { from = q; carried = c; key = t; digest = charged-digest (at cmp w n) test c (rw t at h); origin = came.0; own = came.1 })
      (λ t. absurd (let no = rw t at h in cc))
  taken-arrived n log p test (broadcast r c) other came h = absurd (let no = rw other at h in cc)
  taken-arrived n log p test (peers ps) other came h = absurd (let no = h in cc)
  taken-arrived n log p test (subscribe k d) other came h = absurd (let no = h in cc)
  taken-arrived n log p test (get k d) other came h = absurd (let no = h in cc)
  taken-arrived n log p test (cleanup gone) other came h = absurd (let no = h in cc)

  under-arrived : (n : P) (log : Log P) (p : P) (test : List ℕ → Bool) (past : NodeHistory P) → eq_by_cmp cmp p n ≡ false → AllByRecursion (Came n log) past
      → list_any (λ c. test c.digest) (digests_under (at cmp w n) p (since (at cmp w n) p past)) ≡ true → Arrived n log p test
  under-arrived n log p test [] other all h = absurd (let no = h in cc)
  under-arrived n log p test (e ∷ older) other all h = by_test (is_primary (at cmp w n) p (e ∷ older))
      (λ t. let k = rw t at h in
      let split = sym (list_any-append (λ c. test c.digest) (digest_under (at cmp w n) p (taken (at cmp w n) e)) (digests_under (at cmp w n) p (since (at cmp w n) p older))) ∙ k in
      by_test (list_any (λ c. test c.digest) (digest_under (at cmp w n) p (taken (at cmp w n) e)))
      (λ u. taken-arrived n log p test e other all.0 u)
      (λ u. under-arrived n log p test older other all.1 (rw u at split)))
      (λ t. absurd (let no = rw t at h in cc))

  -- what a node lists for another key was broadcast there to it
  origins : (n : P) (log : Log P) (core : NodeContent P) → HasNode cmp w n (history cmp w n log) core → (p : P) (d : List ℕ) → eq_by_cmp cmp p n ≡ false
      → list_any (eq_by_cmp cmp p) w.hostile ≡ false → among (at cmp w n).same.digest d (list_at (at cmp w n).same core p) ≡ true → was_broadcast cmp w p n d log ≡ true
  origins n log core has p d other clean h =
      let equal : List ℕ → Bool = (at cmp w n).same.digest d in
      let listed : list_any equal (list (at cmp w n) p (history cmp w n log)) ≡ true = ap (λ cs. list_any equal (digests_of cs)) (sym (has.lists p)) ∙ h in
      let under = list-from (at cmp w n) equal p (history cmp w n log) listed in
      let a = under-arrived n log p equal (history cmp w n log) other (history-came n log) under in
      elim a.origin [
        | inl hostile ↦ absurd (let no = any-equal (eq_by_cmp cmp) (eq_by_cmp_equiv total) p a.from w.hostile a.key ∙ hostile in cc)
        | inr sent ↦ sent.in_log _
            (rw (ap (eq_by_cmp cmp p) sent.sender ∙ a.key, sent.addressed)
            (ap (λ m. equal (sha256 m.content)) sent.message ∙ ap equal (sym a.own) ∙ a.digest))
      ]

  pub HasOrigins-from : (log : Log P) (cores : List (NodeContent P)) → AllZip (λ n core. HasNode cmp w n (history cmp w n log) core) w.nodes cores → HasOrigins cmp w log cores
  HasOrigins-from log cores has = AllZip-weaker (λ n core. HasNode cmp w n (history cmp w n log) core) _ w.nodes cores (λ n core h p d other clean listed. origins n log core h p d other clean listed) has
