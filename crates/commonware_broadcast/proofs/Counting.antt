-- What the counters' calls make of them is what the steps count.
use Rattle.std.proofs.Common.{◌≡◌, ℕ, ◌+◌, Bool, true, false, cond, if◌then◌else◌, subst, List, [], ◌∷◌, ◌++◌, map, length, Option, Some, None, refl, sym, ap, ◌∙◌, arith}
use Rattle.std.specs.List.{count_by, filter}
use Rattle.std.proofs.lemmas.List.Sums.{sum_by-cons, sum_by-append, length-filter}
use Rattle.broadcast_core.specs.Content.{Same}
use Rattle.broadcast_core.specs.Setting.{Setting}
use Rattle.broadcast_core.specs.Happening.{History, cleanup}
use Rattle.broadcast_core.specs.Waiting.{Awaiting, waiting, awaited}
use Rattle.broadcast_core.specs.Cleaned.{named_by}
use Rattle.broadcast_core.specs.Counted.{counted}
use Rattle.broadcast_core.specs.Lists.{outcome}
use Rattle.broadcast_core.specs.declared.outcome.Outcome.{Outcome}
use Rattle.broadcast_core.specs.declared.outcome.Outcome.TheVariants.{Inserted, Duplicate, Ineligible, Oversize}
use Rattle.engine_io.specs.declared.input.Input.{Input}
use Rattle.engine_io.specs.declared.input.Input.TheVariants.{Peers, Request, Arrived, Invalid}
use Rattle.engine_io.specs.declared.metrics.Counter.{Counter}
use Rattle.engine_io.specs.declared.metrics.Status.{Status}
use Rattle.engine_io.specs.declared.metrics.Status.TheVariants as status
use Rattle.engine_io.specs.declared.metrics.Status.TheVariants.{Success, Failure, Dropped}
use Rattle.engine_io.specs.Counters.{Counters, Totals, Counted, peer, receive, subscribe, get, raised, added, number_of, count_of, is_status, is_counted_as, number_at}
use Rattle.engine_io.specs.Replies.{Asker, Replied, subscribed, got}
use Rattle.commonware_broadcast.specs.EngineHistory.{Step, swept, applied, refused, decoded, uncounted, ended}
use Rattle.commonware_broadcast.specs.Counting.{counted_reply, counted_outcome, counted_input, counted_at, gauge}
use Rattle.engine_io.specs.ReplyCounts.{count_reply, count_replies}
use Rattle.commonware_broadcast.specs.CountingCalls.{count_outcome, count_input, count}

pub raised-none : (n : ℕ) → raised n 0 ≡ n
raised-none n = omega arith

pub raised-more : (n a b : ℕ) → raised (raised n a) b ≡ raised n (a + b)
raised-more n a b = omega arith

-- numbers that are counted by a test
count-cons : {A : Type 0} (p : A → Bool) (x : A) (xs : List A) → count_by p (x ∷ xs) ≡ cond (p x) 1 0 + count_by p xs
count-cons p x xs = sum_by-cons (λ y. cond (p y) 1 0) x xs

pub count-append : {A : Type 0} (p : A → Bool) (xs ys : List A) → count_by p (xs ++ ys) ≡ count_by p xs + count_by p ys
count-append p xs ys = sum_by-append (λ y. cond (p y) 1 0) xs ys

pub count-one : {A : Type 0} (p : A → Bool) (x : A) → count_by p (x ∷ []) ≡ cond (p x) 1 0
count-one p x = count-cons p x [] ∙ omega arith

count-same-go : {W : Type 0} (b : Bool) (ws : List W) (n : ℕ) → n ≡ cond b (length ws) 0 → (w : W) → cond b 1 0 + n ≡ cond b (length (w ∷ ws)) 0
count-same-go true ws n h w = omega (arith, h)
count-same-go false ws n h w = omega (arith, h)

cond-zero : (b : Bool) → ◌≡◌ {A = ℕ} 0 (cond b 0 0)
cond-zero true = refl
cond-zero false = refl

count-same : {A W : Type 0} (p : A → Bool) (x : A) (ws : List W) → count_by p (map (λ w. x) ws) ≡ cond (p x) (length ws) 0
count-same p x [] = cond-zero (p x)
count-same p x (w ∷ ws) = count-cons p x (map (λ v. x) ws) ∙ count-same-go (p x) ws (count_by p (map (λ v. x) ws)) (count-same p x ws) w

-- a counter with more for a status
number_of-added : (a b : Status) (n : ℕ) (c : Counter) → number_of a (added b n c) ≡ raised (number_of a c) (cond (is_status a b) n 0)
number_of-added Success Success n c = refl
number_of-added Success Failure n c = sym (raised-none c.success)
number_of-added Success status.Invalid n c = sym (raised-none c.success)
number_of-added Success Dropped n c = sym (raised-none c.success)
number_of-added Failure Success n c = sym (raised-none c.failure)
number_of-added Failure Failure n c = refl
number_of-added Failure status.Invalid n c = sym (raised-none c.failure)
number_of-added Failure Dropped n c = sym (raised-none c.failure)
number_of-added status.Invalid Success n c = sym (raised-none c.invalid)
number_of-added status.Invalid Failure n c = sym (raised-none c.invalid)
number_of-added status.Invalid status.Invalid n c = refl
number_of-added status.Invalid Dropped n c = sym (raised-none c.invalid)
number_of-added Dropped Success n c = sym (raised-none c.dropped)
number_of-added Dropped Failure n c = sym (raised-none c.dropped)
number_of-added Dropped status.Invalid n c = sym (raised-none c.dropped)
number_of-added Dropped Dropped n c = refl

pub added-counted : (n : ℕ) (c : Counter) → added Dropped (counted n) c ≡ added Dropped n c
added-counted n c = ap (λ k. record c { dropped = k }) (omega arith)

-- the totals with more for what is counted, which is no payload
abbrev raise : {P : Type 0} → Counted P → ℕ → Totals → Totals
raise (peer p) n t = t
raise (receive st) n t = record t { receive = added st n t.receive }
raise (subscribe st) n t = record t { subscribe = added st n t.subscribe }
raise (get st) n t = record t { get = added st n t.get }

abbrev IsTotal : {P : Type 0} → Counted P → Type 0
IsTotal (peer p) = ⊥
IsTotal _ = Unit {0}

module _ {P : Type 0} (same : P → P → Bool) where
  number_at-raise : (c r : Counted P) (n : ℕ) (m : Counters P) → IsTotal r → number_at same c (record m { totals = raise r n m.totals }) ≡ raised (number_at same c m) (cond (is_counted_as same c r) n 0)
  number_at-raise c (peer p) n m h = absurd h
  number_at-raise (peer q) (receive b) n m h = sym (raised-none (number_at same (peer q) m))
  number_at-raise (receive a) (receive b) n m h = number_of-added a b n m.totals.receive
  number_at-raise (subscribe a) (receive b) n m h = sym (raised-none (number_of a m.totals.subscribe))
  number_at-raise (get a) (receive b) n m h = sym (raised-none (number_of a m.totals.get))
  number_at-raise (peer q) (subscribe b) n m h = sym (raised-none (number_at same (peer q) m))
  number_at-raise (receive a) (subscribe b) n m h = sym (raised-none (number_of a m.totals.receive))
  number_at-raise (subscribe a) (subscribe b) n m h = number_of-added a b n m.totals.subscribe
  number_at-raise (get a) (subscribe b) n m h = sym (raised-none (number_of a m.totals.get))
  number_at-raise (peer q) (get b) n m h = sym (raised-none (number_at same (peer q) m))
  number_at-raise (receive a) (get b) n m h = sym (raised-none (number_of a m.totals.receive))
  number_at-raise (subscribe a) (get b) n m h = sym (raised-none (number_of a m.totals.subscribe))
  number_at-raise (get a) (get b) n m h = number_of-added a b n m.totals.get

  number_at-one : (c r : Counted P) (m : Counters P) → IsTotal r → number_at same c (record m { totals = raise r 1 m.totals }) ≡ raised (number_at same c m) (count_by (is_counted_as same c) (r ∷ []))
  number_at-one c r m h = number_at-raise c r 1 m h ∙ ap (raised (number_at same c m)) (sym (count-one (is_counted_as same c) r))

  number_at-swept : (c : Counted P) (n k : ℕ) (m : Counters P) → number_at same c (record m { totals = record m.totals { subscribe = added Dropped n m.totals.subscribe; waiters = k } })
      ≡ raised (number_at same c m) (cond (is_counted_as same c (subscribe Dropped)) n 0)
  number_at-swept (peer q) n k m = sym (raised-none (number_at same (peer q) m))
  number_at-swept (receive a) n k m = sym (raised-none (number_of a m.totals.receive))
  number_at-swept (subscribe a) n k m = number_of-added a Dropped n m.totals.subscribe
  number_at-swept (get a) n k m = sym (raised-none (number_of a m.totals.get))

  module _ {S G A C : Type 0} where
    reply-raise : (h : Replied S G A (Option C)) (t : Totals) → count_reply h t ≡ raise (counted_reply {P = P} h) 1 t
    reply-raise (subscribed w a true) t = refl
    reply-raise (subscribed w a false) t = refl
    reply-raise (got v (Some c) true) t = refl
    reply-raise (got v None true) t = refl
    reply-raise (got v (Some c) false) t = refl
    reply-raise (got v None false) t = refl

    total-reply : (h : Replied S G A (Option C)) → IsTotal (counted_reply {P = P} h)
    total-reply (subscribed w a true) = tt
    total-reply (subscribed w a false) = tt
    total-reply (got v (Some c) true) = tt
    total-reply (got v None true) = tt
    total-reply (got v (Some c) false) = tt
    total-reply (got v None false) = tt

    replies-counted : (hs : List (Replied S G A (Option C))) (c : Counted P) (m : Counters P)
        → number_at same c (record m { totals = count_replies hs m.totals }) ≡ raised (number_at same c m) (count_by (is_counted_as same c) (map counted_reply hs))
    replies-counted [] c m = sym (raised-none (number_at same c m))
    replies-counted (h ∷ hs) c m =
        let mid : Counters P = record m { totals = count_reply h m.totals } in
        let test = is_counted_as same c in
        replies-counted hs c mid
        ∙ ap (λ (t : Totals). raised (number_at same c (record m { totals = t })) (count_by test (map counted_reply hs))) (reply-raise h m.totals)
        ∙ ap (λ n. raised n (count_by test (map counted_reply hs))) (number_at-raise c (counted_reply h) 1 m (total-reply h))
        ∙ raised-more (number_at same c m) (cond (test (counted_reply h)) 1 0) (count_by test (map counted_reply hs))
        ∙ ap (raised (number_at same c m)) (sym (count-cons test (counted_reply h) (map counted_reply hs)))

  outcome-counted : (out : Outcome) (c : Counted P) (m : Counters P) → number_at same c (record m { totals = count_outcome out m.totals }) ≡ raised (number_at same c m) (count_by (is_counted_as same c) (counted_outcome out ∷ []))
  outcome-counted Inserted c m = number_at-one c (receive Success) m tt
  outcome-counted Duplicate c m = number_at-one c (receive Dropped) m tt
  outcome-counted Ineligible c m = number_at-one c (receive Dropped) m tt
  outcome-counted Oversize c m = number_at-one c (receive Dropped) m tt

module _ {S G A C : Type 0} where
  reply-waits : (h : Replied S G A (Option C)) (t : Totals) → (count_reply h t).waiters ≡ t.waiters
  reply-waits (subscribed w a true) t = refl
  reply-waits (subscribed w a false) t = refl
  reply-waits (got v (Some c) true) t = refl
  reply-waits (got v None true) t = refl
  reply-waits (got v (Some c) false) t = refl
  reply-waits (got v None false) t = refl

  replies-wait : (hs : List (Replied S G A (Option C))) (t : Totals) → (count_replies hs t).waiters ≡ t.waiters
  replies-wait [] t = refl
  replies-wait (h ∷ hs) t = replies-wait hs (count_reply h t) ∙ reply-waits h t

outcome-waits : (out : Outcome) (t : Totals) → (count_outcome out t).waiters ≡ t.waiters
outcome-waits Inserted t = refl
outcome-waits Duplicate t = refl
outcome-waits Ineligible t = refl
outcome-waits Oversize t = refl

if-raised : (b : Bool) (n : ℕ) → (if b then raised n 1 else n) ≡ raised n (cond b 1 0)
if-raised true n = refl
if-raised false n = sym (raised-none n)

-- the peer is counted once more, and nothing else
pub record CountsPeer {P D : Type 0} (same : Same P D) (p : P) (old new : Counters P) : Type 0 where
  pub one : (q : P) → count_of same.key q new.peer ≡ (if same.key p q then raised (count_of same.key q old.peer) 1 else count_of same.key q old.peer)
  pub stays : new.totals ≡ old.totals

-- a step at which no payload is decoded
abbrev pub IsNotDecoded : {P M D S G : Type 0} → Step P M D S G → Type 0
IsNotDecoded (decoded p) = ⊥
IsNotDecoded _ = Unit {0}

module _ {P M D S G : Type 0} (s : Setting P M D) (past : History P M D (Asker S) (Asker G)) where
  input-counted : (input : Input P M S G D) (c : Counted P) (m : Counters P)
      → number_at s.same.key c (record m { totals = count_input s input past m.totals }) ≡ raised (number_at s.same.key c m) (count_by (is_counted_as s.same.key c) (counted_input s input past))
  input-counted (Peers ps) c m = sym (raised-none (number_at s.same.key c m))
  input-counted (Request request) c m = sym (raised-none (number_at s.same.key c m))
  input-counted (Arrived p x) c m = outcome-counted s.same.key (outcome s p x past) c m
  input-counted (Invalid p error) c m = number_at-one s.same.key c (receive status.Invalid) m tt

  input-waits : (input : Input P M S G D) (t : Totals) → (count_input s input past t).waiters ≡ t.waiters
  input-waits (Peers ps) t = refl
  input-waits (Request request) t = refl
  input-waits (Arrived p x) t = outcome-waits (outcome s p x past) t
  input-waits (Invalid p error) t = refl

  pub step-counted : (step : Step P M D S G) (c : Counted P) (m : Counters P) → IsNotDecoded step
      → number_at s.same.key c (record m { totals = count s step past m.totals }) ≡ raised (number_at s.same.key c m) (count_by (is_counted_as s.same.key c) (counted_at s step past))
  step-counted (swept test) c m h =
      number_at-swept s.same.key c (named_by test (waiting s past)) (length (awaited s (cleanup test ∷ past))) m
      ∙ ap (λ n. raised (number_at s.same.key c m) (cond (is_counted_as s.same.key c (subscribe Dropped)) n 0)) (sym (length-filter (λ (w : Awaiting (Asker S) D). test w.place w.waiter) (waiting s past)))
      ∙ ap (raised (number_at s.same.key c m)) (sym (count-same (is_counted_as s.same.key c) (subscribe Dropped) (filter (λ (w : Awaiting (Asker S) D). test w.place w.waiter) (waiting s past))))
  step-counted (applied input replies) c m h =
      let mid : Counters P = record m { totals = count_replies replies m.totals } in
      let test = is_counted_as s.same.key c in
      input-counted input c mid
      ∙ ap (λ n. raised n (count_by test (counted_input s input past))) (replies-counted s.same.key replies c m)
      ∙ raised-more (number_at s.same.key c m) (count_by test (map counted_reply replies)) (count_by test (counted_input s input past))
      ∙ ap (raised (number_at s.same.key c m)) (sym (count-append test (map counted_reply replies) (counted_input s input past)))
  step-counted (refused input cause) c m h = sym (raised-none (number_at s.same.key c m))
  step-counted (decoded p) c m h = absurd h
  step-counted (uncounted p x) c m h = sym (raised-none (number_at s.same.key c m))
  step-counted (ended cause) c m h = sym (raised-none (number_at s.same.key c m))

  pub step-waits : (step : Step P M D S G) (t : Totals) → (count s step past t).waiters ≡ gauge s (step ∷ []) past t.waiters
  step-waits (swept test) t = refl
  step-waits (applied input replies) t = input-waits input (count_replies replies t) ∙ replies-wait replies t
  step-waits (refused input cause) t = refl
  step-waits (decoded p) t = refl
  step-waits (uncounted p x) t = refl
  step-waits (ended cause) t = refl

  -- a payload of the peer was decoded
  pub decoded-counted : (p : P) {same : Same P D} → s.same ≡ same → (old new : Counters P) (c : Counted P) → CountsPeer same p old new
      → number_at s.same.key c new ≡ raised (number_at s.same.key c old) (count_by (is_counted_as s.same.key c) (peer p ∷ []))
  decoded-counted p is old new (peer q) counts =
      subst (λ a. count_of a.key q new.peer ≡ (if a.key p q then raised (count_of a.key q old.peer) 1 else count_of a.key q old.peer)) (sym is) (counts.one q)
      ∙ if-raised (s.same.key p q) (count_of s.same.key q old.peer) ∙ ap (raised (count_of s.same.key q old.peer)) (sym (count-one (is_counted_as s.same.key (peer q)) (peer p)))
  decoded-counted p is old new (receive a) counts = ap (λ (t : Totals). number_of a t.receive) counts.stays ∙ sym (raised-none (number_of a old.totals.receive))
  decoded-counted p is old new (subscribe a) counts = ap (λ (t : Totals). number_of a t.subscribe) counts.stays ∙ sym (raised-none (number_of a old.totals.subscribe))
  decoded-counted p is old new (get a) counts = ap (λ (t : Totals). number_of a t.get) counts.stays ∙ sym (raised-none (number_of a old.totals.get))
