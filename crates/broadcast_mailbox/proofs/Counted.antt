-- What becomes of counted requests.
use Rattle.std.proofs.Common.{◌≡◌, ℕ, ◌+◌, ◌^◌, ◌<◌, ◌≤◌, ◌&&◌, Bool, true, false, List, [], ◌∷◌, ◌++◌, refl, ap, ◌∙◌, sym, inl, inr, Option, None, Some, Result, Ok, Err, arith}
use Rattle.broadcast_mailbox.specs.declared.buffered.ingress.message.Request.{Request}
use Rattle.broadcast_mailbox.specs.declared.buffered.ingress.message.Queued.{Queued}
use Rattle.broadcast_mailbox.specs.declared.buffered.ingress.message.Queued.TheVariants as queued
use Rattle.broadcast_mailbox.specs.declared.broadcaster.MailboxError.{MailboxError}
use Rattle.broadcast_mailbox.specs.declared.broadcaster.MailboxError.TheVariants.{Memory, Exhausted}
use Rattle.broadcast_mailbox.specs.Overflow.{Drains, PutsWithin}
use Rattle.broadcast_mailbox.specs.Queue.{QueueState, counted_in, request_of, waiting, with_ready, with_overflow}
use Rattle.broadcast_mailbox.specs.Mailbox.{MailboxState, Enqueues, Takes}
use Rattle.broadcast_mailbox.specs.Account.{counted_of, is_accepted, one_if}
use Rattle.broadcast_mailbox.specs.Booked.{is_queued}

and-true : (b : Bool) → (b && true) ≡ b
and-true true = refl
and-true false = refl

and-false : (b : Bool) → (b && false) ≡ false
and-false true = refl
and-false false = refl

-- what is counted and accepted is accepted, and what is counted and waits is counted and accepted
pub one_if-and : (a b : Bool) → one_if (a && b) ≤ one_if b
one_if-and true b = omega arith
one_if-and false b = omega arith

pub one_if-queued : (counted : Bool) (result : Result Queued MailboxError) → one_if (counted && is_queued result) ≤ one_if (counted && is_accepted result)
one_if-queued true (Ok (queued.Ready k)) = omega arith
one_if-queued true (Ok (queued.Overflow k)) = omega arith
one_if-queued true (Ok (queued.Skipped k)) = omega arith
one_if-queued true (Ok queued.Closed) = omega arith
one_if-queued true (Err error) = omega arith
one_if-queued false result = omega arith

module _ {T : Type 0} where
  counted_in-append : (xs ys : List (Request T)) → counted_in (xs ++ ys) ≡ counted_in xs + counted_in ys
  counted_in-append [] ys = omega arith
  counted_in-append (x ∷ xs) ys = omega (arith, counted_in-append xs ys)

  -- a counted request is in the ready list, left or skipped
  Refills-counted : (answers : Request T → Bool → Type 0) (size : ℕ) (ready overflow skipped left filled : List (Request T)) → Drains answers (PutsWithin size) ready overflow skipped left filled
      → counted_in filled + counted_in left + counted_in skipped ≡ counted_in ready + counted_in overflow
  Refills-counted answers size ready [] skipped left filled (none, nothing, same) = omega (arith, ap counted_in same, ap counted_in nothing, ap counted_in none)
  Refills-counted answers size ready (x ∷ xs) skipped left filled (inl (closed, (others, is, d))) =
      omega (arith, Refills-counted answers size ready xs others left filled d, ap counted_in is)
  Refills-counted answers size ready (x ∷ xs) skipped left filled (inr (inl (opened, (mid, (room, is), d)))) =
      omega (arith, Refills-counted answers size mid xs skipped left filled d, ap counted_in is, counted_in-append ready (x ∷ []))
  Refills-counted answers size ready (x ∷ xs) skipped left filled (inr (inr (opened, none, (back, (full, same, stays), is)))) =
      omega (arith, ap counted_in stays, ap counted_in is, ap (λ (b : Request T). counted_in (b ∷ xs)) same, ap counted_in none)

  counted-ready : (queue : QueueState T) (message : T) (counted : Bool) → counted_in (waiting (with_ready queue message counted)) ≡ counted_in (waiting queue) + one_if counted
  counted-ready queue message counted =
      omega (arith, counted_in-append (queue.ready ++ request_of queue message counted ∷ []) queue.overflow, counted_in-append queue.ready (request_of queue message counted ∷ []), counted_in-append queue.ready queue.overflow)

  counted-overflow : (queue : QueueState T) (message : T) (counted : Bool) → counted_in (waiting (with_overflow queue message counted)) ≡ counted_in (waiting queue) + one_if counted
  counted-overflow queue message counted =
      omega (arith, counted_in-append queue.ready (queue.overflow ++ request_of queue message counted ∷ []), counted_in-append queue.overflow (request_of queue message counted ∷ []), counted_in-append queue.ready queue.overflow)

module _ {T : Type 0} (answers : T → Bool → Type 0) where
  -- each counted request that waited was taken, was skipped or waits
  pub Takes-counted : (old : MailboxState T) (result : Option (Request T)) (skipped : List (Request T)) (new : MailboxState T) → Takes answers old result skipped new
      → counted_in (waiting old.queue) ≡ counted_of result + counted_in skipped + counted_in (waiting new.queue)
  Takes-counted old None skipped new ((nobody, none, same), state) = omega (arith, ap counted_in none, ap (λ (q : QueueState T). counted_in (waiting q)) same)
  Takes-counted old (Some request) skipped new ((rest, front, refills, same), state) =
      let moved = Refills-counted (λ (r : Request T) (answer : Bool). answers r.message answer) old.queue.size rest old.queue.overflow skipped new.queue.overflow new.queue.ready refills in
      omega (arith, moved, ap counted_in front, counted_in-append old.queue.ready old.queue.overflow, counted_in-append new.queue.ready new.queue.overflow)

  -- no ticket is drawn
  pub Takes-next : (old : MailboxState T) (result : Option (Request T)) (skipped : List (Request T)) (new : MailboxState T) → Takes answers old result skipped new → new.queue.next ≡ old.queue.next
  Takes-next old None skipped new ((nobody, none, same), state) = ap (λ (q : QueueState T). q.next) same
  Takes-next old (Some request) skipped new ((rest, front, refills, same), state) = ap (λ (q : QueueState T). q.next) same

  -- what an enqueue does with the count
  pub record Counts (old : MailboxState T) (counted : Bool) (result : Result Queued MailboxError) (new : MailboxState T) : Type 0 where
    pub waits : counted_in (waiting new.queue) ≡ counted_in (waiting old.queue) + one_if (counted && is_queued result)
    pub next : new.queue.next ≡ old.queue.next + one_if (is_accepted result)

  pub Enqueues-Counts : (old : MailboxState T) (message : T) (counted : Bool) (result : Result Queued MailboxError) (new : MailboxState T) → Enqueues answers old message counted result new → Counts old counted result new
  Enqueues-Counts old message counted (Ok (queued.Ready k)) new ((draws, room, same), state) = record {
    waits = ap (λ (q : QueueState T). counted_in (waiting q)) same ∙ counted-ready old.queue message counted ∙ ap (λ (b : Bool). counted_in (waiting old.queue) + one_if b) (sym (and-true counted));
    next = ap (λ (q : QueueState T). q.next) same;
  }
  Enqueues-Counts old message counted (Ok (queued.Overflow k)) new ((draws, no_room, opened, same), state) = record {
    waits = ap (λ (q : QueueState T). counted_in (waiting q)) same ∙ counted-overflow old.queue message counted ∙ ap (λ (b : Bool). counted_in (waiting old.queue) + one_if b) (sym (and-true counted));
    next = ap (λ (q : QueueState T). q.next) same;
  }
  Enqueues-Counts old message counted (Ok (queued.Skipped k)) new ((draws, no_room, closed, same), state) = record {
    waits = omega (arith, ap (λ (q : QueueState T). counted_in (waiting q)) same, ap one_if (and-false counted));
    next = ap (λ (q : QueueState T). q.next) same;
  }
  Enqueues-Counts old message counted (Ok queued.Closed) new ((closed, same), state) = record {
    waits = omega (arith, ap (λ (q : QueueState T). counted_in (waiting q)) same, ap one_if (and-false counted));
    next = omega (arith, ap (λ (q : QueueState T). q.next) same);
  }
  Enqueues-Counts old message counted (Err Memory) new ((draws, lacks, same), state) = record {
    waits = omega (arith, ap (λ (q : QueueState T). counted_in (waiting q)) same, ap one_if (and-false counted));
    next = omega (arith, ap (λ (q : QueueState T). q.next) same);
  }
  Enqueues-Counts old message counted (Err Exhausted) new ((opened, last, same), state) = record {
    waits = omega (arith, ap (λ (q : QueueState T). counted_in (waiting q)) same, ap one_if (and-false counted));
    next = omega (arith, ap (λ (q : QueueState T). q.next) same);
  }

  -- a request that is accepted draws a ticket below the last
  pub Enqueues-few : (old : MailboxState T) (message : T) (counted : Bool) (result : Result Queued MailboxError) (new : MailboxState T) (number : ℕ) → Enqueues answers old message counted result new → number ≤ old.queue.next → number < 2 ^ 64
      → number + one_if (is_accepted result) < 2 ^ 64
  Enqueues-few old message counted (Ok (queued.Ready k)) new number ((draws, room, same), state) within few = omega (arith, draws.left, within)
  Enqueues-few old message counted (Ok (queued.Overflow k)) new number ((draws, no_room, opened, same), state) within few = omega (arith, draws.left, within)
  Enqueues-few old message counted (Ok (queued.Skipped k)) new number ((draws, no_room, closed, same), state) within few = omega (arith, draws.left, within)
  Enqueues-few old message counted (Ok queued.Closed) new number step within few = omega (arith, few)
  Enqueues-few old message counted (Err error) new number step within few = omega (arith, few)
