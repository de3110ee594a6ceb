-- Counted requests that stay open are not skipped.
use Rattle.std.proofs.Common.{◌≡◌, ℕ, ◌+◌, ◌&&◌, ◌||◌, not, Bool, true, false, List, [], ◌∷◌, ◌++◌, refl, ap, ◌∙◌, sym, inl, inr, Option, None, Some, Result, Ok, Err, arith}
use Rattle.std.specs.List.{list_all}
use Rattle.std.proofs.lemmas.List.Folds.{list_all-append}
use Rattle.broadcast_mailbox.specs.declared.buffered.ingress.message.Request.{Request}
use Rattle.broadcast_mailbox.specs.declared.buffered.ingress.message.Queued.{Queued}
use Rattle.broadcast_mailbox.specs.declared.buffered.ingress.message.Queued.TheVariants as queued
use Rattle.broadcast_mailbox.specs.declared.broadcaster.MailboxError.{MailboxError}
use Rattle.broadcast_mailbox.specs.declared.broadcaster.MailboxError.TheVariants.{Memory, Exhausted}
use Rattle.broadcast_mailbox.specs.Overflow.{Drains, PutsWithin}
use Rattle.broadcast_mailbox.specs.Queue.{QueueState, counted_in, request_of, waiting}
use Rattle.broadcast_mailbox.specs.Mailbox.{MailboxState, Enqueues, Takes, count_skipped}
use Rattle.broadcast_mailbox.specs.Booked.{are_open}

and-both : (a b : Bool) → (a && b) ≡ true → (a ≡ true) × (b ≡ true)
and-both true b both = (refl, both)
and-both false b both = absurd cc

and-join : (a b : Bool) → a ≡ true → b ≡ true → (a && b) ≡ true
and-join true b is holds = holds
and-join false b is holds = absurd cc

uncounted : (counted stays : Bool) → (not counted || stays) ≡ true → (stays ≡ true → ⊥) → counted ≡ false
uncounted false stays is never = refl
uncounted true stays is never = absurd (never is)

either : (counted stays : Bool) → (counted ≡ true → stays ≡ true) → (not counted || stays) ≡ true
either false stays is = refl
either true stays is = is refl

module _ {T : Type 0} (opens : T → Bool) where
  split : (xs ys : List (Request T)) → are_open opens (xs ++ ys) ≡ true → (are_open opens xs ≡ true) × (are_open opens ys ≡ true)
  split xs ys all =
      and-both (are_open opens xs) (are_open opens ys) (sym (list_all-append (λ (r : Request T). not r.counted || opens r.message) xs ys) ∙ all)

  join : (xs ys : List (Request T)) → are_open opens xs ≡ true → are_open opens ys ≡ true → are_open opens (xs ++ ys) ≡ true
  join xs ys those these =
      list_all-append (λ (r : Request T). not r.counted || opens r.message) xs ys ∙ and-join (are_open opens xs) (are_open opens ys) those these

  one : (request : Request T) → (not request.counted || opens request.message) ≡ true → are_open opens (request ∷ []) ≡ true
  one request stays = and-join (not request.counted || opens request.message) true stays refl

  module _ (answers : T → Bool → Type 0) (is_open : (message : T) → opens message ≡ true → answers message true → ⊥) where
    -- what closed is not counted, and the others stay open
    Refills-open : (size : ℕ) (ready overflow skipped left filled : List (Request T)) → Drains (λ (r : Request T) (answer : Bool). answers r.message answer) (PutsWithin size) ready overflow skipped left filled
        → are_open opens ready ≡ true → are_open opens overflow ≡ true
        → (are_open opens filled ≡ true) × (are_open opens left ≡ true) × (counted_in skipped ≡ 0)
    Refills-open size ready [] skipped left filled (none, nothing, same) those these =
        (ap (are_open opens) same ∙ those, ap (are_open opens) nothing, ap counted_in none)
    Refills-open size ready (x ∷ xs) skipped left filled (inl (closed, (others, is, d))) those these =
        let both = and-both (not x.counted || opens x.message) (are_open opens xs) these in
        let rest = Refills-open size ready xs others left filled d those both.1 in
        let no : x.counted ≡ false = uncounted x.counted (opens x.message) both.0 (λ stays. is_open x.message stays closed) in
        (rest.0, rest.1, omega (arith, rest.2, ap counted_in is, ap (λ (b : Bool). counted_in (record x { counted = b } ∷ others)) no))
    Refills-open size ready (x ∷ xs) skipped left filled (inr (inl (opened, (mid, (room, is), d)))) those these =
        let both = and-both (not x.counted || opens x.message) (are_open opens xs) these in
        Refills-open size mid xs skipped left filled d (ap (are_open opens) is ∙ join ready (x ∷ []) those (one x both.0)) both.1
    Refills-open size ready (x ∷ xs) skipped left filled (inr (inr (opened, none, (back, (full, same, stays), is)))) those these =
        (ap (are_open opens) stays ∙ those, ap (are_open opens) (is ∙ ap (λ (b : Request T). b ∷ xs) same) ∙ these, ap counted_in none)

    -- a take skips no counted request, and those that wait stay open
    pub Takes-open : (old : MailboxState T) (result : Option (Request T)) (skipped : List (Request T)) (new : MailboxState T) → Takes answers old result skipped new
        → are_open opens (waiting old.queue) ≡ true → (are_open opens (waiting new.queue) ≡ true) × (counted_in skipped ≡ 0)
    Takes-open old None skipped new ((nobody, none, same), state) all =
        (ap (λ (q : QueueState T). are_open opens (waiting q)) same ∙ all, ap counted_in none)
    Takes-open old (Some request) skipped new ((rest, front, refills, same), state) all =
        let both = split old.queue.ready old.queue.overflow all in
        let left = and-both (not request.counted || opens request.message) (are_open opens rest) (sym (ap (are_open opens) front) ∙ both.0) in
        let after = Refills-open old.queue.size rest old.queue.overflow skipped new.queue.overflow new.queue.ready refills left.1 both.1 in
        (join new.queue.ready new.queue.overflow after.0 after.1, after.2)

    -- a counted request that stays open is not skipped, and those that wait stay open
    pub Enqueues-open : (old : MailboxState T) (message : T) (counted : Bool) (result : Result Queued MailboxError) (new : MailboxState T) → Enqueues answers old message counted result new
        → (counted ≡ true → opens message ≡ true) → are_open opens (waiting old.queue) ≡ true → are_open opens (waiting new.queue) ≡ true
    Enqueues-open old message counted (Ok (queued.Ready k)) new ((draws, room, same), state) stays all =
        let both = split old.queue.ready old.queue.overflow all in
        let more = one (request_of old.queue message counted) (either counted (opens message) stays) in
        ap (λ (q : QueueState T). are_open opens (waiting q)) same
        ∙ join (old.queue.ready ++ request_of old.queue message counted ∷ []) old.queue.overflow (join old.queue.ready (request_of old.queue message counted ∷ []) both.0 more) both.1
    Enqueues-open old message counted (Ok (queued.Overflow k)) new ((draws, no_room, opened, same), state) stays all =
        let both = split old.queue.ready old.queue.overflow all in
        let more = one (request_of old.queue message counted) (either counted (opens message) stays) in
        ap (λ (q : QueueState T). are_open opens (waiting q)) same
        ∙ join old.queue.ready (old.queue.overflow ++ request_of old.queue message counted ∷ []) both.0 (join old.queue.overflow (request_of old.queue message counted ∷ []) both.1 more)
    Enqueues-open old message counted (Ok (queued.Skipped k)) new ((draws, no_room, closed, same), state) stays all =
        ap (λ (q : QueueState T). are_open opens (waiting q)) same ∙ all
    Enqueues-open old message counted (Ok queued.Closed) new ((closed, same), state) stays all =
        ap (λ (q : QueueState T). are_open opens (waiting q)) same ∙ all
    Enqueues-open old message counted (Err Memory) new ((draws, lacks, same), state) stays all =
        ap (λ (q : QueueState T). are_open opens (waiting q)) same ∙ all
    Enqueues-open old message counted (Err Exhausted) new ((opened, last, same), state) stays all =
        ap (λ (q : QueueState T). are_open opens (waiting q)) same ∙ all

    pub Enqueues-unskipped : (old : MailboxState T) (message : T) (counted : Bool) (result : Result Queued MailboxError) (new : MailboxState T) → Enqueues answers old message counted result new
        → opens message ≡ true → count_skipped result ≡ 0
    Enqueues-unskipped old message counted (Ok (queued.Skipped k)) new ((draws, no_room, closed, same), state) stays = absurd (is_open message stays closed)
    Enqueues-unskipped old message counted (Ok (queued.Ready k)) new step stays = refl
    Enqueues-unskipped old message counted (Ok (queued.Overflow k)) new step stays = refl
    Enqueues-unskipped old message counted (Ok queued.Closed) new step stays = refl
    Enqueues-unskipped old message counted (Err error) new step stays = refl
