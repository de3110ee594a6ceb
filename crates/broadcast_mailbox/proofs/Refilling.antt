-- What refilling a ready list keeps.
use Rattle.std.proofs.Common.{◌≡◌, ℕ, ◌+◌, ◌≤◌, ◌⊎◌, Bool, List, [], ◌∷◌, ◌++◌, length, sym, ap, ◌∙◌, subst, inl, inr, Option, None, Some, append_assoc, arith, length-append}
use Rattle.std.proofs.lemmas.List.{length_push}
use Rattle.broadcast_mailbox.specs.declared.buffered.ingress.message.Request.{Request}
use Rattle.broadcast_mailbox.specs.Overflow.{Drains, PutsWithin}
use Rattle.broadcast_mailbox.specs.Queue.{QueueState, IsRising, Pops, tickets_of, waiting}
use Rattle.broadcast_mailbox.specs.Mailbox.{count_taken}
use Rattle.broadcast_mailbox.proofs.Rising.{IsRising-tickets-without}

module _ {T : Type 0} (answers : T → Bool → Type 0) (size : ℕ) where
  abbrev Refills : List T → List T → List T → List T → List T → Type 0
  Refills ready overflow skipped left filled = Drains answers (PutsWithin size) ready overflow skipped left filled

  -- the ready list has no more than its places, and it is full or nothing is left
  pub Refills-fits : (ready overflow skipped left filled : List T) → length ready ≤ size → Refills ready overflow skipped left filled → (length filled ≤ size) × ((left ≡ []) ⊎ (length filled ≡ size))
  Refills-fits ready [] skipped left filled fits (none, nothing, same) = (omega (arith, ap length same), inl nothing)
  Refills-fits ready (x ∷ xs) skipped left filled fits (inl (closed, (others, is, d))) = Refills-fits ready xs others left filled fits d
  Refills-fits ready (x ∷ xs) skipped left filled fits (inr (inl (opened, (mid, (room, is), d)))) =
      Refills-fits mid xs skipped left filled (omega (arith, room, ap length is, length_push ready x)) d
  Refills-fits ready (x ∷ xs) skipped left filled fits (inr (inr (opened, none, (back, (full, same, stays), is)))) =
      (omega (arith, ap length stays), inr (omega (arith, ap length stays)))

  -- each message is in the ready list, left or skipped
  pub Refills-length : (ready overflow skipped left filled : List T) → Refills ready overflow skipped left filled → length filled + length left + length skipped ≡ length ready + length overflow
  Refills-length ready [] skipped left filled (none, nothing, same) = omega (arith, ap length same, ap length nothing, ap length none)
  Refills-length ready (x ∷ xs) skipped left filled (inl (closed, (others, is, d))) = omega (arith, Refills-length ready xs others left filled d, ap length is)
  Refills-length ready (x ∷ xs) skipped left filled (inr (inl (opened, (mid, (room, is), d)))) =
      omega (arith, Refills-length mid xs skipped left filled d, ap length is, length_push ready x)
  Refills-length ready (x ∷ xs) skipped left filled (inr (inr (opened, none, (back, (full, same, stays), is)))) =
      omega (arith, ap length stays, ap length is, ap length none)

module _ {T : Type 0} (answers : Request T → Bool → Type 0) (size : ℕ) where
  -- the tickets still rise
  pub Refills-rising : (low high : ℕ) (ready overflow skipped left filled : List (Request T)) → IsRising low (tickets_of (ready ++ overflow)) high → Drains answers (PutsWithin size) ready overflow skipped left filled → IsRising low (tickets_of (filled ++ left)) high
  Refills-rising low high ready [] skipped left filled rises (none, nothing, same) =
      subst (λ (xs : List (Request T)). IsRising low (tickets_of xs) high) (sym (cc)) rises
  Refills-rising low high ready (x ∷ xs) skipped left filled rises (inl (closed, (others, is, d))) =
      Refills-rising low high ready xs others left filled (IsRising-tickets-without low ready x xs high rises) d
  Refills-rising low high ready (x ∷ xs) skipped left filled rises (inr (inl (opened, (mid, (room, is), d)))) =
      let same : ready ++ x ∷ xs ≡ mid ++ xs = sym (ap (λ (ys : List (Request T)). ys ++ xs) is ∙ append_assoc ready (x ∷ []) xs) in
      Refills-rising low high mid xs skipped left filled (subst (λ (ys : List (Request T)). IsRising low (tickets_of ys) high) same rises) d
  Refills-rising low high ready (x ∷ xs) skipped left filled rises (inr (inr (opened, none, (back, (full, same, stays), is)))) =
      subst (λ (ys : List (Request T)). IsRising low (tickets_of ys) high) (sym (cc)) rises

module _ {T : Type 0} (answers : T → Bool → Type 0) where
  -- each request that waited was taken, was skipped or waits
  pub Pops-length : (old : QueueState T) (result : Option (Request T)) (skipped : List (Request T)) (new : QueueState T) → Pops answers old result skipped new
      → length (waiting old) ≡ count_taken result + length skipped + length (waiting new)
  Pops-length old None skipped new (nobody, none, same) = omega (arith, ap length none, ap (λ (q : QueueState T). length (waiting q)) same)
  Pops-length old (Some request) skipped new (rest, front, refills, same) =
      let moved = Refills-length (λ (request : Request T) (answer : Bool). answers request.message answer) old.size rest old.overflow skipped new.overflow new.ready refills in
      omega (arith, moved, ap length front, length-append old.ready old.overflow, length-append new.ready new.overflow)

  -- no ticket is drawn
  pub Pops-next : (old : QueueState T) (result : Option (Request T)) (skipped : List (Request T)) (new : QueueState T) → Pops answers old result skipped new → new.next ≡ old.next
  Pops-next old None skipped new (nobody, none, same) = ap (λ (q : QueueState T). q.next) same
  Pops-next old (Some request) skipped new (rest, front, refills, same) = ap (λ (q : QueueState T). q.next) same
