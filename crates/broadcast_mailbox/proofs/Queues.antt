-- Queues stay sound.
use Rattle.std.proofs.Common.{◌≡◌, ◌+◌, Bool, false, List, [], ◌∷◌, ◌++◌, length, Result, is_ok, is_err, cond, refl, sym, append-nil, ap, ◌∙◌, subst, inl, inr, append_assoc, arith}
use Rattle.std.proofs.lemmas.List.{length_push}
use Rattle.std.proofs.lemmas.Bool.{false≢true, cases_lt}
use Rattle.broadcast_mailbox.specs.declared.buffered.ingress.message.Request.{Request}
use Rattle.broadcast_mailbox.specs.Overflow.{Handles, Drains, PutsWithin}
use Rattle.broadcast_mailbox.proofs.Rising.{IsRising-higher, IsRising-lower, IsRising-tickets-push}
use Rattle.broadcast_mailbox.proofs.Refilling.{Refills-fits, Refills-rising}
use Rattle.broadcast_mailbox.proofs.Results.{chosen-ok, handled-ok}
use Rattle.broadcast_mailbox.specs.Queue.{QueueState, IsRising, IsSound, HasRoom, Draws, tickets_of, waiting}

module _ {T : Type 0} where
  -- in a queue that finds no room the ready list is full
  pub full-without_room : (queue : QueueState T) → IsSound queue → (¬ HasRoom queue) → length queue.ready ≡ queue.size
  full-without_room queue sound no_room =
      elim sound.full [
        | inl none ↦ elim (cases_lt (length queue.ready) queue.size) [ inl less ↦ absurd (no_room (none, less)) | inr more ↦ omega (arith, sound.within) ]
        | inr full ↦ full
      ]

  -- one more request in the ready list
  pub IsSound-ready : (queue : QueueState T) (ready : List (Request T)) (message : T) (counted : Bool) → IsSound queue → Draws queue queue.next → HasRoom queue → ready ≡ queue.ready ++ record { ticket = queue.next; message = message; counted = counted } ∷ []
      → IsSound (record queue { ready = ready; next = queue.next + 1 })
  IsSound-ready queue ready message counted sound draws room is =
      let request : Request T = record { ticket = queue.next; message = message; counted = counted } in
      let all : waiting queue ≡ queue.ready = ap (λ (xs : List (Request T)). queue.ready ++ xs) room.0 ∙ append-nil queue.ready in
      let more : ready ++ queue.overflow ≡ waiting queue ++ request ∷ [] =
      ap (λ (xs : List (Request T)). ready ++ xs) room.0 ∙ append-nil ready ∙ is ∙ ap (λ (xs : List (Request T)). xs ++ request ∷ []) (sym all) in
      record {
        some_places = sound.some_places;
        within = omega (arith, ap length is, length_push queue.ready request, room.1);
        full = inl room.0;
        rising = subst (λ (xs : List (Request T)). IsRising 0 (tickets_of xs) (queue.next + 1)) (sym more) (IsRising-tickets-push 0 (waiting queue) request queue.next refl sound.rising);
        shut = λ closed. absurd (false≢true (sym draws.is_open ∙ closed));
        drawn = omega (arith, draws.left);
      }

  -- one more request in the ready list, pushed with no error
  pub IsSound-pushed : {E : Type 0} (queue : QueueState T) (ready : List (Request T)) (message : T) (counted : Bool) (r : Result Unit E)
      → IsSound queue → Draws queue queue.next → HasRoom queue → false ≡ is_err r → ready ≡ cond (is_ok r) (queue.ready ++ record { ticket = queue.next; message = message; counted = counted } ∷ []) queue.ready
      → IsSound (record queue { ready = ready; next = queue.next + 1 })
  IsSound-pushed queue ready message counted r sound draws room fine is = IsSound-ready queue ready message counted sound draws room (chosen-ok r _ _ _ fine is)

  -- one more request in the overflow
  pub IsSound-overflow : (queue : QueueState T) (overflow : List (Request T)) (message : T) (counted : Bool) → IsSound queue → Draws queue queue.next → (¬ HasRoom queue) → overflow ≡ queue.overflow ++ record { ticket = queue.next; message = message; counted = counted } ∷ []
      → IsSound (record queue { overflow = overflow; next = queue.next + 1 })
  IsSound-overflow queue overflow message counted sound draws no_room is =
      let request : Request T = record { ticket = queue.next; message = message; counted = counted } in
      let more : queue.ready ++ overflow ≡ waiting queue ++ request ∷ [] =
      ap (λ (xs : List (Request T)). queue.ready ++ xs) is ∙ sym (append_assoc queue.ready queue.overflow (request ∷ [])) in
      record {
        some_places = sound.some_places;
        within = sound.within;
        full = inr (full-without_room queue sound no_room);
        rising = subst (λ (xs : List (Request T)). IsRising 0 (tickets_of xs) (queue.next + 1)) (sym more) (IsRising-tickets-push 0 (waiting queue) request queue.next refl sound.rising);
        shut = λ closed. absurd (false≢true (sym draws.is_open ∙ closed));
        drawn = omega (arith, draws.left);
      }

  -- one more ticket drawn
  pub IsSound-drawn : (queue : QueueState T) (overflow : List (Request T)) → IsSound queue → Draws queue queue.next → overflow ≡ queue.overflow → IsSound (record queue { overflow = overflow; next = queue.next + 1 })
  IsSound-drawn queue overflow sound draws is =
      subst (λ (xs : List (Request T)). IsSound (record queue { overflow = xs; next = queue.next + 1 })) (sym is) (record {
        some_places = sound.some_places;
        within = sound.within;
        full = sound.full;
        rising = IsRising-higher 0 (tickets_of (waiting queue)) queue.next (queue.next + 1) (omega arith) sound.rising;
        shut = sound.shut;
        drawn = omega (arith, draws.left);
      })

  -- a request that finds no room, handled with no error
  pub IsSound-handled : {E : Type 0} {queue : QueueState T} (answers : Request T → Bool → Type 0) (overflow : List (Request T)) (message : T) (counted : Bool) (r : Result Unit E)
      → IsSound queue → Draws queue queue.next → (¬ HasRoom queue) → false ≡ is_err r → Handles answers queue.overflow (record { ticket = queue.next; message = message; counted = counted }) r overflow
      → IsSound (record queue { overflow = overflow; next = queue.next + 1 })
  IsSound-handled {queue} answers overflow message counted r sound draws no_room fine handles =
      elim (handled-ok answers queue.overflow (record { ticket = queue.next; message = message; counted = counted }) r overflow fine handles) [
        | inl dropped ↦ IsSound-drawn queue overflow sound draws dropped.1
        | inr kept ↦ IsSound-overflow queue overflow message counted sound draws no_room kept.1
      ]

  nothing_in : (requests : List (Request T)) → length requests ≡ 0 → requests ≡ []
  nothing_in [] none = refl
  nothing_in (request ∷ rest) none = absurd (omega (arith, none))

  -- who waits is nobody where the ready list is empty
  pub nobody_waits : (queue : QueueState T) → IsSound queue → length queue.ready ≡ 0 → waiting queue ≡ []
  nobody_waits queue sound none =
      elim sound.full [
        | inl empty ↦ rw (nothing_in queue.ready none, empty) refl
        | inr full ↦ absurd (omega (arith, sound.some_places, none, full))
      ]

  -- who waits is not nobody where the ready list has a front
  filled_not_nil : (queue : QueueState T) (request : Request T) (rest : List (Request T)) → queue.ready ≡ request ∷ rest → waiting queue ≡ [] → ⊥
  filled_not_nil queue request rest is none =
      let e : request ∷ (rest ++ queue.overflow) ≡ [] = ap (λ (xs : List (Request T)). xs ++ queue.overflow) (sym is) ∙ none in cc

  -- without its front, and filled again
  pub IsSound-refilled : (answers : Request T → Bool → Type 0) (queue : QueueState T) (request : Request T) (rest skipped left filled : List (Request T)) → IsSound queue → queue.ready ≡ request ∷ rest
      → Drains answers (PutsWithin queue.size) rest queue.overflow skipped left filled → IsSound (record queue { ready = filled; overflow = left })
  IsSound-refilled answers queue request rest skipped left filled sound is refills =
      let fits = Refills-fits answers queue.size rest queue.overflow skipped left filled (omega (arith, ap length is, sound.within)) refills in
      let rises = subst (λ (xs : List (Request T)). IsRising 0 (tickets_of (xs ++ queue.overflow)) queue.next) is sound.rising in
      record {
        some_places = sound.some_places;
        within = fits.0;
        full = fits.1;
        rising = Refills-rising answers queue.size 0 queue.next rest queue.overflow skipped left filled (IsRising-lower 0 (request.ticket + 1) (tickets_of (rest ++ queue.overflow)) queue.next (omega arith) rises.1) refills;
        shut = λ closed. absurd (filled_not_nil queue request rest is (sound.shut closed));
        drawn = sound.drawn;
      }
