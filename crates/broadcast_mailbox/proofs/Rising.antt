-- Tickets that rise.
use Rattle.std.proofs.Common.{◌≡◌, ℕ, suc, ◌+◌, ◌≤◌, Bool, List, [], ◌∷◌, ◌++◌, length, refl, sym, ap, ◌∙◌, subst, arith, append-nil, append_assoc}
use Rattle.std.proofs.lemmas.List.{map-append}
use Rattle.broadcast_mailbox.specs.declared.buffered.ingress.message.Request.{Request}
use Rattle.broadcast_mailbox.specs.Queue.{QueueState, IsRising, request_of, tickets_of, waiting, with_ready, with_overflow}

-- tickets that stay below a number stay below a higher one
pub IsRising-higher : (low : ℕ) (tickets : List ℕ) (high above : ℕ) → high ≤ above → IsRising low tickets high → IsRising low tickets above
IsRising-higher low [] high above up rises = omega arith
IsRising-higher low (ticket ∷ tickets) high above up rises = (rises.0, IsRising-higher (ticket + 1) tickets high above up rises.1)

-- tickets from a number on are tickets from a lower one on
pub IsRising-lower : (below low : ℕ) (tickets : List ℕ) (high : ℕ) → below ≤ low → IsRising low tickets high → IsRising below tickets high
IsRising-lower below low [] high down rises = omega arith
IsRising-lower below low (ticket ∷ tickets) high down rises = (omega (arith, rises.0), rises.1)

-- one more ticket at the end
pub IsRising-push : (low : ℕ) (tickets : List ℕ) (high : ℕ) → IsRising low tickets high → IsRising low (tickets ++ high ∷ []) (high + 1)
IsRising-push low [] high rises = (rises, omega arith)
IsRising-push low (ticket ∷ tickets) high rises = (rises.0, IsRising-push (ticket + 1) tickets high rises.1)

-- tickets behind others
pub IsRising-append : (low : ℕ) (xs : List ℕ) (mid : ℕ) (ys : List ℕ) (high : ℕ) → IsRising low xs mid → IsRising mid ys high → IsRising low (xs ++ ys) high
IsRising-append low [] mid ys high first second = IsRising-lower low mid ys high first second
IsRising-append low (x ∷ xs) mid ys high first second = (first.0, IsRising-append (x + 1) xs mid ys high first.1 second)

-- others behind the same tickets
pub IsRising-onward : (low : ℕ) (xs ys : List ℕ) (mid : ℕ) (zs : List ℕ) (high : ℕ) → IsRising low (xs ++ ys) mid → ((from : ℕ) → IsRising from ys mid → IsRising from zs high) → IsRising low (xs ++ zs) high
IsRising-onward low [] ys mid zs high rises on = on low rises
IsRising-onward low (x ∷ xs) ys mid zs high rises on = (rises.0, IsRising-onward (x + 1) xs ys mid zs high rises.1 on)

-- there are no more of them than numbers
pub length-IsRising : (low : ℕ) (tickets : List ℕ) (high : ℕ) → IsRising low tickets high → low + length tickets ≤ high
length-IsRising low [] high rises = omega arith
length-IsRising low (ticket ∷ tickets) high rises = omega (arith, rises.0, length-IsRising (ticket + 1) tickets high rises.1)

module _ {T : Type 0} where
  -- the tickets of requests with one more at the end
  pub tickets_of-push : (requests : List (Request T)) (request : Request T) → tickets_of (requests ++ request ∷ []) ≡ tickets_of requests ++ request.ticket ∷ []
  tickets_of-push requests request = map-append (λ (r : Request T). r.ticket) requests (request ∷ [])

  -- a request that draws the next ticket keeps them rising
  pub IsRising-tickets-push : (low : ℕ) (requests : List (Request T)) (request : Request T) (high : ℕ) → request.ticket ≡ high → IsRising low (tickets_of requests) high → IsRising low (tickets_of (requests ++ request ∷ [])) (high + 1)
  IsRising-tickets-push low requests request high is rises =
      subst (λ (ts : List ℕ). IsRising low ts (high + 1)) (sym (tickets_of-push requests request ∙ ap (λ (t : ℕ). tickets_of requests ++ t ∷ []) is)) (IsRising-push low (tickets_of requests) high rises)

  -- a queue with one more request, in its ready list or in its overflow
  pub rising-ready : (low : ℕ) (queue : QueueState T) (message : T) (counted : Bool) → queue.overflow ≡ [] → IsRising low (tickets_of (waiting queue)) queue.next → IsRising low (tickets_of (waiting (with_ready queue message counted))) (queue.next + 1)
  rising-ready low queue message counted none rises =
      let request : Request T = request_of queue message counted in
      let before : waiting queue ≡ queue.ready = ap (λ (xs : List (Request T)). queue.ready ++ xs) none ∙ append-nil queue.ready in
      let after : (queue.ready ++ request ∷ []) ++ queue.overflow ≡ queue.ready ++ request ∷ [] = ap (λ (xs : List (Request T)). (queue.ready ++ request ∷ []) ++ xs) none ∙ append-nil (queue.ready ++ request ∷ []) in
      subst (λ (xs : List (Request T)). IsRising low (tickets_of xs) (queue.next + 1)) (sym after) (IsRising-tickets-push low queue.ready request queue.next refl (subst (λ (xs : List (Request T)). IsRising low (tickets_of xs) queue.next) before rises))

  pub rising-overflow : (low : ℕ) (queue : QueueState T) (message : T) (counted : Bool) → IsRising low (tickets_of (waiting queue)) queue.next → IsRising low (tickets_of (waiting (with_overflow queue message counted))) (queue.next + 1)
  rising-overflow low queue message counted rises =
      let request : Request T = request_of queue message counted in
      subst (λ (xs : List (Request T)). IsRising low (tickets_of xs) (queue.next + 1)) (append_assoc queue.ready queue.overflow (request ∷ [])) (IsRising-tickets-push low (waiting queue) request queue.next refl rises)

  -- without a request they still rise
  pub IsRising-tickets-without : (low : ℕ) (before : List (Request T)) (request : Request T) (after : List (Request T)) (high : ℕ) → IsRising low (tickets_of (before ++ request ∷ after)) high → IsRising low (tickets_of (before ++ after)) high
  IsRising-tickets-without low [] request after high rises = IsRising-lower low (request.ticket + 1) (tickets_of after) high (omega (arith, rises.0)) rises.1
  IsRising-tickets-without low (first ∷ before) request after high rises =
      (rises.0, IsRising-tickets-without (first.ticket + 1) before request after high rises.1)

  pub length-tickets_of : (requests : List (Request T)) → length (tickets_of requests) ≡ length requests
  length-tickets_of [] = refl
  length-tickets_of (request ∷ requests) = ap (λ (n : ℕ). suc n) (length-tickets_of requests)
