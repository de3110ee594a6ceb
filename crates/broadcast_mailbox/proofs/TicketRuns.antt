-- What the steps of a mailbox do with its tickets.
use Rattle.std.proofs.Common.{◌≡◌, ℕ, ◌+◌, ◌≤◌, Bool, List, [], ◌∷◌, ◌++◌, length, Option, None, Some, Ok, Err, sym, subst, append_assoc, ap, inl, inr, arith, length-append}
use Rattle.std.specs.List.{flat_map}
use Rattle.broadcast_mailbox.specs.declared.buffered.ingress.message.Request.{Request}
use Rattle.broadcast_mailbox.specs.declared.buffered.ingress.message.Queued.TheVariants as queued
use Rattle.broadcast_mailbox.specs.declared.broadcaster.MailboxError.TheVariants.{Memory, Exhausted}
use Rattle.broadcast_mailbox.specs.Overflow.{Drains, PutsWithin}
use Rattle.broadcast_mailbox.specs.Queue.{QueueState, IsRising, Pops, tickets_of, waiting, request_of, with_ready, with_overflow}
use Rattle.broadcast_mailbox.specs.Mailbox.{MailboxState, mailbox_after}
use Rattle.broadcast_mailbox.specs.Tickets.{Call, Enqueued, Took, StopRequested, GaveUp, times, drawn_by, taken_by, skipped_by, given_up_by, ends, Moves, Runs, IsLawful}
use Rattle.broadcast_mailbox.proofs.Rising.{IsRising-append, IsRising-higher, IsRising-onward, length-IsRising, length-tickets_of, rising-ready, rising-overflow}
use Rattle.broadcast_mailbox.proofs.Refilling.{Pops-next, Refills-rising}
use Rattle.broadcast_mailbox.proofs.TicketCounts.{times-append, times-Contains, times-none}

module _ {T : Type 0} (ticket : ℕ) where
  -- how often a ticket stands among requests
  abbrev held : List (Request T) → ℕ
  held requests = times ticket (tickets_of requests)

  held-append : (xs ys : List (Request T)) → held (xs ++ ys) ≡ held xs + held ys
  held-append [] ys = omega arith
  held-append (x ∷ xs) ys = omega (arith, held-append xs ys)

  -- refilling keeps each ticket
  held-Refills : (answers : Request T → Bool → Type 0) (size : ℕ) (ready overflow skipped left filled : List (Request T)) → Drains answers (PutsWithin size) ready overflow skipped left filled → held filled + held left + held skipped ≡ held ready + held overflow
  held-Refills answers size ready [] skipped left filled (none, nothing, same) = omega (arith, ap held same, ap held nothing, ap held none)
  held-Refills answers size ready (x ∷ xs) skipped left filled (inl (closed, (others, is, d))) =
      omega (arith, held-Refills answers size ready xs others left filled d, ap held is)
  held-Refills answers size ready (x ∷ xs) skipped left filled (inr (inl (opened, (mid, (room, is), d)))) =
      omega (arith, held-Refills answers size mid xs skipped left filled d, ap held is, held-append ready (x ∷ []))
  held-Refills answers size ready (x ∷ xs) skipped left filled (inr (inr (opened, none, (back, (full, same, stays), is)))) =
      omega (arith, ap held stays, ap held is, ap (λ (b : Request T). held (b ∷ xs)) same, ap held none)

  -- a queue with one more request, in its ready list or in its overflow
  held-ready : (queue : QueueState T) (message : T) (counted : Bool) → held (waiting (with_ready queue message counted)) ≡ held (waiting queue) + times ticket (queue.next ∷ [])
  held-ready queue message counted =
      let request : Request T = request_of queue message counted in
      omega (arith, held-append (queue.ready ++ request ∷ []) queue.overflow, held-append queue.ready (request ∷ []), held-append queue.ready queue.overflow)

  held-overflow : (queue : QueueState T) (message : T) (counted : Bool) → held (waiting (with_overflow queue message counted)) ≡ held (waiting queue) + times ticket (queue.next ∷ [])
  held-overflow queue message counted =
      let request : Request T = request_of queue message counted in
      omega (arith, held-append queue.ready (queue.overflow ++ request ∷ []), held-append queue.overflow (request ∷ []), held-append queue.ready queue.overflow)

module _ {T : Type 0} (answers : T → Bool → Type 0) where
  -- one step keeps each ticket
  times-Moves : (ticket : ℕ) (old : MailboxState T) (step : Call T) (new : MailboxState T) → Moves answers old step new
      → held ticket (waiting old.queue) + times ticket (drawn_by step) ≡ times ticket (taken_by step) + times ticket (skipped_by step) + held ticket (waiting new.queue) + times ticket (given_up_by step)
  times-Moves ticket old (Enqueued message counted (Ok (queued.Ready k))) new ((draws, room, same), state) =
      omega (arith, ap (λ (q : QueueState T). held ticket (waiting q)) same, held-ready ticket old.queue message counted, ap (λ (n : ℕ). times ticket (n ∷ [])) draws.next)
  times-Moves ticket old (Enqueued message counted (Ok (queued.Overflow k))) new ((draws, no_room, opened, same), state) =
      omega (arith, ap (λ (q : QueueState T). held ticket (waiting q)) same, held-overflow ticket old.queue message counted, ap (λ (n : ℕ). times ticket (n ∷ [])) draws.next)
  times-Moves ticket old (Enqueued message counted (Ok (queued.Skipped k))) new ((draws, no_room, closed, same), state) =
      omega (arith, ap (λ (q : QueueState T). held ticket (waiting q)) same)
  times-Moves ticket old (Enqueued message counted (Ok queued.Closed)) new ((closed, same), state) =
      omega (arith, ap (λ (q : QueueState T). held ticket (waiting q)) same)
  times-Moves ticket old (Enqueued message counted (Err Memory)) new ((draws, lacks, same), state) =
      omega (arith, ap (λ (q : QueueState T). held ticket (waiting q)) same)
  times-Moves ticket old (Enqueued message counted (Err Exhausted)) new ((opened, last, same), state) =
      omega (arith, ap (λ (q : QueueState T). held ticket (waiting q)) same)
  times-Moves ticket old (Took None skipped) new ((nobody, none, same), state) =
      omega (arith, ap (λ (q : QueueState T). held ticket (waiting q)) same, ap (held ticket) none)
  times-Moves ticket old (Took (Some request) skipped) new ((rest, front, refills, same), state) =
      let moved = held-Refills ticket (λ (request : Request T) (answer : Bool). answers request.message answer) old.queue.size rest old.queue.overflow skipped new.queue.overflow new.queue.ready refills in
      omega (arith, moved, ap (held ticket) front, held-append ticket old.queue.ready old.queue.overflow, held-append ticket new.queue.ready new.queue.overflow)
  times-Moves ticket old StopRequested new same = omega (arith, ap (λ (s : MailboxState T). held ticket (waiting s.queue)) same)
  times-Moves ticket old (GaveUp requests) new (all, (len, same)) =
      omega (arith, ap (λ (s : MailboxState T). held ticket (waiting s.queue)) same, ap (held ticket) all)

  rising-Took : (old : QueueState T) (result : Option (Request T)) (skipped : List (Request T)) (new : QueueState T) → Pops answers old result skipped new → IsRising old.next (drawn_by (Took result skipped)) new.next
  rising-Took old None skipped new pops = omega (arith, Pops-next answers old None skipped new pops)
  rising-Took old (Some request) skipped new pops = omega (arith, Pops-next answers old (Some request) skipped new pops)

  -- one step hands out the next tickets
  rising-Moves : (old : MailboxState T) (step : Call T) (new : MailboxState T) → Moves answers old step new → IsRising old.queue.next (drawn_by step) new.queue.next
  rising-Moves old (Enqueued message counted (Ok (queued.Ready k))) new ((draws, room, same), state) =
      (omega (arith, draws.next), omega (arith, draws.next, ap (λ (q : QueueState T). q.next) same))
  rising-Moves old (Enqueued message counted (Ok (queued.Overflow k))) new ((draws, no_room, opened, same), state) =
      (omega (arith, draws.next), omega (arith, draws.next, ap (λ (q : QueueState T). q.next) same))
  rising-Moves old (Enqueued message counted (Ok (queued.Skipped k))) new ((draws, no_room, closed, same), state) =
      (omega (arith, draws.next), omega (arith, draws.next, ap (λ (q : QueueState T). q.next) same))
  rising-Moves old (Enqueued message counted (Ok queued.Closed)) new ((closed, same), state) = omega (arith, ap (λ (q : QueueState T). q.next) same)
  rising-Moves old (Enqueued message counted (Err Memory)) new ((draws, lacks, same), state) = omega (arith, ap (λ (q : QueueState T). q.next) same)
  rising-Moves old (Enqueued message counted (Err Exhausted)) new ((opened, last, same), state) = omega (arith, ap (λ (q : QueueState T). q.next) same)
  rising-Moves old (Took result skipped) new (pops, state) = rising-Took old.queue result skipped new.queue pops
  rising-Moves old StopRequested new same = omega (arith, ap (λ (s : MailboxState T). s.queue.next) same)
  rising-Moves old (GaveUp requests) new (all, (len, same)) = omega (arith, ap (λ (s : MailboxState T). s.queue.next) same)

  -- one step counts what it takes, skips and gives up
  counted-Moves : (old : MailboxState T) (step : Call T) (new : MailboxState T) → Moves answers old step new
      → (new.taken ≡ old.taken + length (taken_by step)) × (new.skipped ≡ old.skipped + length (skipped_by step)) × (new.given_up ≡ old.given_up + length (given_up_by step))
  counted-Moves old (Enqueued message counted (Ok (queued.Ready k))) new (step, same) =
      (omega (arith, ap (λ (s : MailboxState T). s.taken) same), omega (arith, ap (λ (s : MailboxState T). s.skipped) same), omega (arith, ap (λ (s : MailboxState T). s.given_up) same))
  counted-Moves old (Enqueued message counted (Ok (queued.Overflow k))) new (step, same) =
      (omega (arith, ap (λ (s : MailboxState T). s.taken) same), omega (arith, ap (λ (s : MailboxState T). s.skipped) same), omega (arith, ap (λ (s : MailboxState T). s.given_up) same))
  counted-Moves old (Enqueued message counted (Ok (queued.Skipped k))) new (step, same) =
      (omega (arith, ap (λ (s : MailboxState T). s.taken) same), omega (arith, ap (λ (s : MailboxState T). s.skipped) same), omega (arith, ap (λ (s : MailboxState T). s.given_up) same))
  counted-Moves old (Enqueued message counted (Ok queued.Closed)) new (step, same) =
      (omega (arith, ap (λ (s : MailboxState T). s.taken) same), omega (arith, ap (λ (s : MailboxState T). s.skipped) same), omega (arith, ap (λ (s : MailboxState T). s.given_up) same))
  counted-Moves old (Enqueued message counted (Err Memory)) new (step, same) =
      (omega (arith, ap (λ (s : MailboxState T). s.taken) same), omega (arith, ap (λ (s : MailboxState T). s.skipped) same), omega (arith, ap (λ (s : MailboxState T). s.given_up) same))
  counted-Moves old (Enqueued message counted (Err Exhausted)) new (step, same) =
      (omega (arith, ap (λ (s : MailboxState T). s.taken) same), omega (arith, ap (λ (s : MailboxState T). s.skipped) same), omega (arith, ap (λ (s : MailboxState T). s.given_up) same))
  counted-Moves old (Took None skipped) new (step, same) =
      (omega (arith, ap (λ (s : MailboxState T). s.taken) same, length-tickets_of skipped), omega (arith, ap (λ (s : MailboxState T). s.skipped) same, length-tickets_of skipped), omega (arith, ap (λ (s : MailboxState T). s.given_up) same, length-tickets_of skipped))
  counted-Moves old (Took (Some request) skipped) new (step, same) =
      (omega (arith, ap (λ (s : MailboxState T). s.taken) same, length-tickets_of skipped), omega (arith, ap (λ (s : MailboxState T). s.skipped) same, length-tickets_of skipped), omega (arith, ap (λ (s : MailboxState T). s.given_up) same, length-tickets_of skipped))
  counted-Moves old StopRequested new same =
      (omega (arith, ap (λ (s : MailboxState T). s.taken) same), omega (arith, ap (λ (s : MailboxState T). s.skipped) same), omega (arith, ap (λ (s : MailboxState T). s.given_up) same))
  counted-Moves old (GaveUp requests) new (all, (len, same)) =
      (omega (arith, ap (λ (s : MailboxState T). s.taken) same, length-tickets_of requests), omega (arith, ap (λ (s : MailboxState T). s.skipped) same, length-tickets_of requests), omega (arith, ap (λ (s : MailboxState T). s.given_up) same, length-tickets_of requests))

  -- a step leaves the tickets that wait rising, behind those that it takes
  waiting-Moves : (low : ℕ) (old : MailboxState T) (step : Call T) (new : MailboxState T) → IsRising low (tickets_of (waiting old.queue)) old.queue.next → Moves answers old step new → IsRising low (taken_by step ++ tickets_of (waiting new.queue)) new.queue.next
  waiting-Moves low old (Enqueued message counted (Ok (queued.Ready k))) new rises ((draws, room, same), state) =
      subst (λ (q : QueueState T). IsRising low (tickets_of (waiting q)) q.next) (sym same) (rising-ready low old.queue message counted room.0 rises)
  waiting-Moves low old (Enqueued message counted (Ok (queued.Overflow k))) new rises ((draws, no_room, opened, same), state) =
      subst (λ (q : QueueState T). IsRising low (tickets_of (waiting q)) q.next) (sym same) (rising-overflow low old.queue message counted rises)
  waiting-Moves low old (Enqueued message counted (Ok (queued.Skipped k))) new rises ((draws, no_room, closed, same), state) =
      subst (λ (q : QueueState T). IsRising low (tickets_of (waiting q)) q.next) (sym same) (IsRising-higher low (tickets_of (waiting old.queue)) old.queue.next (old.queue.next + 1) (omega arith) rises)
  waiting-Moves low old (Enqueued message counted (Ok queued.Closed)) new rises ((closed, same), state) =
      subst (λ (q : QueueState T). IsRising low (tickets_of (waiting q)) q.next) (sym same) rises
  waiting-Moves low old (Enqueued message counted (Err Memory)) new rises ((draws, lacks, same), state) =
      subst (λ (q : QueueState T). IsRising low (tickets_of (waiting q)) q.next) (sym same) rises
  waiting-Moves low old (Enqueued message counted (Err Exhausted)) new rises ((opened, last, same), state) =
      subst (λ (q : QueueState T). IsRising low (tickets_of (waiting q)) q.next) (sym same) rises
  waiting-Moves low old (Took None skipped) new rises ((nobody, none, same), state) =
      subst (λ (q : QueueState T). IsRising low (tickets_of (waiting q)) q.next) (sym same) rises
  waiting-Moves low old (Took (Some request) skipped) new rises ((rest, front, refills, same), state) =
      let split = subst (λ (xs : List (Request T)). IsRising low (tickets_of (xs ++ old.queue.overflow)) old.queue.next) front rises in
      let filled = Refills-rising (λ (request : Request T) (answer : Bool). answers request.message answer) old.queue.size (request.ticket + 1) old.queue.next rest old.queue.overflow skipped new.queue.overflow new.queue.ready split.1 refills in
      (split.0, subst (λ (n : ℕ). IsRising (request.ticket + 1) (tickets_of (waiting new.queue)) n) (sym (ap (λ (q : QueueState T). q.next) same)) filled)
  waiting-Moves low old StopRequested new rises same =
      subst (λ (s : MailboxState T). IsRising low (tickets_of (waiting s.queue)) s.queue.next) (sym same) rises
  waiting-Moves low old (GaveUp requests) new rises (all, (len, same)) =
      let within : low ≤ old.queue.next = omega (arith, length-IsRising low (tickets_of (waiting old.queue)) old.queue.next rises) in
      subst (λ (s : MailboxState T). IsRising low (tickets_of (waiting s.queue)) s.queue.next) (sym same) within

  -- a step draws the next tickets
  drawn-Moves : (old : MailboxState T) (step : Call T) (new : MailboxState T) → Moves answers old step new → new.queue.next ≡ old.queue.next + length (drawn_by step)
  drawn-Moves old (Enqueued message counted (Ok (queued.Ready k))) new ((draws, room, same), state) = omega (arith, ap (λ (q : QueueState T). q.next) same)
  drawn-Moves old (Enqueued message counted (Ok (queued.Overflow k))) new ((draws, no_room, opened, same), state) = omega (arith, ap (λ (q : QueueState T). q.next) same)
  drawn-Moves old (Enqueued message counted (Ok (queued.Skipped k))) new ((draws, no_room, closed, same), state) = omega (arith, ap (λ (q : QueueState T). q.next) same)
  drawn-Moves old (Enqueued message counted (Ok queued.Closed)) new ((closed, same), state) = omega (arith, ap (λ (q : QueueState T). q.next) same)
  drawn-Moves old (Enqueued message counted (Err Memory)) new ((draws, lacks, same), state) = omega (arith, ap (λ (q : QueueState T). q.next) same)
  drawn-Moves old (Enqueued message counted (Err Exhausted)) new ((opened, last, same), state) = omega (arith, ap (λ (q : QueueState T). q.next) same)
  drawn-Moves old (Took result skipped) new (pops, state) = omega (arith, Pops-next answers old.queue result skipped new.queue pops)
  drawn-Moves old StopRequested new same = omega (arith, ap (λ (s : MailboxState T). s.queue.next) same)
  drawn-Moves old (GaveUp requests) new (all, (len, same)) = omega (arith, ap (λ (s : MailboxState T). s.queue.next) same)

  -- a run keeps each ticket
  times-Runs : (ticket : ℕ) (old : MailboxState T) (steps : List (Call T)) (new : MailboxState T) → Runs answers old steps new → held ticket (waiting old.queue) + times ticket (flat_map drawn_by steps) ≡ ends ticket steps new
  times-Runs ticket old [] new same = omega (arith, ap (λ (s : MailboxState T). held ticket (waiting s.queue)) same)
  times-Runs ticket old (step ∷ steps) new (mid, moves, runs) =
      omega (arith, times-Moves ticket old step mid moves, times-Runs ticket mid steps new runs, times-append ticket (drawn_by step) (flat_map drawn_by steps), times-append ticket (taken_by step) (flat_map taken_by steps), times-append ticket (skipped_by step) (flat_map skipped_by steps), times-append ticket (given_up_by step) (flat_map given_up_by steps))

  -- a run hands out the next tickets
  rising-Runs : (old : MailboxState T) (steps : List (Call T)) (new : MailboxState T) → Runs answers old steps new → IsRising old.queue.next (flat_map drawn_by steps) new.queue.next
  rising-Runs old [] new same = omega (arith, ap (λ (s : MailboxState T). s.queue.next) same)
  rising-Runs old (step ∷ steps) new (mid, moves, runs) =
      IsRising-append old.queue.next (drawn_by step) mid.queue.next (flat_map drawn_by steps) new.queue.next (rising-Moves old step mid moves) (rising-Runs mid steps new runs)

  -- a run counts what it takes, skips and gives up
  counted-Runs : (old : MailboxState T) (steps : List (Call T)) (new : MailboxState T) → Runs answers old steps new
      → (new.taken ≡ old.taken + length (flat_map taken_by steps)) × (new.skipped ≡ old.skipped + length (flat_map skipped_by steps)) × (new.given_up ≡ old.given_up + length (flat_map given_up_by steps))
  counted-Runs old [] new same =
      (omega (arith, ap (λ (s : MailboxState T). s.taken) same), omega (arith, ap (λ (s : MailboxState T). s.skipped) same), omega (arith, ap (λ (s : MailboxState T). s.given_up) same))
  counted-Runs old (step ∷ steps) new (mid, moves, runs) =
      let one = counted-Moves old step mid moves in
      let others = counted-Runs mid steps new runs in (
        omega (arith, one.0, others.0, length-append (taken_by step) (flat_map taken_by steps)),
        omega (arith, one.1, others.1, length-append (skipped_by step) (flat_map skipped_by steps)),
        omega (arith, one.2, others.2, length-append (given_up_by step) (flat_map given_up_by steps)),
      )

  -- a run leaves the tickets that wait rising, behind those that it takes
  waiting-Runs : (low : ℕ) (old : MailboxState T) (steps : List (Call T)) (new : MailboxState T) → IsRising low (tickets_of (waiting old.queue)) old.queue.next → Runs answers old steps new → IsRising low (flat_map taken_by steps ++ tickets_of (waiting new.queue)) new.queue.next
  waiting-Runs low old [] new rises same =
      subst (λ (s : MailboxState T). IsRising low (tickets_of (waiting s.queue)) s.queue.next) (sym same) rises
  waiting-Runs low old (step ∷ steps) new rises (mid, moves, runs) =
      let all = IsRising-onward low (taken_by step) (tickets_of (waiting mid.queue)) mid.queue.next (flat_map taken_by steps ++ tickets_of (waiting new.queue)) new.queue.next (waiting-Moves low old step mid rises moves) (λ from on. waiting-Runs from mid steps new on runs) in
      subst (λ (xs : List ℕ). IsRising low xs new.queue.next) (sym (append_assoc (taken_by step) (flat_map taken_by steps) (tickets_of (waiting new.queue)))) all

  -- a run draws the next tickets
  drawn-Runs : (old : MailboxState T) (steps : List (Call T)) (new : MailboxState T) → Runs answers old steps new → new.queue.next ≡ old.queue.next + length (flat_map drawn_by steps)
  drawn-Runs old [] new same = omega (arith, ap (λ (s : MailboxState T). s.queue.next) same)
  drawn-Runs old (step ∷ steps) new (mid, moves, runs) =
      omega (arith, drawn-Moves old step mid moves, drawn-Runs mid steps new runs, length-append (drawn_by step) (flat_map drawn_by steps))

  -- every list of steps is lawful
  pub IsLawful-Runs : (size before : ℕ) (steps : List (Call T)) (last : MailboxState T) → Runs answers (mailbox_after size before) steps last → IsLawful before steps last
  IsLawful-Runs size before steps last runs =
      let rises = rising-Runs (mailbox_after size before) steps last runs in
      let counted = counted-Runs (mailbox_after size before) steps last runs in
      record {
        drawn_rise = rises;
        taken_rise = waiting-Runs before (mailbox_after size before) steps last (omega arith) runs;
        drawn_end_once = λ ticket given. omega (arith, times-Runs ticket (mailbox_after size before) steps last runs, times-Contains ticket before (flat_map drawn_by steps) last.queue.next rises given);
        others_never_end = λ ticket none. omega (arith, times-Runs ticket (mailbox_after size before) steps last runs, times-none ticket (flat_map drawn_by steps) none);
        accepted = omega (arith, drawn-Runs (mailbox_after size before) steps last runs);
        taken = omega (arith, counted.0);
        skipped = omega (arith, counted.1);
        given_up = omega (arith, counted.2);
      }
