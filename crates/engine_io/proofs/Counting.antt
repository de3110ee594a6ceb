-- How many counted requests were given, and how many were refused.
use Rattle.std.proofs.Common.{◌≡◌, ◌≤◌, ◌+◌, ◌&&◌, ℕ, Bool, true, false, List, [], ◌∷◌, ◌++◌, arith}
use Rattle.futures.specs.declared.task.Poll.{Poll}
use Rattle.futures.specs.declared.task.Poll.TheVariants.{Ready, Pending}
use Rattle.broadcast_mailbox.specs.declared.buffered.ingress.message.Request.{Request}
use Rattle.broadcast_mailbox.specs.Account.{counted_of, one_if}
use Rattle.broadcast_mailbox.specs.Attended.{ready}
use Rattle.broadcast_mailbox.specs.Queue.{counted_in}
use Rattle.engine_io.specs.Refused.{refusals}
use Rattle.engine_io.specs.Sources.{given}

-- a poll gives as many counted requests as it takes
pub counted-given : {T : Type 0} (requests : List (Request T)) (result : Poll (Request T))
    → counted_in (requests ++ given result) ≡ counted_in requests + counted_of (ready result)
counted-given [] (Ready request) = omega arith
counted-given [] Pending = omega arith
counted-given (x ∷ requests) result = omega (arith, counted-given requests result)

refusals-last : (outcomes : List Bool) (refused : Bool)
    → refusals (outcomes ++ refused ∷ []) ≡ refusals outcomes + one_if refused
refusals-last [] refused = omega arith
refusals-last (x ∷ outcomes) refused = omega (arith, refusals-last outcomes refused)

one_if-and : (undecided refused : Bool) → one_if (undecided && refused) ≤ one_if refused
one_if-and true refused = omega arith
one_if-and false refused = omega arith

-- no more are counted as refused, if what is told is counted at most
pub refusals-told : (outcomes : List Bool) (old new : ℕ) (undecided refused : Bool)
    → new ≡ old + one_if (undecided && refused) → old ≤ refusals outcomes
    → new ≤ refusals (outcomes ++ refused ∷ [])
refusals-told outcomes old new undecided refused counts within =
    omega (arith, refusals-last outcomes refused, one_if-and undecided refused, counts, within)
