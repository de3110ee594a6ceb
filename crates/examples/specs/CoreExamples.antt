-- Internal.
-- Worked examples, computed by the definitions. A message is a pair of numbers, of which the second
-- is its digest. Its encoding is both, and as many zeros as the first says.
use Rattle.std.specs.Prelude.{◌≡◌, ◌^◌, ◌-◌, ℕ, zero, suc, ◌==◌, false, List, [], ◌∷◌, map, None, Some, Result, Ok, Err}
use Rattle.broadcast_core.specs.Carried.{Carried}
use Rattle.broadcast_core.specs.Setting.{Setting, setting}
use Rattle.broadcast_core.specs.Happening.{History}
use Rattle.broadcast_core.specs.Log.{after}
use Rattle.broadcast_core.specs.Answers.{answer_to}
use Rattle.broadcast_core.specs.Lists.{list}
use Rattle.broadcast_core.specs.Waiting.{waiting}
use Rattle.broadcast_core.specs.Sent.{sent}
use Rattle.broadcast_core.specs.declared.codec.CodecError.{CodecError}
use Rattle.broadcast_core.specs.declared.codec.CodecError.TheVariants.{EndOfBuffer}
use Rattle.broadcast_core.specs.declared.event.Event.{Event}
use Rattle.broadcast_core.specs.declared.event.Event.TheVariants.{Peers, Broadcast, Payload, Subscribe, Get, Cleanup}
use Rattle.broadcast_core.specs.declared.event.Answer.{Answer}
use Rattle.broadcast_core.specs.declared.event.Answer.TheVariants as answer
use Rattle.broadcast_core.specs.declared.event.Sent.{Sent}
use Rattle.broadcast_core.specs.declared.ordered.Recipients.TheVariants.{All}
use Rattle.broadcast_core.specs.declared.outcome.Outcome.{Outcome}
use Rattle.broadcast_core.specs.declared.outcome.Outcome.TheVariants.{Inserted, Duplicate, Oversize, Ineligible}

abbrev pub Message : Type 0
Message = ℕ × ℕ

abbrev reading : List ℕ → Result Message CodecError
reading (c ∷ x ∷ []) = Ok (c, x)
reading _ = Err EndOfBuffer

abbrev zeros : ℕ → List ℕ
zeros zero = []
zeros (suc n) = 0 ∷ zeros n

-- the own key is 1
abbrev node : ℕ → ℕ → Setting ℕ Message ℕ
node size budget = setting 1 size budget false (record { key = ◌==◌; digest = ◌==◌ })
    (λ m. m.1) (λ m. Some (m.0 ∷ m.1 ∷ zeros m.0)) reading

abbrev Events : Type 0
Events = List (Event ℕ Message ℕ)

abbrev Past : Type 0
Past = History ℕ Message ℕ ℕ ℕ

-- the answers after a history, if no allocation fails
abbrev answers_after : Setting ℕ Message ℕ → Past → Events → List (Answer Message ℕ)
answers_after s past [] = []
answers_after s past (e ∷ es) = answer_to s e past ∷ answers_after s (after s e past) es

abbrev answers_within : ℕ → ℕ → Events → List (Answer Message ℕ)
answers_within size budget es = answers_after (node size budget) [] es

abbrev history_from : Setting ℕ Message ℕ → Past → Events → Past
history_from s past [] = past
history_from s past (e ∷ es) = history_from s (after s e past) es

abbrev list_within : ℕ → ℕ → Events → ℕ → List ℕ
list_within size budget es p = list (node size budget) p (history_from (node size budget) [] es)

-- with the greatest budget
abbrev unbounded : ℕ → Setting ℕ Message ℕ
unbounded size = node size (2 ^ 64 - 1)

abbrev pub answers : ℕ → Events → List (Answer Message ℕ)
answers size es = answers_within size (2 ^ 64 - 1) es

abbrev pub list_of : ℕ → Events → ℕ → List ℕ
list_of size es p = list_within size (2 ^ 64 - 1) es p

abbrev pub waiters : ℕ → Events → List (ℕ × ℕ)
waiters size es = map (λ w. (w.waiter, w.digest)) (waiting (unbounded size) (history_from (unbounded size) [] es))

abbrev pub sends : ℕ → Events → List (Sent ℕ)
sends size es = sent (unbounded size) (history_from (unbounded size) [] es)

abbrev pub message : ℕ → ℕ → Carried Message ℕ
message c x = record { message = (c, x); digest = x }

abbrev pub says : ℕ → Event ℕ Message ℕ
says x = Broadcast All (message 0 x)

abbrev pub sends_to : ℕ → ℕ → ℕ → Event ℕ Message ℕ
sends_to p c x = Payload p (c ∷ x ∷ [])

abbrev pub taken : Outcome → List ℕ → ℕ → ℕ → Answer Message ℕ
taken o served c x = answer.Taken o served (message c x)

-- a repeat moves its digest to the front, so that the other one goes
abbrev repeats : Events
repeats = Peers (5 ∷ [])
    ∷ sends_to 5 0 61 ∷ sends_to 5 0 62 ∷ sends_to 5 0 61 ∷ sends_to 5 0 63
    ∷ Get 1 62 ∷ Get 2 61 ∷ []

-- with no place a digest is on no list, and its waiters are served
abbrev no_place : Events
no_place = Peers (5 ∷ []) ∷ Subscribe 7 61 ∷ sends_to 5 0 61 ∷ sends_to 5 0 61 ∷ Get 8 61 ∷ []

pub record Repeats : Type 0 where
  pub answered : answers 2 repeats ≡ answer.Peers
      ∷ taken Inserted [] 0 61 ∷ taken Inserted [] 0 62 ∷ taken Duplicate [] 0 61 ∷ taken Inserted [] 0 63
      ∷ answer.Got None ∷ answer.Got (Some (message 0 61)) ∷ []
  pub listed : list_of 2 repeats 5 ≡ 63 ∷ 61 ∷ []
  pub with_no_place : answers 0 no_place ≡ answer.Peers ∷ answer.Waiting
      ∷ taken Inserted (7 ∷ []) 0 61 ∷ taken Inserted [] 0 61 ∷ answer.Got None ∷ []

-- own broadcasts are sent each time, whatever their outcome
abbrev broadcasts : Events
broadcasts = says 60 ∷ Peers (1 ∷ []) ∷ says 61 ∷ says 62 ∷ says 61 ∷ says 63
    ∷ Get 1 62 ∷ Get 2 61 ∷ []

abbrev sending : ℕ → Sent ℕ
sending x = record { recipients = All; bytes = 0 ∷ x ∷ []; priority = false }

pub record Broadcasts : Type 0 where
  pub answered : answers 2 broadcasts ≡ taken Ineligible [] 0 60 ∷ answer.Peers
      ∷ taken Inserted [] 0 61 ∷ taken Inserted [] 0 62 ∷ taken Duplicate [] 0 61 ∷ taken Inserted [] 0 63
      ∷ answer.Got None ∷ answer.Got (Some (message 0 61)) ∷ []
  pub listed : list_of 2 broadcasts 1 ≡ 63 ∷ 61 ∷ []
  pub sent : sends 2 broadcasts
      ≡ sending 60 ∷ sending 61 ∷ sending 62 ∷ sending 61 ∷ sending 63 ∷ []

-- a peer that leaves loses its list; the first message of a stay is kept while any list has its digest
abbrev stays : Events
stays = Peers (5 ∷ 6 ∷ []) ∷ sends_to 5 1 78 ∷ sends_to 6 2 78
    ∷ Peers (6 ∷ []) ∷ Get 1 78 ∷ Peers (5 ∷ []) ∷ Get 2 78
    ∷ sends_to 5 3 78 ∷ Get 3 78 ∷ Payload 5 [] ∷ []

pub record Stays : Type 0 where
  pub answered : answers 2 stays ≡ answer.Peers ∷ taken Inserted [] 1 78 ∷ taken Inserted [] 2 78
      ∷ answer.Peers ∷ answer.Got (Some (message 1 78)) ∷ answer.Peers ∷ answer.Got None
      ∷ taken Inserted [] 3 78 ∷ answer.Got (Some (message 3 78)) ∷ answer.Invalid EndOfBuffer ∷ []
  pub listed : list_of 2 stays 5 ≡ 78 ∷ []

-- a message with another digest than its own
abbrev renamed : Carried Message ℕ
renamed = record { message = (0, 61); digest = 62 }

-- waiters are served in order and once, by any taking; a cleanup drops those that it names
abbrev requests : Events
requests = Subscribe 1 61 ∷ Subscribe 2 61 ∷ Subscribe 3 61 ∷ Subscribe 2 62 ∷ Cleanup (2 ∷ 9 ∷ [])
    ∷ sends_to 5 0 61 ∷ sends_to 5 0 61 ∷ Peers (1 ∷ []) ∷ Broadcast All renamed
    ∷ Subscribe 4 62 ∷ Subscribe 5 61 ∷ []

pub record Requests : Type 0 where
  pub answered : answers 2 requests
      ≡ answer.Waiting ∷ answer.Waiting ∷ answer.Waiting ∷ answer.Waiting ∷ answer.Removed 2
      ∷ taken Ineligible (1 ∷ 3 ∷ []) 0 61 ∷ taken Ineligible [] 0 61 ∷ answer.Peers
      ∷ answer.Taken Inserted [] renamed ∷ answer.Answered renamed ∷ answer.Waiting ∷ []
  pub waiting : waiters 2 requests ≡ (5, 61) ∷ []

-- three messages of 9 bytes, of which two fit
abbrev three : Events
three = Peers (5 ∷ []) ∷ sends_to 5 7 61 ∷ sends_to 5 7 62 ∷ sends_to 5 7 63 ∷ Get 1 61 ∷ []

-- a message of 10 bytes, which no list has room for, serves its waiter and changes no list
abbrev oversize : Events
oversize = Peers (5 ∷ []) ∷ sends_to 5 7 61 ∷ Subscribe 7 78 ∷ sends_to 5 8 78 ∷ Get 8 78 ∷ []

-- a digest is charged as when it was last taken
abbrev longer : Events
longer = Peers (5 ∷ []) ∷ sends_to 5 7 62 ∷ sends_to 5 7 78 ∷ sends_to 5 10 78 ∷ Get 1 78 ∷ Get 2 62 ∷ []

-- what has left does not come back where a charge gets less
abbrev shorter : Events
shorter = Peers (5 ∷ []) ∷ sends_to 5 7 61 ∷ sends_to 5 10 78 ∷ sends_to 5 7 78 ∷ Get 1 61 ∷ []

pub record Budgets : Type 0 where
  pub bytes_evict : answers_within 10 20 three ≡ answer.Peers
      ∷ taken Inserted [] 7 61 ∷ taken Inserted [] 7 62 ∷ taken Inserted [] 7 63 ∷ answer.Got None ∷ []
  pub two_listed : list_within 10 20 three 5 ≡ 63 ∷ 62 ∷ []
  pub oversize_serves : answers_within 10 9 oversize ≡ answer.Peers
      ∷ taken Inserted [] 7 61 ∷ answer.Waiting ∷ taken Oversize (7 ∷ []) 8 78 ∷ answer.Got None ∷ []
  pub oversize_listed : list_within 10 9 oversize 5 ≡ 61 ∷ []
  pub longer_answered : answers_within 10 20 longer ≡ answer.Peers
      ∷ taken Inserted [] 7 62 ∷ taken Inserted [] 7 78 ∷ taken Duplicate [] 10 78
      ∷ answer.Got (Some (message 7 78)) ∷ answer.Got None ∷ []
  pub longer_listed : list_within 10 20 longer 5 ≡ 78 ∷ []
  pub shorter_answered : answers_within 10 20 shorter ≡ answer.Peers
      ∷ taken Inserted [] 7 61 ∷ taken Inserted [] 10 78 ∷ taken Duplicate [] 7 78 ∷ answer.Got None ∷ []
  pub shorter_listed : list_within 10 20 shorter 5 ≡ 78 ∷ []
