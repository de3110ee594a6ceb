-- Believed.
-- The history that events with their answers make.
use Rattle.std.specs.Prelude.{ℕ, ◌==◌, Bool, true, false, if◌then◌else◌, List, [], ◌∷◌, reverse, Result, Ok, Err}
use Rattle.std.specs.List.{list_any, zip}
use Rattle.broadcast_core.specs.Setting.{Setting, own_digested}
use Rattle.broadcast_core.specs.Happening.{History, peers, broadcast, arrival, subscribe, get, cleanup}
use Rattle.broadcast_core.specs.declared.codec.CodecError.{CodecError}
use Rattle.broadcast_core.specs.declared.event.Event.{Event}
use Rattle.broadcast_core.specs.declared.event.Event.TheVariants.{Peers, Broadcast, Payload, Subscribe, Get, Cleanup}
use Rattle.broadcast_core.specs.declared.event.Answer.{Answer}
use Rattle.broadcast_core.specs.declared.event.Answer.TheVariants as answer

abbrev pub is_refused : {M D : Type 0} → Answer M D → Bool
is_refused (answer.Refused cause) = true
is_refused _ = false

-- events with their answers, the newest first
abbrev pub Log : (P M D : Type 0) → Type 0
Log P M D = List (Event P M D × Answer M D)

abbrev pub log_of : {P M D : Type 0} → List (Event P M D) → List (Answer M D) → Log P M D
log_of events answers = reverse (zip events answers)

module _ {P M D : Type 0} (s : Setting P M D) where
  -- a payload that reads as a message is the arrival of it by its own digest; any other is nothing
  abbrev pub arrived : P → Result M CodecError → History P M D ℕ ℕ → History P M D ℕ ℕ
  arrived p (Ok m) past = arrival p (own_digested s m) ∷ past
  arrived p (Err e) past = past

  -- the history after an event; a cleanup names each subscribe that has one of the tickets
  abbrev pub after : Event P M D → History P M D ℕ ℕ → History P M D ℕ ℕ
  after (Peers ps) past = peers ps ∷ past
  after (Broadcast r c) past = broadcast r c ∷ past
  after (Payload p b) past = arrived p (s.reading b) past
  after (Subscribe k d) past = subscribe k d ∷ past
  after (Get k d) past = get k d ∷ past
  after (Cleanup gone) past = cleanup (λ n k. list_any (λ x. k == x) gone) ∷ past

  -- the history after a log: refused events are left out
  abbrev pub history : Log P M D → History P M D ℕ ℕ
  history [] = []
  history (x ∷ log) = if is_refused x.1 then history log else after x.0 (history log)

  -- the history after events with these answers
  abbrev pub history_of : List (Event P M D) → List (Answer M D) → History P M D ℕ ℕ
  history_of events answers = history (log_of events answers)
