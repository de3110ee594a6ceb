-- What is found was taken.
use Rattle.std.proofs.Common.{◌≡◌, ℕ, List, Option, Some, None, Result, Ok, Err, IfOk, sym, ap, ◌∙◌}
use Rattle.std.specs.Prelude.{IfSome}
use Rattle.std.specs.Option.{option_copied}
use denote.Ref.{Bor}
use Rattle.broadcast_core.specs.Carried.{Carried}
use Rattle.broadcast_core.specs.Content.{Content, Same, message_at}
use Rattle.broadcast_core.specs.Setting.{Setting}
use Rattle.broadcast_core.specs.Happening.{History}
use Rattle.broadcast_core.specs.Cache.{message}
use Rattle.broadcast_core.specs.HasContent.{HasContent}
use Rattle.broadcast_core.specs.Log.{Log, log_of}
use Rattle.broadcast_core.specs.HasRun.{HasRun, IsAnswered}
use Rattle.broadcast_core.specs.TakenLaw.{IsFrom, FoundWasTaken}
use Rattle.broadcast_core.specs.declared.event.Event.{Event}
use Rattle.broadcast_core.specs.declared.event.Run.{Run}

-- a core that has the content of a history finds what the history caches
pub found_was_taken : {P M D : Type 0} (s : Setting P M D) (same : Same P D) (past : History P M D ℕ ℕ) (core : Content P M D ℕ) → s.same ≡ same → HasContent s past core → (d : D)
    → ((c : Carried M D) → message s d past ≡ Some c → IsFrom s d past c)
    → (found : Option (Bor (Carried M D))) → option_copied found ≡ message_at same core d → IfSome found (λ c. IsFrom s d past c.now)
found_was_taken s same past core is has d law (Some c) found = law c.now (sym (has.cached d) ∙ ap (λ eqs. message_at eqs core d) is ∙ sym found)
found_was_taken s same past core is has d law None found = tt

pub answers_were_taken : {P M D E : Type 0} (s : Setting P M D) (events : List (Event P M D)) (result : Result (Run P M D) E)
    → ((log : Log P M D) → IsAnswered s log → FoundWasTaken s log)
    → IfOk result (λ run. HasRun s events run.answers run.sent run.core) → IfOk result (λ run. FoundWasTaken s (log_of events run.answers))
answers_were_taken s events (Ok run) law has = law (log_of events run.answers) has.answered
answers_were_taken s events (Err e) law has = tt
