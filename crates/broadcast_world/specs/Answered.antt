-- Believed.
-- What a broadcaster answers that is handed messages one after the other.
use Rattle.std.specs.Prelude.{◌≡◌, List, [], ◌∷◌, Option, None, Some, Result, Ok, Err}
use Rattle.broadcast_mailbox.specs.declared.broadcaster.Feedback.{Feedback}
use Rattle.broadcast_mailbox.specs.declared.broadcaster.Feedback.TheVariants.{Closed}
use Rattle.broadcast_mailbox.specs.declared.broadcaster.MailboxError.{MailboxError}

module _ {X : Type 0} (may_answer : X → Result Feedback MailboxError → Type 0) where
  -- each message has the answer at its place, up to the first that is refused or finds a closed queue
  abbrev pub AreAnswered : List X → List Feedback → Option MailboxError → Type 0
  AreAnswered [] [] None = Unit {0}
  AreAnswered (x ∷ xs) [] (Some error) = may_answer x (Err error)
  AreAnswered (x ∷ xs) (Closed ∷ fs) refused = may_answer x (Ok Closed) × (fs ≡ []) × (refused ≡ None)
  AreAnswered (x ∷ xs) (f ∷ fs) refused = may_answer x (Ok f) × AreAnswered xs fs refused
  AreAnswered _ _ _ = ⊥
