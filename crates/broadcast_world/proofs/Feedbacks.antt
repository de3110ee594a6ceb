-- How a broadcaster's answers come to an end.
use Rattle.std.proofs.Common.{◌≡◌, List, [], ◌∷◌, ◌++◌, Option, None, Some, Result, Ok, Err, Bool, false, length, refl, sym, subst, append-nil}
use Rattle.std.specs.Prelude.{IsTrue, ◌↔◌, ◌≢◌}
use Rattle.broadcast_mailbox.specs.declared.broadcaster.Feedback.{Feedback}
use Rattle.broadcast_mailbox.specs.declared.broadcaster.Feedback.TheVariants.{Closed}
use Rattle.broadcast_mailbox.specs.declared.broadcaster.MailboxError.{MailboxError}
use Rattle.broadcast_world.specs.Answered.{AreAnswered}

pub closed : (f : Feedback) (accepted : Bool) → IsTrue accepted ↔ (f ≢ Closed) → accepted ≡ false → f ≡ Closed
closed Closed accepted means refuted = refl
closed f accepted means refuted = absurd (let yes = means.1 (λ e. cc) in cc)

none_left : {X : Type 0} (xs : List X) → length xs ≡ 0 → xs ≡ []
none_left [] h = refl
none_left (x ∷ xs) h = absurd cc

module _ {X : Type 0} (may_answer : X → Result Feedback MailboxError → Type 0) where
  -- what answers the rest in whatever way completes the answers to all
  abbrev pub Completes : List X → List X → List Feedback → Type 0
  Completes all rest done = (fs : List Feedback) (refused : Option MailboxError)
      → AreAnswered may_answer rest fs refused → AreAnswered may_answer all (done ++ fs) refused

  pub at-end : (all rest : List X) (done : List Feedback) → Completes all rest done → length rest ≡ 0 → AreAnswered may_answer all done None
  at-end all rest done completes none =
      let end : AreAnswered may_answer rest [] None = subst (λ xs. AreAnswered may_answer xs [] None) (sym (none_left rest none)) tt in
      subst (λ fs. AreAnswered may_answer all fs None) (append-nil done) (completes [] None end)

  pub at-closed : (all rest more : List X) (x : X) (f : Feedback) (done : List Feedback) → Completes all rest done → rest ≡ x ∷ more
      → may_answer x (Ok f) → f ≡ Closed → AreAnswered may_answer all (done ++ f ∷ []) None
  at-closed all rest more x f done completes some answered closed =
      let answer : may_answer x (Ok Closed) = subst (λ z. may_answer x (Ok z)) closed answered in
      let end : AreAnswered may_answer rest (Closed ∷ []) None = subst (λ xs. AreAnswered may_answer xs (Closed ∷ []) None) (sym some) (answer, refl, refl) in
      subst (λ z. AreAnswered may_answer all (done ++ z ∷ []) None) (sym closed) (completes (Closed ∷ []) None end)

  pub at-refused : (all rest more : List X) (x : X) (error : MailboxError) (done : List Feedback) → Completes all rest done → rest ≡ x ∷ more
      → may_answer x (Err error) → AreAnswered may_answer all done (Some error)
  at-refused all rest more x error done completes some answered =
      let end : AreAnswered may_answer rest [] (Some error) = subst (λ xs. AreAnswered may_answer xs [] (Some error)) (sym some) answered in
      subst (λ fs. AreAnswered may_answer all fs (Some error)) (append-nil done) (completes [] (Some error) end)
