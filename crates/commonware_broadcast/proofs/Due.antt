-- The replies at all steps are those that are due.
use Rattle.std.proofs.Common.{◌≡◌, Bool, List, [], ◌∷◌, ◌++◌, map, refl, ap, ◌∙◌, append-nil}
use Rattle.broadcast_core.specs.Setting.{Setting}
use Rattle.broadcast_core.specs.Handed.{handed}
use Rattle.broadcast_core.specs.Happening.{History}
use Rattle.engine_io.specs.declared.input.Input.{Input}
use Rattle.engine_io.specs.declared.input.Input.TheVariants.{Peers, Request, Arrived, Invalid}
use Rattle.engine_io.specs.Replies.{Asker, Replies, reply_of}
use Rattle.commonware_broadcast.specs.EngineHistory.{Step, swept, applied, refused, decoded, uncounted, ended, happening_of, happenings, handed_out}
use Rattle.commonware_broadcast.specs.StepLaws.{AreDue, AreSteps}

pub map-after : {A B : Type 0} (f : A → B) (xs ys : List A) → map f (xs ++ ys) ≡ map f xs ++ map f ys
map-after f [] ys = refl
map-after f (x ∷ xs) ys = ap (λ l. f x ∷ l) (map-after f xs ys)

module _ {P M D S G : Type 0} (s : Setting P M D) (past : History P M D (Asker S) (Asker G)) where
  input-due : (input : Input P M S G D) (replies : Replies S G M D) (older : History P M D (Asker S) (Asker G)) → AreDue s (happening_of input) replies (older ++ past)
      → handed s older past ++ map reply_of replies ≡ handed s (happening_of input ++ older) past
  input-due (Peers ps) replies older due = ap (λ rs. handed s older past ++ rs) due
  input-due (Request request) replies older due = ap (λ rs. handed s older past ++ rs) due
  input-due (Arrived p c) replies older due = ap (λ rs. handed s older past ++ rs) due
  input-due (Invalid p error) replies older due = ap (λ rs. handed s older past ++ map reply_of rs) due ∙ append-nil (handed s older past)

  pub all-due : (may_answer : Asker S → Bool → Type 0) (steps : List (Step P M D S G)) → AreSteps s may_answer steps past → map reply_of (handed_out steps) ≡ handed s (happenings steps) past
  all-due may_answer [] h = refl
  all-due may_answer (swept test ∷ steps) h = map-after reply_of (handed_out steps) [] ∙ ap (λ rs. rs ++ []) (all-due may_answer steps h.1)
  all-due may_answer (applied input replies ∷ steps) h = map-after reply_of (handed_out steps) replies ∙ ap (λ rs. rs ++ map reply_of replies) (all-due may_answer steps h.1) ∙ input-due input replies (happenings steps) h.0.0
  all-due may_answer (refused input cause ∷ steps) h = map-after reply_of (handed_out steps) [] ∙ append-nil (map reply_of (handed_out steps)) ∙ all-due may_answer steps h.1
  all-due may_answer (decoded p ∷ steps) h = map-after reply_of (handed_out steps) [] ∙ append-nil (map reply_of (handed_out steps)) ∙ all-due may_answer steps h.1
  all-due may_answer (uncounted p c ∷ steps) h = map-after reply_of (handed_out steps) [] ∙ append-nil (map reply_of (handed_out steps)) ∙ all-due may_answer steps h.1
  all-due may_answer (ended cause ∷ steps) h = map-after reply_of (handed_out steps) [] ∙ ap (λ rs. rs ++ []) (all-due may_answer steps h.1)
