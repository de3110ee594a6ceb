-- Steps after steps.
use Rattle.std.proofs.Common.{◌≡◌, ℕ, Bool, List, [], ◌∷◌, ◌++◌, length, refl, sym, ap, ◌∙◌, subst, append-nil, append_assoc}
use Rattle.broadcast_core.specs.Setting.{Setting}
use Rattle.std.specs.List.{count_by}
use Rattle.broadcast_core.specs.Happening.{History, cleanup}
use Rattle.broadcast_core.specs.Waiting.{awaited}
use Rattle.broadcast_core.specs.HasContent.{HasContent}
use Rattle.commonware_broadcast.specs.declared.buffered.engine.node.Node.{Node}
use Rattle.engine_io.specs.Counters.{raised, is_counted_as, number_at}
use Rattle.engine_io.specs.Replies.{Asker, Replies}
use Rattle.commonware_broadcast.specs.EngineHistory.{Step, swept, applied, refused, decoded, uncounted, ended, happenings_at, happenings, handed_out_at, handed_out}
use Rattle.commonware_broadcast.specs.StepLaws.{AreSteps, IsStep}
use Rattle.commonware_broadcast.specs.Counting.{counted_at, counted, gauge}
use Rattle.commonware_broadcast.specs.AppliesSteps.{AppliesSteps}
use Rattle.commonware_broadcast.proofs.Counting.{raised-none, raised-more, count-append}

-- what told a list tells it with nothing after it
pub told-same : {X A : Type 0} (told : X → List A → Type 0) (x : X) (before : List A) → told x before → told x (before ++ [])
told-same told x before h = subst (told x) (sym (append-nil before)) h

module _ {P M D S G : Type 0} where
  pub happenings-append : (later earlier : List (Step P M D S G)) → happenings (later ++ earlier) ≡ happenings later ++ happenings earlier
  happenings-append [] earlier = refl
  happenings-append (step ∷ later) earlier = ap (λ hs. happenings_at step ++ hs) (happenings-append later earlier) ∙ sym (append_assoc (happenings_at step) (happenings later) (happenings earlier))

  handed_out-append : (later earlier : List (Step P M D S G)) → handed_out (later ++ earlier) ≡ handed_out earlier ++ handed_out later
  handed_out-append [] earlier = sym (append-nil (handed_out earlier))
  handed_out-append (step ∷ later) earlier = ap (λ rs. rs ++ handed_out_at step) (handed_out-append later earlier) ∙ append_assoc (handed_out earlier) (handed_out later) (handed_out_at step)

  -- the history before the later steps
  pub history-append : (later earlier : List (Step P M D S G)) (past : History P M D (Asker S) (Asker G)) → happenings (later ++ earlier) ++ past ≡ happenings later ++ (happenings earlier ++ past)
  history-append later earlier past = ap (λ hs. hs ++ past) (happenings-append later earlier) ∙ append_assoc (happenings later) (happenings earlier) past

module _ {P M D S G : Type 0} (s : Setting P M D) where
  pub AreSteps-append : (may_answer : Asker S → Bool → Type 0) (later earlier : List (Step P M D S G)) (past : History P M D (Asker S) (Asker G))
      → AreSteps s may_answer later (happenings earlier ++ past) → AreSteps s may_answer earlier past → AreSteps s may_answer (later ++ earlier) past
  AreSteps-append may_answer [] earlier past new old = old
  AreSteps-append may_answer (step ∷ later) earlier past new old =
      (subst (IsStep s may_answer step) (sym (history-append later earlier past)) new.0, AreSteps-append may_answer later earlier past new.1 old)

  counted-append : (later earlier : List (Step P M D S G)) (past : History P M D (Asker S) (Asker G))
      → counted s (later ++ earlier) past ≡ counted s earlier past ++ counted s later (happenings earlier ++ past)
  counted-append [] earlier past = sym (append-nil (counted s earlier past))
  counted-append (step ∷ later) earlier past =
      ap (λ cs. cs ++ counted_at s step (happenings (later ++ earlier) ++ past)) (counted-append later earlier past)
      ∙ append_assoc (counted s earlier past) (counted s later (happenings earlier ++ past)) (counted_at s step (happenings (later ++ earlier) ++ past))
      ∙ ap (λ hs. counted s earlier past ++ (counted s later (happenings earlier ++ past) ++ counted_at s step hs)) (history-append later earlier past)

  gauge-append : (later earlier : List (Step P M D S G)) (past : History P M D (Asker S) (Asker G)) (n : ℕ)
      → gauge s (later ++ earlier) past n ≡ gauge s later (happenings earlier ++ past) (gauge s earlier past n)
  gauge-append [] earlier past n = refl
  gauge-append (swept test ∷ later) earlier past n = ap (λ hs. length (awaited s (cleanup test ∷ hs))) (history-append later earlier past)
  gauge-append (applied input replies ∷ later) earlier past n = gauge-append later earlier past n
  gauge-append (refused input cause ∷ later) earlier past n = gauge-append later earlier past n
  gauge-append (decoded p ∷ later) earlier past n = gauge-append later earlier past n
  gauge-append (uncounted p c ∷ later) earlier past n = gauge-append later earlier past n
  gauge-append (ended cause ∷ later) earlier past n = gauge-append later earlier past n

module _ {P M D S G O : Type 0} {s : Setting P M D} {may_answer : Asker S → Bool → Type 0} {told : O → Replies S G M D → Type 0} {past : History P M D (Asker S) (Asker G)} where
  pub AppliesSteps-none : {node : Node P M S O D} → HasContent s past node.core → AppliesSteps s may_answer told past [] node node
  AppliesSteps-none {node} has = record {
    lawful = tt;
    content = has;
    counters = λ c. sym (raised-none (number_at s.same.key c node.metrics));
    waiters = refl;
    replied = told-same told node.outlet;
  }

  -- steps, and then more
  pub AppliesSteps-more : {earlier later : List (Step P M D S G)} {old mid new : Node P M S O D} → AppliesSteps s may_answer told past earlier old mid
      → AppliesSteps s may_answer told (happenings earlier ++ past) later mid new → AppliesSteps s may_answer told past (later ++ earlier) old new
  AppliesSteps-more {earlier} {later} {old} {new = new} begun more = record {
    lawful = AreSteps-append s may_answer later earlier past more.lawful begun.lawful;
    content = subst (λ hs. HasContent s hs new.core) (sym (history-append later earlier past)) more.content;
    counters = λ c.
        let test = is_counted_as s.same.key c in
        more.counters c ∙ ap (λ n. raised n (count_by test (counted s later (happenings earlier ++ past)))) (begun.counters c)
        ∙ raised-more (number_at s.same.key c old.metrics) (count_by test (counted s earlier past)) (count_by test (counted s later (happenings earlier ++ past)))
        ∙ ap (raised (number_at s.same.key c old.metrics)) (sym (ap (count_by test) (counted-append s later earlier past) ∙ count-append test (counted s earlier past) (counted s later (happenings earlier ++ past))));
    waiters = more.waiters ∙ ap (gauge s later (happenings earlier ++ past)) begun.waiters ∙ sym (gauge-append s later earlier past old.metrics.totals.waiters);
    replied = λ before h. subst (told new.outlet) (append_assoc before (handed_out earlier) (handed_out later) ∙ ap (λ rs. before ++ rs) (sym (handed_out-append later earlier)))
        (more.replied (before ++ handed_out earlier) (begun.replied before h));
  }
