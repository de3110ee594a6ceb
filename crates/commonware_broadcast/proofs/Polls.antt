-- Polls, one after another.
use Rattle.std.proofs.Common.{◌≡◌, ℕ, zero, suc, List, [], ◌∷◌, ◌++◌, Option, None, Some, IfSome, IsSomeAnd, MatchOption, refl, sym, ap, ◌∙◌, subst, append_assoc, append-nil}
use Rattle.futures.specs.declared.task.Poll.{Poll}
use Rattle.engine_io.specs.declared.asleep.CannotWait.{CannotWait}
use Rattle.engine_io.specs.declared.input.EndCause.{EndCause}
use Rattle.engine_io.specs.declared.input.EndCause.TheVariants.{WaitFailed}
use Rattle.engine_io.specs.declared.input.Turn.{Turn}
use Rattle.engine_io.specs.Sources.{given}
use Rattle.commonware_broadcast.specs.declared.buffered.engine.report.Report.{Report}
use Rattle.commonware_broadcast.specs.EngineState.{Moment}
use Rattle.commonware_broadcast.specs.Interfaces.{Format, Interfaces}
use Rattle.commonware_broadcast.specs.Polls.{IsPoll}
use Rattle.commonware_broadcast.specs.Drives.{Polls}
use Rattle.commonware_broadcast.specs.Runs.{SomePolls, PollsToEnd, IsRun}

-- a poll after others that had these turns, and what they are with its own
pub record Next {P M D S G O J N V B Q C T : Type 0} (f : Format P M D C) (i : Interfaces P M D S G O J N V B Q) (mid new : Moment P M S O D J B Q C T N V) (turns listed : List (Turn P D)) : Type 0 where
  pub result : Poll (Turn P D)
  pub polled : IsPoll f i mid new result
  pub all : listed ≡ turns ++ given result

module _ {P M D S G O J N V B Q C T : Type 0} {f : Format P M D C} {i : Interfaces P M D S G O J N V B Q} where
  -- polls, and then one more
  pub Polls-more : (count : ℕ) (old mid new : Moment P M S O D J B Q C T N V) (turns listed : List (Turn P D)) → Polls f i count old mid turns → Next f i mid new turns listed
      → Polls f i (suc count) old new listed
  Polls-more zero old mid new turns listed polls one = let last = given one.result in
      (new, one.result, subst (λ e. IsPoll f i e new one.result) polls.0 one.polled, [], one.all ∙ ap (λ l. l ++ last) polls.1 ∙ sym (append-nil last), (refl, refl))
  Polls-more (suc count) old mid new turns listed (next, told, poll, rest, is, tail) one = let last = given one.result in (
    next,
    told,
    poll,
    rest ++ last,
    one.all ∙ ap (λ l. l ++ last) is ∙ append_assoc (given told) rest last,
    Polls-more count next mid new rest (rest ++ last) tail (record { result = one.result; polled = one.polled; all = refl }),
  )

abbrev plus : ℕ → ℕ → ℕ
plus zero more = more
plus (suc count) more = suc (plus count more)

module _ {P M D S G O J N V B Q C T : Type 0} {f : Format P M D C} {i : Interfaces P M D S G O J N V B Q} where
  Polls-append : {mid new : Moment P M S O D J B Q C T N V} (count : ℕ) (old : Moment P M S O D J B Q C T N V) (turns : List (Turn P D)) → Polls f i count old mid turns
      → (more : SomePolls f i mid new) → Polls f i (plus count more.count) old new (turns ++ more.turns)
  Polls-append {new = new} zero old turns first more =
      subst (λ ts. Polls f i more.count old new (ts ++ more.turns)) (sym first.1) (subst (λ e. Polls f i more.count e new more.turns) first.0 more.polls)
  Polls-append (suc count) old turns (next, told, poll, rest, is, tail) more =
      (next, told, poll, rest ++ more.turns, ap (λ l. l ++ more.turns) is ∙ append_assoc (given told) rest more.turns, Polls-append count next rest tail more)

module _ {P M D S G O J N V B Q C T : Type 0} {f : Format P M D C} {i : Interfaces P M D S G O J N V B Q} where
  -- no poll
  pub SomePolls-none : {old : Moment P M S O D J B Q C T N V} → SomePolls f i old old
  SomePolls-none = record { count = zero; turns = []; polls = (refl, refl) }

  -- some polls, and then some more
  pub SomePolls-more : {old mid new : Moment P M S O D J B Q C T N V} → SomePolls f i old mid → SomePolls f i mid new → SomePolls f i old new
  SomePolls-more {old} one more = record {
    count = plus one.count more.count;
    turns = one.turns ++ more.turns;
    polls = Polls-append one.count old one.turns one.polls more;
  }

  -- some polls, and then one more
  pub SomePolls-one : {old mid new : Moment P M S O D J B Q C T N V} {result : Poll (Turn P D)} → SomePolls f i old mid → IsPoll f i mid new result → SomePolls f i old new
  SomePolls-one {new = new} {result} one poll = SomePolls-more one (record {
    count = suc zero;
    turns = given result ++ [];
    polls = (new, result, poll, [], refl, (refl, refl));
  })

module _ {P M D S G O J N V B Q C T A : Type 0} (f : Format P M D C) (i : Interfaces P M D S G O J N V B Q) (at : A → Moment P M S O D J B Q C T N V) where
  -- an end that polls reach from a moment on, they reach from one that polls took to it
  pub PollsToEnd-back : (old mid : Option A) (left : Moment P M S O D J B Q C T N V) (cause : EndCause) → IfSome old (λ p. IsSomeAnd mid (λ q. SomePolls f i (at p) (at q)))
      → IfSome mid (λ q. PollsToEnd f i (at q) left cause) → IfSome old (λ p. PollsToEnd f i (at p) left cause)
  PollsToEnd-back None mid left cause took ran = tt
  PollsToEnd-back (Some p) None left cause took ran = absurd took
  PollsToEnd-back (Some p) (Some q) left cause took ran = (SomePolls-more took ran.0, ran.1)

module _ {P M D S G O J N V B Q C T : Type 0} {f : Format P M D C} {i : Interfaces P M D S G O J N V B Q} where
  -- the report of a run whose last poll ended the engine
  pub IsRun-ended : {old last : Moment P M S O D J B Q C T N V} {cause : EndCause} (report : Report P Q) → PollsToEnd f i old last cause → report.cause ≡ cause → report.failure ≡ None
      → report.metrics ≡ last.engine.node.metrics → report.requests ≡ last.engine.requests → IsRun f i old report
  IsRun-ended {old} {last} report ran cause failure metrics requests = record {
    last = last;
    took = ran.0;
    counters = metrics;
    caused = subst (λ o. MatchOption o ((last.engine.end ≡ Some report.cause) × (report.requests ≡ last.engine.requests)) (λ failed. (report.cause ≡ WaitFailed) × (last ≡ old)))
        (sym failure) (ran.1 ∙ ap (λ c. Some c) (sym cause), requests);
  }

  -- the report of a run whose thread could not wait
  pub IsRun-failed : {old : Moment P M S O D J B Q C T N V} {failed : CannotWait} (report : Report P Q) → report.cause ≡ WaitFailed → report.failure ≡ Some failed
      → report.metrics ≡ old.engine.node.metrics → IsRun f i old report
  IsRun-failed {old} report cause failure metrics = record {
    last = old;
    took = SomePolls-none;
    counters = metrics;
    caused = subst (λ o. MatchOption o ((old.engine.end ≡ Some report.cause) × (report.requests ≡ old.engine.requests)) (λ failed. (report.cause ≡ WaitFailed) × (old ≡ old)))
        (sym failure) (cause, refl);
  }
