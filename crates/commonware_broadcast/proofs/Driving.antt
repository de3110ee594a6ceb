-- Polls after polls.
use Rattle.std.proofs.Common.{◌≡◌, ℕ, zero, suc, true, false, is_some, ◌≤◌, List, [], ◌∷◌, ◌++◌, length, Option, Some, None, refl, sym, subst, arith}
use Rattle.std.specs.List.{All}
use Rattle.std.proofs.lemmas.List.Elements.{All-head, All-tail}
use Rattle.futures.specs.declared.task.Poll.{Poll}
use Rattle.futures.specs.declared.task.Poll.TheVariants.{Ready, Pending}
use Rattle.engine_io.specs.declared.input.EndCause.{EndCause}
use Rattle.engine_io.specs.declared.input.Turn.{Turn}
use Rattle.engine_io.specs.declared.input.Turn.TheVariants as turn
use Rattle.engine_io.specs.Sources.{given}
use Rattle.commonware_broadcast.specs.EngineHistory.{happenings, end_told}
use Rattle.commonware_broadcast.specs.EngineState.{Moment}
use Rattle.commonware_broadcast.specs.Interfaces.{Format, Interfaces}
use Rattle.commonware_broadcast.specs.Drives.{Polls, AlwaysTakes}
use Rattle.commonware_broadcast.specs.TakesSteps.{TakesSteps}
use Rattle.commonware_broadcast.proofs.Composing.{told-same}
use Rattle.commonware_broadcast.proofs.Taking.{IsSetting-later, TakesSteps-none, TakesSteps-more}

-- what is not some is none
pub none_unless : {A : Type 0} (o : Option A) → ((a : A) → o ≡ Some a → ⊥) → o ≡ None
none_unless None h = refl
none_unless (Some a) h = absurd (h a refl)

pub none_is : {A : Type 0} (o : Option A) → is_some o ≡ false → o ≡ None
none_is None h = refl
none_is (Some a) h = absurd (let no : true ≡ false = h in cc)

pub some_is : {A : Type 0} (o : Option A) → is_some o ≡ true → (a : A) × (o ≡ Some a)
some_is None h = absurd (let no : false ≡ true = h in cc)
some_is (Some a) h = (a, refl)

-- a list of no length is empty
pub none_listed : {A : Type 0} (xs : List A) → length xs ≤ 0 → xs ≡ []
none_listed [] h = refl
none_listed (x ∷ xs) h = absurd (omega (arith, h))

-- a turn that is no end tells none
pub no_end : {P D : Type 0} (t : Turn P D) → ((cause : EndCause) → t ≡ turn.Ended cause → ⊥) → end_told t ≡ None
no_end turn.Peers h = refl
no_end (turn.Broadcast d out) h = refl
no_end turn.Subscribe h = refl
no_end turn.Get h = refl
no_end (turn.Payload p d out) h = refl
no_end (turn.Invalid p error) h = refl
no_end (turn.Refused peer cause) h = refl
no_end (turn.Ended cause) h = absurd (h cause refl)

module _ {P D : Type 0} where
  -- turns that tell no end are not that of an end
  unended : (result : Poll (Turn P D)) (rest : List (Turn P D)) (cause : EndCause) → All (λ t. end_told t ≡ None) (given result ++ rest) → result ≡ Ready (turn.Ended cause) → ⊥
  unended (Ready t) rest cause none is =
      let same : Ready t ≡ Ready (turn.Ended cause) = is in
      let no : Some cause ≡ None = subst (λ (x : Turn P D). end_told x ≡ None) (let e : t ≡ turn.Ended cause = cc in e) (All-head (λ (x : Turn P D). end_told x ≡ None) t rest none) in cc
  unended Pending rest cause none is = let no : Pending ≡ Ready (turn.Ended cause) = is in cc

  later : (result : Poll (Turn P D)) (rest : List (Turn P D)) → All (λ t. end_told t ≡ None) (given result ++ rest) → All (λ t. end_told t ≡ None) rest
  later (Ready t) rest none = All-tail (λ (x : Turn P D). end_told x ≡ None) t rest none
  later Pending rest none = none

module _ {P M D S G O J N V B Q C T : Type 0} {f : Format P M D C} {i : Interfaces P M D S G O J N V B Q} where
  -- the steps of polls of which none ended the engine
  pub Polls-take : (count : ℕ) (old new : Moment P M S O D J B Q C T N V) (turns : List (Turn P D)) → Polls f i count old new turns
      → All (λ t. end_told t ≡ None) turns → AlwaysTakes f i old new turns
  Polls-take zero old new turns polls none = λ s has_format past has before held.
      subst (λ n. TakesSteps s i past before old n turns) (sym polls.0)
      (TakesSteps-none has held (λ _. polls.1) refl refl (λ told h. told-same i.receiver.told old.receiver told h))
  Polls-take (suc count) old new turns (mid, result, poll, rest, is, tail) none =
      let all = subst (λ l. All (λ t. end_told t ≡ None) l) is none in
      subst (λ l. AlwaysTakes f i old new l) (sym is) (λ s has_format past has before held.
      let one = (poll.took s has_format past has before held).took in
      TakesSteps-more (λ _. none_unless mid.engine.end (λ cause at. unended result rest cause all (poll.tells_its_end cause at))) one
      (Polls-take count mid new rest tail (later result rest all) s (IsSetting-later has_format poll.keeps_codec_config poll.keeps_priority) (happenings one.steps ++ past) one.ran.content one.pending one.held))
