-- What the steps of an engine send.
use Rattle.std.proofs.Common.{◌≡◌, List, [], ◌∷◌, ◌++◌, refl, sym, ap, ◌∙◌, subst, append-nil, append_assoc}
use Rattle.broadcast_core.specs.Setting.{Setting}
use Rattle.broadcast_core.specs.Happening.{History}
use Rattle.broadcast_core.specs.Sent.{sent, sent_at}
use Rattle.broadcast_core.specs.declared.event.Sent.{Sent}
use Rattle.engine_io.specs.declared.input.Input.{Input}
use Rattle.engine_io.specs.declared.input.Input.TheVariants.{Peers, Request, Arrived, Invalid}
use Rattle.engine_io.specs.Inputs.{requests_in}
use Rattle.commonware_broadcast.specs.EngineHistory.{Step, swept, applied, refused, decoded, uncounted, ended, happenings_at, happenings, inputs, inputs_at, outcomes, outcomes_at}
use Rattle.commonware_broadcast.specs.AppliesSteps.{Sends, IsStepOf}
use Rattle.commonware_broadcast.proofs.Composing.{happenings-append}
use Rattle.commonware_broadcast.proofs.Telling.{input-at, none-before, none-after}

module _ {P M D W V : Type 0} (s : Setting P M D) where
  sent-append : (newer older : History P M D W V) → sent s (newer ++ older) ≡ sent s older ++ sent s newer
  sent-append [] older = sym (append-nil (sent s older))
  sent-append (e ∷ newer) older = ap (λ xs. xs ++ sent_at s e) (sent-append newer older) ∙ append_assoc (sent s older) (sent s newer) (sent_at s e)

module _ {P M D S G : Type 0} where
  pub requests-append : (is js : List (Input P M S G D)) → requests_in (is ++ js) ≡ requests_in is ++ requests_in js
  requests-append [] js = refl
  requests-append (Peers ps ∷ is) js = requests-append is js
  requests-append (Request r ∷ is) js = ap (λ l. r ∷ l) (requests-append is js)
  requests-append (Arrived p c ∷ is) js = requests-append is js
  requests-append (Invalid p e ∷ is) js = requests-append is js

module _ {P M D S G : Type 0} (s : Setting P M D) where
  -- only a request sends
  sent-at-none : (step : Step P M D S G) → requests_in (inputs_at step) ≡ [] → sent s (happenings_at step) ≡ []
  sent-at-none (swept test) h = refl
  sent-at-none (applied (Peers ps) replies) h = refl
  sent-at-none (applied (Request r) replies) h = absurd (let no : r ∷ [] ≡ [] = h in cc)
  sent-at-none (applied (Arrived p c) replies) h = refl
  sent-at-none (applied (Invalid p error) replies) h = refl
  sent-at-none (refused input cause) h = refl
  sent-at-none (decoded p) h = refl
  sent-at-none (uncounted p c) h = refl
  sent-at-none (ended cause) h = refl

  sent-none : (steps : List (Step P M D S G)) → requests_in (inputs steps) ≡ [] → sent s (happenings steps) ≡ []
  sent-none [] h = refl
  sent-none (step ∷ steps) h =
      let both : requests_in (inputs steps) ++ requests_in (inputs_at step) ≡ [] = sym (requests-append (inputs steps) (inputs_at step)) ∙ h in
      sent-append s (happenings_at step) (happenings steps)
      ∙ ap (λ xs. xs ++ sent s (happenings_at step)) (sent-none steps (none-before (requests_in (inputs steps)) (requests_in (inputs_at step)) both))
      ∙ sent-at-none step (none-after (requests_in (inputs steps)) (requests_in (inputs_at step)) both)

module _ {P M D S G : Type 0} where
  outcomes-at-none : (step : Step P M D S G) → requests_in (inputs_at step) ≡ [] → outcomes_at step ≡ []
  outcomes-at-none (swept test) h = refl
  outcomes-at-none (applied (Peers ps) replies) h = refl
  outcomes-at-none (applied (Request r) replies) h = absurd (let no : r ∷ [] ≡ [] = h in cc)
  outcomes-at-none (applied (Arrived p c) replies) h = refl
  outcomes-at-none (applied (Invalid p error) replies) h = refl
  outcomes-at-none (refused (Peers ps) cause) h = refl
  outcomes-at-none (refused (Request r) cause) h = absurd (let no : r ∷ [] ≡ [] = h in cc)
  outcomes-at-none (refused (Arrived p c) cause) h = refl
  outcomes-at-none (refused (Invalid p error) cause) h = refl
  outcomes-at-none (decoded p) h = refl
  outcomes-at-none (uncounted p c) h = refl
  outcomes-at-none (ended cause) h = refl

  -- where there was no request, nothing is told of one
  pub outcomes-none : (steps : List (Step P M D S G)) → requests_in (inputs steps) ≡ [] → outcomes steps ≡ []
  outcomes-none [] h = refl
  outcomes-none (step ∷ steps) h =
      let both : requests_in (inputs steps) ++ requests_in (inputs_at step) ≡ [] = sym (requests-append (inputs steps) (inputs_at step)) ∙ h in
      ap (λ bs. bs ++ outcomes_at step) (outcomes-none steps (none-before (requests_in (inputs steps)) (requests_in (inputs_at step)) both))
      ∙ outcomes-at-none step (none-after (requests_in (inputs steps)) (requests_in (inputs_at step)) both)

module _ {P M D S G N : Type 0} (s : Setting P M D) (sender_told : N → List (Sent P) → Type 0) where
  -- nothing was sent
  pub Sends-silent : (steps : List (Step P M D S G)) (sender : N) → sent s (happenings steps) ≡ [] → Sends s sender_told steps sender sender
  Sends-silent steps sender none before h = subst (λ xs. sender_told sender (before ++ xs)) (sym none) (subst (sender_told sender) (sym (append-nil before)) h)

  -- none of the inputs is a request
  pub Sends-none : (steps : List (Step P M D S G)) (sender : N) → requests_in (inputs steps) ≡ [] → Sends s sender_told steps sender sender
  Sends-none steps sender none = Sends-silent steps sender (sent-none s steps none)

  pub Sends-input : (input : Input P M S G D) (step : Step P M D S G) (sender : N) → IsStepOf input step → requests_in (input ∷ []) ≡ [] → Sends s sender_told (step ∷ []) sender sender
  Sends-input input step sender of_input none = Sends-none (step ∷ []) sender (ap requests_in (input-at input step of_input) ∙ none)

  -- steps, and then more
  pub Sends-more : (earlier later : List (Step P M D S G)) (first between last : N)
      → Sends s sender_told earlier first between → Sends s sender_told later between last → Sends s sender_told (later ++ earlier) first last
  Sends-more earlier later first between last begun more before h =
      subst (sender_told last) (append_assoc before (sent s (happenings earlier)) (sent s (happenings later))
      ∙ ap (λ xs. before ++ xs) (sym (sent-append s (happenings later) (happenings earlier)) ∙ ap (sent s) (sym (happenings-append later earlier))))
      (more (before ++ sent s (happenings earlier)) (begun before h))
