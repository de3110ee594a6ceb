-- What steps tell: their turns, and whose messages they read.
use Rattle.std.proofs.Common.{◌≡◌, ◌+◌, false, List, [], ◌∷◌, ◌++◌, None, refl, sym, ap, ◌∙◌, append-nil, append_assoc, arith}
use Rattle.broadcast_core.specs.Setting.{Setting}
use Rattle.broadcast_core.specs.Happening.{History}
use Rattle.engine_io.specs.declared.input.Input.{Input}
use Rattle.broadcast_mailbox.specs.declared.buffered.ingress.message.Message.{Message}
use Rattle.broadcast_mailbox.specs.declared.buffered.ingress.message.Message.TheVariants.{Broadcast, Subscribe, Get}
use Rattle.engine_io.specs.declared.input.Input.TheVariants.{Peers, Request, Arrived, Invalid}
use Rattle.engine_io.specs.declared.input.Turn.{Turn}
use Rattle.engine_io.specs.declared.input.Turn.TheVariants as tell
use Rattle.engine_io.specs.Refused.{refuses, is_request}
use Rattle.commonware_broadcast.specs.CountingCalls.{outcome_of}
use Rattle.engine_io.specs.Replies.{Asker}
use Rattle.commonware_broadcast.specs.EngineHistory.{Step, swept, applied, refused, decoded, uncounted, ended, happenings, inputs, inputs_at, outcomes, outcomes_at, turn_of_request, read_from, read_from_at, end_of, sweeps, sweeps_at, turns, turns_at}
use Rattle.commonware_broadcast.specs.AppliesSteps.{IsStepOf}
use Rattle.commonware_broadcast.proofs.Composing.{history-append}

-- what follows an empty list is the whole
pub none-before : {A : Type 0} (xs ys : List A) → xs ++ ys ≡ [] → xs ≡ []
none-before [] ys h = refl
none-before (x ∷ xs) ys h = absurd (let no : x ∷ (xs ++ ys) ≡ [] = h in cc)

pub none-after : {A : Type 0} (xs ys : List A) → xs ++ ys ≡ [] → ys ≡ []
none-after [] ys h = h
none-after (x ∷ xs) ys h = absurd (let no : x ∷ (xs ++ ys) ≡ [] = h in cc)

module _ {P M D S G : Type 0} where
  pub inputs-append : (later earlier : List (Step P M D S G)) → inputs (later ++ earlier) ≡ inputs earlier ++ inputs later
  inputs-append [] earlier = sym (append-nil (inputs earlier))
  inputs-append (step ∷ later) earlier = ap (λ is. is ++ inputs_at step) (inputs-append later earlier) ∙ append_assoc (inputs earlier) (inputs later) (inputs_at step)

  pub read_from-append : (later earlier : List (Step P M D S G)) → read_from (later ++ earlier) ≡ read_from earlier ++ read_from later
  read_from-append [] earlier = sym (append-nil (read_from earlier))
  read_from-append (step ∷ later) earlier = ap (λ ps. ps ++ read_from_at step) (read_from-append later earlier) ∙ append_assoc (read_from earlier) (read_from later) (read_from_at step)

  pub outcomes-append : (later earlier : List (Step P M D S G)) → outcomes (later ++ earlier) ≡ outcomes earlier ++ outcomes later
  outcomes-append [] earlier = sym (append-nil (outcomes earlier))
  outcomes-append (step ∷ later) earlier = ap (λ bs. bs ++ outcomes_at step) (outcomes-append later earlier) ∙ append_assoc (outcomes earlier) (outcomes later) (outcomes_at step)

  pub sweeps-append : (later earlier : List (Step P M D S G)) → sweeps (later ++ earlier) ≡ sweeps earlier + sweeps later
  sweeps-append [] earlier = omega arith
  sweeps-append (step ∷ later) earlier = omega (arith, sweeps-append later earlier)

  -- the newest step is among the later ones, if the earlier ones are no end
  pub end_of-append : (later earlier : List (Step P M D S G)) → end_of earlier ≡ None → end_of (later ++ earlier) ≡ end_of later
  end_of-append [] earlier h = h
  end_of-append (swept test ∷ later) earlier h = refl
  end_of-append (applied input replies ∷ later) earlier h = refl
  end_of-append (refused input cause ∷ later) earlier h = refl
  end_of-append (decoded p ∷ later) earlier h = refl
  end_of-append (uncounted p c ∷ later) earlier h = refl
  end_of-append (ended cause ∷ later) earlier h = refl

  -- the step of an input
  pub input-at : (input : Input P M S G D) (step : Step P M D S G) → IsStepOf input step → inputs_at step ≡ input ∷ []
  input-at input (applied given replies) h = ap (λ i. i ∷ []) h
  input-at input (refused given cause) h = ap (λ i. i ∷ []) h
  input-at input (swept other) h = absurd h
  input-at input (decoded p) h = absurd h
  input-at input (uncounted p c) h = absurd h
  input-at input (ended cause) h = absurd h

  pub reads-none : (input : Input P M S G D) (step : Step P M D S G) → IsStepOf input step → read_from_at step ≡ []
  reads-none input (applied given replies) h = refl
  reads-none input (refused given cause) h = refl
  reads-none input (swept other) h = absurd h
  reads-none input (decoded p) h = absurd h
  reads-none input (uncounted p c) h = absurd h
  reads-none input (ended cause) h = absurd h

  pub sweeps-none : (input : Input P M S G D) (step : Step P M D S G) → IsStepOf input step → sweeps_at step ≡ 0
  sweeps-none input (applied given replies) h = refl
  sweeps-none input (refused given cause) h = refl
  sweeps-none input (swept other) h = absurd h
  sweeps-none input (decoded p) h = absurd h
  sweeps-none input (uncounted p c) h = absurd h
  sweeps-none input (ended cause) h = absurd h

  pub goes-on-at : (input : Input P M S G D) (step : Step P M D S G) (steps : List (Step P M D S G)) → IsStepOf input step → end_of (step ∷ steps) ≡ None
  goes-on-at input (applied given replies) steps h = refl
  goes-on-at input (refused given cause) steps h = refl
  goes-on-at input (swept other) steps h = absurd h
  goes-on-at input (decoded p) steps h = absurd h
  goes-on-at input (uncounted p c) steps h = absurd h
  goes-on-at input (ended cause) steps h = absurd h

module _ {P M D S G : Type 0} (s : Setting P M D) where
  -- a request that was applied was not refused
  applied-not : (message : Message P M S G D) (past : History P M D (Asker S) (Asker G)) → false ≡ refuses (turn_of_request s message past)
  applied-not (Broadcast r c) past = refl
  applied-not (Subscribe d responder) past = refl
  applied-not (Get d responder) past = refl

  -- of a request that was applied or refused it is told which
  pub outcome-at : (past : History P M D (Asker S) (Asker G)) (input : Input P M S G D) (turn : Turn P D) (step : Step P M D S G) → IsStepOf input step → turns_at s step past ≡ turn ∷ []
      → outcomes_at step ≡ outcome_of (is_request input) (refuses turn)
  outcome-at past input turn (applied (Peers ps) replies) h t = ap (λ (i : Input P M S G D). outcome_of (is_request i) (refuses turn)) h
  outcome-at past input turn (applied (Request r) replies) h t =
      let same : turn_of_request s r.message past ∷ [] ≡ turn ∷ [] = t in
      let e : turn_of_request s r.message past ≡ turn = cc in
      ap (λ b. b ∷ []) (applied-not r.message past ∙ ap refuses e) ∙ ap (λ (i : Input P M S G D). outcome_of (is_request i) (refuses turn)) h
  outcome-at past input turn (applied (Arrived p c) replies) h t = ap (λ (i : Input P M S G D). outcome_of (is_request i) (refuses turn)) h
  outcome-at past input turn (applied (Invalid p error) replies) h t = ap (λ (i : Input P M S G D). outcome_of (is_request i) (refuses turn)) h
  outcome-at past input turn (refused (Peers ps) cause) h t = ap (λ (i : Input P M S G D). outcome_of (is_request i) (refuses turn)) h
  outcome-at past input turn (refused (Request r) cause) h t =
      let same : tell.Refused None cause ∷ [] ≡ turn ∷ [] = t in
      let e : tell.Refused None cause ≡ turn = cc in
      ap (λ b. b ∷ []) (ap refuses e) ∙ ap (λ (i : Input P M S G D). outcome_of (is_request i) (refuses turn)) h
  outcome-at past input turn (refused (Arrived p c) cause) h t = ap (λ (i : Input P M S G D). outcome_of (is_request i) (refuses turn)) h
  outcome-at past input turn (refused (Invalid p error) cause) h t = ap (λ (i : Input P M S G D). outcome_of (is_request i) (refuses turn)) h
  outcome-at past input turn (swept test) h t = absurd h
  outcome-at past input turn (decoded p) h t = absurd h
  outcome-at past input turn (uncounted p c) h t = absurd h
  outcome-at past input turn (ended cause) h t = absurd h

  pub turns-append : (later earlier : List (Step P M D S G)) (past : History P M D (Asker S) (Asker G))
      → turns s (later ++ earlier) past ≡ turns s earlier past ++ turns s later (happenings earlier ++ past)
  turns-append [] earlier past = sym (append-nil (turns s earlier past))
  turns-append (step ∷ later) earlier past =
      ap (λ ts. ts ++ turns_at s step (happenings (later ++ earlier) ++ past)) (turns-append later earlier past)
      ∙ append_assoc (turns s earlier past) (turns s later (happenings earlier ++ past)) (turns_at s step (happenings (later ++ earlier) ++ past))
      ∙ ap (λ hs. turns s earlier past ++ (turns s later (happenings earlier ++ past) ++ turns_at s step hs)) (history-append later earlier past)
