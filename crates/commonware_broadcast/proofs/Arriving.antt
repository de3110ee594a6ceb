-- Messages that arrive.
use Rattle.std.proofs.Common.{◌≡◌, Bool, List, [], ◌∷◌, ◌++◌, Some, None, Result, true, false, is_ok, refl, sym, ap, ◌∙◌, subst, append-nil, arith}
use Rattle.std.specs.Prelude.{Ok, Err}
use Rattle.futures.specs.declared.task.Poll.{Poll}
use Rattle.futures.specs.declared.task.Poll.TheVariants.{Ready, Pending}
use Rattle.broadcast_core.specs.Setting.{Setting, own_digested}
use Rattle.broadcast_core.specs.Content.{Same}
use Rattle.broadcast_core.specs.HasContent.{HasContent}
use Rattle.broadcast_core.specs.Happening.{History}
use Rattle.broadcast_core.specs.declared.event.Cause.TheVariants.{Memory}
use Rattle.engine_io.specs.declared.input.Turn.{Turn}
use Rattle.engine_io.specs.declared.input.Turn.TheVariants as turn
use Rattle.engine_io.specs.Counters.{Counters, Totals, number_at}
use Rattle.engine_io.specs.Replies.{Asker, Replies}
use Rattle.commonware_broadcast.specs.declared.buffered.engine.node.Node.{Node}
use Rattle.commonware_broadcast.specs.AppliesSteps.{AppliesSteps, AppliesInput}
use Rattle.commonware_broadcast.specs.Arrives.{Arrival, Arrives, IsRemote, payload_of, message_of, input_of, reader_of}
use Rattle.commonware_broadcast.specs.EngineHistory.{Step, decoded, uncounted, inputs}
use Rattle.commonware_broadcast.specs.EngineState.{EngineState}
use Rattle.commonware_broadcast.specs.Taken.{pending_input, HoldsJob}
use Rattle.commonware_broadcast.proofs.Composing.{told-same, AppliesSteps-none, AppliesSteps-more}
use Rattle.commonware_broadcast.proofs.Counting.{CountsPeer, raised-none, decoded-counted}
use Rattle.commonware_broadcast.proofs.Telling.{input-at, goes-on-at, reads-none, sweeps-none, inputs-append, read_from-append, sweeps-append, end_of-append, turns-append}

-- what reads whole reads as some message
pub some_ok : {M E : Type 0} (r : Result M E) → is_ok r ≡ true → (m : M) × (r ≡ Ok m)
some_ok (Ok m) h = (m, refl)
some_ok (Err e) h = absurd (let no : false ≡ true = h in cc)

module _ {P M D S G : Type 0} where
  remote : (s : Setting P M D) (arrival : Arrival P M) → IsRemote {S = S} {G = G} (input_of s arrival ∷ [])
  remote s (payload_of p (Ok m)) = record { no_sets = refl; no_requests = refl; all = refl }
  remote s (payload_of p (Err error)) = record { no_sets = refl; no_requests = refl; all = refl }
  remote s (message_of p m) = record { no_sets = refl; no_requests = refl; all = refl }

-- a payload was decoded, and counted
pub decoding : {P M D S G O : Type 0} {s : Setting P M D} {may_answer : Asker S → Bool → Type 0} {told : O → Replies S G M D → Type 0} {past : History P M D (Asker S) (Asker G)} {same : Same P D} {p : P} {old : Node P M S O D}
    {counters : Counters P} → s.same ≡ same → HasContent s past old.core → CountsPeer same p old.metrics counters
    → AppliesSteps s may_answer told past (decoded p ∷ []) old (record old { metrics = counters })
decoding {s = s} {told = told} {past} {p = p} {old} {counters} is has counts = record {
  lawful = (tt, tt);
  content = has;
  counters = λ c. decoded-counted s past p is old.metrics counters c counts;
  waiters = ap (λ (t : Totals). t.waiters) counts.stays;
  replied = told-same told old.outlet;
}

module _ {P M D S G O J B Q C T : Type 0} {s : Setting P M D} {may_answer : Asker S → Bool → Type 0} {is_of : J → M → Type 0} {told : O → Replies S G M D → Type 0} {past : History P M D (Asker S) (Asker G)} {old : Node P M S O D}
    {new : EngineState P M S O D J B Q C T} where
  -- its input was applied or refused
  pub Arrives-handled : {arrival : Arrival P M} {turn : Turn P D} → reader_of s arrival ≡ [] → AppliesInput s may_answer told past (input_of s arrival) turn old new.node
      → new.job ≡ None → Arrives s may_answer is_of told past arrival old new (Ready turn)
  Arrives-handled {arrival} silent one idle =
      let input = input_of s arrival in
      let is : inputs (one.step ∷ []) ≡ input ∷ [] = input-at input one.step one.of_input in
      record {
        steps = one.step ∷ [];
        ran = one.ran;
        turned = one.turned;
        goes_on = goes-on-at input one.step [] one.of_input;
        read_from = reads-none input one.step one.of_input ∙ sym silent;
        remote = subst (λ l. IsRemote l) (sym is) (remote s arrival);
        none_swept = omega (arith, sweeps-none input one.step one.of_input);
        pending = None;
        held = subst (λ x. HoldsJob is_of x None) (sym idle) tt;
        flow = sym is ∙ sym (append-nil (inputs (one.step ∷ [])));
      }

  -- the job of a message that was read before is pending
  pub Arrives-pending : {p : P} {m : M} → HasContent s past old.core → new.node ≡ old → ((job : J) × (new.job ≡ Some (p, job)) × is_of job m) → Arrives s may_answer is_of told past (message_of p m) old new Pending
  Arrives-pending {p} {m} has same (job, at, of_job) = record {
    steps = [];
    ran = subst (λ n. AppliesSteps s may_answer told past [] old n) (sym same) (AppliesSteps-none has);
    turned = refl;
    goes_on = refl;
    read_from = refl;
    remote = record { no_sets = refl; no_requests = refl; all = refl };
    none_swept = refl;
    pending = Some (p, m);
    held = subst (λ x. HoldsJob is_of x (Some (p, m))) (sym at) (refl, of_job);
    flow = refl;
  }

  -- it was read only now
  pub Arrives-decoded : {message : P × M} {mid : Node P M S O D} {result : Poll (Turn P D)} → AppliesSteps s may_answer told past (decoded message.0 ∷ []) old mid
      → Arrives s may_answer is_of told past (message_of message.0 message.1) mid new result → Arrives s may_answer is_of told past (payload_of message.0 (Ok message.1)) old new result
  Arrives-decoded {message} begun one =
      let earlier : List (Step P M D S G) = decoded message.0 ∷ [] in
      let all : inputs (one.steps ++ earlier) ≡ inputs one.steps = inputs-append one.steps earlier in
      record {
        steps = one.steps ++ earlier;
        ran = AppliesSteps-more begun one.ran;
        turned = turns-append s one.steps earlier past ∙ one.turned;
        goes_on = end_of-append one.steps earlier refl ∙ one.goes_on;
        read_from = read_from-append one.steps earlier ∙ ap (λ ps. message.0 ∷ ps) one.read_from;
        remote = subst (λ l. IsRemote l) (sym all) one.remote;
        none_swept = omega (arith, one.none_swept, sweeps-append one.steps earlier);
        pending = one.pending;
        held = one.held;
        flow = one.flow ∙ ap (λ l. l ++ pending_input s one.pending) (sym all);
      }

  -- a payload was refused before it was counted
  pub Arrives-uncounted : {p : P} {m : M} → HasContent s past old.core → new.node ≡ old → new.job ≡ None → Arrives s may_answer is_of told past (payload_of p (Ok m)) old new (Ready (turn.Refused (Some p) Memory))
  Arrives-uncounted {p} {m} has same idle = record {
    steps = uncounted p (own_digested s m) ∷ [];
    ran = subst (λ n. AppliesSteps s may_answer told past (uncounted p (own_digested s m) ∷ []) old n) (sym same) (record {
      lawful = (tt, tt);
      content = has;
      counters = λ c. sym (raised-none (number_at s.same.key c old.metrics));
      waiters = refl;
      replied = told-same told old.outlet;
    });
    turned = refl;
    goes_on = refl;
    read_from = refl;
    remote = record { no_sets = refl; no_requests = refl; all = refl };
    none_swept = refl;
    pending = None;
    held = subst (λ x. HoldsJob is_of x None) (sym idle) tt;
    flow = refl;
  }
