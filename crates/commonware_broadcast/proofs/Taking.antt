-- The steps of polls.
use Rattle.std.proofs.Common.{inl, inr, ◌≡◌, ℕ, Bool, List, [], ◌∷◌, ◌++◌, Option, Some, None, refl, sym, ap, ◌∙◌, subst, append-nil, append_assoc, arith}
use Rattle.futures.specs.declared.task.Poll.{Poll}
use Rattle.futures.specs.declared.task.Poll.TheVariants.{Ready}
use Rattle.broadcast_core.specs.Setting.{Setting}
use Rattle.broadcast_core.specs.Happening.{History, cleanup}
use Rattle.broadcast_core.specs.HasContent.{HasContent}
use Rattle.broadcast_mailbox.specs.declared.buffered.ingress.message.Message.{Message}
use Rattle.broadcast_mailbox.specs.declared.buffered.ingress.message.Request.{Request as Asked}
use Rattle.engine_io.specs.declared.input.EndCause.{EndCause}
use Rattle.engine_io.specs.declared.input.EndCause.TheVariants.{Stopped}
use Rattle.engine_io.specs.declared.input.Input.{Input}
use Rattle.engine_io.specs.declared.input.Input.TheVariants.{Peers, Request, Arrived, Invalid}
use Rattle.engine_io.specs.declared.input.Turn.{Turn}
use Rattle.engine_io.specs.declared.input.Turn.TheVariants.{Ended}
use Rattle.engine_io.specs.Inputs.{sets_in, requests_in, payloads_in}
use Rattle.engine_io.specs.Refused.{refuses, is_request}
use Rattle.engine_io.specs.Replies.{Asker}
use Rattle.engine_io.specs.Sources.{given}
use Rattle.commonware_broadcast.specs.declared.buffered.engine.node.Node.{Node}
use Rattle.commonware_broadcast.specs.AppliesSteps.{AppliesSteps, AppliesAndSends, Sends}
use Rattle.commonware_broadcast.specs.CountingCalls.{AppliesStep, outcome_of}
use Rattle.commonware_broadcast.specs.Arrives.{Arrival, Arrives, message_of, payload_of, input_of, reader_of}
use Rattle.commonware_broadcast.specs.EngineHistory.{Step, IsSweptOnce, swept, ended, happenings, inputs, inputs_at, outcomes, outcomes_at, read_from, read_from_at, end_of, sweeps, turns, turns_at}
use Rattle.commonware_broadcast.specs.EngineState.{Moment}
use Rattle.commonware_broadcast.specs.Interfaces.{Format, IsSetting, Interfaces}
use Rattle.commonware_broadcast.specs.Taken.{pending_input, payload_inputs, sender_of, senders_of, HoldsJob, Holds, TakesNone}
use Rattle.commonware_broadcast.specs.TakesSteps.{TakesSteps, TakesPoll}
use Rattle.commonware_broadcast.proofs.Composing.{told-same, AppliesSteps-none, AppliesSteps-more, AreSteps-append}
use Rattle.commonware_broadcast.proofs.Due.{map-after, all-due}
use Rattle.commonware_broadcast.proofs.Applying.{AppliesSteps-one}
use Rattle.commonware_broadcast.proofs.Sending.{requests-append, outcomes-none, Sends-silent, Sends-none, Sends-more}
use Rattle.commonware_broadcast.proofs.Telling.{input-at, outcome-at, reads-none, goes-on-at, inputs-append, outcomes-append, read_from-append, turns-append, end_of-append, sweeps-append, sweeps-none}

-- the setting stays that of the engine
pub IsSetting-later : {P M D C : Type 0} {f : Format P M D C} {config later_config : C} {flag later_flag : Bool} {s : Setting P M D} → IsSetting f config flag s
    → later_config ≡ config → later_flag ≡ flag → IsSetting f later_config later_flag s
IsSetting-later {f = f} is same_config same_flag = record {
  same = is.same;
  encoding = is.encoding;
  priority = is.priority ∙ sym same_flag;
  digest_of = is.digest_of;
  reading = is.reading ∙ ap f.reading (sym same_config);
}

-- an engine that has not ended holds the message of its job
pub Holds-open : {P M J : Type 0} (is_of : J → M → Type 0) (end : Option EndCause) (job : Option (P × J)) (message : Option (P × M)) → end ≡ None → Holds is_of end job message → HoldsJob is_of job message
Holds-open is_of end job message none h = subst (λ e. Holds is_of e job message) none h

-- where no job is pending there is no message
pub Holds-none : {P M J : Type 0} (is_of : J → M → Type 0) (job : Option (P × J)) (message : Option (P × M)) → HoldsJob is_of job message → job ≡ None → message ≡ None
Holds-none is_of job None h none = refl
Holds-none is_of job (Some m) h none = absurd (let no = subst (λ j. HoldsJob is_of j (Some m)) none h in no)

-- an engine that has not ended, and has no job, holds no message
pub no_message : {P M J : Type 0} (is_of : J → M → Type 0) (end : Option EndCause) (job : Option (P × J)) (message : Option (P × M)) → end ≡ None → job ≡ None → Holds is_of end job message → message ≡ None
no_message is_of end job message lives idle h = Holds-none is_of job message (Holds-open is_of end job message lives h) idle

-- the message of a pending job
pub Holds-some : {P M J : Type 0} (is_of : J → M → Type 0) (p : P) (job : J) (message : Option (P × M)) → HoldsJob is_of (Some (p, job)) message
    → (m : M) × (message ≡ Some (p, m)) × is_of job m
Holds-some is_of p job None h = absurd h
Holds-some is_of p job (Some (q, m)) h = (m, ap (λ x. Some (x, m)) (sym h.0), h.1)

module _ {P M D S G : Type 0} where
  pub sets-append : (is js : List (Input P M S G D)) → sets_in (is ++ js) ≡ sets_in is ++ sets_in js
  sets-append [] js = refl
  sets-append (Peers ps ∷ is) js = ap (λ l. ps ∷ l) (sets-append is js)
  sets-append (Request r ∷ is) js = sets-append is js
  sets-append (Arrived p c ∷ is) js = sets-append is js
  sets-append (Invalid p e ∷ is) js = sets-append is js

  pub payloads-append : (is js : List (Input P M S G D)) → payloads_in (is ++ js) ≡ payloads_in is ++ payloads_in js
  payloads-append [] js = refl
  payloads-append (Peers ps ∷ is) js = payloads-append is js
  payloads-append (Request r ∷ is) js = payloads-append is js
  payloads-append (Arrived p c ∷ is) js = ap (λ l. Arrived p c ∷ l) (payloads-append is js)
  payloads-append (Invalid p e ∷ is) js = ap (λ l. Invalid p e ∷ l) (payloads-append is js)

pub senders-append : {P M D : Type 0} (s : Setting P M D) (xs ys : List (P × List ℕ)) → senders_of s (xs ++ ys) ≡ senders_of s xs ++ senders_of s ys
senders-append s [] ys = refl
senders-append s (x ∷ xs) ys = ap (λ l. sender_of s x.0 (s.reading x.1) ++ l) (senders-append s xs ys) ∙ sym (append_assoc (sender_of s x.0 (s.reading x.1)) (senders_of s xs) (senders_of s ys))

-- what flows through two stretches flows through both
pub flow-append : {A : Type 0} (b m n p q i j : List A) → b ++ m ≡ p ++ i → i ++ n ≡ q ++ j → b ++ (m ++ n) ≡ (p ++ q) ++ j
flow-append b m n p q i j first second =
    sym (append_assoc b m n) ∙ ap (λ l. l ++ n) first ∙ append_assoc p i n ∙ ap (λ l. p ++ l) second ∙ sym (append_assoc p q j)

-- nothing is taken where the engine and its network stay
idle : {P M D S G O J N V B Q C T : Type 0} {old new : Moment P M S O D J B Q C T N V} {steps : List (Step P M D S G)} → new.engine.provider ≡ old.engine.provider → new.receiver ≡ old.receiver
    → requests_in (inputs steps) ≡ [] → sweeps steps ≡ 0 → TakesNone old new steps
idle provider receiver none unasked = record { provider = provider; receiver = receiver; requests = none; none_swept = unasked }

-- what the sources gave: these inputs, none of which is a payload, with these outcomes of its requests, and these payloads
pub record Gave {P M D S G O J N V B Q C T : Type 0} (i : Interfaces P M D S G O J N V B Q) (old new : Moment P M S O D J B Q C T N V) (given : List (Input P M S G D))
    (refusals : List Bool) (received : List (P × List ℕ)) : Type 0 where
  pub local : payloads_in given ≡ []
  pub sets : (told : List (List P)) → i.provider.told old.engine.provider told → i.provider.told new.engine.provider (told ++ sets_in given)
  pub requests : (told : List (Asked (Message P M S G D))) → i.requests.told old.engine.requests told → i.requests.told new.engine.requests (told ++ requests_in given)
  pub outcomes : (told : List Bool) → i.requests.outcomes old.engine.requests told → i.requests.outcomes new.engine.requests (told ++ refusals)
  pub payloads : (told : List (P × List ℕ)) → i.receiver.told old.receiver told → i.receiver.told new.receiver (told ++ received)

module _ {P M D S G O J N V B Q C T : Type 0} {i : Interfaces P M D S G O J N V B Q} {old new : Moment P M S O D J B Q C T N V} where
  -- only the network gave
  pub Gave-received : {received : List (P × List ℕ)} → new.engine.provider ≡ old.engine.provider
      → ((told : List (Asked (Message P M S G D))) → i.requests.told old.engine.requests told → i.requests.told new.engine.requests told)
      → ((told : List Bool) → i.requests.outcomes old.engine.requests told → i.requests.outcomes new.engine.requests told)
      → ((told : List (P × List ℕ)) → i.receiver.told old.receiver told → i.receiver.told new.receiver (told ++ received)) → Gave i old new [] [] received
  Gave-received provider requests outcomes payloads = record {
    local = refl;
    sets = λ told h. subst (λ b. i.provider.told b (told ++ [])) (sym provider) (told-same i.provider.told old.engine.provider told h);
    requests = λ told h. told-same i.requests.told new.engine.requests told (requests told h);
    outcomes = λ told h. told-same i.requests.outcomes new.engine.requests told (outcomes told h);
    payloads = payloads;
  }

  -- nothing was given
  pub Gave-none : new.engine.provider ≡ old.engine.provider → ((told : List (Asked (Message P M S G D))) → i.requests.told old.engine.requests told → i.requests.told new.engine.requests told)
      → ((told : List Bool) → i.requests.outcomes old.engine.requests told → i.requests.outcomes new.engine.requests told) → new.receiver ≡ old.receiver → Gave i old new [] [] []
  Gave-none provider requests outcomes receiver =
      Gave-received provider requests outcomes (λ told h. subst (λ r. i.receiver.told r (told ++ [])) (sym receiver) (told-same i.receiver.told old.receiver told h))

module _ {P M D S G O J N V B Q C T : Type 0} (s : Setting P M D) (i : Interfaces P M D S G O J N V B Q) where
  -- so it did, and asked no waiter whether it is closed
  pub record TakesOnly (past : History P M D (Asker S) (Asker G)) (before : Option (P × M)) (old new : Moment P M S O D J B Q C T N V) (listed : List (Turn P D)) : Type 0 where
    pub took : TakesSteps s i past before old new listed
    pub none_swept : sweeps took.steps ≡ 0

  -- so it did, and one cleanup of its waiters came first
  pub record CleansUpFirst (past : History P M D (Asker S) (Asker G)) (before : Option (P × M)) (old new : Moment P M S O D J B Q C T N V) (listed : List (Turn P D)) : Type 0 where
    pub took : TakesSteps s i past before old new listed
    pub swept_once : IsSweptOnce took.steps

-- an engine before and after some polls, whatever happened before, and whatever message it held
pub record Course (P M D S G O J N V B Q C T : Type 0) : Type 1 where
  pub s : Setting P M D
  pub i : Interfaces P M D S G O J N V B Q
  pub past : History P M D (Asker S) (Asker G)
  pub before : Option (P × M)
  pub old : Moment P M S O D J B Q C T N V
  pub new : Moment P M S O D J B Q C T N V

module _ {P M D S G O J N V B Q C T : Type 0} {x : Course P M D S G O J N V B Q C T} where
  -- the engine stays, and the network gives nothing
  abbrev pub TakesSteps-none : {listed : List (Turn P D)} → HasContent x.s x.past x.old.engine.node.core → Holds x.i.is_of x.old.engine.end x.old.engine.job x.before → (x.old.engine.end ≡ None → listed ≡ [])
      → x.new.engine ≡ x.old.engine → x.new.sender ≡ x.old.sender → ((told : List (P × List ℕ)) → x.i.receiver.told x.old.receiver told → x.i.receiver.told x.new.receiver (told ++ []))
      → TakesSteps x.s x.i x.past x.before x.old x.new listed
  TakesSteps-none has held none same sender gives = record {
    steps = [];
    ran = subst (λ e. AppliesSteps x.s x.i.may_answer x.i.outlet.told x.past [] x.old.engine.node e.node) (sym same) (AppliesSteps-none has);
    sends = subst (λ n. Sends {S = S} {G = G} x.s x.i.sender.told [] x.old.sender n) (sym sender) (Sends-silent {S = S} {G = G} x.s x.i.sender.told [] x.old.sender refl);
    due = refl;
    turned = λ lives. sym (none lives);
    ends = λ lives. ap (λ e. e.end) same ∙ lives;
    sets = λ told h. subst (λ e. x.i.provider.told e.provider (told ++ [])) (sym same) (told-same x.i.provider.told x.old.engine.provider told h);
    requests = λ told h. subst (λ e. x.i.requests.told e.requests (told ++ [])) (sym same) (told-same x.i.requests.told x.old.engine.requests told h);
    outcomes = λ told h. subst (λ e. x.i.requests.outcomes e.requests (told ++ [])) (sym same) (told-same x.i.requests.outcomes x.old.engine.requests told h);
    received = [];
    given = gives;
    pending = x.before;
    held = subst (λ e. Holds x.i.is_of e.end e.job x.before) (sym same) held;
    flow = append-nil (pending_input x.s x.before);
    read = refl;
  }

  -- one step, which takes nothing from the network
  abbrev TakesSteps-step : {step : Step P M D S G} {listed : List (Turn P D)} → AppliesSteps x.s x.i.may_answer x.i.outlet.told x.past (step ∷ []) x.old.engine.node x.new.engine.node
      → Sends x.s x.i.sender.told (step ∷ []) x.old.sender x.new.sender → turns_at x.s step x.past ≡ listed → x.new.engine.end ≡ end_of (step ∷ []) → Gave x.i x.old x.new (inputs_at step) (outcomes_at step) []
      → read_from_at step ≡ [] → Holds x.i.is_of x.new.engine.end x.new.engine.job x.before → TakesSteps x.s x.i x.past x.before x.old x.new listed
  TakesSteps-step {step} ran sends turned ends gave reads held = record {
    steps = step ∷ [];
    ran = ran;
    sends = sends;
    due = all-due x.s x.past x.i.may_answer (step ∷ []) ran.lawful;
    turned = λ _. turned;
    ends = λ _. ends;
    sets = gave.sets;
    requests = gave.requests;
    outcomes = gave.outcomes;
    received = [];
    given = gave.payloads;
    pending = x.before;
    held = held;
    flow = append-nil (pending_input x.s x.before) ∙ ap (λ l. l ++ pending_input x.s x.before) (sym gave.local);
    read = reads;
  }

  -- one input, which was applied or refused
  pub TakesOnly-input : {input : Input P M S G D} {turn : Turn P D}
      → AppliesAndSends x.s x.i.may_answer x.i.outlet.told x.i.sender.told x.past input turn (x.old.engine.node, x.old.sender) (x.new.engine.node, x.new.sender)
      → Gave x.i x.old x.new (input ∷ []) (outcome_of (is_request input) (refuses turn)) [] → x.new.engine.end ≡ None → Holds x.i.is_of x.new.engine.end x.new.engine.job x.before
      → TakesOnly x.s x.i x.past x.before x.old x.new (turn ∷ [])
  TakesOnly-input {input} {turn} one gave lives held =
      let done = one.handled in
      let is : inputs_at done.step ≡ input ∷ [] = input-at input done.step done.of_input in
      record {
        took = TakesSteps-step done.ran one.sends done.turned (lives ∙ sym (goes-on-at input done.step [] done.of_input))
            (subst (λ l. Gave x.i x.old x.new l (outcomes_at done.step) []) (sym is)
            (subst (λ bs. Gave x.i x.old x.new (input ∷ []) bs []) (sym (outcome-at x.s x.past input turn done.step done.of_input done.turned)) gave))
            (reads-none input done.step done.of_input) held;
        none_swept = omega (arith, sweeps-none input done.step done.of_input);
      }

  -- an end
  abbrev pub TakesOnly-ended : {cause : EndCause} → AppliesStep x.s x.i.may_answer x.i.outlet.told x.past (ended cause) x.old.engine.node x.new.engine.node → x.new.engine.end ≡ Some cause
      → x.new.engine.job ≡ None → x.new.sender ≡ x.old.sender → Gave x.i x.old x.new [] [] [] → TakesOnly x.s x.i x.past x.before x.old x.new (Ended cause ∷ [])
  TakesOnly-ended {cause} one end empty sender gave = record {
    took = TakesSteps-step (AppliesSteps-one one tt)
        (subst (λ n. Sends {S = S} {G = G} x.s x.i.sender.told (ended cause ∷ []) x.old.sender n) (sym sender) (Sends-silent {S = S} {G = G} x.s x.i.sender.told (ended cause ∷ []) x.old.sender refl))
        refl end gave refl (subst (λ e. Holds x.i.is_of e x.new.engine.job x.before) (sym end) empty);
    none_swept = refl;
  }

  -- a cleanup
  abbrev pub CleansUpFirst-alone : {test : ℕ → Asker S → Bool} → AppliesStep x.s x.i.may_answer x.i.outlet.told x.past (swept test) x.old.engine.node x.new.engine.node → x.new.engine.end ≡ None
      → x.new.sender ≡ x.old.sender → Gave x.i x.old x.new [] [] [] → Holds x.i.is_of x.new.engine.end x.new.engine.job x.before → CleansUpFirst x.s x.i x.past x.before x.old x.new []
  CleansUpFirst-alone {test} cleaned lives sender gave held = record {
    took = TakesSteps-step (AppliesSteps-one cleaned tt)
        (subst (λ n. Sends {S = S} {G = G} x.s x.i.sender.told (swept test ∷ []) x.old.sender n) (sym sender) (Sends-silent {S = S} {G = G} x.s x.i.sender.told (swept test ∷ []) x.old.sender refl))
        refl lives gave refl held;
    swept_once = record { test = test; later = []; first = refl; once = refl };
  }

  -- the steps of an arrival, which is the message held before or what the network gave
  abbrev pub TakesSteps-arrival : {arrival : Arrival P M} {result : Poll (Turn P D)} {received : List (P × List ℕ)} → Arrives x.s x.i.may_answer x.i.is_of x.i.outlet.told x.past arrival x.old.engine.node x.new.engine result
      → x.new.engine.end ≡ None → x.new.sender ≡ x.old.sender → Gave x.i x.old x.new [] [] received → input_of x.s {S = S} {G = G} arrival ∷ [] ≡ pending_input x.s x.before ++ payload_inputs x.s received
      → reader_of x.s arrival ≡ senders_of x.s received → TakesSteps x.s x.i x.past x.before x.old x.new (given result)
  TakesSteps-arrival {received = received} one lives sender gave coming reads = record {
    steps = one.steps;
    ran = one.ran;
    sends = subst (λ n. Sends x.s x.i.sender.told one.steps x.old.sender n) (sym sender) (Sends-none x.s x.i.sender.told one.steps x.old.sender one.remote.no_requests);
    due = all-due x.s x.past x.i.may_answer one.steps one.ran.lawful;
    turned = λ _. one.turned;
    ends = λ _. lives ∙ sym one.goes_on;
    sets = λ told h. subst (λ l. x.i.provider.told x.new.engine.provider (told ++ l)) (sym one.remote.no_sets) (gave.sets told h);
    requests = λ told h. subst (λ l. x.i.requests.told x.new.engine.requests (told ++ l)) (sym one.remote.no_requests) (gave.requests told h);
    outcomes = λ told h. subst (λ l. x.i.requests.outcomes x.new.engine.requests (told ++ l)) (sym (outcomes-none one.steps one.remote.no_requests)) (gave.outcomes told h);
    received = received;
    given = gave.payloads;
    pending = one.pending;
    held = subst (λ e. Holds x.i.is_of e x.new.engine.job one.pending) (sym lives) one.held;
    flow = sym coming ∙ one.flow ∙ ap (λ l. l ++ pending_input x.s one.pending) (sym one.remote.all);
    read = one.read_from ∙ reads;
  }

  -- a payload that the network gave, where no job was pending
  pub TakesOnly-payload : {p : P} {bytes : List ℕ} {result : Poll (Turn P D)} → x.old.engine.end ≡ None → x.old.engine.job ≡ None → Holds x.i.is_of x.old.engine.end x.old.engine.job x.before
      → Arrives x.s x.i.may_answer x.i.is_of x.i.outlet.told x.past (payload_of p (x.s.reading bytes)) x.old.engine.node x.new.engine result → x.new.engine.end ≡ None → x.new.sender ≡ x.old.sender
      → Gave x.i x.old x.new [] [] ((p, bytes) ∷ []) → TakesOnly x.s x.i x.past x.before x.old x.new (given result)
  TakesOnly-payload {p} {bytes} lives idle held one lives_on sender gave =
      let none = no_message x.i.is_of x.old.engine.end x.old.engine.job x.before lives idle held in
      record {
        took = TakesSteps-arrival {received = (p, bytes) ∷ []} one lives_on sender gave
            (ap (λ b. pending_input x.s b ++ payload_inputs x.s ((p, bytes) ∷ [])) (sym none)) (sym (append-nil (sender_of x.s p (x.s.reading bytes))));
        none_swept = one.none_swept;
      }

  -- steps, and then more
  abbrev pub TakesSteps-more : {mid : Moment P M S O D J B Q C T N V} {listed more_listed : List (Turn P D)} → (x.old.engine.end ≡ None → mid.engine.end ≡ None)
      → (one : TakesSteps x.s x.i x.past x.before x.old mid listed) → TakesSteps x.s x.i (happenings one.steps ++ x.past) one.pending mid x.new more_listed
      → TakesSteps x.s x.i x.past x.before x.old x.new (listed ++ more_listed)
  TakesSteps-more {mid} {listed} lives one more =
      let all : inputs (more.steps ++ one.steps) ≡ inputs one.steps ++ inputs more.steps = inputs-append more.steps one.steps in
      record {
        steps = more.steps ++ one.steps;
        ran = AppliesSteps-more one.ran more.ran;
        sends = Sends-more x.s x.i.sender.told one.steps more.steps x.old.sender mid.sender x.new.sender one.sends more.sends;
        due = all-due x.s x.past x.i.may_answer (more.steps ++ one.steps) (AreSteps-append x.s x.i.may_answer more.steps one.steps x.past more.ran.lawful one.ran.lawful);
        turned = λ at. turns-append x.s more.steps one.steps x.past ∙ ap (λ ts. ts ++ turns x.s more.steps (happenings one.steps ++ x.past)) (one.turned at) ∙ ap (λ ts. listed ++ ts) (more.turned (lives at));
        ends = λ at. more.ends (lives at) ∙ sym (end_of-append more.steps one.steps (sym (one.ends at) ∙ lives at));
        sets = λ told h. subst (x.i.provider.told x.new.engine.provider) (append_assoc told (sets_in (inputs one.steps)) (sets_in (inputs more.steps))
            ∙ ap (λ l. told ++ l) (sym (ap sets_in all ∙ sets-append (inputs one.steps) (inputs more.steps)))) (more.sets (told ++ sets_in (inputs one.steps)) (one.sets told h));
        requests = λ told h. subst (x.i.requests.told x.new.engine.requests) (append_assoc told (requests_in (inputs one.steps)) (requests_in (inputs more.steps))
            ∙ ap (λ l. told ++ l) (sym (ap requests_in all ∙ requests-append (inputs one.steps) (inputs more.steps)))) (more.requests (told ++ requests_in (inputs one.steps)) (one.requests told h));
        outcomes = λ told h. subst (x.i.requests.outcomes x.new.engine.requests) (append_assoc told (outcomes one.steps) (outcomes more.steps)
            ∙ ap (λ l. told ++ l) (sym (outcomes-append more.steps one.steps))) (more.outcomes (told ++ outcomes one.steps) (one.outcomes told h));
        received = one.received ++ more.received;
        given = λ told h. subst (x.i.receiver.told x.new.receiver) (append_assoc told one.received more.received) (more.given (told ++ one.received) (one.given told h));
        pending = more.pending;
        held = more.held;
        flow = ap (λ l. pending_input x.s x.before ++ l) (map-after _ one.received more.received)
            ∙ flow-append (pending_input x.s x.before) (payload_inputs x.s one.received) (payload_inputs x.s more.received) (payloads_in (inputs one.steps)) (payloads_in (inputs more.steps))
            (pending_input x.s one.pending) (pending_input x.s more.pending) one.flow more.flow
            ∙ ap (λ l. l ++ pending_input x.s more.pending) (sym (ap payloads_in all ∙ payloads-append (inputs one.steps) (inputs more.steps)));
        read = read_from-append more.steps one.steps ∙ ap (λ ps. ps ++ read_from more.steps) one.read ∙ ap (λ ps. senders_of x.s one.received ++ ps) more.read ∙ sym (senders-append x.s one.received more.received);
      }

  pub CleansUpFirst-more : {mid : Moment P M S O D J B Q C T N V} {listed more_listed : List (Turn P D)} → (x.old.engine.end ≡ None → mid.engine.end ≡ None)
      → (one : CleansUpFirst x.s x.i x.past x.before x.old mid listed) → TakesOnly x.s x.i (happenings one.took.steps ++ x.past) one.took.pending mid x.new more_listed
      → CleansUpFirst x.s x.i x.past x.before x.old x.new (listed ++ more_listed)
  CleansUpFirst-more lives one more = record {
    took = TakesSteps-more lives one.took more.took;
    swept_once = record {
      test = one.swept_once.test;
      later = more.took.steps ++ one.swept_once.later;
      first = ap (λ l. more.took.steps ++ l) one.swept_once.first ∙ sym (append_assoc more.took.steps one.swept_once.later (swept one.swept_once.test ∷ []));
      once = omega (arith, sweeps-append more.took.steps one.took.steps, one.swept_once.once, more.none_swept);
    };
  }

module _ {P M D S G O J N V B Q C T : Type 0} {x : Course P M D S G O J N V B Q C T} where
  -- a cleanup, after which the sources of the node may have been asked, and then more
  pub CleansUpFirst-then : {test : ℕ → Asker S → Bool} {node : Node P M S O D} {provider : B} {requests : Q} {listed : List (Turn P D)}
      → AppliesStep x.s x.i.may_answer x.i.outlet.told x.past (swept test) x.old.engine.node node → x.old.engine.end ≡ None → Holds x.i.is_of x.old.engine.end x.old.engine.job x.before
      → Gave x.i x.old (record x.old { engine = record x.old.engine { node = node; provider = provider; requests = requests } }) [] [] []
      → TakesOnly x.s x.i (cleanup test ∷ x.past) x.before (record x.old { engine = record x.old.engine { node = node; provider = provider; requests = requests } }) x.new listed
      → CleansUpFirst x.s x.i x.past x.before x.old x.new listed
  CleansUpFirst-then {node = node} {provider} {requests} cleaned lives held gave more =
      CleansUpFirst-more {mid = (record x.old { engine = record x.old.engine { node = node; provider = provider; requests = requests } })} (λ _. lives) (CleansUpFirst-alone cleaned lives refl gave held) more

  -- a poll of an engine that has ended
  pub TakesPoll-ended : {cause : EndCause} {result : Poll (Turn P D)} → HasContent x.s x.past x.old.engine.node.core → Holds x.i.is_of x.old.engine.end x.old.engine.job x.before → x.old.engine.end ≡ Some cause
      → x.new ≡ x.old → TakesPoll x.s x.i x.past x.before x.old x.new result
  TakesPoll-ended {cause} {result} has held at same = subst (λ n. TakesPoll x.s x.i x.past x.before x.old n result) (sym same) (record {
    took = TakesSteps-none has held (λ lives. absurd (let no : Some cause ≡ None = sym at ∙ lives in cc)) refl refl (λ told h. told-same x.i.receiver.told x.old.receiver told h);
    job_alone = λ job is. record { provider = refl; receiver = refl; requests = refl; none_swept = refl };
    swept_once = λ lives. absurd (let no : Some cause ≡ None = sym at ∙ lives in cc);
  })

  -- a stop was asked for, and the engine ended
  pub TakesPoll-stopped : AppliesStep x.s x.i.may_answer x.i.outlet.told x.past (ended Stopped) x.old.engine.node x.new.engine.node
      → x.new.engine.end ≡ Some Stopped → x.new.engine.job ≡ None → x.new.engine.provider ≡ x.old.engine.provider → x.new.sender ≡ x.old.sender → x.new.receiver ≡ x.old.receiver
      → ((told : List (Asked (Message P M S G D))) → x.i.requests.told x.old.engine.requests told → x.i.requests.told x.new.engine.requests told)
      → ((told : List Bool) → x.i.requests.outcomes x.old.engine.requests told → x.i.requests.outcomes x.new.engine.requests told)
      → TakesPoll x.s x.i x.past x.before x.old x.new (Ready (Ended Stopped))
  TakesPoll-stopped one end empty provider sender receiver tells outcomes = record {
    took = (TakesOnly-ended one end empty sender (Gave-none provider tells outcomes receiver)).took;
    job_alone = λ job is. idle provider receiver refl refl;
    swept_once = λ lives none. inl (refl, idle provider receiver refl refl);
  }

  -- the job that was pending was polled
  pub TakesPoll-job : {job : P × J} {result : Poll (Turn P D)} → x.old.engine.job ≡ Some job → HoldsJob x.i.is_of x.old.engine.job x.before
      → ((m : M) → x.i.is_of job.1 m → Arrives x.s x.i.may_answer x.i.is_of x.i.outlet.told x.past (message_of job.0 m) x.old.engine.node x.new.engine result) → x.new.engine.end ≡ None → x.new.engine.provider ≡ x.old.engine.provider
      → x.new.sender ≡ x.old.sender → x.new.receiver ≡ x.old.receiver → Gave x.i x.old x.new [] [] [] → TakesPoll x.s x.i x.past x.before x.old x.new result
  TakesPoll-job {job} at held arrives lives provider sender receiver gave =
      let m = Holds-some x.i.is_of job.0 job.1 x.before (subst (λ j. HoldsJob x.i.is_of j x.before) at held) in
      let one = arrives m.0 m.2 in
      record {
        took = TakesSteps-arrival {received = []} one lives sender gave (ap (λ b. pending_input x.s b) (sym m.1) ∙ sym (append-nil (pending_input x.s x.before))) refl;
        job_alone = λ held_job is. idle provider receiver one.remote.no_requests one.none_swept;
        swept_once = λ _ none. absurd (let no : Some job ≡ None = sym at ∙ none in cc);
      }

  -- no job was pending, and the sources were polled, once the requests had told what comes first
  pub TakesPoll-sources : {asked : Q} {job : Option (P × J)} {result : Poll (Turn P D)} → x.old.engine.job ≡ None
      → CleansUpFirst x.s x.i x.past x.before (record x.old { engine = record x.old.engine { requests = asked; job = job } }) x.new (given result)
      → ((told : List (Asked (Message P M S G D))) → x.i.requests.told x.old.engine.requests told → x.i.requests.told asked told)
      → ((told : List Bool) → x.i.requests.outcomes x.old.engine.requests told → x.i.requests.outcomes asked told) → TakesPoll x.s x.i x.past x.before x.old x.new result
  TakesPoll-sources none one tells outcomes = let took = one.took in record {
    took = record {
      steps = took.steps;
      ran = took.ran;
      sends = took.sends;
      due = took.due;
      turned = took.turned;
      ends = took.ends;
      sets = took.sets;
      requests = λ told h. took.requests told (tells told h);
      outcomes = λ told h. took.outcomes told (outcomes told h);
      received = took.received;
      given = took.given;
      pending = took.pending;
      held = took.held;
      flow = took.flow;
      read = took.read;
    };
    job_alone = λ job is. absurd (let no : None ≡ Some job = sym none ∙ is in cc);
    swept_once = λ _ _. inr one.swept_once;
  }
