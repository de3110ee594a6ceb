use Rattle.std.proofs.Common.{◌≡◌, inl, inr, Option, None, Some, true, false, [], ◌∷◌, ◌++◌, refl, ap, sym, ◌∙◌, subst}
use Rattle.futures.specs.declared.task.Poll.TheVariants.{Ready}
use Rattle.broadcast_core.specs.Happening.{cleanup}
use Rattle.engine_io.specs.Causes.{HasCause}
use Rattle.engine_io.specs.Refused.{refuses}
use Rattle.commonware_broadcast.specs.CountingCalls.{outcome_of}
use Rattle.engine_io.specs.declared.input.EndCause.TheVariants.{Stopped}
use Rattle.engine_io.specs.declared.input.Turn.TheVariants as turn
use Rattle.commonware_broadcast.specs.declared.buffered.engine.first.First.TheVariants.{Stop, Job, Sources}
use Rattle.commonware_broadcast.specs.Arrives.{Arrives, payload_of}
use Rattle.commonware_broadcast.specs.Taken.{Holds}
use Rattle.commonware_broadcast.proofs.Composing.{told-same}
use Rattle.commonware_broadcast.proofs.Ending.{IsPoll-open, IfNetwork-holds, OnPending-map, UnlessPeers-holds, UnlessPeers-input, HasCause-map, no_error, no_ready, no_stop, no_true, not_ended, same_cause, same_error}
use Rattle.commonware_broadcast.proofs.Taking.{Holds-open, Gave-none, Gave-received, TakesOnly-ended, TakesOnly-input, TakesOnly-payload, TakesSteps-none, CleansUpFirst-then, TakesPoll-ended, TakesPoll-stopped, TakesPoll-job, TakesPoll-sources}
use Rattle.commonware_broadcast.proofs.buffered.engine.state.Engine.poll.Goals as goal

pub returns-in-Some-clause-polled : goal.returns-in-Some-clause-polled
returns-in-Some-clause-polled g c = rw (← c.self.view_is) (record {
  took = λ s is past has before held. TakesPoll-ended has held c.in-Some.is refl;
  attends = λ lives. absurd (let no : None ≡ Some c.in-Some.cause = sym lives ∙ c.in-Some.is in cc);
  same_after_end = λ cause ended. (let same : Some c.in-Some.cause ≡ Some cause = sym c.in-Some.is ∙ ended in cc, refl);
  tells_its_end = λ cause ended. let same : Some c.in-Some.cause ≡ Some cause = sym c.in-Some.is ∙ ended in cc;
  ends_as_told = λ cause told. let same : Ready (turn.Ended c.in-Some.cause) ≡ Ready (turn.Ended cause) = told in let is = c.in-Some.is in cc;
  keeps_priority = refl;
  keeps_codec_config = refl;
  keeps_strategy = refl;
})

pub returns-in-Stop-clause-polled : goal.returns-in-Stop-clause-polled
returns-in-Stop-clause-polled g c = rw (← c.self.view_is) (rw c.end.ensures.told (
    let over = c.end.ensures.keeps_all_else in
    IsPoll-open c.in_default.is (ap (λ e. e.end) over)
    (λ s is past has before held. TakesPoll-stopped (c.end.ensures.ended s is.same past has)
    (ap (λ e. e.end) over) (ap (λ e. e.job) over) (ap (λ e. e.provider) over) refl refl (λ told h. c.end.ensures.tells told (c.comes_first.ensures.tells told h))
    (λ told h. c.end.ensures.tells_outcomes told (c.comes_first.ensures.outcomes told h)))
    (record {
      stop_first = λ stops. refl;
      has_cause = λ cause is. subst (λ k. HasCause k (g.Q.Requests.may_stop c.self.inside.requests) (g.B.Provider.may_end c.self.inside.provider) (g.V.Receiver.may_fail c.args.network.now.1))
          (let same : Ready (turn.Ended Stopped) ≡ Ready (turn.Ended cause) = is in let e : Stopped ≡ cause = cc in e) (c.in-Stop.ensures.only_if_asked refl);
      closes = λ cause is. c.end.ensures.closes;
      peers_first = λ none. tt;
      requests_first = λ none is. absurd (let no : false ≡ true = is in cc);
      network_last = inl refl;
      network_looked_at = λ none. tt;
      ends_with_peers = λ none over. inl refl;
      ends_with_network = λ none failed. inr (refl, tt);
      idle_if_ready = ap (λ e. e.job) over;
    })
    (record { priority = ap (λ e. e.priority) over; codec_config = ap (λ e. e.codec_config) over; strategy = ap (λ e. e.strategy) over })))

pub returns-in-Job-clause-polled : goal.returns-in-Job-clause-polled
returns-in-Job-clause-polled g c = rw (← c.self.view_is) (
    let keeps = c.poll_job.ensures.keeps_all_else in
    let had = c.in-Job.ensures.job_alone in
    let some : c.self.inside.job ≡ None → ⊥ = λ none. let no : ◌≡◌ {A = Option (g.row.P.Denot × g.row.T-Job.Denot)} (Some (c.in-Job.peer, c.in-Job.job)) None = sym had.0 ∙ none in cc in
    IsPoll-open c.in_default.is (ap (λ e. e.end) keeps ∙ c.in_default.is ∙ sym c.poll_job.ensures.tells_no_end)
    (λ s is past has before held. TakesPoll-job had.0
    (Holds-open g.T.Job.Job.is_of c.self.inside.end c.self.inside.job before c.in_default.is held) (λ m of_job. c.poll_job.ensures.arrives m of_job s is past has)
    (ap (λ e. e.end) keeps ∙ c.in_default.is) (ap (λ e. e.provider) keeps) refl refl (Gave-none (ap (λ e. e.provider) keeps)
    (λ told h. subst (λ q. g.Q.Requests.told q told) (sym (ap (λ e. e.requests) keeps)) (c.comes_first.ensures.tells told h))
    (λ told h. subst (λ q. g.Q.Requests.outcomes q told) (sym (ap (λ e. e.requests) keeps)) (c.comes_first.ensures.outcomes told h)) refl))
    (record {
      stop_first = λ stops. absurd (let no : Job c.in-Job.peer c.in-Job.job ≡ Stop = c.in-Job.ensures.stop_first stops in cc);
      has_cause = λ cause is. not_ended c.poll_job.result cause c.poll_job.ensures.tells_no_end is;
      closes = λ cause is. not_ended c.poll_job.result cause c.poll_job.ensures.tells_no_end is;
      peers_first = λ none. absurd (some none);
      requests_first = λ none. absurd (some none);
      network_last = inl refl;
      network_looked_at = λ none. absurd (some none);
      ends_with_peers = λ none. absurd (some none);
      ends_with_network = λ none. absurd (some none);
      idle_if_ready = c.poll_job.ensures.idle_if_ready;
    })
    (record { priority = ap (λ e. e.priority) keeps; codec_config = ap (λ e. e.codec_config) keeps; strategy = ap (λ e. e.strategy) keeps }))

pub returns-in-Ready-Ok-clause-polled : goal.returns-in-Ready-Ok-clause-polled
returns-in-Ready-Ok-clause-polled g c = rw (← c.self.view_is) (
    let none = c.in-Sources.ensures.job_alone in
    let next = rw c.in-Ready-Ok.field-0-is at c.in-Ready-Ok.ensures in
    let no_end = c.apply-turn.ensures.tells_no_end in
    IsPoll-open c.in_default.is (c.in_default.is ∙ sym no_end)
    (λ s is past has before held.
    let swept = c.cleanup_waiters.ensures.swept s is.same past has in
    let holds = subst (λ j. Holds g.T.Job.Job.is_of c.self.inside.end j before) (none.0 ∙ sym none.1) held in
    TakesPoll-sources {asked = c.comes_first.new.requests} {job = c.comes_first.new.slot} none.0
    (CleansUpFirst-then swept.1 c.in_default.is holds (Gave-none refl (λ told h. h) (λ told h. h) refl)
    (TakesOnly-input (c.apply-turn.ensures.applied s is.same is.encoding is.priority (cleanup swept.0 ∷ past) swept.1.content) (record {
      local = next.no_payload;
      sets = next.sets;
      requests = λ told h. c.tell_outcome.ensures.tells _ (next.requests told (subst (λ q. g.Q.Requests.told q told) (sym c.cleanup_waiters.ensures.same) h));
      outcomes = λ told h. subst (λ b. g.Q.Requests.outcomes c.tell_outcome.new.requests (told ++ outcome_of b (refuses c.apply-turn.result))) c.is_request-is_request.ensures
          (subst (λ b. g.Q.Requests.outcomes c.tell_outcome.new.requests (told ++ outcome_of c.is_request-is_request.result b)) c.is_refused.ensures
          (c.tell_outcome.ensures.outcomes told (next.outcomes told (subst (λ q. g.Q.Requests.outcomes q told) (sym c.cleanup_waiters.ensures.same) h))));
      payloads = told-same g.V.Receiver.told c.args.network.now.1;
    }) c.in_default.is holds))
    c.comes_first.ensures.tells c.comes_first.ensures.outcomes)
    (record {
      stop_first = λ stops. no_stop (c.in-Sources.ensures.stop_first stops);
      has_cause = λ cause is. not_ended (Ready c.apply-turn.result) cause no_end is;
      closes = λ cause is. not_ended (Ready c.apply-turn.result) cause no_end is;
      peers_first = λ _. UnlessPeers-input c.in-Ready-Ok.input c.apply-turn.result (g.B.Provider.quiet c.self.inside.provider) c.apply-turn.ensures.of_peers next.peers_first;
      requests_first = λ _ is. no_true (sym (c.apply-turn.ensures.of_request next.no_payload) ∙ is);
      network_last = inl refl;
      network_looked_at = λ _. tt;
      ends_with_peers = λ _ over. no_error (next.ends over);
      ends_with_network = λ _ failed. inr (refl, tt);
      idle_if_ready = none.1;
    })
    (record { priority = refl; codec_config = refl; strategy = refl }))

pub returns-in-Ready-Err-clause-polled : goal.returns-in-Ready-Err-clause-polled
returns-in-Ready-Err-clause-polled g c = rw (← c.self.view_is) (rw c.end-in-Ready-Err.ensures.told (
    let none = c.in-Sources.ensures.job_alone in
    let next = rw c.in-Ready-Err.field-0-is at c.in-Ready-Err.ensures in
    let over = c.end-in-Ready-Err.ensures.keeps_all_else in
    IsPoll-open c.in_default.is (ap (λ e. e.end) over)
    (λ s is past has before held.
    let swept = c.cleanup_waiters.ensures.swept s is.same past has in
    let holds = subst (λ j. Holds g.T.Job.Job.is_of c.self.inside.end j before) (none.0 ∙ sym none.1) held in
    TakesPoll-sources {asked = c.comes_first.new.requests} {job = c.comes_first.new.slot} none.0
    (CleansUpFirst-then swept.1 c.in_default.is holds (Gave-none refl (λ told h. h) (λ told h. h) refl)
    (TakesOnly-ended (c.end-in-Ready-Err.ensures.ended s is.same (cleanup swept.0 ∷ past) swept.1.content) (ap (λ e. e.end) over) (ap (λ e. e.job) over) refl (record {
      local = refl;
      sets = λ told h. subst (λ b. g.B.Provider.told b (told ++ [])) (sym (ap (λ e. e.provider) over)) (next.sets told h);
      requests = λ told h. c.end-in-Ready-Err.ensures.tells _ (next.requests told (subst (λ q. g.Q.Requests.told q told) (sym c.cleanup_waiters.ensures.same) h));
      outcomes = λ told h. told-same g.Q.Requests.outcomes c.end-in-Ready-Err.new.self.requests told
          (c.end-in-Ready-Err.ensures.tells_outcomes told (next.outcomes told (subst (λ q. g.Q.Requests.outcomes q told) (sym c.cleanup_waiters.ensures.same) h)));
      payloads = told-same g.V.Receiver.told c.args.network.now.1;
    })))
    c.comes_first.ensures.tells c.comes_first.ensures.outcomes)
    (record {
      stop_first = λ stops. no_stop (c.in-Sources.ensures.stop_first stops);
      has_cause = λ cause is. subst (λ k. HasCause k (g.Q.Requests.may_stop c.self.inside.requests) (g.B.Provider.may_end c.self.inside.provider) (g.V.Receiver.may_fail c.args.network.now.1))
          (same_cause is)
          (HasCause-map (λ asked. subst g.Q.Requests.may_stop (c.cleanup_waiters.ensures.same ∙ c.in-Sources.ensures.unasked (ap Sources asked.0)) asked.1) (λ ended. ended) (g.V.Receiver.may_fail c.args.network.now.1) c.in-Ready-Err.cause next.has_cause);
      closes = λ cause is. c.end-in-Ready-Err.ensures.closes;
      peers_first = λ _. tt;
      requests_first = λ _ is. no_true is;
      network_last = inl refl;
      network_looked_at = λ _. tt;
      ends_with_peers = λ _ over. inr (ap (λ k. Ready (turn.Ended k)) (same_error (next.ends over)));
      ends_with_network = λ _ failed. inr (refl, tt);
      idle_if_ready = ap (λ e. e.job) over;
    })
    (record { priority = ap (λ e. e.priority) over; codec_config = ap (λ e. e.codec_config) over; strategy = ap (λ e. e.strategy) over })))

pub returns-in-Ready-Ok-poll_recv-clause-polled : goal.returns-in-Ready-Ok-poll_recv-clause-polled
returns-in-Ready-Ok-poll_recv-clause-polled g c = rw (← c.self.view_is) (
    let none = c.in-Sources.ensures.job_alone in
    let next = c.in-Pending.ensures in
    let got = rw c.in-Ready-Ok-poll_recv.field-0-is at c.in-Ready-Ok-poll_recv.ensures in
    let keeps = c.receive.ensures.keeps_all_else in
    let no_end = c.receive.ensures.tells_no_end in
    let quiet = c.comes_first.ensures.quiet (subst g.Q.Requests.quiet c.cleanup_waiters.ensures.same next.requests_first) in
    let p = c.in-Ready-Ok-poll_recv.peer in
    let bytes = c.in-Ready-Ok-poll_recv.bytes in
    IsPoll-open c.in_default.is (ap (λ e. e.end) keeps ∙ c.in_default.is ∙ sym no_end)
    (λ s is past has before held.
    let swept = c.cleanup_waiters.ensures.swept s is.same past has in
    let holds = subst (λ j. Holds g.T.Job.Job.is_of c.self.inside.end j before) (none.0 ∙ sym none.1) held in
    TakesPoll-sources {asked = c.comes_first.new.requests} {job = c.comes_first.new.slot} none.0
    (CleansUpFirst-then swept.1 c.in_default.is holds
    (record {
      local = refl;
      sets = next.sets;
      requests = λ told h. next.requests told (subst (λ q. g.Q.Requests.told q told) (sym c.cleanup_waiters.ensures.same) h);
      outcomes = λ told h. told-same g.Q.Requests.outcomes c.next_input.new.requests told (next.outcomes told (subst (λ q. g.Q.Requests.outcomes q told) (sym c.cleanup_waiters.ensures.same) h));
      payloads = told-same g.V.Receiver.told c.args.network.now.1;
    })
    (TakesOnly-payload c.in_default.is none.1 holds
    (subst (λ bs. Arrives s (λ w b. g.S.Responder.may_answer w.responder b) g.T.Job.Job.is_of g.O.Outlet.told (cleanup swept.0 ∷ past) (payload_of p (s.reading bs)) c.cleanup_waiters.new.node c.receive.new.self c.receive.result) c.as_slice.ensures
    (c.receive.ensures.arrives s is (cleanup swept.0 ∷ past) swept.1.content))
    (ap (λ e. e.end) keeps ∙ c.in_default.is) refl
    (Gave-received (ap (λ e. e.provider) keeps) (λ told h. subst (λ q. g.Q.Requests.told q told) (sym (ap (λ e. e.requests) keeps)) h)
    (λ told h. subst (λ q. g.Q.Requests.outcomes q told) (sym (ap (λ e. e.requests) keeps)) h) got.tells)))
    c.comes_first.ensures.tells c.comes_first.ensures.outcomes)
    (record {
      stop_first = λ stops. no_stop (c.in-Sources.ensures.stop_first stops);
      has_cause = λ cause is. not_ended c.receive.result cause no_end is;
      closes = λ cause is. not_ended c.receive.result cause no_end is;
      peers_first = λ _. UnlessPeers-holds c.receive.result next.peers_first;
      requests_first = λ _. IfNetwork-holds c.receive.result quiet;
      network_last = inr (next.peers_first, quiet);
      network_looked_at = λ _. OnPending-map c.receive.result (λ full idle. absurd (full idle)) c.receive.ensures.held_if_pending;
      ends_with_peers = λ _ over. no_ready (next.ends over);
      ends_with_network = λ _ failed. absurd (got.fails failed);
      idle_if_ready = c.receive.ensures.idle_if_ready;
    })
    (record { priority = ap (λ e. e.priority) keeps; codec_config = ap (λ e. e.codec_config) keeps; strategy = ap (λ e. e.strategy) keeps }))

pub returns-in-Ready-Err-poll_recv-clause-polled : goal.returns-in-Ready-Err-poll_recv-clause-polled
returns-in-Ready-Err-poll_recv-clause-polled g c = rw (← c.self.view_is) (rw c.end-in-Ready-Err-poll_recv.ensures.told (
    let none = c.in-Sources.ensures.job_alone in
    let next = c.in-Pending.ensures in
    let got = rw c.in-Ready-Err-poll_recv.field-0-is at c.in-Ready-Err-poll_recv.ensures in
    let over = c.end-in-Ready-Err-poll_recv.ensures.keeps_all_else in
    let quiet = c.comes_first.ensures.quiet (subst g.Q.Requests.quiet c.cleanup_waiters.ensures.same next.requests_first) in
    IsPoll-open c.in_default.is (ap (λ e. e.end) over)
    (λ s is past has before held.
    let swept = c.cleanup_waiters.ensures.swept s is.same past has in
    let holds = subst (λ j. Holds g.T.Job.Job.is_of c.self.inside.end j before) (none.0 ∙ sym none.1) held in
    TakesPoll-sources {asked = c.comes_first.new.requests} {job = c.comes_first.new.slot} none.0
    (CleansUpFirst-then swept.1 c.in_default.is holds
    (record {
      local = refl;
      sets = next.sets;
      requests = λ told h. next.requests told (subst (λ q. g.Q.Requests.told q told) (sym c.cleanup_waiters.ensures.same) h);
      outcomes = λ told h. told-same g.Q.Requests.outcomes c.next_input.new.requests told (next.outcomes told (subst (λ q. g.Q.Requests.outcomes q told) (sym c.cleanup_waiters.ensures.same) h));
      payloads = told-same g.V.Receiver.told c.args.network.now.1;
    })
    (TakesOnly-ended (c.end-in-Ready-Err-poll_recv.ensures.ended s is.same (cleanup swept.0 ∷ past) swept.1.content) (ap (λ e. e.end) over) (ap (λ e. e.job) over) refl
    (Gave-received (ap (λ e. e.provider) over) c.end-in-Ready-Err-poll_recv.ensures.tells c.end-in-Ready-Err-poll_recv.ensures.tells_outcomes got.tells)))
    c.comes_first.ensures.tells c.comes_first.ensures.outcomes)
    (record {
      stop_first = λ stops. no_stop (c.in-Sources.ensures.stop_first stops);
      has_cause = λ cause is. subst (λ k. HasCause k (g.Q.Requests.may_stop c.self.inside.requests) (g.B.Provider.may_end c.self.inside.provider) (g.V.Receiver.may_fail c.args.network.now.1))
          (same_cause is) got.may_fail;
      closes = λ cause is. c.end-in-Ready-Err-poll_recv.ensures.closes;
      peers_first = λ _. tt;
      requests_first = λ _ is. no_true is;
      network_last = inr (next.peers_first, quiet);
      network_looked_at = λ _. tt;
      ends_with_peers = λ _ over. no_ready (next.ends over);
      ends_with_network = λ _ failed. inl refl;
      idle_if_ready = ap (λ e. e.job) over;
    })
    (record { priority = ap (λ e. e.priority) over; codec_config = ap (λ e. e.codec_config) over; strategy = ap (λ e. e.strategy) over })))

pub returns-in-Pending-poll_recv-clause-polled : goal.returns-in-Pending-poll_recv-clause-polled
returns-in-Pending-poll_recv-clause-polled g c = rw (← c.self.view_is) (
    let none = c.in-Sources.ensures.job_alone in
    let next = c.in-Pending.ensures in
    let got = c.in-Pending-poll_recv.ensures in
    let quiet = c.comes_first.ensures.quiet (subst g.Q.Requests.quiet c.cleanup_waiters.ensures.same next.requests_first) in
    IsPoll-open c.in_default.is c.in_default.is
    (λ s is past has before held.
    let swept = c.cleanup_waiters.ensures.swept s is.same past has in
    let holds = subst (λ j. Holds g.T.Job.Job.is_of c.self.inside.end j before) (none.0 ∙ sym none.1) held in
    TakesPoll-sources {asked = c.comes_first.new.requests} {job = c.comes_first.new.slot} none.0
    (CleansUpFirst-then swept.1 c.in_default.is holds
    (record {
      local = refl;
      sets = next.sets;
      requests = λ told h. next.requests told (subst (λ q. g.Q.Requests.told q told) (sym c.cleanup_waiters.ensures.same) h);
      outcomes = λ told h. told-same g.Q.Requests.outcomes c.next_input.new.requests told (next.outcomes told (subst (λ q. g.Q.Requests.outcomes q told) (sym c.cleanup_waiters.ensures.same) h));
      payloads = told-same g.V.Receiver.told c.args.network.now.1;
    })
    (record { took = TakesSteps-none swept.1.content holds (λ _. refl) refl refl got.tells; none_swept = refl }))
    c.comes_first.ensures.tells c.comes_first.ensures.outcomes)
    (record {
      stop_first = λ stops. no_stop (c.in-Sources.ensures.stop_first stops);
      has_cause = λ cause is. no_ready is;
      closes = λ cause is. no_ready is;
      peers_first = λ _. next.peers_first;
      requests_first = λ _. quiet;
      network_last = inr (next.peers_first, quiet);
      network_looked_at = λ _ _. got.quiet;
      ends_with_peers = λ _ over. no_ready (next.ends over);
      ends_with_network = λ _ failed. absurd (got.fails failed);
      idle_if_ready = tt;
    })
    (record { priority = refl; codec_config = refl; strategy = refl }))
