use Rattle.std.proofs.Common.{rules, ◌≡◌, ◌++◌, ◌∙◌, true, false, is_some, Some, None, [], ◌∷◌, suc, length, length-append, refl, sym, ap, subst, append-nil, arith}
use Rattle.engine_io.specs.Sources.{given}
use Rattle.commonware_broadcast.specs.EngineHistory.{happenings, end_told}
use Rattle.commonware_broadcast.specs.EngineState.{moment}
use Rattle.commonware_broadcast.specs.Interfaces.{format_of, over}
use Rattle.commonware_broadcast.specs.Drives.{TellsEnd, AlwaysTakes, Polls}
use Rattle.engine_io.specs.declared.input.Turn.TheVariants.{Ended}
use Rattle.futures.specs.declared.task.Poll.TheVariants.{Ready, Pending}
use Rattle.std.specs.List.{All}
use Rattle.std.proofs.lemmas.List.Elements.{All-push}
use Rattle.commonware_broadcast.proofs.Polls.{Polls-more}
use Rattle.commonware_broadcast.proofs.Taking.{IsSetting-later, TakesSteps-more}
use Rattle.commonware_broadcast.proofs.Driving.{Polls-take, none_unless, none_is, none_listed, some_is, no_end}
use Rattle.commonware_broadcast.proofs.buffered.engine.driver.drive.Goals as goal

pub loop-poll-init : goal.loop-poll-init
loop-poll-init g c = record {
  polls = λ count is. subst (λ n. Polls (format_of g.P.Ord.cmp g.M.Digest.Ord.cmp g.M.Write.encoding g.M.Digestible.digest_of g.M.Read.reading) (over g.S.Responder.may_answer g.T.Job.Job.is_of g.O.Outlet g.N.Sender g.V.Receiver g.B.Provider g.Q.Requests)
      n (moment c.args.engine.now c.args.network.now) (moment c.args.engine.now c.args.network.now) c.in_ok-turns.turns.items) (sym is) (refl, c.in_ok-turns.ensures.items);
  priority = refl;
  codec_config = refl;
  strategy = refl;
  kept = λ fact h. h;
  unended = λ h. h;
  going = λ h. absurd (omega (arith, h));
  still = λ cause at. (refl, refl, refl);
  none_ends = subst (λ l. All (λ t. end_told t ≡ None) l) (sym c.in_ok-turns.ensures.items) (λ k d h. absurd (omega (arith, h)));
  short = λ h. absurd (omega (arith, h));
  few = omega (arith, ap length c.in_ok-turns.ensures.items);
  fits = omega (arith, c.in_ok-turns.ensures.len);
  room = c.in_ok-turns.ensures.capacity;
}

pub push_reserved-requires : goal.push_reserved-requires
push_reserved-requires g c = omega (arith, c.loop-poll.invariant.fits, c.loop-poll.invariant.room, c.loop-poll-test.true)

pub loop-poll-preserved : goal.loop-poll-preserved
loop-poll-preserved g c =
    let at = c.loop-poll.invariant in
    let going : c.poll.new.self.end ≡ None = none_is c.poll.new.self.end (ap (λ k. is_some k.end) (sym c.engine.view_is) ∙ sym c.is_some.ensures ∙ c.if-is_some.false) in record {
      polls = λ count is. subst (λ n. Polls (format_of g.P.Ord.cmp g.M.Digest.Ord.cmp g.M.Write.encoding g.M.Digestible.digest_of g.M.Read.reading) (over g.S.Responder.may_answer g.T.Job.Job.is_of g.O.Outlet g.N.Sender g.V.Receiver g.B.Provider g.Q.Requests)
          n (moment c.args.engine.now c.args.network.now) (moment c.poll.new.self c.poll.new.network) c.push_reserved.new.self.items) (let next : suc c.loop-poll._poll ≡ count = omega (arith, is) in next)
          (Polls-more c.loop-poll._poll (moment c.args.engine.now c.args.network.now) (moment c.loop-poll.engine c.loop-poll.network) (moment c.poll.new.self c.poll.new.network) c.loop-poll.turns.items c.push_reserved.new.self.items
          (at.polls c.loop-poll._poll refl) (record { result = c.poll.result; polled = c.poll.ensures.polled; all = sym (ap (λ r. c.loop-poll.turns.items ++ given r) c.in-Ready.is ∙ sym c.push_reserved.ensures.items) }));
      priority = c.poll.ensures.polled.keeps_priority ∙ at.priority;
      codec_config = c.poll.ensures.polled.keeps_codec_config ∙ at.codec_config;
      strategy = c.poll.ensures.polled.keeps_strategy ∙ at.strategy;
      kept = λ fact h. c.poll.ensures.kept fact (at.kept fact h);
      unended = λ _. going;
      going = λ _. going;
      still = λ cause ended.
          let before : c.loop-poll.engine.end ≡ Some cause = ap (λ k. k.end) (at.still cause ended).1 ∙ ended in
          absurd (let no : None ≡ Some cause = sym going ∙ ap (λ k. k.engine.end) (c.poll.ensures.polled.same_after_end cause before).1 ∙ before in cc);
      none_ends = subst (λ l. All (λ t. end_told t ≡ None) l) (sym c.push_reserved.ensures.items) (All-push (λ t. end_told t ≡ None) c.loop-poll.turns.items c.in-Ready.turn at.none_ends
          (no_end c.in-Ready.turn (λ cause is. let no : None ≡ Some cause = sym going ∙ c.poll.ensures.polled.ends_as_told cause (c.in-Ready.is ∙ ap Ready is) in cc)));
      short = λ h. c.poll.ensures.kept _ (at.short (omega (arith, h, ap length c.push_reserved.ensures.items, length-append c.loop-poll.turns.items (c.in-Ready.turn ∷ []))));
      few = omega (arith, at.few, ap length c.push_reserved.ensures.items, length-append c.loop-poll.turns.items (c.in-Ready.turn ∷ []));
      fits = omega (arith, at.fits, c.push_reserved.ensures.len);
      room = omega (arith, at.room, c.push_reserved.ensures.capacity);
    }

pub loop-poll-preserved-in_default : goal.loop-poll-preserved-in_default
loop-poll-preserved-in_default g c = let at = c.loop-poll.invariant in record {
  polls = λ count is. subst (λ n. Polls (format_of g.P.Ord.cmp g.M.Digest.Ord.cmp g.M.Write.encoding g.M.Digestible.digest_of g.M.Read.reading) (over g.S.Responder.may_answer g.T.Job.Job.is_of g.O.Outlet g.N.Sender g.V.Receiver g.B.Provider g.Q.Requests)
      n (moment c.args.engine.now c.args.network.now) (moment c.poll.new.self c.poll.new.network) c.loop-poll.turns.items) (let next : suc c.loop-poll._poll ≡ count = omega (arith, is) in next)
      (Polls-more c.loop-poll._poll (moment c.args.engine.now c.args.network.now) (moment c.loop-poll.engine c.loop-poll.network) (moment c.poll.new.self c.poll.new.network) c.loop-poll.turns.items c.loop-poll.turns.items
      (at.polls c.loop-poll._poll refl) (record { result = c.poll.result; polled = c.poll.ensures.polled; all = sym (ap (λ r. c.loop-poll.turns.items ++ given r) c.in_default.is ∙ append-nil c.loop-poll.turns.items) }));
  priority = c.poll.ensures.polled.keeps_priority ∙ at.priority;
  codec_config = c.poll.ensures.polled.keeps_codec_config ∙ at.codec_config;
  strategy = c.poll.ensures.polled.keeps_strategy ∙ at.strategy;
  kept = λ fact h. c.poll.ensures.kept fact (at.kept fact h);
  unended = λ _. none_unless c.poll.new.self.end (λ cause ended. let e : Pending ≡ Ready (Ended cause) = sym c.in_default.is ∙ c.poll.ensures.polled.tells_its_end cause ended in cc);
  going = λ _. none_unless c.poll.new.self.end (λ cause ended. let e : Pending ≡ Ready (Ended cause) = sym c.in_default.is ∙ c.poll.ensures.polled.tells_its_end cause ended in cc);
  still = λ cause ended. absurd (let e : Pending ≡ Ready (Ended cause) = sym c.in_default.is ∙ (c.poll.ensures.polled.same_after_end cause (ap (λ k. k.end) (at.still cause ended).1 ∙ ended)).0 in cc);
  none_ends = at.none_ends;
  short = λ _. c.in_default.ensures.armed;
  few = omega (arith, at.few);
  fits = omega (arith, at.fits);
  room = at.room;
}

pub returns-then-is_some-clause-took : goal.returns-then-is_some-clause-took
returns-then-is_some-clause-took g c = let at = c.loop-poll.invariant in
    subst (λ l. AlwaysTakes (format_of g.P.Ord.cmp g.M.Digest.Ord.cmp g.M.Write.encoding g.M.Digestible.digest_of g.M.Read.reading) (over g.S.Responder.may_answer g.T.Job.Job.is_of g.O.Outlet g.N.Sender g.V.Receiver g.B.Provider g.Q.Requests)
    (moment c.args.engine.now c.args.network.now) (moment c.poll.new.self c.poll.new.network) l) (sym c.push_reserved.ensures.items)
    (λ s is past has before held.
    let begun = Polls-take c.loop-poll._poll (moment c.args.engine.now c.args.network.now) (moment c.loop-poll.engine c.loop-poll.network) c.loop-poll.turns.items (at.polls c.loop-poll._poll refl) at.none_ends s is past has before held in
    TakesSteps-more at.unended begun (rw c.in-Ready.is at
    (c.poll.ensures.polled.took s (IsSetting-later is at.codec_config at.priority) (happenings begun.steps ++ past) begun.ran.content begun.pending begun.held).took))

pub returns-then-is_some-clause-ends_with_last_turn : goal.returns-then-is_some-clause-ends_with_last_turn
returns-then-is_some-clause-ends_with_last_turn g c = λ _.
    let end = some_is c.poll.new.self.end (ap (λ k. is_some k.end) (sym c.engine.view_is) ∙ sym c.is_some.ensures ∙ c.if-is_some.true) in
    let told : c.in-Ready.turn ≡ Ended end.0 = (let e : Ready c.in-Ready.turn ≡ Ready (Ended end.0) = sym c.in-Ready.is ∙ c.poll.ensures.polled.tells_its_end end.0 end.1 in cc) in
    subst (λ e. TellsEnd e c.push_reserved.new.self.items) (sym end.1)
    (c.loop-poll.turns.items, c.push_reserved.ensures.items ∙ ap (λ t. c.loop-poll.turns.items ++ t ∷ []) told, c.loop-poll.invariant.none_ends)

pub returns-then-is_some-clause-same_after_end : goal.returns-then-is_some-clause-same_after_end
returns-then-is_some-clause-same_after_end g c = λ cause ended.
    let at = c.loop-poll.invariant in
    let still = at.still cause ended in
    let before : c.loop-poll.engine.end ≡ Some cause = ap (λ k. k.end) still.1 ∙ ended in
    let same = c.poll.ensures.polled.same_after_end cause before in
    let told : c.in-Ready.turn ≡ Ended cause = (let e : Ready c.in-Ready.turn ≡ Ready (Ended cause) = sym c.in-Ready.is ∙ same.0 in cc) in
    let none : c.loop-poll.turns.items ≡ [] = none_listed c.loop-poll.turns.items (omega (arith, at.few, still.0)) in
    (ap (λ k. k.engine) same.1 ∙ still.1, ap (λ k. (k.sender, k.receiver)) same.1 ∙ still.2, λ _. c.push_reserved.ensures.items ∙ ap (λ l. l ++ c.in-Ready.turn ∷ []) none ∙ ap (λ t. t ∷ []) told)

pub returns-then-is_some-clause-drives : goal.returns-then-is_some-clause-drives
returns-then-is_some-clause-drives g c = let at = c.loop-poll.invariant in record {
  count = suc c.loop-poll._poll;
  polls = Polls-more c.loop-poll._poll (moment c.args.engine.now c.args.network.now) (moment c.loop-poll.engine c.loop-poll.network) (moment c.poll.new.self c.poll.new.network) c.loop-poll.turns.items c.push_reserved.new.self.items
      (at.polls c.loop-poll._poll refl) (record { result = c.poll.result; polled = c.poll.ensures.polled; all = sym (ap (λ r. c.loop-poll.turns.items ++ given r) c.in-Ready.is ∙ sym c.push_reserved.ensures.items) });
  at_most = omega (arith, c.loop-poll-test.true);
  all_unless_ended = λ none. absurd (let no : true ≡ false = sym c.if-is_some.true ∙ c.is_some.ensures ∙ ap (λ k. is_some k.end) c.engine.view_is ∙ ap is_some none in cc);
}

pub returns-clause-took : goal.returns-clause-took
returns-clause-took g c = let at = c.loop-poll.invariant in
    Polls-take c.loop-poll._poll (moment c.args.engine.now c.args.network.now) (moment c.loop-poll.engine c.loop-poll.network) c.loop-poll.turns.items (at.polls c.loop-poll._poll refl) at.none_ends

pub returns-clause-drives : goal.returns-clause-drives
returns-clause-drives g c = record {
  count = c.loop-poll._poll;
  polls = c.loop-poll.invariant.polls c.loop-poll._poll refl;
  at_most = search rules;
  all_unless_ended = λ none. search rules;
}
