use Rattle.std.proofs.Common.{◌≡◌, ◌<◌, length, sym, ap, subst, ◌∙◌}
use Rattle.std.specs.List.{All}
use Rattle.std.specs.List.Sorted.{IsStrictlyIncreasing}
use Rattle.std.specs.Ordering.{eq_by_cmp}
use Rattle.broadcast_core.specs.Setting.{whole, setting}
use Rattle.broadcast_core.specs.Content.{same_by}
use Rattle.broadcast_core.specs.Log.{is_refused}
use Rattle.broadcast_world.specs.Relay.{relay}
use Rattle.broadcast_world.specs.Relayed.{AreRefusable, relayed, places_from, history_but}
use Rattle.broadcast_world.proofs.Replying.{relay-run}
use Rattle.broadcast_world.proofs.Refusing.{AreRefusable-run}
use Rattle.broadcast_world.proofs.RefusedPlaces.{IsStrictlyIncreasing-places, places-within}
use Rattle.broadcast_world.proofs.relay.relay_of.Given as given
use Rattle.broadcast_world.proofs.relay.relay_of.Goals as goal

messages_are : (g : given.Over) (c : goal.In_ok-messages g)
    → c.in_ok-messages.messages.items ≡ relayed (eq_by_cmp g.M.Digest.Ord.cmp) c.in_ok-answers.field-0.answers
messages_are g c = c.in_ok-messages.ensures ∙ ap (relayed (eq_by_cmp g.M.Digest.Ord.cmp)) c.into_vec-answers.ensures

refused_are : (g : given.Over) (c : goal.In_ok-messages g)
    → c.in_ok-refused.refused.items ≡ places_from is_refused 0 c.in_ok-answers.field-0.answers
refused_are g c = c.in_ok-refused.ensures ∙ ap (places_from is_refused 0) (c.deref.ensures.value ∙ c.into_vec-answers.ensures)

pub returns-clause-run : goal.returns-clause-run
returns-clause-run g c = record {
  answers = c.in_ok-answers.field-0.answers;
  sends = c.in_ok-answers.field-0.sent;
  core = c.in_ok-answers.field-0.core;
  ran = c.in_ok-answers.ensures;
  relays = messages_are g c;
  refuses = refused_are g c;
}

pub returns-clause-messages : goal.returns-clause-messages
returns-clause-messages g c =
    let s = setting c.args.own c.args.deque_size c.args.byte_budget c.args.priority (same_by g.P.Ord.cmp g.M.Digest.Ord.cmp)
    g.M.Digestible.digest_of g.M.Write.encoding (whole (g.M.Read.reading c.args.cfg.now)) in
    let ran = c.in_ok-answers.ensures in
    messages_are g c ∙ relay-run s c.args.events.items c.in_ok-answers.field-0.answers ran.one_each ran.answered
    ∙ ap (λ places. relay s (history_but s places c.args.events.items)) (sym (refused_are g c))

pub returns-clause-rises : goal.returns-clause-rises
returns-clause-rises g c = subst IsStrictlyIncreasing (sym (refused_are g c))
    (IsStrictlyIncreasing-places is_refused 0 c.in_ok-answers.field-0.answers)

pub returns-clause-within : goal.returns-clause-within
returns-clause-within g c = subst (All (λ k. k < length c.args.events.items)) (sym (refused_are g c))
    (subst (λ n. All (λ k. k < n) (places_from is_refused 0 c.in_ok-answers.field-0.answers)) c.in_ok-answers.ensures.one_each
    (places-within is_refused c.in_ok-answers.field-0.answers))

pub returns-clause-refusable : goal.returns-clause-refusable
returns-clause-refusable g c =
    let s = setting c.args.own c.args.deque_size c.args.byte_budget c.args.priority (same_by g.P.Ord.cmp g.M.Digest.Ord.cmp)
    g.M.Digestible.digest_of g.M.Write.encoding (whole (g.M.Read.reading c.args.cfg.now)) in
    let ran = c.in_ok-answers.ensures in
    subst (AreRefusable s c.args.events.items) (sym (refused_are g c))
    (AreRefusable-run s c.args.events.items c.in_ok-answers.field-0.answers ran.one_each ran.answered)
