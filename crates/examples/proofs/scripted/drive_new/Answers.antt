use Rattle.std.proofs.Common.{◌≡◌, [], None, Result, Ok, Err, IfOk, map, refl, sym, ap, ◌∙◌, subst}
use Rattle.broadcast_core.specs.Setting.{whole, setting}
use Rattle.broadcast_core.specs.Content.{same_by}
use Rattle.std.specs.List.{count_by}
use Rattle.engine_io.specs.Counters.{raised, number_at, is_counted_as}
use Rattle.commonware_broadcast.specs.Counting.{counted}
use Rattle.engine_io.specs.Replies.{reply_of}
use Rattle.engine_io.specs.Sources.{given, given_some, given_ok}
use Rattle.engine_io.specs.Recorded.{reply_in}
use Rattle.engine_io.specs.Scripts.{HasGiven, values}
use Rattle.commonware_broadcast.specs.Taken.{Holds}
use Rattle.examples.proofs.Zero.{number-zero}
use Rattle.examples.proofs.scripted.drive_new.Goals as goal

on_ok : {A E : Type 0} (r : Result A E) (P Q : A → Type 0) → ((a : A) → P a → Q a) → IfOk r P → IfOk r Q
on_ok (Ok a) P Q f p = f a p
on_ok (Err e) P Q f p = tt

pub returns : goal.returns
returns g c = record {
  driven =
      let cfg = c.args.cfg in
      let s = setting cfg.public_key cfg.deque_size cfg.byte_budget cfg.priority (same_by g.P.Ord.cmp g.M.Digest.Ord.cmp)
      g.M.Digestible.digest_of g.M.Write.encoding (whole (g.M.Read.reading cfg.codec_config)) in
      let new = c.over-engine.ensures in
      on_ok c.drive-turns.result _ _ (λ turns always kept.
      let took = always s (record {
        same = refl;
        encoding = refl;
        priority = sym (ap (λ e. e.priority) new);
        digest_of = refl;
        reading = sym (ap (λ e. whole (g.M.Read.reading e.codec_config)) new);
      }) []
      (c.new_engine_law.ensures s _ (ap (λ e. e.node.core) new)) None
      (subst (λ e. Holds g.T.Job.Job.is_of e.end e.job None) (sym new) tt) in
      record {
        steps = took.steps;
        turned = took.turned (ap (λ e. e.end) new);
        sets = took.sets [] (subst (λ e. HasGiven given_some e.provider []) (sym new) (ap (λ r. values given_some r) c.requires.new_sets));
        requests = took.requests [] (subst (λ e. HasGiven given e.requests.script []) (sym new) (ap (λ r. values given r) c.requires.new_requests));
        received = took.received;
        payloads = took.given [] (ap (λ r. values given_ok r) c.requires.new_payloads);
        pending = took.pending;
        arrived = took.flow;
        sent = took.sends [] (λ _. c.new.ensures.nothing) kept.1;
        replied = ap (λ rs. map reply_of rs) (took.ran.replied [] (λ _. subst (λ e. map reply_in e.node.outlet.replies.items ≡ []) (sym new) (ap (λ rs. map reply_in rs) c.new-outlet.ensures.nothing)) kept.0) ∙ took.due;
        counted = λ counter. took.ran.counters counter
            ∙ ap (λ n. raised n (count_by (is_counted_as s.same.key counter) (counted s took.steps [])))
            (ap (λ e. number_at s.same.key counter e.node.metrics) new ∙ number-zero s.same.key counter);
      }) c.drive-turns.ensures.took;
}
