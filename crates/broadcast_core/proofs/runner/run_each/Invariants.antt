use Rattle.std.proofs.Common.{◌≡◌, ◌++◌, length}
use Rattle.std.specs.Prelude.{◌+◌, ◌≤◌, vec_len, vec_capacity}
use Rattle.std.specs.Vec.Iter.{into_iter_items, into_iter_len}
use Rattle.broadcast_core.specs.Setting.{whole, setting}
use Rattle.broadcast_core.specs.Content.{same_by}
use Rattle.broadcast_core.specs.HasRun.{HasRun}
use Rattle.broadcast_core.proofs.runner.run_each.Given as goal

abbrev pub invariant-loop-event : goal.invariant-loop-event
invariant-loop-event g l =
    let s = setting l.fn.core.own l.fn.core.deque_size l.fn.core.byte_budget l.fn.priority (same_by g.P.Ord.cmp g.M.Digest.Ord.cmp) g.M.Digestible.digest_of g.M.Write.encoding (whole (g.M.Read.reading l.fn.cfg)) in
    record {
      rest : l.yielded ++ into_iter_items l.event-iterator ≡ into_iter_items l.initial.event-iterator;
      left : into_iter_len l.event-iterator ≡ length (into_iter_items l.event-iterator);
      answers_fit : vec_len l.answers + length (into_iter_items l.event-iterator) ≤ vec_capacity l.answers;
      sent_fit : vec_len l.sent + length (into_iter_items l.event-iterator) ≤ vec_capacity l.sent;
      has_run : HasRun s l.yielded l.answers.items l.sent.items l.core;
    }
