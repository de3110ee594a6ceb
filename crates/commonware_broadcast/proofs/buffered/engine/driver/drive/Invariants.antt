use Rattle.std.proofs.Common.{◌≡◌, ℕ, length}
use Rattle.std.specs.Prelude.{◌<◌, ◌≤◌, Some, None, vec_len, vec_capacity}
use Rattle.std.specs.List.{All}
use Rattle.futures.specs.Task.{IsArmed, Keeps}
use Rattle.engine_io.specs.declared.input.EndCause.{EndCause}
use Rattle.commonware_broadcast.specs.EngineHistory.{end_told}
use Rattle.commonware_broadcast.specs.EngineState.{moment}
use Rattle.commonware_broadcast.specs.Interfaces.{format_of, over}
use Rattle.commonware_broadcast.specs.Drives.{Polls}
use Rattle.commonware_broadcast.proofs.buffered.engine.driver.drive.Given as goal

abbrev pub invariant-loop-poll : goal.invariant-loop-poll
invariant-loop-poll g l =
    record {
      polls : (count : ℕ) → count ≡ l._poll
          → Polls (format_of g.P.Ord.cmp g.M.Digest.Ord.cmp g.M.Write.encoding g.M.Digestible.digest_of g.M.Read.reading)
          (over g.S.Responder.may_answer g.T.Job.Job.is_of g.O.Outlet g.N.Sender g.V.Receiver g.B.Provider g.Q.Requests)
          count (moment l.fn.engine l.fn.network) (moment l.engine l.network) l.turns.items;
      priority : l.engine.priority ≡ l.fn.engine.priority;
      codec_config : l.engine.codec_config ≡ l.fn.engine.codec_config;
      strategy : l.engine.strategy ≡ l.fn.engine.strategy;
      kept : Keeps l.fn.cx l.cx;
      unended : l.fn.engine.end ≡ None → l.engine.end ≡ None;
      going : 0 < l._poll → l.engine.end ≡ None;
      still : (cause : EndCause) → l.fn.engine.end ≡ Some cause → (l._poll ≡ 0) × (l.engine ≡ l.fn.engine) × (l.network ≡ l.fn.network);
      none_ends : All (λ t. end_told t ≡ None) l.turns.items;
      short : length l.turns.items < l._poll → IsArmed l.cx;
      few : length l.turns.items ≤ l._poll;
      fits : vec_len l.turns ≤ l._poll;
      room : l.fn.limit ≤ vec_capacity l.turns;
    }
