use Rattle.futures.specs.Task.{Keeps}
use Rattle.commonware_broadcast.specs.EngineState.{moment}
use Rattle.commonware_broadcast.specs.Interfaces.{format_of, over}
use Rattle.commonware_broadcast.specs.Runs.{SomePolls}
use Rattle.commonware_broadcast.proofs.buffered.engine.running.Running.poll_turns.Given as goal

abbrev pub invariant-loop : goal.invariant-loop
invariant-loop g l = record {
  took : SomePolls (format_of g.P.Ord.cmp g.M.Digest.Ord.cmp g.M.Write.encoding g.M.Digestible.digest_of g.M.Read.reading)
      (over g.S.Responder.may_answer g.T.Job.Job.is_of g.O.Outlet g.N.Sender g.V.Receiver g.B.Provider g.Q.Requests)
      (moment l.fn.self.engine l.fn.self.network) (moment l.self.engine l.self.network);
  kept : Keeps l.fn.cx l.cx;
}
