use Rattle.std.proofs.Common.{rules, IfSome}
use Rattle.commonware_broadcast.specs.EngineState.{moment}
use Rattle.commonware_broadcast.specs.Interfaces.{format_of, over}
use Rattle.commonware_broadcast.specs.Runs.{PollsToEnd}
use Rattle.commonware_broadcast.proofs.Polls.{PollsToEnd-back}
use Rattle.commonware_broadcast.proofs.Repolled.{PollsTo-from}
use Rattle.commonware_broadcast.proofs.buffered.engine.running.Running.run_on.Goals as goal

pub returns : goal.returns
returns g c =
    let ran = PollsTo-from c.block_on_polls.ensures (λ p x. IfSome p.0 (λ old. PollsToEnd (format_of g.P.Ord.cmp g.M.Digest.Ord.cmp g.M.Write.encoding g.M.Digestible.digest_of g.M.Read.reading)
    (over g.S.Responder.may_answer g.T.Job.Job.is_of g.O.Outlet g.N.Sender g.V.Receiver g.B.Provider g.Q.Requests)
    (moment old.value.engine old.value.network) (moment x.0.value.engine x.0.value.network) x.1))
    (λ p cx left q called x ran. PollsToEnd-back (format_of g.P.Ord.cmp g.M.Digest.Ord.cmp g.M.Write.encoding g.M.Digestible.digest_of g.M.Read.reading)
    (over g.S.Responder.may_answer g.T.Job.Job.is_of g.O.Outlet g.N.Sender g.V.Receiver g.B.Provider g.Q.Requests)
    (λ w. moment w.value.engine w.value.network) p.0 q.0 (moment x.0.value.engine x.0.value.network) x.1 (search rules) ran)
    (λ p cx left q x called. search rules) in
    record { ran = ran }
