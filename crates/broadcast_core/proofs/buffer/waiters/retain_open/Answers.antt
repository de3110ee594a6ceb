use Rattle.std.proofs.Common.{rules}
use Rattle.broadcast_core.proofs.WaitersLemmas.{DropsClosed-from_retain}
use Rattle.broadcast_core.proofs.buffer.waiters.retain_open.Goals as goal

pub returns : goal.returns
returns g c =
    DropsClosed-from_retain g.W.Closable.may_answer _ _ (λ x b f' k. search rules) c.args.waiters.now c.retain.new.self c.retain.ensures
