use Rattle.std.proofs.Common.{length, ap, ◌∙◌, subst}
use Rattle.broadcast_world.specs.Nodes.{AreEmpty}
use Rattle.broadcast_world.proofs.Places.{AllZip-length}
use Rattle.broadcast_world.proofs.nodes.Nodes.new.Goals as goal

pub invariant_of-result : goal.invariant_of-result
invariant_of-result g c = record { one_each = AllZip-length _ c.as_slice.result.now c.in_ok-cores.cores.items c.in_ok-cores.ensures ∙ ap (λ ns. length ns) (c.as_slice.ensures.keys ∙ c.deref.ensures) }

pub returns-clause-empty : goal.returns-clause-empty
returns-clause-empty g c = subst (λ ns. AreEmpty g.P.Ord.cmp c.args.deque_size c.args.byte_budget ns c.in_ok-cores.cores.items) (c.as_slice.ensures.keys ∙ c.deref.ensures) c.in_ok-cores.ensures
