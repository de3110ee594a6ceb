use Rattle.broadcast_core.proofs.OrderedLemmas.{rises_from_copies}
use Rattle.broadcast_core.proofs.ordered.SetClone.clone.Goals as goal

pub invariant_of-result : goal.invariant_of-result
invariant_of-result g c =
    rises_from_copies g.met.P.Ord.total g.P.Clone.is_clone g.met.P.PublicKey.copies c.self.inside.keys c.in_ok-clone.field-0 c.in_ok-clone.ensures.cases c.self.invariant
