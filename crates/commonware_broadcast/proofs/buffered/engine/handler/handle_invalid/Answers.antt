use Rattle.std.proofs.Common.{[], refl}
use Rattle.commonware_broadcast.proofs.Applying.{AppliesInput-applied}
use Rattle.commonware_broadcast.proofs.Composing.{told-same}
use Rattle.commonware_broadcast.proofs.buffered.engine.handler.handle_invalid.Goals as goal

pub returns-clause-handled : goal.returns-clause-handled
returns-clause-handled g c = λ s e past has.
    AppliesInput-applied {replies = []} (record { lawful = (refl, tt); content = has; counted = c.count_receive.ensures; replied = told-same g.O.Outlet.told c.args.node.now.outlet }) refl
