use Rattle.broadcast_world.proofs.nodes.Nodes.place_of.Goals as goal

pub returns-clause-node : goal.returns-clause-node
returns-clause-node g c = rw (← c.deref.ensures) c.place_of.ensures
