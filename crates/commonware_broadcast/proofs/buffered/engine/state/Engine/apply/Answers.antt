use Rattle.commonware_broadcast.proofs.buffered.engine.state.Engine.apply.Goals as goal

pub returns-in-None-clause-applied : goal.returns-in-None-clause-applied
returns-in-None-clause-applied g c = rw (← c.self.view_is) (λ _. c.apply-turn.ensures.applied)
