use Rattle.commonware_broadcast.proofs.buffered.engine.state.Engine.end.Goals as goal

pub returns-clause-ended : goal.returns-clause-ended
returns-clause-ended g c = rw (← c.self.view_is) (λ s e past has. c.drop_waiters.ensures.ended s e past has c.args.cause)
