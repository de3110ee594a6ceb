use Rattle.std.proofs.Common.{refl, subst}
use Rattle.commonware_broadcast.specs.AppliesSteps.{AppliesInput}
use Rattle.engine_io.specs.declared.input.Input.TheVariants as input
use Rattle.commonware_broadcast.proofs.Applying.{AppliesInput-refused}
use Rattle.commonware_broadcast.proofs.buffered.engine.arrival.arrive.Goals as goal

pub returns-in-Ok-clause-handled : goal.returns-in-Ok-clause-handled
returns-in-Ok-clause-handled g c = λ s e encoding past has.
    subst (λ d. AppliesInput s (λ w b. g.S.Responder.may_answer w.responder b) g.O.Outlet.told past (input.Arrived c.args.peer d) c.handle_arrival.result c.args.node.now c.handle_arrival.new.node)
    c.in-Ok.ensures (c.handle_arrival.ensures.handled s e encoding past has)

pub returns-in-Err-clause-handled : goal.returns-in-Err-clause-handled
returns-in-Err-clause-handled g c = λ s e encoding past has. AppliesInput-refused has refl tt
