use Rattle.std.proofs.Common.{◌≡◌, refl, sym, ap, ◌∙◌, subst}
use Rattle.engine_io.specs.declared.input.Input.TheVariants as input
use Rattle.commonware_broadcast.specs.AppliesSteps.{AppliesInput}
use Rattle.commonware_broadcast.proofs.Arriving.{Arrives-handled, Arrives-pending}
use Rattle.commonware_broadcast.proofs.buffered.engine.state.Engine.poll_job.Goals as goal

pub returns-in-Pending-clause-arrives : goal.returns-in-Pending-clause-arrives
returns-in-Pending-clause-arrives g c = λ m of_job. rw (← c.self.view_is) (λ s is past has.
    Arrives-pending has refl (_, refl, c.in-Pending.ensures.stays m of_job))

pub returns-in-Ready-clause-arrives : goal.returns-in-Ready-clause-arrives
returns-in-Ready-clause-arrives g c = λ m of_job. rw (← c.self.view_is) (λ s is past has.
    let d = c.in-Ready.ensures.digested m of_job in
    let first : c.in-Ready.message ≡ m = c.in-Ready.message-is ∙ d.0 in
    let second : c.in-Ready.digest ≡ s.digest_of m = c.in-Ready.digest-is ∙ d.1 ∙ ap (λ f. f m) (sym is.digest_of) in
    Arrives-handled refl
    (subst (λ x. AppliesInput s (λ w b. g.S.Responder.may_answer w.responder b) g.O.Outlet.told past (input.Arrived c.args.peer x) c.arrive.result c.self.inside.node c.arrive.new.node)
    (ap (λ x. record { message = x; digest = c.in-Ready.digest }) first ∙ ap (λ y. record { message = m; digest = y }) second)
    (c.arrive.ensures.handled s is.same is.encoding past has)) (ap (λ e. e.job) c.self.view_is ∙ c.requires.idle))
