use Rattle.std.proofs.Common.{◌≡◌, true, false, sym, ap, ◌∙◌, inl, inr}
use Rattle.std.specs.List.{list_any}
use Rattle.std.specs.Ordering.{eq_by_cmp}
use Rattle.broadcast_core.proofs.Lawful.{same_by-lawful}
use Rattle.broadcast_core.proofs.Stepping.{HasCleaned-cleanup_by}
use Rattle.broadcast_mailbox.specs.declared.buffered.ingress.message.Message.TheVariants.{Subscribe}
use Rattle.broadcast_core.proofs.CleaningAt.{closed-or-open}
use Rattle.commonware_broadcast.proofs.Naming.{not-among}
use Rattle.commonware_broadcast.proofs.buffered.engine.handler.drop_closed.Goals as goal

pub returns-then-take_closed-clause-cleaned : goal.returns-then-take_closed-clause-cleaned
returns-then-take_closed-clause-cleaned g c = λ s e past has.
    let lawful = same_by-lawful g.met.P.Ord.total (g.met.M.Digest.Ord g.world.𝓛 g.world.𝓜 g.world.𝓡 (λ s x. x, λ x. x, λ x. x, λ x. x)).total in
    HasCleaned-cleanup_by e lawful has {may_answer = λ w b. g.S.Responder.may_answer w.responder b} c.cleanup_by.ensures.store c.cleanup_by.ensures.dropped c.cleanup_by.ensures.distinct c.cleanup_by.ensures.distinct_left c.cleanup_by.ensures.removed

pub returns-then-add_applied-clause-cleaned : goal.returns-then-add_applied-clause-cleaned
returns-then-add_applied-clause-cleaned g c = λ s e past has.
    let lawful = same_by-lawful g.met.P.Ord.total (g.met.M.Digest.Ord g.world.𝓛 g.world.𝓜 g.world.𝓡 (λ s x. x, λ x. x, λ x. x, λ x. x)).total in
    HasCleaned-cleanup_by e lawful has {may_answer = λ w b. g.S.Responder.may_answer w.responder b} c.cleanup_by-then-add_applied.ensures.store c.cleanup_by-then-add_applied.ensures.dropped c.cleanup_by-then-add_applied.ensures.distinct c.cleanup_by-then-add_applied.ensures.distinct_left c.cleanup_by-then-add_applied.ensures.removed

pub returns-clause-cleaned : goal.returns-clause-cleaned
returns-clause-cleaned g c = λ s e past has.
    let lawful = same_by-lawful g.met.P.Ord.total (g.met.M.Digest.Ord g.world.𝓛 g.world.𝓜 g.world.𝓡 (λ s x. x, λ x. x, λ x. x, λ x. x)).total in
    HasCleaned-cleanup_by e lawful has {may_answer = λ w b. g.S.Responder.may_answer w.responder b} c.cleanup_each.ensures.store
    (λ d. closed-or-open (λ w b. g.S.Responder.may_answer w.responder b) _ _ _ (c.cleanup_each.ensures.dropped d)
    (λ f w. elim (c.take_closed.ensures.only_if c.if-take_closed.false (Subscribe d w.responder)) [
      | inl stays ↦ stays
      | inr asked ↦
          absurd (let both : true ≡ false = not-among (eq_by_cmp g.M.Digest.Ord.cmp d) _ _ _ (c.add_applied.ensures.named c.if-add_applied.false) asked (ap (λ ds. list_any (eq_by_cmp g.M.Digest.Ord.cmp d) ds) (sym c.as_slice.ensures.value) ∙ f) in cc)
    ]))
    c.cleanup_each.ensures.distinct c.cleanup_each.ensures.distinct_left c.cleanup_each.ensures.removed
