use Rattle.std.proofs.Common.{◌≡◌, ◌+◌, ◌-◌, ◌^◌, [], ◌∷◌, ◌++◌, take, sym, ap, ◌∙◌, subst}
use Rattle.std.specs.Prelude.{min}
use Rattle.std.proofs.lemmas.List.{take_more}
use Rattle.broadcast_core.proofs.CleaningAt.{Asking, Asking-start, Asking-step}
use Rattle.broadcast_core.proofs.WaitersLemmas.{digests_apart}
use Rattle.broadcast_core.proofs.buffer.waiters.Waiters.cleanup_each.Goals as goal

pub loop-digest-init : goal.loop-digest-init
loop-digest-init g c = Asking-start g.met.D.Ord.total g.W.Closable.may_answer c.args.self.now (rw (← c.self.view_is) (digests_apart c.self.inside.by_digest.entries c.self.invariant))

pub loop-digest-preserved : goal.loop-digest-preserved
loop-digest-preserved g c =
    let o = g.met.D.Ord.total in
    let answers = g.W.Closable.may_answer in
    let seen = take c.loop-digest.digest-index c.args.digests.now in
    let more : take (c.loop-digest.digest-index + 1) c.args.digests.now ≡ seen ++ c.digest-item.result ∷ [] =
    take_more c.args.digests.now c.loop-digest.digest-index c.digest-item.result c.loop-digest-test.true ∙ ap (λ p. seen ++ p ∷ []) (sym c.digest-item.is) in
    rw c.saturating_add-removed.ensures (subst (λ ds. Asking o answers ds c.args.self.now c.cleanup_at.new.self (min (c.loop-digest.removed + c.cleanup_at.result) (2 ^ 64 - 1))) (sym more)
    (Asking-step o answers seen c.digest-item.result c.cleanup_at.new.self c.cleanup_at.result c.loop-digest.invariant c.cleanup_at.ensures.kept c.cleanup_at.ensures.removed c.cleanup_at.ensures.distinct_left))

pub returns-clause-distinct : goal.returns-clause-distinct
returns-clause-distinct g c = rw (← c.self.view_is) (digests_apart c.self.inside.by_digest.entries c.self.invariant)
