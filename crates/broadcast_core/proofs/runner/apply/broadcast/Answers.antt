use Rattle.std.proofs.Common.{◌≡◌, Some, refl, ap, ◌∙◌, subst}
use Rattle.std.specs.Prelude.{length}
use Rattle.std.specs.Option.{option_map}
use Rattle.broadcast_core.specs.Content.{same_by}
use Rattle.broadcast_core.specs.Fronted.{outcome_at}
use Rattle.broadcast_core.specs.Changes.{Takes}
use Rattle.broadcast_core.specs.Answers.{answer_to_broadcast}
use Rattle.broadcast_core.specs.HasRun.{Applies}
use Rattle.broadcast_core.specs.Happening.{broadcast}
use Rattle.broadcast_core.specs.declared.event.Event.TheVariants.{Broadcast}
use Rattle.broadcast_core.specs.declared.event.Answer.TheVariants.{Taken}
use Rattle.broadcast_core.proofs.Lawful.{same_by-lawful}
use Rattle.broadcast_core.proofs.Applying.{Applies-taken}
use Rattle.broadcast_core.proofs.runner.apply.broadcast.Goals as goal

pub returns-in-Ok-take_own-clause-follows : goal.returns-in-Ok-take_own-clause-follows
returns-in-Ok-take_own-clause-follows g c = λ s is pr enc past has.
    let lawful = same_by-lawful g.met.P.Ord.total (g.met.M.Digest.Ord g.world.𝓛 g.world.𝓜 g.world.𝓡 (λ s x. x, λ x. x, λ x. x, λ x. x)).total in
    let same = same_by g.P.Ord.cmp g.M.Digest.Ord.cmp in
    let m = c.args.message in
    let event = Broadcast c.args.recipients m in
    let r = c.in-Ok-take_own.ensures in
    let spelled : s.encoding m.message ≡ Some c.in-Ok.bytes.items = ap (λ f. f m.message) enc ∙ c.in-Ok.ensures.ok in
    let takes = subst (λ o. Takes same o m (option_map length (g.M.Write.encoding m.message)) c.args.core.now c.take_own.new.self) has.own r.ok in
    let outcome = subst (λ o. c.in-Ok-take_own.taken.outcome ≡ outcome_at same c.args.core.now o m.digest (option_map length (g.M.Write.encoding m.message))) has.own r.outcome in
    let applies = Applies-taken is lawful has enc {e = event} (broadcast c.args.recipients m) (record { key = s.own; carried = m }) refl refl (ap (λ b. answer_to_broadcast s c.args.recipients m b past) spelled) takes outcome r.served in
    rw (← pr, c.from_vec.ensures) (subst (λ xs. Applies s past event c.take_own.new.self (Taken c.in-Ok-take_own.taken.outcome c.in-Ok-take_own.taken.served m) xs) (rw spelled refl) applies)
