use Rattle.std.proofs.Common.{[], ◌∷◌, refl, subst}
use Rattle.broadcast_core.proofs.Handing.{handed-subscribe}
use Rattle.broadcast_core.proofs.Lawful.{same_by-lawful}
use Rattle.broadcast_core.proofs.Stepping.{HasContent-subscribe}
use Rattle.broadcast_core.specs.Content.{same_by}
use Rattle.broadcast_core.specs.Changes.{IsSubscribed}
use Rattle.broadcast_core.specs.declared.outcome.Subscribed.TheVariants as outcome
use Rattle.engine_io.specs.Replies.{subscribed}
use Rattle.commonware_broadcast.proofs.Composing.{told-same}
use Rattle.commonware_broadcast.proofs.buffered.engine.handler.handle_subscribe.Goals as goal

pub returns-in-Ok-Answered-clause-steps : goal.returns-in-Ok-Answered-clause-steps
returns-in-Ok-Answered-clause-steps g c =
    let handed = c.respond_subscribe.ensures in
    let x = c.in-Ok-Answered.message in
    let replies = subscribed c.in-Ok-Answered.waiter x handed.0 ∷ [] in
    let is = rw c.in-Ok-Answered.field-0-is at c.in-Ok-Answered.ensures.ok in (
      replies,
      λ s e past has counted.
          let lawful = same_by-lawful g.met.P.Ord.total (g.met.M.Digest.Ord g.world.𝓛 g.world.𝓜 g.world.𝓡 (λ s x. x, λ x. x, λ x. x, λ x. x)).total in
          let done = subst (λ w. IsSubscribed (same_by g.P.Ord.cmp g.M.Digest.Ord.cmp) c.args.digest w c.args.node.now.core c.subscribe.new.self (outcome.Answered c.in-Ok-Answered.waiter x)) c.new.ensures is in
          record {
            lawful = (handed-subscribe e lawful has (record { ticket = c.args.ticket; responder = c.args.responder }) c.args.digest c.subscribe.new.self (outcome.Answered c.in-Ok-Answered.waiter x) done, tt);
            content = HasContent-subscribe e lawful has (outcome.Answered c.in-Ok-Answered.waiter x) done;
            counted = handed.1.counted;
            replied = handed.1.handed;
          },
    )

pub returns-in-Ok-Waiting-clause-steps : goal.returns-in-Ok-Waiting-clause-steps
returns-in-Ok-Waiting-clause-steps g c =
    let is = rw c.in-Ok-Waiting.field-0-is at c.in-Ok-Waiting.ensures.ok in (
      [],
      λ s e past has counted.
          let lawful = same_by-lawful g.met.P.Ord.total (g.met.M.Digest.Ord g.world.𝓛 g.world.𝓜 g.world.𝓡 (λ s x. x, λ x. x, λ x. x, λ x. x)).total in
          let done = subst (λ w. IsSubscribed (same_by g.P.Ord.cmp g.M.Digest.Ord.cmp) c.args.digest w c.args.node.now.core c.subscribe.new.self outcome.Waiting) c.new.ensures is in
          record {
            lawful = (handed-subscribe e lawful has (record { ticket = c.args.ticket; responder = c.args.responder }) c.args.digest c.subscribe.new.self outcome.Waiting done, tt);
            content = HasContent-subscribe e lawful has outcome.Waiting done;
            counted = refl;
            replied = told-same g.O.Outlet.told c.args.node.now.outlet;
          },
    )
