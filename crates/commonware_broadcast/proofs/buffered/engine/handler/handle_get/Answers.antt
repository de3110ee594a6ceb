use Rattle.std.proofs.Common.{◌≡◌, ◌∷◌, Some, [], sym, ap, ◌∙◌}
use Rattle.broadcast_core.proofs.Handing.{handed-get}
use Rattle.broadcast_core.proofs.Lawful.{same_by-lawful}
use Rattle.broadcast_core.proofs.Stepping.{HasContent-get}
use Rattle.std.specs.Option.{option_copied}
use Rattle.broadcast_core.specs.Content.{same_by, message_at}
use Rattle.engine_io.specs.Replies.{Asker, got, reply_of}
use Rattle.commonware_broadcast.proofs.buffered.engine.handler.handle_get.Goals as goal
use Rattle.commonware_broadcast.proofs.buffered.engine.handler.handle_get.Goals.{in-Some+in_ok-clone-in-Some, in-None}

pub returns-clause-steps : goal.returns-clause-steps
returns-clause-steps g c =
    let same = same_by g.P.Ord.cmp g.M.Digest.Ord.cmp in
    let asker : Asker g.row.G.Denot = record { ticket = c.args.ticket; responder = c.args.responder } in
    let handed = c.respond_get.ensures in
    let found : c.match-get.found ≡ message_at same c.args.node.now.core c.args.digest =
    elim c.match-get.branch [
      | in-Some+in_ok-clone-in-Some w ↦ w.found-is ∙ ap Some w.in_ok-clone-in-Some.ensures.cases ∙ ap option_copied (sym w.in-Some.is) ∙ c.get.ensures.message
      | in-None w ↦ w.found-is ∙ ap option_copied (sym w.in-None.is) ∙ c.get.ensures.message
    ] in (
      got asker c.match-get.found handed.0 ∷ [],
      λ s e past has counted.
          let lawful = same_by-lawful g.met.P.Ord.total (g.met.M.Digest.Ord g.world.𝓛 g.world.𝓜 g.world.𝓡 (λ s x. x, λ x. x, λ x. x, λ x. x)).total in
          record {
            lawful = (ap (λ o. reply_of (got asker o handed.0) ∷ []) found ∙ handed-get e lawful has asker c.args.digest, tt);
            content = HasContent-get e lawful has asker c.args.digest;
            counted = handed.1.counted;
            replied = handed.1.handed;
          },
    )
