use Rattle.std.proofs.Common.{◌≡◌, [], ◌∷◌, sym, ap, ◌∙◌}
use Rattle.broadcast_core.proofs.Handing.{outcome-taken, handed-arrival}
use Rattle.broadcast_core.proofs.Lawful.{same_by-lawful}
use Rattle.broadcast_core.proofs.Stepping.{HasContent-arrival}
use Rattle.broadcast_core.specs.Lists.{outcome}
use Rattle.broadcast_core.specs.declared.outcome.Outcome.{Outcome}
use Rattle.engine_io.specs.Counters.{Counters}
use Rattle.engine_io.specs.ReplyCounts.{count_replies}
use Rattle.engine_io.specs.declared.input.Turn.TheVariants as turn
use Rattle.commonware_broadcast.specs.CountingCalls.{count_outcome}
use Rattle.commonware_broadcast.proofs.Applying.{AppliesInput-applied, AppliesInput-refused}
use Rattle.commonware_broadcast.proofs.buffered.engine.handler.handle_arrival.Goals as goal

pub returns-in-Ok-clause-handled : goal.returns-in-Ok-clause-handled
returns-in-Ok-clause-handled g c = λ s e encodes past has.
    let lawful = same_by-lawful g.met.P.Ord.total (g.met.M.Digest.Ord g.world.𝓛 g.world.𝓜 g.world.𝓡 (λ s x. x, λ x. x, λ x. x, λ x. x)).total in
    let p = c.args.peer in
    let m = c.args.message in
    let old = c.args.node.now.metrics in
    let serves = c.in-Ok.ensures.serves in
    let turned : c.in-Ok.outcome ≡ outcome s p m past = c.in-Ok.ensures.outcome ∙ outcome-taken e lawful has encodes p m in
    AppliesInput-applied {replies = serves.replies} (record {
      lawful = (serves.due ∙ handed-arrival e lawful has p m, tt);
      content = HasContent-arrival e lawful has encodes serves.takes;
      counted = c.count_received.ensures ∙ ap (λ (k : Counters g.row.P.Denot). record k { totals = count_outcome c.in-Ok.outcome k.totals }) serves.hands.counted
          ∙ ap (λ (o : Outcome). record old { totals = count_outcome o (count_replies serves.replies old.totals) }) turned;
      replied = serves.hands.handed;
    }) (ap (λ o. turn.Payload p m.digest o ∷ []) (sym turned) ∙ ap (λ d. turn.Payload p d c.in-Ok.outcome ∷ []) (sym c.digest.ensures))

pub returns-in-Ok-clause-counts_no_payload : goal.returns-in-Ok-clause-counts_no_payload
returns-in-Ok-clause-counts_no_payload g c = ap (λ (k : Counters g.row.P.Denot). k.peer) (c.count_received.ensures) ∙ ap (λ (k : Counters g.row.P.Denot). k.peer) c.in-Ok.ensures.serves.hands.counted

pub returns-clause-counts_no_payload : goal.returns-clause-counts_no_payload
returns-clause-counts_no_payload g c = ap (λ n. n.metrics.peer) c.in-Err.ensures.unchanged_on_error

pub returns-clause-handled : goal.returns-clause-handled
returns-clause-handled g c = λ s e encodes past has. AppliesInput-refused has c.in-Err.ensures.unchanged_on_error tt
