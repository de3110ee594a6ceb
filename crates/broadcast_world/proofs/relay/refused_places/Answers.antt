use Rattle.std.proofs.Common.{◌++◌, ◌∷◌, [], sym, ap, ◌∙◌}
use Rattle.broadcast_core.specs.Log.{is_refused}
use Rattle.broadcast_world.proofs.RefusedPlaces.{places_more_yes, places_more_no}
use Rattle.broadcast_world.proofs.relay.refused_places.Goals as goal
use Rattle.broadcast_world.proofs.relay.refused_places.Goals.{then-is_refused+in_ok-push, else-is_refused}

pub loop-place-preserved : goal.loop-place-preserved
loop-place-preserved g c =
    let at = c.loop-place in
    let xs = c.args.answers.now in
    let x = c.index-answers-place.result in
    let below = c.loop-place-test.true in
    elim c.if-is_refused.branch [
      | then-is_refused+in_ok-push w ↦ ap (λ ps. ps.items) w.places-is ∙ w.in_ok-push.ensures.items ∙ ap (λ ps. ps ++ at.place ∷ []) at.invariant
          ∙ sym (places_more_yes is_refused xs at.place x x below (sym c.index-answers-place.is) (sym c.is_refused.ensures ∙ w.if-is_refused.true))
      | else-is_refused w ↦ ap (λ ps. ps.items) w.places-is ∙ at.invariant
          ∙ sym (places_more_no is_refused xs at.place x x below (sym c.index-answers-place.is) (sym c.is_refused.ensures ∙ w.if-is_refused.false))
    ]
