use Rattle.std.proofs.Common.{◌∷◌, [], ◌++◌, take, arith, sym, ap, ◌∙◌}
use Rattle.std.proofs.lemmas.List.{take_all, take_more}
use Rattle.broadcast_world.specs.TwoRuns.{without_hostile}
use Rattle.broadcast_world.proofs.Honest.{without_hostile-append}
use Rattle.broadcast_world.proofs.two_runs.without_hostile.Goals as goal

pub loop-step-preserved : goal.loop-step-preserved
loop-step-preserved g c =
    let all = c.args.steps.now in
    let i = c.loop-step.step-index in
    let step = c.step-item.result in
    let more = take_more all i step c.loop-step-test.true ∙ ap (λ s. take i all ++ s ∷ []) (sym c.step-item.is) in
    c.in_ok-push_honest.ensures ∙ ap (λ steps. steps ++ without_hostile (step ∷ [])) c.loop-step.invariant
    ∙ sym (ap without_hostile more ∙ without_hostile-append (take i all) (step ∷ []))

pub returns : goal.returns
returns g c = c.loop-step.invariant ∙ ap without_hostile (take_all c.loop-step.step-index c.args.steps.now (omega arith))
