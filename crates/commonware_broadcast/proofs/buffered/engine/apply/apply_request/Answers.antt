use Rattle.std.proofs.Common.{refl, sym, ap, ◌∙◌}
use Rattle.std.specs.Prelude.{is_some}
use Rattle.broadcast_core.specs.Content.{message_at}
use Rattle.commonware_broadcast.proofs.Applying.{AppliesAndSends-silent, AppliesAndSends-message, AppliesInput-applied, AppliesInput-refused}
use Rattle.commonware_broadcast.proofs.buffered.engine.apply.apply_request.Goals as goal

pub returns-in-Broadcast-clause-applied : goal.returns-in-Broadcast-clause-applied
returns-in-Broadcast-clause-applied g c = λ s e encoding priority past has.
    AppliesAndSends-message c.in-Broadcast.is (c.handle_broadcast.ensures.applied s e encoding priority past has c.args.request.ticket c.args.request.counted)

pub returns-in-Ok-clause-applied : goal.returns-in-Ok-clause-applied
returns-in-Ok-clause-applied g c = λ s e encoding priority past has.
    AppliesAndSends-message c.in-Subscribe.is (AppliesAndSends-silent (AppliesInput-applied (c.in-Ok.ensures.steps.1 s e past has c.args.request.counted) refl) refl)

pub returns-in-Err-clause-applied : goal.returns-in-Err-clause-applied
returns-in-Err-clause-applied g c = λ s e encoding priority past has.
    AppliesAndSends-message c.in-Subscribe.is (AppliesAndSends-silent (AppliesInput-refused has c.in-Err.ensures.unchanged_on_error tt) refl)

pub returns-in-Ok-handle_get-clause-applied : goal.returns-in-Ok-handle_get-clause-applied
returns-in-Ok-handle_get-clause-applied g c = λ s e encoding priority past has.
    AppliesAndSends-message c.in-Get.is (AppliesAndSends-silent (AppliesInput-applied (c.in-Ok-handle_get.ensures.steps.1 s e past has c.args.request.counted) refl) refl)

pub returns-in-Err-handle_get-clause-applied : goal.returns-in-Err-handle_get-clause-applied
returns-in-Err-handle_get-clause-applied g c = λ s e encoding priority past has.
    AppliesAndSends-message c.in-Get.is (AppliesAndSends-silent (AppliesInput-refused has c.in-Err-handle_get.ensures.unchanged_on_error
    (ap is_some (sym (has.cached c.in-Get.digest)) ∙ ap (λ m. is_some (message_at m c.args.node.now.core c.in-Get.digest)) e ∙ c.in-Err-handle_get.ensures.fails_only_if_cached)) refl)
