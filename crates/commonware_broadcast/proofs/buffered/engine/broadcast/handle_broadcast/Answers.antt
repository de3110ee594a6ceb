use Rattle.std.proofs.Common.{◌≡◌, ◌∷◌, ◌++◌, [], Some, Err, length, is_some, refl, sym, ap, subst, ◌∙◌}
use Rattle.std.specs.Option.{option_map}
use Rattle.broadcast_core.proofs.Handing.{outcome-taken, handed-broadcast}
use Rattle.broadcast_core.proofs.Lawful.{same_by-lawful}
use Rattle.broadcast_core.proofs.Stepping.{HasContent-broadcast}
use Rattle.broadcast_core.specs.Lists.{outcome}
use Rattle.broadcast_core.specs.Changes.{Takes}
use Rattle.broadcast_core.specs.Content.{same_by}
use Rattle.broadcast_core.specs.Fronted.{outcome_at}
use Rattle.broadcast_core.specs.Sent.{sending}
use Rattle.engine_io.specs.declared.input.Turn.TheVariants as turn
use Rattle.commonware_broadcast.proofs.Applying.{AppliesAndSends-silent, AppliesInput-applied, AppliesInput-refused, may-refuse}
use Rattle.commonware_broadcast.proofs.buffered.engine.broadcast.handle_broadcast.Goals as goal

pub returns-in-Err-clause-applied : goal.returns-in-Err-clause-applied
returns-in-Err-clause-applied g c = λ s e encoding priority past has ticket counted.
    let m = c.args.message in
    let at = ap (λ f. f m.message) encoding in
    AppliesAndSends-silent (AppliesInput-refused has refl (may-refuse s past c.args.recipients m c.in-Err.cause (λ h. ap is_some at ∙ c.in-Err.ensures.memory (ap Err h)) (λ h. at ∙ c.in-Err.ensures.unencodable (ap Err h)))) refl

pub returns-in-Ok-take_own-clause-applied : goal.returns-in-Ok-take_own-clause-applied
returns-in-Ok-take_own-clause-applied g c = λ s e encoding priority past has ticket counted.
    let lawful = same_by-lawful g.met.P.Ord.total (g.met.M.Digest.Ord g.world.𝓛 g.world.𝓜 g.world.𝓡 (λ s x. x, λ x. x, λ x. x, λ x. x)).total in
    let same = same_by g.P.Ord.cmp g.M.Digest.Ord.cmp in
    let m = c.args.message in
    let core = c.args.node.now.core in
    let charge = option_map length (g.M.Write.encoding m.message) in
    let out = c.in-Ok-take_own.outcome in
    let spelled : s.encoding m.message ≡ Some c.in-Ok.bytes.items = ap (λ f. f m.message) encoding ∙ c.in-Ok.ensures.ok in
    let serves = c.in-Ok-take_own.ensures.serves in
    let turned : out ≡ outcome s s.own m past = c.in-Ok-take_own.ensures.outcome ∙ ap (λ p. outcome_at same core p m.digest charge) has.own ∙ outcome-taken e lawful has encoding s.own m in
    record {
      handled = AppliesInput-applied {replies = serves.replies} (record {
        lawful = (serves.due ∙ handed-broadcast e lawful has c.args.recipients m, ap is_some spelled);
        content = HasContent-broadcast e lawful has encoding c.args.recipients (subst (λ p. Takes same p m charge core c.take_own.new.node.core) has.own serves.takes);
        counted = serves.hands.counted;
        replied = serves.hands.handed;
      }) (ap (λ o. turn.Broadcast m.digest o ∷ []) (sym turned) ∙ ap (λ d. turn.Broadcast d out ∷ []) (sym c.digest.ensures));
      sends = λ before h. subst (λ sends. g.N.Sender.told c.send.new.self (before ++ sends))
          (ap (λ flag. record { recipients = c.args.recipients; bytes = c.in-Ok.bytes.items; priority = flag } ∷ []) (sym priority) ∙ ap (sending s c.args.recipients) (sym spelled)) (c.send.ensures before h);
    }

pub returns-in-Err-take_own-clause-applied : goal.returns-in-Err-take_own-clause-applied
returns-in-Err-take_own-clause-applied g c = λ s e encoding priority past has ticket counted.
    AppliesAndSends-silent (AppliesInput-refused has c.in-Err-take_own.ensures.unchanged_on_error (ap (λ f. is_some (f c.args.message.message)) encoding ∙ ap is_some c.in-Ok.ensures.ok)) refl
