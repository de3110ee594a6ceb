use Rattle.std.proofs.Common.{[], ◌∷◌, ◌++◌, map, take, sym, ap, ◌∙◌}
use Rattle.std.specs.Arc.{arc_value}
use Rattle.std.specs.List.{filter}
use Rattle.std.proofs.lemmas.List.{map-append}
use Rattle.memory_network.specs.Recipients.{is_recipient}
use Rattle.memory_network.specs.declared.mail.Mail.{Mail}
use Rattle.memory_network.proofs.Growing.{grown_yes, grown_no}
use Rattle.memory_network.proofs.mail.recipients_among.Goals as goal
use Rattle.memory_network.proofs.mail.recipients_among.Goals.{then-is_for+in_ok-push, else-is_for}

pub loop-other-preserved : goal.loop-other-preserved
loop-other-preserved g c =
    let at = c.loop-other in
    let xs = c.args.others.now in
    let x = c.other-item.result in
    let chosen = λ (mail : Mail g.row.P.Denot). is_recipient g.P.Ord.cmp c.args.recipients.now mail.key in
    let asked = ap chosen (sym c.deref.ensures) ∙ sym c.is_for.ensures in
    elim c.if-is_for.branch [
      | then-is_for+in_ok-push w ↦ ap (λ v. map (λ mail. mail.now) v.items) w.chosen-is ∙ ap (map (λ mail. mail.now)) w.in_ok-push.ensures.items
          ∙ map-append (λ mail. mail.now) at.chosen.items (w.deref-then-is_for.result ∷ [])
          ∙ ap (λ ms. ms ++ w.deref-then-is_for.result.now ∷ []) at.invariant
          ∙ ap (λ m. filter chosen (map arc_value (take at.other-index xs)) ++ m ∷ []) w.deref-then-is_for.ensures
          ∙ sym (grown_yes arc_value chosen xs at.other-index x c.loop-other-test.true c.other-item.is (asked ∙ w.if-is_for.true))
      | else-is_for w ↦ ap (λ v. map (λ mail. mail.now) v.items) w.chosen-is ∙ at.invariant
          ∙ sym (grown_no arc_value chosen xs at.other-index x c.loop-other-test.true c.other-item.is (asked ∙ w.if-is_for.false))
    ]
