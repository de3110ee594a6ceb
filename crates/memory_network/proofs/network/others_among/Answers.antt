use Rattle.std.proofs.Common.{[], ◌∷◌, ◌++◌, not, map, sym, ap, ◌∙◌}
use Rattle.std.specs.Arc.{arc_value}
use Rattle.std.specs.Ordering.{eq_by_cmp}
use Rattle.memory_network.specs.declared.mail.Mail.{Mail}
use Rattle.memory_network.proofs.Growing.{grown_yes, grown_no}
use Rattle.memory_network.proofs.network.others_among.Goals as goal
use Rattle.memory_network.proofs.network.others_among.Goals.{then-not-is_same+in_ok-push_clone, else-not-is_same}

pub loop-mail-preserved : goal.loop-mail-preserved
loop-mail-preserved g c =
    let at = c.loop-mail in
    let xs = c.args.mails.now in
    let x = c.mail-item.result in
    let other = λ (mail : Mail g.row.P.Denot). not (eq_by_cmp g.P.Ord.cmp mail.key c.args.key.now) in
    let asked = ap other (sym c.deref.ensures) ∙ ap not (sym c.is_same.ensures) in
    elim c.if-not-is_same.branch [
      | then-not-is_same+in_ok-push_clone w ↦ ap (λ v. map arc_value v.items) w.others-is ∙ w.in_ok-push_clone.ensures
          ∙ ap (λ ms. ms ++ arc_value x ∷ []) at.invariant
          ∙ sym (grown_yes arc_value other xs at.mail-index x c.loop-mail-test.true c.mail-item.is (asked ∙ ap not w.if-not-is_same.true))
      | else-not-is_same w ↦ ap (λ v. map arc_value v.items) w.others-is ∙ at.invariant
          ∙ sym (grown_no arc_value other xs at.mail-index x c.loop-mail-test.true c.mail-item.is (asked ∙ ap not w.if-not-is_same.false))
    ]
