use Rattle.std.proofs.Common.{◌≡◌, map, take}
use Rattle.std.specs.List.{filter}
use Rattle.std.specs.Arc.{arc_value}
use Rattle.memory_network.specs.Recipients.{is_recipient}
use Rattle.memory_network.specs.declared.mail.Mail.{Mail}
use Rattle.memory_network.proofs.mail.recipients_among.Given as goal

abbrev pub invariant-loop-other : goal.invariant-loop-other
invariant-loop-other g l = map (λ mail. mail.now) l.chosen.items
    ≡ filter (λ (mail : Mail g.row.P.Denot). is_recipient g.P.Ord.cmp l.recipients mail.key) (map arc_value (take l.other-index l.others))
