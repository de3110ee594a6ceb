use Rattle.std.proofs.Common.{◌≡◌, ◌++◌, ◌∷◌, [], if◌then◌else◌, sym, ap, subst, ◌∙◌}
use Rattle.std.specs.Prelude.{OnOk}
use Rattle.std.specs.List.{list_any}
use Rattle.std.specs.Ordering.{eq_by_cmp}
use Rattle.std.proofs.lemmas.Cmp.{eq_by_cmp_equiv}
use Rattle.broadcast_world.specs.Relay.{same_digest}
use Rattle.broadcast_world.proofs.Relaying.{relayed-push}
use Rattle.broadcast_world.proofs.relay.answers.add_told.Goals as goal

pub returns-in-Some : goal.returns-in-Some
returns-in-Some g c = λ earlier is.
    let same = eq_by_cmp g.M.Digest.Ord.cmp in
    let laws = eq_by_cmp_equiv (g.met.M.Digest.Ord g.world.𝓛 g.world.𝓜 g.world.𝓡 (λ s x. x, λ x. x, λ x. x, λ x. x)).total in
    let message = c.in-Some.message in
    subst (λ cs. OnOk c.add.result (c.add.new.self ≡ cs))
    (ap (λ cs. if list_any (same_digest same message) cs then cs else cs ++ message ∷ []) is
    ∙ sym (relayed-push laws earlier c.args.answer message c.in-Some.ensures)) c.add.ensures
