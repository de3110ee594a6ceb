use Rattle.std.proofs.Common.{◌≡◌, ◌++◌, false, rules, sym, ap, subst}
use Rattle.broadcast_core.specs.Log.{is_refused}
use Rattle.broadcast_world.specs.World.{made_by}
use Rattle.broadcast_world.specs.Steps.{AreCopies}
use Rattle.broadcast_world.proofs.Places.{AllZip-append}
use Rattle.broadcast_world.proofs.broadcast.take.Goals as goal

pub returns-in-Ok-clause-packets : goal.returns-in-Ok-clause-packets
returns-in-Ok-clause-packets g c = λ w e sent made has.
    let taken : is_refused c.in-Ok.answer ≡ false = ap is_refused c.in-Ok.ensures.taken.2 in
    let items : c.append-appended.new.self.items ≡ c.args.packets.now.items ++ c.args.made.items = search rules in
    rw taken (subst (λ ps. AreCopies g.P.Ord.cmp ps (sent ++ made_by g.P.Ord.cmp w e)) (sym items)
    (AllZip-append _ c.args.packets.now.items sent c.args.made.items (made_by g.P.Ord.cmp w e) has made))
