use Rattle.std.proofs.Common.{◌≡◌, false}
use Rattle.std.specs.Prelude.{nat_le}
use Rattle.std.proofs.lemmas.Bool.{lt-leb}
use Rattle.gossip.proofs.Finding.{find_has}
use Rattle.gossip.proofs.log.Log.has.Goals as goal

pub returns-else-stamp-self : goal.returns-else-stamp-self
returns-else-stamp-self c =
    let up : nat_le c.args.stamp c.args.self.now.floor ≡ false = rw (← c.self.view_is) (lt-leb c.args.stamp c.self.inside.kept.floor c.if-stamp-self.false) in
    rw (up, c.is_some.ensures, c.find.ensures) (find_has c.args.stamp c.args.self.now.list)
