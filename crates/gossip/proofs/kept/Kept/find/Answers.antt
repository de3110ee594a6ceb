use Rattle.std.proofs.Common.{◌<◌, ◌∙◌, sym, arith, refl}
use Rattle.std.proofs.lemmas.Bool.{eq-eqb, ne_eqb}
use Rattle.gossip.proofs.Finding.{found_at, not_found}
use Rattle.gossip.proofs.kept.Kept.find.Goals as goal

pub returns-then-count-eq0 : goal.returns-then-count-eq0
returns-then-count-eq0 c =
    sym (not_found c.args.stamp c.args.self.now.floor c.args.self.now.list.items c.requires (sym c.up_to-count.ensures.count ∙ c.if-count-eq0.true))

pub returns-then-it-stamp : goal.returns-then-it-stamp
returns-then-it-stamp c =
    let pos : 0 < c.up_to-count.result = omega arith in
    rw (
      found_at c.args.stamp c.args.self.now.floor c.up_to-count.result c.args.self.now.list.items c.in-Some.it.now c.requires c.up_to-count.ensures.count pos c.in-Some.ensures.lookup,
      eq-eqb c.in-Some.it.now.stamp c.args.stamp c.if-it-stamp.true,
    ) refl

pub returns-else-it-stamp : goal.returns-else-it-stamp
returns-else-it-stamp c =
    let pos : 0 < c.up_to-count.result = omega arith in
    rw (
      found_at c.args.stamp c.args.self.now.floor c.up_to-count.result c.args.self.now.list.items c.in-Some.it.now c.requires c.up_to-count.ensures.count pos c.in-Some.ensures.lookup,
      ne_eqb c.in-Some.it.now.stamp c.args.stamp c.if-it-stamp.false,
    ) refl
