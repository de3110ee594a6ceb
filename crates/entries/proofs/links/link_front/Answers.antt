use Rattle.std.proofs.Common.{refl, ap, ◌∙◌}
use Rattle.entries.specs.Places.{is_mark}
use Rattle.entries.proofs.Linking.{links, place_unmarked}
use Rattle.entries.proofs.links.link_front.Goals as goal

pub set_newer-requires-clause-unmarked : goal.set_newer-requires-clause-unmarked
set_newer-requires-clause-unmarked c = ap is_mark c.to-link.ensures ∙ place_unmarked c.args.place c.requires.word

pub returns-clause-linked : goal.returns-clause-linked
returns-clause-linked c =
    links c.requires.free c.requires.word c.set_newest.ensures (rw c.to-link.ensures at c.set_newer.ensures) c.to-link.ensures (rw c.to-link.ensures at c.pick-chain.ensures) refl
