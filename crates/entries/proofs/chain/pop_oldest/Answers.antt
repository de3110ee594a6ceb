use Rattle.std.proofs.Common.{sym, ◌∙◌, arith}
use Rattle.entries.specs.Places.{get}
use Rattle.entries.proofs.Linking.{is_there}
use Rattle.entries.proofs.Chains.{on_oldest, on_there, pops, pops_none}
use Rattle.entries.proofs.chain.pop_oldest.Goals as goal

pub unlink-requires : goal.unlink-requires
unlink-requires c = on_oldest (get c.args.places.now) c.args.chain.now c.in-Some.place (sym c.get.ensures ∙ c.in-Some.is) c.requires

pub remove-requires-clause-there : goal.remove-requires-clause-there
remove-requires-clause-there c =
    let there = on_there (get c.args.places.now) c.args.chain.now _ (on_oldest (get c.args.places.now) c.args.chain.now c.in-Some.place (sym c.get.ensures ∙ c.in-Some.is) c.requires) in
    is_there (get c.unlink.new.places) c.in-Some.place there.entry (c.unlink.ensures.unlinked.kept ∙ there.there)

pub remove-requires-clause-word : goal.remove-requires-clause-word
remove-requires-clause-word c =
    let there = on_there (get c.args.places.now) c.args.chain.now _ (on_oldest (get c.args.places.now) c.args.chain.now c.in-Some.place (sym c.get.ensures ∙ c.in-Some.is) c.requires) in
    omega (arith, there.fits)

pub returns-in-None-clause-popped : goal.returns-in-None-clause-popped
returns-in-None-clause-popped c = pops_none (get c.args.places.now) c.args.chain.now (sym c.get.ensures ∙ c.in-None.is)

pub returns-in-Some-clause-popped : goal.returns-in-Some-clause-popped
returns-in-Some-clause-popped c =
    pops (sym c.get.ensures ∙ c.in-Some.is) c.unlink.ensures.unlinked c.remove.ensures.value c.remove.ensures.updates.changed c.remove.ensures.updates.others
