use Rattle.entries.specs.Places.{get}
use Rattle.entries.proofs.Chains.{admits, on_there, promotes}
use Rattle.entries.proofs.chain.promote.Goals as goal

pub link_front-requires-clause-free : goal.link_front-requires-clause-free
link_front-requires-clause-free c = admits (get c.args.places.now) (get c.unlink.new.places) _ _ _ c.requires c.unlink.ensures.unlinked

pub link_front-requires-clause-word : goal.link_front-requires-clause-word
link_front-requires-clause-word c = (on_there (get c.args.places.now) c.args.chain.now c.args.place c.requires).fits

pub returns-clause-promoted : goal.returns-clause-promoted
returns-clause-promoted c = promotes (get c.args.places.now) (get c.unlink.new.places) (get c.link_front.new.places) _ _ _ _ _ c.unlink.ensures.unlinked c.link_front.ensures.linked
