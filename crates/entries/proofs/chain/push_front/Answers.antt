use Rattle.entries.specs.Places.{get}
use Rattle.entries.proofs.Chains.{admits_new, pushes}
use Rattle.entries.proofs.chain.push_front.Goals as goal

pub link_front-requires-clause-free : goal.link_front-requires-clause-free
link_front-requires-clause-free c =
    admits_new (get c.args.places.now) (get c.insert.new.self) _ _ _ c.requires c.in_ok-place.ensures.was_free c.in_ok-place.ensures.updates.changed c.in_ok-place.ensures.updates.others

pub returns-clause-ok : goal.returns-clause-ok
returns-clause-ok c =
    pushes c.in_ok-place.ensures.was_free c.in_ok-place.ensures.updates.changed c.in_ok-place.ensures.updates.others c.link_front.ensures.linked
