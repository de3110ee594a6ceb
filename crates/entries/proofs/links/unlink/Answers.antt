use Rattle.std.proofs.Common.{refl}
use Rattle.entries.specs.Places.{get}
use Rattle.entries.proofs.Runs.{IsRun-split}
use Rattle.entries.proofs.Linking.{is_there, newer_there, older_there, newer_unmarked, unlinks}
use Rattle.entries.proofs.links.unlink.Goals as goal

pub at-entry-requires : goal.at-entry-requires
at-entry-requires c =
    let on = c.requires in
    let at = (IsRun-split _ _ on.front _ _ on.linked.run).1.0 in
    is_there (get c.args.places.now) c.args.place at.entry at.there

pub set_older-requires : goal.set_older-requires
set_older-requires c = newer_there (get c.args.places.now) _ _ _ c.at-entry.ensures c.requires

pub set_newer-requires-clause-unmarked : goal.set_newer-requires-clause-unmarked
set_newer-requires-clause-unmarked c = newer_unmarked (get c.args.places.now) c.args.chain.now c.args.place c.at-entry.result c.at-entry.ensures c.requires

pub set_newer-requires-clause-there : goal.set_newer-requires-clause-there
set_newer-requires-clause-there c = older_there (get c.args.places.now) _ _ _ _ c.at-entry.ensures c.requires c.set_older.ensures

pub returns-clause-unlinked : goal.returns-clause-unlinked
returns-clause-unlinked c =
    unlinks c.at-entry.ensures c.requires c.set_older.ensures c.set_newer.ensures c.pick-chain.ensures c.pick-chain-2.ensures refl
