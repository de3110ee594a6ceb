use Rattle.std.proofs.Common.{rules, sym, ap, ◌∙◌}
use Rattle.std.specs.BTreeMap.Entry.{map_with_value, entry_value}
use Rattle.broadcast_core.proofs.WaitersLemmas.{AreAwaited-first, lists-first, AreAwaited-joined, lists-joined, entries-refused}
use Rattle.broadcast_core.proofs.buffer.waiters.append.Goals as goal

pub returns-in-Occupied-clause-awaited : goal.returns-in-Occupied-clause-awaited
returns-in-Occupied-clause-awaited g c =
    let ws = c.join.new.waiters in
    let u = c.in-Ok.ensures.update in
    AreAwaited-joined g.met.D.Ord.total c.args.digest c.args.waiter ws c.args.by_digest.now.entries (map_with_value c.in-Ok.entry ws).entries _ (search rules) (u.0 ws).0
    c.into_mut.result.now (sym c.in-Ok.ensures.value ∙ ap entry_value c.in-Occupied.is ∙ c.into_mut.ensures.value) c.join.result c.join.ensures.ok c.join.ensures.err c.requires (u.2 ws)

pub returns-in-Occupied-clause-ok : goal.returns-in-Occupied-clause-ok
returns-in-Occupied-clause-ok g c =
    let ws = c.join.new.waiters in
    let u = c.in-Ok.ensures.update in
    lists-joined g.met.D.Ord.total c.args.digest c.args.waiter ws c.args.by_digest.now.entries (map_with_value c.in-Ok.entry ws).entries _ (search rules) (u.0 ws).0
    c.into_mut.result.now (sym c.in-Ok.ensures.value ∙ ap entry_value c.in-Occupied.is ∙ c.into_mut.ensures.value) c.join.result c.join.ensures.ok

pub returns-in-Occupied-clause-err : goal.returns-in-Occupied-clause-err
returns-in-Occupied-clause-err g c =
    let ws = c.join.new.waiters in
    let u = c.in-Ok.ensures.update in
    entries-refused g.met.D.Ord.total c.args.digest c.args.waiter ws c.args.by_digest.now.entries (map_with_value c.in-Ok.entry ws).entries _ (search rules) (u.0 ws).0
    c.into_mut.result.now (sym c.in-Ok.ensures.value ∙ ap entry_value c.in-Occupied.is ∙ c.into_mut.ensures.value) c.join.result c.join.ensures.err c.entry.ensures.ordered (u.1 ws)

pub returns-in-Ok-one-clause-awaited : goal.returns-in-Ok-one-clause-awaited
returns-in-Ok-one-clause-awaited g c =
    let ws = c.in-Ok-one.waiters in
    let u = c.in-Ok.ensures.update in
    AreAwaited-first g.met.D.Ord.total c.args.digest c.args.waiter ws c.args.by_digest.now.entries (map_with_value c.in-Ok.entry ws).entries _ (search rules) (u.0 ws).0
    c.in-Ok-one.ensures.ok c.requires (u.2 ws)

pub returns-in-Ok-one-clause-ok : goal.returns-in-Ok-one-clause-ok
returns-in-Ok-one-clause-ok g c =
    let ws = c.in-Ok-one.waiters in
    let u = c.in-Ok.ensures.update in
    lists-first g.met.D.Ord.total c.args.digest c.args.waiter ws c.args.by_digest.now.entries (map_with_value c.in-Ok.entry ws).entries _ (search rules) (u.0 ws).0
    c.in-Ok-one.ensures.ok (rw c.in-Vacant.is at c.in-Ok.ensures.found)
