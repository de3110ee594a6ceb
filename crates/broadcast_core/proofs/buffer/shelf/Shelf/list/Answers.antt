use Rattle.std.proofs.Common.{◌∙◌, ◌++◌, length, sym, ap, arith, append-nil}
use Rattle.std.proofs.lemmas.List.{nil_from_length}
use Rattle.entries.specs.Overlaid.{same_number}
use Rattle.entries.specs.Store.{digests_of}
use Rattle.broadcast_core.specs.Indexed.{names_of, named_lists}
use Rattle.broadcast_core.proofs.Placing.{items_at-digests}
use Rattle.broadcast_core.proofs.Naming.{names_at, listed-named, length-listed}
use Rattle.broadcast_core.proofs.buffer.shelf.Shelf.list.Goals as goal

pub returns-then-len-eq0-clause-digests : goal.returns-then-len-eq0-clause-digests
returns-then-len-eq0-clause-digests g c =
    let names = names_of c.self.inside.table in
    let empty = nil_from_length _ (sym c.count-len.ensures ∙ c.if-len-eq0.true) in
    rw (← c.self.view_is) (c.new.ensures.items ∙ sym (listed-named names same_number c.args.list c.self.inside.lists.lists ∙ ap (λ ns. names_at names (digests_of ns)) empty))

pub returns-then-len-eq0-clause-distinct : goal.returns-then-len-eq0-clause-distinct
returns-then-len-eq0-clause-distinct g c =
    rw (← c.self.view_is, items_at-digests same_number c.args.list (named_lists (names_of c.self.inside.table) c.self.inside.lists.lists)) (c.self.invariant.0.indexed.distinct c.args.list)

pub returns-in_err-digests-clause-succeeds_on_empty : goal.returns-in_err-digests-clause-succeeds_on_empty
returns-in_err-digests-clause-succeeds_on_empty g c =
    let is = length-listed (names_of c.self.inside.table) same_number c.args.list c.self.inside.lists.lists c.self.invariant.0.named in
    rw (← c.self.view_is) (λ none. absurd (omega (arith, c.if-len-eq0.false, c.count-len.ensures, is, ap length none)))

pub returns-in_err-digests-clause-distinct : goal.returns-in_err-digests-clause-distinct
returns-in_err-digests-clause-distinct g c =
    rw (← c.self.view_is, items_at-digests same_number c.args.list (named_lists (names_of c.self.inside.table) c.self.inside.lists.lists)) (c.self.invariant.0.indexed.distinct c.args.list)

pub returns-in_err-push-clause-succeeds_on_empty : goal.returns-in_err-push-clause-succeeds_on_empty
returns-in_err-push-clause-succeeds_on_empty g c =
    let is = length-listed (names_of c.self.inside.table) same_number c.args.list c.self.inside.lists.lists c.self.invariant.0.named in
    rw (← c.self.view_is) (λ none. absurd (omega (arith, c.if-len-eq0.false, c.count-len.ensures, is, ap length none)))

pub returns-in_err-push-clause-distinct : goal.returns-in_err-push-clause-distinct
returns-in_err-push-clause-distinct g c =
    rw (← c.self.view_is, items_at-digests same_number c.args.list (named_lists (names_of c.self.inside.table) c.self.inside.lists.lists)) (c.self.invariant.0.indexed.distinct c.args.list)

pub returns-clause-digests : goal.returns-clause-digests
returns-clause-digests g c =
    let names = names_of c.self.inside.table in
    let digests = c.loop-item.digests.items in
    rw (← c.self.view_is) (sym (append-nil digests) ∙ ap (λ ns. digests ++ names_at names ns) (sym c.in_default.ensures.0) ∙ c.loop-item.invariant ∙ sym (listed-named names same_number c.args.list c.self.inside.lists.lists))

pub returns-clause-distinct : goal.returns-clause-distinct
returns-clause-distinct g c =
    rw (← c.self.view_is, items_at-digests same_number c.args.list (named_lists (names_of c.self.inside.table) c.self.inside.lists.lists)) (c.self.invariant.0.indexed.distinct c.args.list)
