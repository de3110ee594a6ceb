use Rattle.std.proofs.Common.{◌≡◌, Option, Some, None, Bor, refl, sym, ◌∙◌}
use Rattle.std.specs.Prelude.{IfSome}
use Rattle.std.specs.Option.{option_copied}
use Rattle.std.specs.Ordering.{eq_by_cmp}
use Rattle.entries.specs.Table.{items_of}
use Rattle.entries.proofs.Tables.{lookup-messages}
use Rattle.broadcast_core.proofs.buffer.shelf.Shelf.get.Goals as goal

named_is : {X : Type 0} {P : X → Type 0} (r : Option (Bor X)) → ((x : X) → option_copied r ≡ Some x → P x) → IfSome r (λ m. P m.now)
named_is None h = tt
named_is (Some m) h = h m.now refl

pub returns-clause-message : goal.returns-clause-message
returns-clause-message g c = rw (← c.self.view_is) (c.get.ensures ∙ sym (lookup-messages (eq_by_cmp g.M.Digest.Ord.cmp c.args.digest.now) (items_of c.self.inside.table)))

pub returns-clause-named : goal.returns-clause-named
returns-clause-named g c = named_is c.get.result (λ x there. c.self.invariant.0.indexed.named c.args.digest.now x
    (lookup-messages (eq_by_cmp g.M.Digest.Ord.cmp c.args.digest.now) (items_of c.self.inside.table) ∙ sym c.get.ensures ∙ there))
