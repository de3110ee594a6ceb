use Rattle.std.proofs.Common.{◌≡◌, ◌∙◌, Option, Some, None, length, sym, ap, arith, ℕ}
use Rattle.std.specs.Option.{option_map}
use Rattle.entries.specs.Placed.{Placed}
use Rattle.entries.specs.Overlaid.{same_number, overlaid}
use Rattle.entries.specs.Store.{items_at, digests_of}
use Rattle.entries.proofs.Overlaying.{length-overlaid, overlaid-next, drop-next, overlaid-all, overlaid-full}
use Rattle.broadcast_core.specs.Carried.{Carried}
use Rattle.broadcast_core.specs.Indexed.{names_of}
use Rattle.broadcast_core.proofs.Naming.{named_in, names_at, listed-named, length-listed}
use Rattle.broadcast_core.proofs.buffer.shelf.Shelf.list_into.Goals as goal
use Rattle.broadcast_core.proofs.buffer.shelf.Shelf.list_into.Goals.{else-loop-i-test, then-loop-i-test+in_default}

name-is : {M D : Type 0} (o : Option (Placed ℕ (Carried M D))) (m : Carried M D) → Some m ≡ option_map (λ item. item.message) o → option_map (λ item. item.message.digest) o ≡ Some m.digest
name-is None m is = cc
name-is (Some item) m is = cc

pub loop-i-preserved-in-Some-at : goal.loop-i-preserved-in-Some-at
loop-i-preserved-in-Some-at g c =
    let names = names_of c.self.inside.table in
    let all = names_at names (digests_of (items_at same_number c.args.list c.self.inside.lists.lists)) in
    let name = name-is _ c.in-Some-at.message.now c.in-Some-at.ensures ∙ ap Some (sym c.digest.ensures) in
    let there = sym c.loop-i.invariant.1 ∙ ap (names_at names) c.in-Some.ensures ∙ ap (λ o. named_in o (names_at names c.next.new.self)) name in
    let room = ap length c.loop-i.invariant.0 ∙ length-overlaid _ c.args.out.now in
    rw c.loop-i.invariant.0 (overlaid-next all c.args.out.now c.loop-i.i _ _ there (omega (arith, c.loop-i-test.true, room)), sym (drop-next all c.loop-i.i _ _ there))

pub returns-clause-len : goal.returns-clause-len
returns-clause-len g c = rw (← c.self.view_is) (c.count.ensures ∙ sym (length-listed (names_of c.self.inside.table) same_number c.args.list c.self.inside.lists.lists c.self.invariant.0.named))

pub returns-clause-digests : goal.returns-clause-digests
returns-clause-digests g c =
    let names = names_of c.self.inside.table in
    let all = names_at names (digests_of (items_at same_number c.args.list c.self.inside.lists.lists)) in
    let room = ap length c.loop-i.invariant.0 ∙ length-overlaid _ c.args.out.now in
    let whole : c.loop-i.out ≡ overlaid all c.args.out.now = c.loop-i.invariant.0 ∙ elim c.loop-i-test.branch [
      | else-loop-i-test w ↦ overlaid-full all c.args.out.now c.loop-i.i (omega (arith, w.loop-i-test.false, room))
      | then-loop-i-test+in_default w ↦ overlaid-all all c.args.out.now c.loop-i.i (sym c.loop-i.invariant.1 ∙ ap (names_at names) w.in_default.ensures.0)
    ] in
    rw (← c.self.view_is) (whole ∙ ap (λ ds. overlaid ds c.args.out.now) (sym (listed-named names same_number c.args.list c.self.inside.lists.lists)))
