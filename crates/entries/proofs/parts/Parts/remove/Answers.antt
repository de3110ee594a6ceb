use Rattle.std.proofs.Common.{length, ap, ◌∙◌, sym, arith}
use Rattle.std.specs.Ordering.{eq_by_cmp}
use Rattle.std.proofs.lemmas.Map.{none_passes_from_lookup}
use Rattle.entries.specs.Parts.{gathered}
use Rattle.entries.proofs.Bucketed.{length-removed, remove_none}
use Rattle.entries.proofs.parts.Parts.remove.Goals as goal

pub invariant_of-self : goal.invariant_of-self
invariant_of-self g c =
    let less = length-removed (eq_by_cmp g.K.Ord.cmp c.args.key.now) (gathered g.K.Ord.cmp c.self.inside.more.entries c.self.inside.buckets.items) c.in-Some.value (sym c.in-Some.ensures.value) in
    let all = ap length c.in-Some.ensures.removed in
    record { are = c.in-Some.ensures.are; counted = omega (arith, c.self.invariant.counted) }

pub invariant_of-self-in-None : goal.invariant_of-self-in-None
invariant_of-self-in-None g c =
    let same = remove_none (eq_by_cmp g.K.Ord.cmp c.args.key.now) (gathered g.K.Ord.cmp c.self.inside.more.entries c.self.inside.buckets.items)
    (none_passes_from_lookup (eq_by_cmp g.K.Ord.cmp c.args.key.now) (gathered g.K.Ord.cmp c.self.inside.more.entries c.self.inside.buckets.items) (sym c.in-None.ensures.value)) in
    record { are = c.in-None.ensures.are; counted = c.self.invariant.counted ∙ sym (ap length (c.in-None.ensures.removed ∙ same)) }
