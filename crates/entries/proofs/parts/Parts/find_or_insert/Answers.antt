use Rattle.std.proofs.Common.{◌≡◌, ◌+◌, None, ap, ◌∙◌, sym, length}
use Rattle.std.specs.Map.{lookup}
use Rattle.std.specs.Ordering.{eq_by_cmp}
use Rattle.entries.specs.Parts.{gathered}
use Rattle.entries.proofs.Bucketed.{length-inserted}
use Rattle.entries.proofs.parts.Parts.find_or_insert.Goals as goal

pub invariant_of-self-2 : goal.invariant_of-self-2
invariant_of-self-2 g c =
    let none : lookup (eq_by_cmp g.K.Ord.cmp c.args.key) (gathered g.K.Ord.cmp c.self.inside.more.entries c.grow.new.buckets.items) ≡ None =
    ap (lookup (eq_by_cmp g.K.Ord.cmp c.args.key)) (c.grow.ensures.same ∙ c.self.view_is) ∙ sym c.in_default.ensures.value in
    record {
      are = c.in_ok-insert.ensures.are;
      counted = ap (λ n. n + 1) (c.self.invariant.counted ∙ sym (ap length c.grow.ensures.same))
          ∙ sym (ap length c.in_ok-insert.ensures.ok ∙ length-inserted g.K.Ord.cmp c.args.key c.args.value (gathered g.K.Ord.cmp c.self.inside.more.entries c.grow.new.buckets.items) none);
    }
