use Rattle.std.proofs.Common.{◌≡◌, ◌≤◌, ◌+◌, ◌-◌, ◌++◌, not}
use Rattle.std.specs.Prelude.{nat_eq, vec_capacity, vec_len}
use Rattle.std.specs.List.{filter}
use Rattle.std.specs.Vec.Iter.{into_iter_items, into_iter_len}
use Rattle.entries.specs.Parts.{number, spread}
use Rattle.entries.proofs.bucket.divide.Given as goal

abbrev pub invariant-loop-entry : goal.invariant-loop-entry
invariant-loop-entry g l = record {
  kept : l.kept.items ++ filter (λ e. not (nat_eq (number l.bits l.buckets (spread (g.K.Leading.leading_of e.0))) (l.buckets - 1))) (into_iter_items l.rest)
      ≡ filter (λ e. not (nat_eq (number l.bits l.buckets (spread (g.K.Leading.leading_of e.0))) (l.buckets - 1))) l.fn.entries.items;
  moved : l.moved.items ++ filter (λ e. nat_eq (number l.bits l.buckets (spread (g.K.Leading.leading_of e.0))) (l.buckets - 1)) (into_iter_items l.rest)
      ≡ filter (λ e. nat_eq (number l.bits l.buckets (spread (g.K.Leading.leading_of e.0))) (l.buckets - 1)) l.fn.entries.items;
  kept_room : vec_len l.kept + into_iter_len l.rest ≤ vec_capacity l.kept;
  moved_room : vec_len l.moved + into_iter_len l.rest ≤ vec_capacity l.moved;
}

abbrev pub decreases-loop-entry : goal.decreases-loop-entry
decreases-loop-entry g l = into_iter_len l.rest
