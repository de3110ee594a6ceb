use Rattle.std.proofs.Common.{◌≡◌, rules, length, sym}
use Rattle.std.specs.Prelude.{nat_le}
use Rattle.std.specs.VecDeque.{deque_len}
use Rattle.std.proofs.lemmas.List.Sorted.{IsPartitionPoint-from_clause, IsPartitionedBy-leb}
use Rattle.gossip.proofs.Finding.{ordered, counted, all_counted}
use Rattle.gossip.proofs.kept.Kept.up_to.Goals as goal

pub returns-then-last-stamp-clause-count : goal.returns-then-last-stamp-clause-count
returns-then-last-stamp-clause-count c =
    let list = c.args.self.now.list in
    let n : deque_len list ≡ length list.items = list.ok.0 in
    let last = rw n at c.in-Some.ensures.lookup in
    rw (c.len.ensures, n) (all_counted c.args.self.now.floor c.args.stamp list.items c.in-Some.last.now c.requires (sym last) c.if-last-stamp.true)

pub returns-else-last-stamp-clause-count : goal.returns-else-last-stamp-clause-count
returns-else-last-stamp-clause-count c =
    let list = c.args.self.now.list in
    let n : deque_len list ≡ length list.items = list.ok.0 in
    let point = IsPartitionPoint-from_clause (λ m. nat_le m.stamp c.args.stamp) _ _ c.partition_point.ensures.partitioned
    (IsPartitionedBy-leb (λ m. m.stamp) _ c.args.stamp (ordered c.args.self.now.floor _ c.requires)) (λ x b f' k. search rules) in
    counted c.args.stamp list.items c.partition_point.result (rw (← n) c.partition_point.ensures.bound) point.0 point.1
