use Rattle.std.proofs.Common.{sym, ap, ◌∙◌}
use Rattle.std.specs.List.{find, list_any}
use Rattle.std.specs.Ordering.{eq_by_cmp}
use Rattle.std.proofs.lemmas.List.Filters.{dedup_is}
use Rattle.std.proofs.lemmas.List.Kept.{IsStrictlySortedBy-dedup}
use Rattle.std.proofs.lemmas.List.Sorted.{list_any-IsPermutation}
use Rattle.broadcast_core.proofs.OrderedLemmas.{list_any-dedup, find-sort_dedup}
use Rattle.broadcast_core.proofs.ordered.sort_dedup.Goals as goal

pub returns-clause-members : goal.returns-clause-members
returns-clause-members g c q =
    let left = dedup_is _ _ _ c.dedup.ensures.filtered in
    ap (list_any (eq_by_cmp g.K.Ord.cmp q)) left ∙ list_any-dedup g.met.K.Ord.total g.met.K.Eq.laws g.met.K.Ord.matches_eq _ q ∙ sym (list_any-IsPermutation _ _ _ c.in_ok-sort.ensures.permutation)

pub returns-clause-sorted : goal.returns-clause-sorted
returns-clause-sorted g c =
    rw (dedup_is _ _ _ c.dedup.ensures.filtered) (IsStrictlySortedBy-dedup g.met.K.Ord.total g.met.K.Ord.matches_eq _ c.in_ok-sort.ensures.sorted)

pub returns-clause-first_of_equals : goal.returns-clause-first_of_equals
returns-clause-first_of_equals g c q =
    let left = dedup_is _ _ _ c.dedup.ensures.filtered in
    ap (find (eq_by_cmp g.K.Ord.cmp q)) left ∙ find-sort_dedup g.met.K.Ord.total g.met.K.Ord.matches_eq _ _ c.in_ok-sort.ensures.stable q
