use Rattle.std.proofs.Common.{◌≡◌, sym, subst}
use Rattle.std.proofs.Math.Path.{fun_ext}
use Rattle.std.specs.Prelude.{◌==◌}
use Rattle.std.specs.List.{list_any, count_by, sum_by}
use Rattle.std.specs.List.Sorted.{IsPermutation}
use Rattle.std.proofs.lemmas.List.Sorted.{list_any-IsPermutation}
use Rattle.broadcast_core.specs.Changes.{Cleans}
use Rattle.broadcast_core.specs.Content.{same_by}
use Rattle.broadcast_core.specs.Counted.{counted}
use Rattle.broadcast_core.proofs.Lawful.{same_by-lawful}
use Rattle.broadcast_core.proofs.Applying.{Applies-cleanup}
use Rattle.broadcast_core.proofs.runner.apply.cleanup.Goals as goal

pub returns-clause-follows : goal.returns-clause-follows
returns-clause-follows g c = λ s is past has.
    let lawful = same_by-lawful g.met.P.Ord.total (g.met.M.Digest.Ord g.world.𝓛 g.world.𝓜 g.world.𝓡 (λ s x. x, λ x. x, λ x. x, λ x. x)).total in
    let same = same_by g.P.Ord.cmp g.M.Digest.Ord.cmp in
    let sorted = c.deref.result.now in
    let moved : IsPermutation c.args.gone sorted = rw (c.into_vec-gone.ensures, ← c.deref.ensures.value) at c.sort_unstable.ensures.permutation in
    let alike : (λ k. list_any (λ x. k == x) sorted) ≡ (λ k. list_any (λ x. k == x) c.args.gone) = fun_ext (λ k. sym (list_any-IsPermutation (λ x. k == x) c.args.gone sorted moved)) in
    Applies-cleanup is lawful has c.args.gone c.cleanup.result
    (subst (λ test. Cleans same test c.args.core.now c.cleanup.new.self) alike c.cleanup.ensures.dropped) c.cleanup.ensures.distinct
    (subst (λ test. c.cleanup.result ≡ counted (sum_by (λ e. count_by test e.1) c.args.core.now.waiters)) alike c.cleanup.ensures.removed)
