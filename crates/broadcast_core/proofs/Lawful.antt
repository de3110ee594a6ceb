-- Lawful equality of keys and of digests.
use Rattle.std.specs.Cmp.{IsEquivalence, IsTotalOrder}
use Rattle.std.specs.declared.cmp.Ordering.{Ordering}
use Rattle.std.proofs.lemmas.Cmp.{eq_by_cmp_equiv}
use Rattle.broadcast_core.specs.Content.{Same, same_by}

pub record IsLawful {P D : Type 0} (same : Same P D) : Type 0 where
  pub key : IsEquivalence same.key
  pub digest : IsEquivalence same.digest

pub same_by-lawful : {P D : Type 0} {key : P → P → Ordering} {digest : D → D → Ordering} → IsTotalOrder key → IsTotalOrder digest → IsLawful (same_by key digest)
same_by-lawful k d = record { key = eq_by_cmp_equiv k; digest = eq_by_cmp_equiv d }
