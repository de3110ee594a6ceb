use Rattle.std.proofs.Common.{refl}
use Rattle.std.proofs.lemmas.List.{length-replicate}
use Rattle.broadcast_c.proofs.store.Store.take.Goals as goal

pub returns-clause-taken : goal.returns-clause-taken
returns-clause-taken c =
    let taken = rw (c.precomputed_shared-message.ensures, c.in_ok-share.ensures, length-replicate) at c.in_ok-taken.ensures.taken in
    record {
      outcome = taken.outcome;
      served = taken.served;
      entered = refl;
      ok = taken.ok;
      err = taken.err;
      succeeds_on_duplicate = taken.succeeds_on_duplicate;
      succeeds_on_ineligible = taken.succeeds_on_ineligible;
      succeeds_on_oversize = taken.succeeds_on_oversize;
      succeeds_at_size_zero = taken.succeeds_at_size_zero;
    }

pub returns-clause-kept : goal.returns-clause-kept
returns-clause-kept c = (rw (c.precomputed_shared-message.ensures, c.in_ok-share.ensures, length-replicate) at c.in_ok-taken.ensures.taken).entered
