-- Internal.
-- How many requests were skipped.
use Rattle.std.specs.Prelude.{◌≡◌, List, length}
use Rattle.broadcast_mailbox.specs.declared.buffered.ingress.message.Request.{Request}
use Rattle.broadcast_mailbox.specs.declared.buffered.ingress.account.Skips.{Skips}
use Rattle.broadcast_mailbox.specs.Queue.{counted_in}

abbrev pub no_skips : Skips
no_skips = record { all = 0; counted = 0 }

-- the numbers of these requests
pub record CountsSkipped {T : Type 0} (skips : Skips) (skipped : List (Request T)) : Type 0 where
  pub all : skips.all ≡ length skipped
  pub counted : skips.counted ≡ counted_in skipped
