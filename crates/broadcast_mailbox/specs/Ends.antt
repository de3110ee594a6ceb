-- Believed.
-- The ends of a mailbox.
use Rattle.std.specs.Prelude.{ℕ, Bool}

-- the inbox that the ends share: its sources, of which one fires once a request is queued, and the
-- other once a stop is requested
pub record SharedInbox : Type 0 where
  pub queued : ℕ
  pub stopped : ℕ

-- an end through which requests are queued, or a stop is requested
pub record MailboxEnd : Type 0 where
  pub inbox : SharedInbox

-- the end from which requests are taken, how many counted ones it took, how many of these were
-- refused, and whether the last of them is neither applied nor refused yet
pub record IngressEnd : Type 0 where
  pub inbox : SharedInbox
  pub taken : ℕ
  pub refused : ℕ
  pub undecided : Bool
