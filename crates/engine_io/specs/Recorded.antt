-- Believed.
-- The replies that an outlet records.
use Rattle.engine_io.specs.declared.mocks.outlet.Replied.TheVariants as mocks
use Rattle.engine_io.specs.declared.mocks.outlet.Replied.{Replied as Recorded}
use Rattle.engine_io.specs.Replies.{Replied, subscribed, got}

-- the reply that a record is of
abbrev pub reply_in : {S G A B : Type 0} → Recorded S G A B → Replied S G A B
reply_in (mocks.Subscribed handed) =
    subscribed (record { ticket = handed.ticket; responder = handed.to }) handed.reply handed.delivered
reply_in (mocks.Got handed) =
    got (record { ticket = handed.ticket; responder = handed.to }) handed.reply handed.delivered
