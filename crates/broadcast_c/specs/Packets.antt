-- Believed.
-- What reading a packet reports.
use Rattle.std.specs.Prelude.{◌≡◌, ℕ, ◌+◌, ◌≤◌, List, length, take, drop, Result, Ok, Err}
use Rattle.broadcast_core.specs.declared.codec.CodecError.{CodecError}
use Rattle.broadcast_core.specs.declared.codec.CodecError.TheVariants.{InvalidLength, ExtraData}
use Rattle.broadcast_c.specs.declared.exports.packet.Place.{Place}

-- what a packet is read as is reported: the place of its message, or the status of the error, with
-- the length that is not allowed or the number of bytes that follow the message; any other error is
-- that the bytes end too early
abbrev pub ReportsReading : Result (List ℕ) CodecError → List ℕ → Place → Place → ℕ → Type 0
ReportsReading (Ok message) bytes old new status = (status ≡ 0)
    × (new.offset + new.length ≤ length bytes)
    × (take new.length (drop new.offset bytes) ≡ message)
ReportsReading (Err (InvalidLength n)) bytes old new status =
    (status ≡ 8) × (new ≡ record old { length = n })
ReportsReading (Err (ExtraData n)) bytes old new status =
    (status ≡ 9) × (new ≡ record old { length = n })
ReportsReading (Err _) bytes old new status = (status ≡ 7) × (new ≡ old)
