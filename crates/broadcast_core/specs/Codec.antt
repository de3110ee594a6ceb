-- Believed.
-- What reading and writing return.
use Rattle.std.specs.Prelude.{◌≡◌, ℕ, ◌⊎◌, List, ◌++◌, Option, Some, Result, Ok, Err, IsOk}
use Rattle.broadcast_core.specs.declared.codec.CodecError.{CodecError}
use Rattle.broadcast_core.specs.declared.codec.CodecError.TheVariants.{EndOfBuffer, InvalidLength, Invalid, Unencodable, Memory}

-- the number of bytes that a value takes, of a reading of value and number
abbrev pub layout_of : {M : Type 0} → Result (M × ℕ) CodecError → Result ℕ CodecError
layout_of (Ok r) = Ok r.1
layout_of (Err e) = Err e

-- the result, seen by view, is what was read
abbrev pub Gives : {X Y : Type 0} → (X → Y) → Result X CodecError → Result Y CodecError → Type 0
Gives view (Ok x) read = read ≡ Ok (view x)
Gives view (Err e) read = read ≡ Err e

-- the result is what was read, or an allocation failure where a value was read
abbrev pub GivesOrLacks : {R : Type 0} → Result R CodecError → Result R CodecError → Type 0
GivesOrLacks result read = (result ≡ read) ⊎ ((result ≡ Err Memory) × IsOk read)

-- reading refuses bytes by these errors alone
abbrev pub IsRefusal : CodecError → Type 0
IsRefusal EndOfBuffer = Unit {0}
IsRefusal (InvalidLength n) = Unit {0}
IsRefusal (Invalid reason) = Unit {0}
IsRefusal _ = ⊥

-- writing appends the encoding, or fails and changes nothing
abbrev pub Appends : Option (List ℕ) → List ℕ → List ℕ → Result Unit CodecError → Type 0
Appends encoding old new (Ok done) =
    (bytes : List ℕ) × (encoding ≡ Some bytes) × (new ≡ old ++ bytes)
Appends encoding old new (Err e) = ((e ≡ Unencodable) ⊎ (e ≡ Memory)) × (new ≡ old)
