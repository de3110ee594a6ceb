-- Believed.
-- How the blocks of a message are written and read.
use Rattle.std.specs.Prelude.{ℕ, ◌+◌, ◌-◌, ◌^◌, ◌==◌, if◌then◌else◌, List, [], ◌∷◌, ◌++◌, length, take, drop, Option, None, Some, Result, Ok, Err, nat_lt}
use Rattle.byteorder.specs.Endian.{big_bytes, big_number}
use Rattle.broadcast_core.specs.ByteList.{◌>>=◌, has_spelling, spelled, read_list}
use Rattle.broadcast_core.specs.declared.codec.CodecError.{CodecError}
use Rattle.broadcast_core.specs.declared.codec.CodecError.TheVariants.{EndOfBuffer, Invalid}
use Rattle.broadcast_core.specs.declared.codec.RangeCfg.{RangeCfg}

-- a number: k bytes, the highest first
abbrev pub number_encoding : ℕ → ℕ → Option (List ℕ)
number_encoding k n = if nat_lt n (256 ^ k) then Some (big_bytes k n) else None

abbrev pub read_number : ℕ → List ℕ → Result (ℕ × ℕ) CodecError
read_number k bytes =
    if nat_lt (length bytes) k then Err EndOfBuffer else Ok (big_number k bytes, k)

-- an array: its k bytes
abbrev pub array_encoding : ℕ → List ℕ → Option (List ℕ)
array_encoding k xs = if length xs == k then Some xs else None

abbrev pub read_array : ℕ → List ℕ → Result (List ℕ × ℕ) CodecError
read_array k bytes = if nat_lt (length bytes) k then Err EndOfBuffer else Ok (take k bytes, k)

-- a list of bytes: its length in four bytes, then its bytes
abbrev pub byte_list_encoding : List ℕ → Option (List ℕ)
byte_list_encoding xs = if has_spelling xs then Some (spelled xs) else None

abbrev pub read_byte_list : RangeCfg → List ℕ → Result (List ℕ × ℕ) CodecError
read_byte_list range bytes = read_list range bytes >>= λ list. Ok (list.0, length bytes - length list.1)

-- two encodings, one after the other; there is none if a `usize` cannot say their length
abbrev pub joined : Option (List ℕ) → Option (List ℕ) → Option (List ℕ)
joined (Some x) (Some y) = if nat_lt (length x + length y) (2 ^ 64) then Some (x ++ y) else None
joined (Some x) None = None
joined None y = None

-- two values, one after the other
abbrev pub read_both : {A B : Type 0} → (List ℕ → Result (A × ℕ) CodecError)
    → (List ℕ → Result (B × ℕ) CodecError) → List ℕ → Result ((A × B) × ℕ) CodecError
read_both first second bytes = do
  a ← first bytes
  b ← second (drop a.1 bytes)
  Ok ((a.0, b.0), a.1 + b.1)

-- the value as another type
abbrev pub mapped : {A B : Type 0} → (A → B) → Result (A × ℕ) CodecError → Result (B × ℕ) CodecError
mapped f (Ok r) = Ok (f r.0, r.1)
mapped f (Err e) = Err e

-- three values: the first, then the other two
abbrev pub flat : {A B C : Type 0} → A × (B × C) → A × B × C
flat x = (x.0, x.1.0, x.1.1)

-- a value behind a tag of one byte
abbrev pub behind : {A : Type 0} → Result (A × ℕ) CodecError → Result (A × ℕ) CodecError
behind (Ok r) = Ok (r.0, 1 + r.1)
behind (Err e) = Err e

-- a tag, and what it says is behind it
abbrev pub read_tagged : {A : Type 0} → (ℕ → List ℕ → Result (A × ℕ) CodecError) → List ℕ
    → Result (A × ℕ) CodecError
read_tagged reading [] = Err EndOfBuffer
read_tagged reading (tag ∷ bytes) = behind (reading tag bytes)

-- an option: the tag 0, or the tag 1 and the value
abbrev pub option_encoding : {A : Type 0} → (A → Option (List ℕ)) → Option A → Option (List ℕ)
option_encoding encoding None = Some (0 ∷ [])
option_encoding encoding (Some v) = joined (Some (1 ∷ [])) (encoding v)

abbrev pub read_option : {A : Type 0} → (List ℕ → Result (A × ℕ) CodecError) → ℕ → List ℕ
    → Result (Option A × ℕ) CodecError
read_option reading tag bytes =
    if tag == 0 then Ok (None, 0) else
    if tag == 1 then mapped Some (reading bytes) else Err (Invalid tag)
