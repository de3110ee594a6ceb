-- Believed.
-- How a list of bytes is spelled and read.
use Rattle.std.specs.Prelude.{◌≡◌, ℕ, ◌+◌, ◌^◌, ◌<◌, ◌≤◌, false, IsTrue, ◌&&◌, ◌⊎◌, Bool, if◌then◌else◌, List, ◌++◌, length, take, drop, Result, Ok, Err, nat_lt, nat_le}
use Rattle.byteorder.specs.Endian.{big_bytes, big_number}
use Rattle.broadcast_core.specs.declared.codec.CodecError.{CodecError}
use Rattle.broadcast_core.specs.declared.codec.CodecError.TheVariants.{EndOfBuffer, InvalidLength}
use Rattle.broadcast_core.specs.declared.codec.RangeCfg.{RangeCfg}

-- a byte list's spelling: its length as four bytes, the highest first, then its bytes
abbrev pub spelled : List ℕ → List ℕ
spelled xs = big_bytes 4 (length xs) ++ xs

-- whether four bytes can say the list's length
abbrev pub has_spelling : List ℕ → Bool
has_spelling xs = nat_lt (length xs) (2 ^ 32)

-- whether the length is in the range, both ends inclusive
abbrev pub contains : RangeCfg → ℕ → Bool
contains range n = nat_le range.min n && nat_le n range.max

-- what follows a step that succeeded
infixl 10 ◌>>=◌
abbrev pub ◌>>=◌ : {A B : Type 0} → Result A CodecError → (A → Result B CodecError)
    → Result B CodecError
(Ok x) >>= f = f x
(Err e) >>= f = Err e

-- the length in front, and the bytes after it
abbrev pub read_length : List ℕ → Result (ℕ × List ℕ) CodecError
read_length bytes =
    if nat_lt (length bytes) 4 then Err EndOfBuffer else Ok (big_number 4 bytes, drop 4 bytes)

-- the first n bytes, and the bytes after them
abbrev pub read_bytes : ℕ → List ℕ → Result (List ℕ × List ℕ) CodecError
read_bytes n bytes =
    if nat_lt (length bytes) n then Err EndOfBuffer else Ok (take n bytes, drop n bytes)

-- the byte list in front and the bytes after it, or the first refusal
unfoldable pub read_list : RangeCfg → List ℕ → Result (List ℕ × List ℕ) CodecError
read_list range bytes = do
  n ← read_length bytes
  if contains range n.0 then read_bytes n.0 n.1 else Err (InvalidLength n.0)

-- the bytes begin with the spelling of a list whose length is in the range
pub record Stands (range : RangeCfg) (bytes list rest : List ℕ) : Type 0 where
  pub parts : bytes ≡ spelled list ++ rest
  pub short : IsTrue (has_spelling list)
  pub ranged : IsTrue (contains range (length list))

-- why the bytes begin with no such spelling: there are fewer than four, or fewer follow than the
-- length in front says, which is in the range, or that length is out of the range
abbrev pub NoneStands : RangeCfg → List ℕ → CodecError → Type 0
NoneStands range bytes EndOfBuffer = (length bytes < 4)
    ⊎ (IsTrue (contains range (big_number 4 bytes)) × (length bytes < 4 + big_number 4 bytes))
NoneStands range bytes (InvalidLength n) =
    (4 ≤ length bytes) × (n ≡ big_number 4 bytes) × (contains range n ≡ false)
NoneStands range bytes _ = ⊥
