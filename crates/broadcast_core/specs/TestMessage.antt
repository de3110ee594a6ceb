-- Believed.
-- What a test message is, and how it is spelled and read.
use Rattle.std.specs.Prelude.{◌≡◌, ℕ, ◌+◌, ◌⊎◌, List, length, Option, Result}
use Rattle.broadcast_core.specs.Blocks.{byte_list_encoding, joined, mapped, read_both, read_byte_list}
use Rattle.broadcast_core.specs.ByteList.{Stands, NoneStands}
use Rattle.broadcast_core.specs.declared.codec.CodecError.{CodecError}
use Rattle.broadcast_core.specs.declared.codec.RangeCfg.{RangeCfg}

-- the two byte lists of a test message
pub record Parts : Type 0 where
  pub commitment : List ℕ
  pub content : List ℕ

abbrev pub parts_of : List ℕ × List ℕ → Parts
parts_of lists = record { commitment = lists.0; content = lists.1 }

-- the spelling of the commitment, then of the content, if each has one
abbrev pub encoding_of : Parts → Option (List ℕ)
encoding_of m = joined (byte_list_encoding m.commitment) (byte_list_encoding m.content)

-- the two byte lists in front, which both have a length in the range
abbrev pub read_lists : RangeCfg → List ℕ → Result ((List ℕ × List ℕ) × ℕ) CodecError
read_lists range = read_both (read_byte_list range) (read_byte_list range)

-- the message in front and the number of its bytes, or the first refusal
unfoldable pub read_message : RangeCfg → List ℕ → Result (Parts × ℕ) CodecError
read_message range bytes = mapped parts_of (read_lists range bytes)

-- the first n bytes are the spellings of both lists, whose lengths are in the range
pub record Begins (range : RangeCfg) (bytes : List ℕ) (m : Parts) (n : ℕ) : Type 0 where
  pub between : List ℕ
  pub rest : List ℕ
  pub commitment : Stands range bytes m.commitment between
  pub content : Stands range between m.content rest
  pub used : n + length rest ≡ length bytes

-- why the bytes begin with no message: what remains begins with no spelling of a list, once the
-- first list's spelling, if it stands there, is taken off
pub record IsRefused (range : RangeCfg) (bytes : List ℕ) (e : CodecError) : Type 0 where
  pub remains : List ℕ
  pub behind : (remains ≡ bytes) ⊎ ((first : List ℕ) × Stands range bytes first remains)
  pub why : NoneStands range remains e
