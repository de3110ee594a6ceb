-- Internal.
-- Lemmas, not definitions: the laws of `Read` and `Codec` for test messages, which are those of a
-- pair of byte lists.
use Rattle.std.proofs.Common.{ℕ, List, refl}
use Rattle.broadcast_core.specs.Blocks.{byte_list_encoding, joined, read_byte_list}
use Rattle.broadcast_core.specs.BlockLaws.{IsWithin, RefusesBy, ReadsBack, byte_list_within, byte_list_refusals, byte_list_reads_back, both_within, both_refusals, both_reads_back, mapped_within, mapped_refusals, mapped_reads_back}
use Rattle.broadcast_core.specs.TestMessage.{Parts, parts_of, encoding_of, read_lists, read_message}
use Rattle.broadcast_core.specs.declared.codec.RangeCfg.{RangeCfg}

-- a message takes no more bytes than there are
pub message_within : (range : RangeCfg) → IsWithin (read_message range)
unfolding read_message
message_within range =
    let list = byte_list_within range in
    mapped_within parts_of (read_lists range)
    (both_within (read_byte_list range) (read_byte_list range) list list)

-- bytes are refused by these kinds alone
pub message_refusals : (range : RangeCfg) → RefusesBy (read_message range)
unfolding read_message
message_refusals range =
    let list = byte_list_refusals range in
    mapped_refusals parts_of (read_lists range)
    (both_refusals (read_byte_list range) (read_byte_list range) list list)

-- what an encoding, followed by any bytes, reads as
pub message_reads_back : (range : RangeCfg) → ReadsBack encoding_of (read_message range)
unfolding read_message
message_reads_back range =
    let list = byte_list_reads_back range in
    let lists_of : Parts → List ℕ × List ℕ = λ m. (m.commitment, m.content) in
    mapped_reads_back parts_of lists_of (λ m. refl)
    (λ lists. joined (byte_list_encoding lists.0) (byte_list_encoding lists.1)) (read_lists range)
    (both_reads_back (read_byte_list range) (read_byte_list range) byte_list_encoding
    byte_list_encoding list list)
