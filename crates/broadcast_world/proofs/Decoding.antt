-- What an encoding reads as.
use Rattle.std.proofs.Common.{◌≡◌, ℕ, true, List, [], length, Some, Result, Ok, Err, refl, ap, ◌∙◌, append-nil}
use Rattle.std.specs.Prelude.{◌==◌}
use Rattle.std.proofs.lemmas.Bool.{eq-eqb}
use Rattle.broadcast_core.specs.Codec.{layout_of}
use Rattle.broadcast_core.specs.Setting.{all_taken, whole}
use Rattle.broadcast_core.specs.MessageLaws.{message_reads_back}
use Rattle.broadcast_core.specs.TestMessage.{Parts, encoding_of, read_message}
use Rattle.broadcast_core.specs.declared.codec.CodecError.{CodecError}
use Rattle.broadcast_core.specs.declared.codec.RangeCfg.{RangeCfg}

laid-whole : (m : Parts) (count n : ℕ) (read : Result (Parts × ℕ) CodecError) → ((w : Parts) (k : ℕ) → read ≡ Ok (w, k) → (w ≡ m) × (k ≡ count)) → layout_of read ≡ Ok n → all_taken count read ≡ Ok m
laid-whole m count n (Ok r) back laid =
    let is = back r.0 r.1 refl in
    let all : (r.1 == count) ≡ true = eq-eqb r.1 count is.1 in
    rw all (ap Ok is.0)
laid-whole m count n (Err e) back laid = absurd (let no = laid in cc)

-- bytes that have a layout and encode a message read as that message
pub encoding-reads : (range : RangeCfg) (m : Parts) (bytes : List ℕ) → encoding_of m ≡ Some bytes → {n : ℕ} → layout_of (read_message range bytes) ≡ Ok n → whole (read_message range) bytes ≡ Ok m
encoding-reads range m bytes has {n} laid =
    laid-whole m (length bytes) n (read_message range bytes) (λ w k read. message_reads_back range m w bytes [] k has (ap (read_message range) (append-nil bytes) ∙ read)) laid
