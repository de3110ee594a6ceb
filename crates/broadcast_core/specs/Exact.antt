-- Internal.
-- Lemmas, not definitions: digests that the order does not tell apart are one value. An impl of
-- `Digestible` cites them as its ghost law, which may name this folder alone.
use Rattle.std.specs.Prelude.{◌≡◌, ℕ, true, List}
use Rattle.std.specs.Cmp.{unsigned_tied, unsigned_Decides}
use Rattle.std.specs.Cmp.Lexicographic.{slice_cmp, bytes_decides, texts_ties}
use Rattle.std.specs.Ordering.{eq_by_cmp, nat_cmp}
use Rattle.std.proofs.Common.{sym, ◌∙◌}

-- digests of 32 bytes, and other lists of bytes
pub exact_bytes : (a b : List ℕ) → eq_by_cmp (slice_cmp nat_cmp) a b ≡ true → a ≡ b
exact_bytes a b tied = (bytes_decides a b).0 (texts_ties a b ∙ tied)

-- unsigned numbers
pub exact_number : (a b : ℕ) → eq_by_cmp nat_cmp a b ≡ true → a ≡ b
exact_number a b tied = (unsigned_Decides a b).0 (sym (unsigned_tied a b) ∙ tied)
