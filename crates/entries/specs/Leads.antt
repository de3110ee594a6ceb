-- Internal.
-- That values which compare equal have the same word, and the word of bytes.
use Rattle.std.proofs.Common.{◌≡◌, ℕ, List, [], ◌∷◌, ap}
use Rattle.std.specs.Prelude.{slice_index}
use Rattle.std.specs.Int.{w64, from_le_bytes}
use Rattle.std.specs.Cmp.Lexicographic.{slice_cmp}
use Rattle.std.specs.Ordering.{nat_cmp}
use Rattle.std.specs.declared.cmp.Ordering.TheVariants.{Equal}
use Rattle.std.proofs.lemmas.Map.Lookups.{exact_unsigned, exact_bytes}

-- that of a number is itself
pub equal_numbers : (x y : ℕ) → nat_cmp x y ≡ Equal → x ≡ y
equal_numbers = exact_unsigned

-- the first eight bytes as a number, of which the first is the lowest
abbrev pub first_word : List ℕ → ℕ
first_word bytes = from_le_bytes w64 (slice_index bytes 0 ∷ slice_index bytes 1 ∷ slice_index bytes 2 ∷ slice_index bytes 3 ∷ slice_index bytes 4 ∷ slice_index bytes 5 ∷ slice_index bytes 6 ∷ slice_index bytes 7 ∷ [])

-- that of bytes is the number of the first eight
pub equal_words : (x y : List ℕ) → slice_cmp nat_cmp x y ≡ Equal → first_word x ≡ first_word y
equal_words x y equal = ap first_word (exact_bytes x y equal)
