-- Believed.
-- How one of two blocks, and a tag, are written and read.
use Rattle.std.specs.Prelude.{ℕ, ◌==◌, if◌then◌else◌, List, [], ◌∷◌, Option, Some, Result, Ok, Err}
use Rattle.broadcast_core.specs.Blocks.{joined, mapped}
use Rattle.broadcast_core.specs.declared.codec.CodecError.{CodecError}
use Rattle.broadcast_core.specs.declared.codec.CodecError.TheVariants.{Invalid}
use Rattle.broadcast_core.specs.declared.codec.blocks.tagged.OneOf.{OneOf}
use Rattle.broadcast_core.specs.declared.codec.blocks.tagged.OneOf.TheVariants.{First, Second}

-- one of two: the tag 0 and the first, or the tag 1 and the second
abbrev pub one_of_encoding : {A B : Type 0} → (A → Option (List ℕ)) → (B → Option (List ℕ))
    → OneOf A B → Option (List ℕ)
one_of_encoding first second (First v) = joined (Some (0 ∷ [])) (first v)
one_of_encoding first second (Second v) = joined (Some (1 ∷ [])) (second v)

abbrev pub read_one_of : {A B : Type 0} → (List ℕ → Result (A × ℕ) CodecError)
    → (List ℕ → Result (B × ℕ) CodecError) → ℕ → List ℕ → Result (OneOf A B × ℕ) CodecError
read_one_of first second tag bytes =
    if tag == 0 then mapped First (first bytes) else
    if tag == 1 then mapped Second (second bytes) else Err (Invalid tag)

-- a tag: its byte
abbrev pub tag_encoding : ℕ → Option (List ℕ)
tag_encoding n = Some (n ∷ [])

abbrev pub read_tag : ℕ → ℕ → List ℕ → Result (Unit {0} × ℕ) CodecError
read_tag n tag bytes = if tag == n then Ok (tt, 0) else Err (Invalid tag)
