-- Internal.
-- Lemmas, not definitions: for the laws of a message type that reads its lists one after the other.
use Rattle.std.proofs.Common.{◌≡◌, ℕ, true, List, ◌++◌, length, Ok, Err, sym, ap, ◌∙◌}
use Rattle.std.proofs.lemmas.Bool.{ltb-true}
use Rattle.broadcast_core.specs.declared.codec.CodecError.{CodecError}
use Rattle.broadcast_core.specs.declared.codec.CodecError.TheVariants.{EndOfBuffer, InvalidLength, Invalid, ExtraData, Unencodable, Memory}
use Rattle.broadcast_core.specs.declared.codec.RangeCfg.{RangeCfg}
use Rattle.broadcast_core.specs.ByteList.{NoneStands, contains, has_spelling, spelled, read_list}
use Rattle.broadcast_core.specs.Codec.{IsRefusal}
use Rattle.broadcast_core.specs.CodecLaws.{chosen_ok, list_again, list_refused, ok_is}

refusal_of : (range : RangeCfg) (bytes : List ℕ) (e : CodecError)
    → NoneStands range bytes e → IsRefusal e
refusal_of range bytes EndOfBuffer why = tt
refusal_of range bytes (InvalidLength n) why = tt
refusal_of range bytes (Invalid reason) why = absurd why
refusal_of range bytes (ExtraData n) why = absurd why
refusal_of range bytes Unencodable why = absurd why
refusal_of range bytes Memory why = absurd why

-- reading a list fails only with the errors that `refusals` allows
pub list_refusals : (range : RangeCfg) (bytes : List ℕ) (e : CodecError)
    → read_list range bytes ≡ Err e → IsRefusal e
list_refusals range bytes e h = refusal_of range bytes e (list_refused range bytes e h)

-- what is read from the encoding of a list, followed by any bytes, is the list and those bytes
pub list_reads_back : (range : RangeCfg) (xs rest ys after : List ℕ) → has_spelling xs ≡ true
    → read_list range (spelled xs ++ rest) ≡ Ok (ys, after) → (ys ≡ xs) × (after ≡ rest)
list_reads_back range xs rest ys after short read =
    let again = sym (list_again range xs rest (ltb-true _ _ short)) ∙ read in
    let out = InvalidLength (length xs) in
    let chosen = chosen_ok (contains range (length xs)) out (Ok (xs, rest)) (ys, after) again in
    let is = ok_is (xs, rest) (ys, after) chosen.1 in
    (ap (λ (p : List ℕ × List ℕ). p.0) (sym is), ap (λ (p : List ℕ × List ℕ). p.1) (sym is))
