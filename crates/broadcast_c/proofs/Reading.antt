-- What a packet is read as, by the list that is read from its front.
use Rattle.std.proofs.Common.{◌≡◌, ℕ, ◌+◌, ◌-◌, ◌≤◌, ◌<◌, true, false, cond, ltb, eqb, List, length, take, drop, Result, Ok, Err, refl, sym, ap, ◌∙◌, arith}
use Rattle.std.proofs.lemmas.Bool.{ltb-false, eqb-true, eq-eqb}
use Rattle.std.proofs.lemmas.List.{length-take, length-drop}
use Rattle.byteorder.specs.Endian.{big_number}
use Rattle.broadcast_core.specs.declared.codec.CodecError.{CodecError}
use Rattle.broadcast_core.specs.declared.codec.CodecError.TheVariants.{EndOfBuffer, InvalidLength, ExtraData}
use Rattle.broadcast_core.specs.declared.codec.RangeCfg.{RangeCfg}
use Rattle.broadcast_core.specs.ByteList.{◌>>=◌, contains, read_length, read_bytes, read_list}
use Rattle.broadcast_core.specs.Blocks.{read_byte_list}
use Rattle.broadcast_core.specs.Setting.{all_taken, whole}
use Rattle.broadcast_core.specs.CodecLaws.{bind_ok, guard_ok, chosen_ok}

differ : (a b : ℕ) → (a ≡ b → ⊥) → eqb a b ≡ false
differ a b h =
    (elim (eqb a b) as (λ t. eqb a b ≡ t → t ≡ false) [
      | true ↦ λ e. absurd (h (eqb-true a b e))
      | false ↦ λ e. refl
    ]) refl

-- the list that is read, as far as it fills all bytes
abbrev filled : List ℕ → Result (List ℕ × List ℕ) CodecError → Result (List ℕ) CodecError
filled bytes r = all_taken (length bytes) (r >>= λ list. Ok (list.0, length bytes - length list.1))

module _ (range : RangeCfg) (bytes : List ℕ) where
  pub is_err : (e : CodecError) → read_list range bytes ≡ Err e
      → whole (read_byte_list range) bytes ≡ Err e
  is_err e h = ap (filled bytes) h

  module _ (list rest : List ℕ) (h : read_list range bytes ≡ Ok (list, rest)) where
    -- the list stands behind four bytes, and the rest behind it
    pub record Front : Type 0 where
      pub message : take (length list) (drop 4 bytes) ≡ list
      pub lengths : 4 + length list + length rest ≡ length bytes

    pub front : Front
    unfolding read_list
    front =
        let a = bind_ok (read_length bytes) (λ n. cond (contains range n.0) (read_bytes n.0 n.1) (Err (InvalidLength n.0))) (list, rest) h in
        let head = guard_ok (ltb (length bytes) 4) EndOfBuffer (big_number 4 bytes, drop 4 bytes) a.0 a.1 in
        let long : 4 ≤ length bytes = ltb-false _ _ head.0 in
        let inside = chosen_ok (contains range a.0.0) (InvalidLength a.0.0) (read_bytes a.0.0 a.0.1) (list, rest) a.2 in
        let body = guard_ok (ltb (length a.0.1) a.0.0) EndOfBuffer (take a.0.0 a.0.1, drop a.0.0 a.0.1) (list, rest) inside.1 in
        let after : drop 4 bytes ≡ a.0.1 = ap (λ (p : ℕ × List ℕ). p.1) head.1 in
        let list-is : take a.0.0 a.0.1 ≡ list = ap (λ (p : List ℕ × List ℕ). p.0) body.1 in
        let rest-is : drop a.0.0 a.0.1 ≡ rest = ap (λ (p : List ℕ × List ℕ). p.1) body.1 in
        let enough : a.0.0 ≤ length a.0.1 = ltb-false _ _ body.0 in
        let len : length list ≡ a.0.0 = sym (ap length list-is) ∙ omega (arith, length-take a.0.0 a.0.1) in
        record {
          message = (λ i. take (len i) (after i)) ∙ list-is;
          lengths = omega (arith, len, enough, long, ap length after, length-drop 4 bytes, ap length rest-is, length-drop a.0.0 a.0.1);
        }

    pub is_whole : length rest ≡ 0 → whole (read_byte_list range) bytes ≡ Ok list
    is_whole none =
        let all : eqb (length bytes - length rest) (length bytes) ≡ true = eq-eqb _ _ (omega (arith, none)) in
        ap (filled bytes) h ∙ rw all refl

    pub is_followed : 0 < length rest → whole (read_byte_list range) bytes ≡ Err (ExtraData (length rest))
    is_followed some =
        let lengths = front.lengths in
        let few : eqb (length bytes - length rest) (length bytes) ≡ false = differ _ _ (λ e. omega (arith, e, lengths, some)) in
        let left : length bytes - (length bytes - length rest) ≡ length rest = omega (arith, lengths) in
        ap (filled bytes) h ∙ rw few (ap (λ (n : ℕ). Err (ExtraData n)) left)
