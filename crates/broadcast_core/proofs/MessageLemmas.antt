-- What is read is spelled so, and what is spelled so is read.
use Rattle.std.proofs.Common.{◌≡◌, ℕ, ◌+◌, ◌-◌, ◌<◌, ◌≤◌, cond, ltb, List, ◌++◌, length, get_or, take, drop, Result, Ok, Err, refl, sym, ap, subst, ◌∙◌, append_assoc, arith, ◌⊎◌, inl, inr, ⊎_elim}
use Rattle.std.specs.Prelude.{IfOk, IfErr}
use Rattle.std.proofs.lemmas.Bool.{cases_lt, ltb-false, ltb-true, lt-ltb}
use Rattle.std.proofs.lemmas.List.{drop_at, take-append-drop, length-append, length-take, get_or-drop, get_or-take, get_or_past}
use Rattle.std.proofs.lemmas.Nat.{be_bytes_4}
use Rattle.byteorder.specs.Endian.{big_bytes, big_number}
use Rattle.byteorder.specs.Numbers.{big_from-lt}
use Rattle.broadcast_core.specs.declared.codec.CodecError.{CodecError}
use Rattle.broadcast_core.specs.declared.codec.CodecError.TheVariants.{EndOfBuffer, InvalidLength}
use Rattle.broadcast_core.specs.declared.codec.RangeCfg.{RangeCfg}
use Rattle.broadcast_core.specs.ByteList.{◌>>=◌, contains, spelled, Stands, read_length, read_bytes, read_list}
use Rattle.broadcast_core.specs.Codec.{GivesOrLacks, layout_of}
use Rattle.broadcast_core.specs.Blocks.{mapped, read_byte_list}
use Rattle.broadcast_core.specs.BlockLaws.{with_used, byte_list_err, reads_each, both_ok, both_err, mapped_ok, mapped_err}
use Rattle.broadcast_core.specs.TestMessage.{Parts, Begins, IsRefused, parts_of, read_lists, read_message}
use Rattle.broadcast_core.specs.CodecLaws.{bind_ok, ok_is, guard_ok, chosen_ok, list_refused, list_again}

abbrev pub IsBytes : List ℕ → Type 0
IsBytes bytes = (i : ℕ) → get_or bytes i 0 < 256

IsBytes-drop : (n : ℕ) (bytes : List ℕ) → IsBytes bytes → IsBytes (drop n bytes)
IsBytes-drop n bytes h i = rw get_or-drop (h (n + i))

IsBytes-take : (n : ℕ) (bytes : List ℕ) → IsBytes bytes → IsBytes (take n bytes)
IsBytes-take n bytes h i =
    elim (cases_lt i n) [
      | inl lt ↦ rw (get_or-take n bytes i 0 lt) (h i)
      | inr le ↦ rw (get_or_past (take n bytes) i 0 (omega (arith, length-take n bytes))) (omega arith)
    ]

-- four bytes spell the number that they make
big_bytes-big_number : (bytes : List ℕ) → IsBytes bytes → 4 ≤ length bytes → big_bytes 4 (big_number 4 bytes) ≡ take 4 bytes
big_bytes-big_number bytes fits long =
    let at : (i : ℕ) → i < 4 → get_or (take 4 bytes) i 0 ≡ get_or bytes i 0 = λ i lt. get_or-take 4 bytes i 0 lt in
    be_bytes_4 (take 4 bytes) (big_number 4 bytes) (omega (arith, length-take 4 bytes)) (IsBytes-take 4 bytes fits) (omega (arith, at 0 (omega arith), at 1 (omega arith), at 2 (omega arith), at 3 (omega arith)))

-- what a reader took from the front
record Takes (range : RangeCfg) (bytes list rest : List ℕ) : Type 0 where
  stands : Stands range bytes list rest
  rest_fits : IsBytes rest

list_takes : (range : RangeCfg) (bytes list rest : List ℕ) → IsBytes bytes → read_list range bytes ≡ Ok (list, rest) → Takes range bytes list rest
unfolding read_list
list_takes range bytes list rest fits e =
    let a = bind_ok (read_length bytes) (λ n. cond (contains range n.0) (read_bytes n.0 n.1) (Err (InvalidLength n.0))) (list, rest) e in
    let front = guard_ok (ltb (length bytes) 4) EndOfBuffer (big_number 4 bytes, drop 4 bytes) a.0 a.1 in
    let long : 4 ≤ length bytes = ltb-false _ _ front.0 in
    let inside = chosen_ok (contains range a.0.0) (InvalidLength a.0.0) (read_bytes a.0.0 a.0.1) (list, rest) a.2 in
    let body = guard_ok (ltb (length a.0.1) a.0.0) EndOfBuffer (take a.0.0 a.0.1, drop a.0.0 a.0.1) (list, rest) inside.1 in
    let n-is : big_number 4 bytes ≡ a.0.0 = ap (λ (p : ℕ × List ℕ). p.0) front.1 in
    let after-is : drop 4 bytes ≡ a.0.1 = ap (λ (p : ℕ × List ℕ). p.1) front.1 in
    let list-is : take a.0.0 a.0.1 ≡ list = ap (λ (p : List ℕ × List ℕ). p.0) body.1 in
    let rest-is : drop a.0.0 a.0.1 ≡ rest = ap (λ (p : List ℕ × List ℕ). p.1) body.1 in
    let enough : a.0.0 ≤ length a.0.1 = ltb-false _ _ body.0 in
    let len : length list ≡ a.0.0 = sym (ap length list-is) ∙ omega (arith, length-take a.0.0 a.0.1) in
    let head : big_bytes 4 (length list) ≡ take 4 bytes = ap (big_bytes 4) (len ∙ sym n-is) ∙ big_bytes-big_number bytes fits long in
    let tail : list ++ rest ≡ drop 4 bytes = (λ i. sym list-is i ++ sym rest-is i) ∙ take-append-drop a.0.0 a.0.1 ∙ sym after-is in
    record {
      stands = record {
        parts = sym (append_assoc (big_bytes 4 (length list)) list rest ∙ (λ i. head i ++ tail i) ∙ take-append-drop 4 bytes);
        short = lt-ltb _ _ (omega (arith, len, n-is, big_from-lt 0 4 bytes fits));
        ranged = ap (contains range) len ∙ inside.0;
      };
      rest_fits = subst IsBytes (ap (drop a.0.0) after-is ∙ rest-is) (IsBytes-drop a.0.0 (drop 4 bytes) (IsBytes-drop 4 bytes fits));
    }

-- a list that stands in front: how many bytes it takes, what follows, and what is read
module _ {range : RangeCfg} {bytes list rest : List ℕ} (stands : Stands range bytes list rest) where
  used_by : length (spelled list) + length rest ≡ length bytes
  used_by = sym (length-append (spelled list) rest) ∙ ap length (sym stands.parts)

  left_by : drop (length (spelled list)) bytes ≡ rest
  left_by = ap (drop (length (spelled list))) stands.parts ∙ drop_at (spelled list) rest (length (spelled list)) refl

  block_again : read_byte_list range bytes ≡ Ok (list, length (spelled list))
  block_again =
      let read : read_list range bytes ≡ Ok (list, rest) = ap (read_list range) stands.parts ∙ list_again range list rest (ltb-true _ _ stands.short) ∙ rw stands.ranged refl in
      let used : length bytes - length rest ≡ length (spelled list) = omega (arith, used_by) in
      ap (λ (r : Result (List ℕ × List ℕ) CodecError). r >>= with_used bytes) read ∙ ap (λ (n : ℕ). Ok (list, n)) used

-- what a block took from the front
record Took (range : RangeCfg) (bytes list : List ℕ) (n : ℕ) : Type 0 where
  rest : List ℕ
  takes : Takes range bytes list rest
  used : length (spelled list) ≡ n
  left : drop n bytes ≡ rest

block_took : (range : RangeCfg) (bytes : List ℕ) (r : List ℕ × ℕ) → IsBytes bytes → read_byte_list range bytes ≡ Ok r → Took range bytes r.0 r.1
block_took range bytes r fits h =
    let a = bind_ok (read_list range bytes) (with_used bytes) r h in
    let takes = list_takes range bytes a.0.0 a.0.1 fits a.1 in
    let used : length (spelled a.0.0) ≡ length bytes - length a.0.1 = omega (arith, used_by takes.stands) in
    subst (λ (r : List ℕ × ℕ). Took range bytes r.0 r.1) (ap (λ (n : ℕ). (a.0.0, n)) used ∙ ok_is _ r a.2)
    (record { rest = a.0.1; takes = takes; used = refl; left = left_by takes.stands })

-- what is read is spelled so, each byte of it
message_found : (range : RangeCfg) (bytes : List ℕ) (m : Parts) (n : ℕ) → IsBytes bytes → read_message range bytes ≡ Ok (m, n) → Begins range bytes m n
unfolding read_message
message_found range bytes m n fits e =
    let lists = mapped_ok parts_of (read_lists range bytes) m n e in
    let r = reads_each (read_byte_list range) (read_byte_list range) bytes lists.0 n lists.1 in
    let one = block_took range bytes r.a fits r.reads_a in
    let two = block_took range one.rest r.b one.takes.rest_fits (ap (read_byte_list range) (sym one.left) ∙ r.reads_b) in
    subst (λ (w : Parts). Begins range bytes w n) (ap parts_of r.values ∙ lists.2)
    (record {
      between = one.rest;
      rest = two.rest;
      commitment = one.takes.stands;
      content = two.takes.stands;
      used = omega (arith, used_by one.takes.stands, used_by two.takes.stands, one.used, two.used, r.used);
    })

-- what is spelled so is read
message_only : (range : RangeCfg) (bytes : List ℕ) (m : Parts) (n : ℕ) → Begins range bytes m n → read_message range bytes ≡ Ok (m, n)
unfolding read_message
message_only range bytes m n begins =
    let second = ap (read_byte_list range) (left_by begins.commitment) ∙ block_again begins.content in
    let used : length (spelled m.commitment) + length (spelled m.content) ≡ n = omega (arith, used_by begins.commitment, used_by begins.content, begins.used) in
    ap (mapped parts_of) (both_ok (read_byte_list range) (read_byte_list range) bytes (m.commitment, length (spelled m.commitment)) (m.content, length (spelled m.content)) (block_again begins.commitment) second)
    ∙ ap (λ (k : ℕ). Ok (m, k)) used

-- ---- what is refused is so for what stands there

-- why a message is not read
message_refused : (range : RangeCfg) (bytes : List ℕ) (e : CodecError) → IsBytes bytes → read_message range bytes ≡ Err e → IsRefused range bytes e
unfolding read_message
message_refused range bytes e fits h =
    ⊎_elim
    (λ first. record { remains = bytes; behind = inl refl; why = list_refused range bytes e (byte_list_err range bytes e first) })
    (λ (s : (a : List ℕ × ℕ) × (read_byte_list range bytes ≡ Ok a) × (read_byte_list range (drop a.1 bytes) ≡ Err e)).
    let took = block_took range bytes s.0 fits s.1 in
    let second = ap (read_byte_list range) (sym took.left) ∙ s.2 in
    record { remains = took.rest; behind = inr (s.0.0, took.takes.stands); why = list_refused range took.rest e (byte_list_err range took.rest e second) })
    (both_err (read_byte_list range) (read_byte_list range) bytes e (mapped_err parts_of (read_lists range bytes) e h))

-- ---- the same of what the methods answer

layout_mapped : (r : Result ((List ℕ × List ℕ) × ℕ) CodecError) → layout_of r ≡ layout_of (mapped parts_of r)
layout_mapped (Ok r) = refl
layout_mapped (Err e) = refl

-- the layout of a message is that of its two lists
pub layout_is : (range : RangeCfg) (bytes : List ℕ) → layout_of (read_lists range bytes) ≡ layout_of (read_message range bytes)
unfolding read_message
layout_is range bytes = layout_mapped (read_lists range bytes)

pub layout_found : (range : RangeCfg) (bytes : List ℕ) (r : Result ℕ CodecError) (read : Result (Parts × ℕ) CodecError) → IsBytes bytes → read_message range bytes ≡ read → r ≡ layout_of read → IfOk r (λ n. (m : Parts) × Begins range bytes m n)
layout_found range bytes (Ok n) (Ok x) fits e h =
    let same : x.1 ≡ n = cc in (x.0, message_found range bytes x.0 n fits (e ∙ ap (λ (k : ℕ). Ok (x.0, k)) same))
layout_found range bytes (Ok n) (Err d) fits e h = absurd cc
layout_found range bytes (Err d) read fits e h = tt

pub layout_only : (range : RangeCfg) (bytes : List ℕ) (r : Result ℕ CodecError) → r ≡ layout_of (read_message range bytes) → (m : Parts) (n : ℕ) → Begins range bytes m n → r ≡ Ok n
layout_only range bytes r h m n begins = h ∙ ap layout_of (message_only range bytes m n begins)

pub layout_refused : (range : RangeCfg) (bytes : List ℕ) (r : Result ℕ CodecError) (read : Result (Parts × ℕ) CodecError) → IsBytes bytes → read_message range bytes ≡ read → r ≡ layout_of read → IfErr r (λ e. IsRefused range bytes e)
layout_refused range bytes (Ok n) read fits e h = tt
layout_refused range bytes (Err d) (Ok x) fits e h = absurd cc
layout_refused range bytes (Err d) (Err why) fits e h = let same : d ≡ why = cc in message_refused range bytes d fits (e ∙ ap (λ x. Err x) (sym same))

pub read_found : (range : RangeCfg) (bytes : List ℕ) (r : Result (Parts × ℕ) CodecError) → IsBytes bytes → GivesOrLacks r (read_message range bytes) → IfOk r (λ x. Begins range bytes x.0 x.1)
read_found range bytes (Ok x) fits (inl e) = message_found range bytes x.0 x.1 fits (sym e)
read_found range bytes (Ok x) fits (inr lacks) = absurd (let no = lacks.0 in cc)
read_found range bytes (Err d) fits given = tt

pub read_only : (range : RangeCfg) (bytes : List ℕ) (r : Result (Parts × ℕ) CodecError) → GivesOrLacks r (read_message range bytes) → (m : Parts) (n : ℕ) → Begins range bytes m n → GivesOrLacks r (Ok (m, n))
read_only range bytes r given m n begins = subst (GivesOrLacks r) (message_only range bytes m n begins) given

pub read_refused : (range : RangeCfg) (bytes : List ℕ) (r : Result (Parts × ℕ) CodecError) → IsBytes bytes → GivesOrLacks r (read_message range bytes) → IfErr r (λ e. (e ≡ CodecError.Memory) ⊎ IsRefused range bytes e)
read_refused range bytes (Ok x) fits given = tt
read_refused range bytes (Err d) fits (inl e) = inr (message_refused range bytes d fits (sym e))
read_refused range bytes (Err d) fits (inr lacks) = inl (let what = lacks.0 in cc)
