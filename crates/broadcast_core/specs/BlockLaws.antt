-- Internal.
-- Lemmas, not definitions: the laws of the blocks, which their impls cite.
use Rattle.std.proofs.Common.{◌≡◌, ℕ, ◌+◌, ◌-◌, ◌^◌, ◌≤◌, Bool, true, false, cond, ltb, eqb, List, [], ◌∷◌, ◌++◌, length, take, drop, Option, Some, None, Result, Ok, Err, refl, sym, ap, subst, ◌∙◌, append_assoc, arith, ◌⊎◌, inl, inr, ⊎_elim}
use Rattle.std.proofs.lemmas.Bool.{ltb-true, ltb-false, eqb-true}
use Rattle.std.proofs.lemmas.List.{take_at, drop_at, length-append, length-drop}
use Rattle.byteorder.specs.Endian.{big_bytes, big_number}
use Rattle.byteorder.specs.Numbers.{big_number-reads_back, length-bytes_high_first}
use Rattle.broadcast_core.specs.declared.codec.CodecError.{CodecError}
use Rattle.broadcast_core.specs.declared.codec.CodecError.TheVariants.{EndOfBuffer, Invalid}
use Rattle.broadcast_core.specs.declared.codec.RangeCfg.{RangeCfg}
use Rattle.broadcast_core.specs.ByteList.{◌>>=◌, has_spelling, spelled, read_list}
use Rattle.broadcast_core.specs.ByteListLaws.{list_refusals, list_reads_back}
use Rattle.broadcast_core.specs.Codec.{IsRefusal, layout_of, GivesOrLacks}
use Rattle.broadcast_core.specs.CodecLaws.{bind_ok, bind_err, guard_ok, guard_err, ok_is}
use Rattle.broadcast_core.specs.Blocks.{number_encoding, read_number, array_encoding, read_array, byte_list_encoding, read_byte_list, joined, read_both, mapped, flat, behind, read_tagged, option_encoding, read_option}

-- the laws of a reading, and of a reading with its encoding
abbrev pub IsWithin : {M : Type 0} → (List ℕ → Result (M × ℕ) CodecError) → Type 0
IsWithin {M = M} reading = (bytes : List ℕ) (v : M) (n : ℕ) → reading bytes ≡ Ok (v, n)
    → n ≤ length bytes

abbrev pub RefusesBy : {M : Type 0} → (List ℕ → Result (M × ℕ) CodecError) → Type 0
RefusesBy reading = (bytes : List ℕ) (e : CodecError) → reading bytes ≡ Err e → IsRefusal e

abbrev pub ReadsBack : {M : Type 0} → (M → Option (List ℕ))
    → (List ℕ → Result (M × ℕ) CodecError) → Type 0
ReadsBack {M = M} encoding reading = (v w : M) (encoded rest : List ℕ) (n : ℕ)
    → encoding v ≡ Some encoded → reading (encoded ++ rest) ≡ Ok (w, n)
    → (w ≡ v) × (n ≡ length encoded)

-- what is chosen only if a test holds
some_is : {A : Type 0} (b : Bool) (x y : A) → cond b (Some x) None ≡ Some y → (b ≡ true) × (x ≡ y)
some_is true x y e = (refl, cc)
some_is false x y e = absurd cc

-- ---- numbers

pub number_within : (k : ℕ) → IsWithin (read_number k)
number_within k bytes v n h =
    let r = guard_ok (ltb (length bytes) k) EndOfBuffer (big_number k bytes, k) (v, n) h in
    let long : k ≤ length bytes = ltb-false _ _ r.0 in
    let used : k ≡ n = ap (λ (p : ℕ × ℕ). p.1) r.1 in
    omega arith

pub number_refusals : (k : ℕ) → RefusesBy (read_number k)
number_refusals k bytes e h =
    subst IsRefusal (guard_err (ltb (length bytes) k) EndOfBuffer e (big_number k bytes, k) h).1 tt

pub number_reads_back : (k : ℕ) → ReadsBack (number_encoding k) (read_number k)
number_reads_back k v w encoded rest n has read =
    let s = some_is (ltb v (256 ^ k)) (big_bytes k v) encoded has in
    let bytes = encoded ++ rest in
    let r = guard_ok (ltb (length bytes) k) EndOfBuffer (big_number k bytes, k) (w, n) read in (
      sym (ap (λ (p : ℕ × ℕ). p.0) r.1) ∙ ap (λ (e : List ℕ). big_number k (e ++ rest)) (sym s.1)
          ∙ big_number-reads_back k v rest (ltb-true _ _ s.0),
      sym (ap (λ (p : ℕ × ℕ). p.1) r.1) ∙ sym (length-bytes_high_first k v) ∙ ap length s.1,
    )

-- ---- arrays

pub array_within : (k : ℕ) → IsWithin (read_array k)
array_within k bytes v n h =
    let r = guard_ok (ltb (length bytes) k) EndOfBuffer (take k bytes, k) (v, n) h in
    let long : k ≤ length bytes = ltb-false _ _ r.0 in
    let used : k ≡ n = ap (λ (p : List ℕ × ℕ). p.1) r.1 in
    omega arith

pub array_refusals : (k : ℕ) → RefusesBy (read_array k)
array_refusals k bytes e h =
    subst IsRefusal (guard_err (ltb (length bytes) k) EndOfBuffer e (take k bytes, k) h).1 tt

pub array_reads_back : (k : ℕ) → ReadsBack (array_encoding k) (read_array k)
array_reads_back k v w encoded rest n has read =
    let s = some_is (eqb (length v) k) v encoded has in
    let long : length encoded ≡ k = ap length (sym s.1) ∙ eqb-true (length v) k s.0 in
    let bytes = encoded ++ rest in
    let r = guard_ok (ltb (length bytes) k) EndOfBuffer (take k bytes, k) (w, n) read in (
      sym (ap (λ (p : List ℕ × ℕ). p.0) r.1) ∙ take_at encoded rest k long ∙ sym s.1,
      sym (ap (λ (p : List ℕ × ℕ). p.1) r.1) ∙ sym long,
    )

-- ---- lists of bytes

abbrev pub with_used : List ℕ → List ℕ × List ℕ → Result (List ℕ × ℕ) CodecError
with_used bytes list = Ok (list.0, length bytes - length list.1)

pub byte_list_within : (range : RangeCfg) → IsWithin (read_byte_list range)
byte_list_within range bytes v n h =
    let r = bind_ok (read_list range bytes) (with_used bytes) (v, n) h in
    let is = ok_is (r.0.0, length bytes - length r.0.1) (v, n) r.2 in
    let used : length bytes - length r.0.1 ≡ n = ap (λ (p : List ℕ × ℕ). p.1) is in
    omega arith

pub byte_list_err : (range : RangeCfg) (bytes : List ℕ) (e : CodecError)
    → read_byte_list range bytes ≡ Err e → read_list range bytes ≡ Err e
byte_list_err range bytes e h =
    ⊎_elim
    (λ first. first)
    (λ (s : (list : List ℕ × List ℕ) × (read_list range bytes ≡ Ok list)
    × (with_used bytes list ≡ Err e)). absurd (let never = s.2 in cc))
    (bind_err (read_list range bytes) (with_used bytes) e h)

pub byte_list_refusals : (range : RangeCfg) → RefusesBy (read_byte_list range)
byte_list_refusals range bytes e h = list_refusals range bytes e (byte_list_err range bytes e h)

pub byte_list_reads_back : (range : RangeCfg) → ReadsBack byte_list_encoding (read_byte_list range)
byte_list_reads_back range v w encoded rest n has read =
    let s = some_is (has_spelling v) (spelled v) encoded has in
    let bytes = spelled v ++ rest in
    let here : read_byte_list range bytes ≡ Ok (w, n) =
    subst (λ (es : List ℕ). read_byte_list range (es ++ rest) ≡ Ok (w, n)) (sym s.1) read in
    let r = bind_ok (read_list range bytes) (with_used bytes) (w, n) here in
    let back = list_reads_back range v rest r.0.0 r.0.1 s.0 r.1 in
    let is = ok_is (r.0.0, length bytes - length r.0.1) (w, n) r.2 in
    let used : length bytes - length r.0.1 ≡ n = ap (λ (p : List ℕ × ℕ). p.1) is in (
      ap (λ (p : List ℕ × ℕ). p.0) (sym is) ∙ back.0,
      omega (arith, used, ap length back.1, length-append (spelled v) rest, ap length s.1),
    )

-- ---- two values

-- an encoding of two is that of each
pub joined_parts : (a b : Option (List ℕ)) (e : List ℕ) → joined a b ≡ Some e
    → (x : List ℕ) × (y : List ℕ) × (a ≡ Some x) × (b ≡ Some y) × (x ++ y ≡ e)
joined_parts (Some x) (Some y) e h =
    (x, y, refl, refl, (some_is (ltb (length x + length y) (2 ^ 64)) (x ++ y) e h).1)
joined_parts (Some x) None e h = absurd cc
joined_parts None b e h = absurd cc

module _ {A B : Type 0} (first : List ℕ → Result (A × ℕ) CodecError)
    (second : List ℕ → Result (B × ℕ) CodecError) where
  abbrev pair_of : A × ℕ → B × ℕ → Result ((A × B) × ℕ) CodecError
  pair_of a b = Ok ((a.0, b.0), a.1 + b.1)

  abbrev after : List ℕ → A × ℕ → Result ((A × B) × ℕ) CodecError
  after bytes a = second (drop a.1 bytes) >>= pair_of a

  -- what was read of each
  pub record Reads (bytes : List ℕ) (v : A × B) (n : ℕ) : Type 0 where
    pub a : A × ℕ
    pub b : B × ℕ
    pub reads_a : first bytes ≡ Ok a
    pub reads_b : second (drop a.1 bytes) ≡ Ok b
    pub values : (a.0, b.0) ≡ v
    pub used : a.1 + b.1 ≡ n

  pub reads_each : (bytes : List ℕ) (v : A × B) (n : ℕ) → read_both first second bytes ≡ Ok (v, n)
      → Reads bytes v n
  reads_each bytes v n h =
      let r = bind_ok (first bytes) (after bytes) (v, n) h in
      let s = bind_ok (second (drop r.0.1 bytes)) (pair_of r.0) (v, n) r.2 in
      let is = ok_is ((r.0.0, s.0.0), r.0.1 + s.0.1) (v, n) s.2 in
      record {
        a = r.0;
        b = s.0;
        reads_a = r.1;
        reads_b = s.1;
        values = ap (λ (p : (A × B) × ℕ). p.0) is;
        used = ap (λ (p : (A × B) × ℕ). p.1) is;
      }

  pub both_ok : (bytes : List ℕ) (a : A × ℕ) (b : B × ℕ) → first bytes ≡ Ok a
      → second (drop a.1 bytes) ≡ Ok b
      → read_both first second bytes ≡ Ok ((a.0, b.0), a.1 + b.1)
  both_ok bytes a b one two =
      ap (λ (r : Result (A × ℕ) CodecError). r >>= after bytes) one
      ∙ ap (λ (r : Result (B × ℕ) CodecError). r >>= pair_of a) two

  pub both_within : IsWithin first → IsWithin second → IsWithin (read_both first second)
  both_within in_first in_second bytes v n h =
      let r = reads_each bytes v n h in
      let one = in_first bytes r.a.0 r.a.1 r.reads_a in
      let two = in_second (drop r.a.1 bytes) r.b.0 r.b.1 r.reads_b in
      omega (arith, length-drop r.a.1 bytes, r.used)

  -- a refusal is that of the first, or of the second behind it
  pub both_err : (bytes : List ℕ) (e : CodecError) → read_both first second bytes ≡ Err e
      → (first bytes ≡ Err e)
      ⊎ ((a : A × ℕ) × (first bytes ≡ Ok a) × (second (drop a.1 bytes) ≡ Err e))
  both_err bytes e h =
      ⊎_elim
      (λ one. inl one)
      (λ (s : (a : A × ℕ) × (first bytes ≡ Ok a) × (after bytes a ≡ Err e)). ⊎_elim
      (λ two. inr (s.0, s.1, two))
      (λ (t : (b : B × ℕ) × (second (drop s.0.1 bytes) ≡ Ok b) × (pair_of s.0 b ≡ Err e)).
      absurd (let never = t.2 in cc))
      (bind_err (second (drop s.0.1 bytes)) (pair_of s.0) e s.2))
      (bind_err (first bytes) (after bytes) e h)

  pub both_refusals : RefusesBy first → RefusesBy second → RefusesBy (read_both first second)
  both_refusals by_first by_second bytes e h =
      ⊎_elim
      (λ one. by_first bytes e one)
      (λ (s : (a : A × ℕ) × (first bytes ≡ Ok a) × (second (drop a.1 bytes) ≡ Err e)).
      by_second (drop s.0.1 bytes) e s.2)
      (both_err bytes e h)

  pub both_reads_back : (enc_a : A → Option (List ℕ)) (enc_b : B → Option (List ℕ))
      → ReadsBack enc_a first → ReadsBack enc_b second
      → ReadsBack (λ (v : A × B). joined (enc_a v.0) (enc_b v.1)) (read_both first second)
  both_reads_back enc_a enc_b back_a back_b v w encoded rest n has read =
      let p = joined_parts (enc_a v.0) (enc_b v.1) encoded has in
      let x = p.0 in
      let y = p.1 in
      let bytes = encoded ++ rest in
      let split : bytes ≡ x ++ (y ++ rest) =
      ap (λ (e : List ℕ). e ++ rest) (sym p.4) ∙ append_assoc x y rest in
      let r = reads_each bytes w n read in
      let one = back_a v.0 r.a.0 x (y ++ rest) r.a.1 p.2
      (subst (λ (bs : List ℕ). first bs ≡ Ok r.a) split r.reads_a) in
      let left : drop r.a.1 bytes ≡ y ++ rest =
      ap (drop r.a.1) split ∙ drop_at x (y ++ rest) r.a.1 (sym one.1) in
      let two = back_b v.1 r.b.0 y rest r.b.1 p.3
      (subst (λ (bs : List ℕ). second bs ≡ Ok r.b) left r.reads_b) in (
        sym r.values ∙ (λ i. (one.0 i, two.0 i)),
        omega (arith, r.used, one.1, two.1, length-append x y, ap length p.4),
      )

-- ---- a value as another type

module _ {A B : Type 0} (f : A → B) where
  pub mapped_ok : (r : Result (A × ℕ) CodecError) (y : B) (n : ℕ) → mapped f r ≡ Ok (y, n)
      → (x : A) × (r ≡ Ok (x, n)) × (f x ≡ y)
  mapped_ok (Ok x) y n h =
      let is = ok_is (f x.0, x.1) (y, n) h in
      let used : x.1 ≡ n = ap (λ (p : B × ℕ). p.1) is in
      (x.0, ap (λ (k : ℕ). Ok (x.0, k)) used, ap (λ (p : B × ℕ). p.0) is)
  mapped_ok (Err e) y n h = absurd cc

  pub mapped_err : (r : Result (A × ℕ) CodecError) (e : CodecError) → mapped f r ≡ Err e → r ≡ Err e
  mapped_err (Ok x) e h = absurd cc
  mapped_err (Err d) e h = cc

  pub mapped_within : (reading : List ℕ → Result (A × ℕ) CodecError) → IsWithin reading
      → IsWithin (λ bytes. mapped f (reading bytes))
  mapped_within reading within bytes v n h =
      let r = mapped_ok (reading bytes) v n h in within bytes r.0 n r.1

  pub mapped_refusals : (reading : List ℕ → Result (A × ℕ) CodecError) → RefusesBy reading
      → RefusesBy (λ bytes. mapped f (reading bytes))
  mapped_refusals reading refuses bytes e h = refuses bytes e (mapped_err (reading bytes) e h)

  pub mapped_reads_back : (g : B → A) → ((m : B) → f (g m) ≡ m) → (encoding : A → Option (List ℕ))
      (reading : List ℕ → Result (A × ℕ) CodecError) → ReadsBack encoding reading
      → ReadsBack (λ m. encoding (g m)) (λ bytes. mapped f (reading bytes))
  mapped_reads_back g same encoding reading back v w encoded rest n has read =
      let r = mapped_ok (reading (encoded ++ rest)) w n read in
      let was = back (g v) r.0 encoded rest n has r.1 in
      (sym r.2 ∙ ap f was.0 ∙ same v, was.1)

-- ---- three values

pub three_read_back : {A B C : Type 0} (first : List ℕ → Result (A × ℕ) CodecError)
    (second : List ℕ → Result (B × ℕ) CodecError) (third : List ℕ → Result (C × ℕ) CodecError)
    (enc_a : A → Option (List ℕ)) (enc_b : B → Option (List ℕ)) (enc_c : C → Option (List ℕ))
    → ReadsBack enc_a first → ReadsBack enc_b second → ReadsBack enc_c third
    → ReadsBack (λ (v : A × B × C). joined (enc_a v.0) (joined (enc_b v.1) (enc_c v.2)))
    (λ bytes. mapped flat (read_both first (read_both second third) bytes))
three_read_back {A = A} {B = B} {C = C} first second third enc_a enc_b enc_c back_a back_b back_c =
    let nested : A × B × C → A × (B × C) = λ v. (v.0, (v.1, v.2)) in
    let enc_two : B × C → Option (List ℕ) = λ v. joined (enc_b v.0) (enc_c v.1) in
    let back_two : ReadsBack enc_two (read_both second third) =
    both_reads_back second third enc_b enc_c back_b back_c in
    mapped_reads_back flat nested (λ v. refl)
    (λ (v : A × (B × C)). joined (enc_a v.0) (enc_two v.1))
    (read_both first (read_both second third))
    (both_reads_back first (read_both second third) enc_a enc_two back_a back_two)

-- ---- a value behind a tag

module _ {A : Type 0} where
  pub behind_ok : (r : Result (A × ℕ) CodecError) (v : A) (n : ℕ) → behind r ≡ Ok (v, n)
      → (m : ℕ) × (r ≡ Ok (v, m)) × (1 + m ≡ n)
  behind_ok (Ok r) v n h =
      let is = ok_is (r.0, 1 + r.1) (v, n) h in
      (r.1, ap (λ (x : A). Ok (x, r.1)) (ap (λ (p : A × ℕ). p.0) is), ap (λ (p : A × ℕ). p.1) is)
  behind_ok (Err e) v n h = absurd cc

  behind_err : (r : Result (A × ℕ) CodecError) (e : CodecError) → behind r ≡ Err e → r ≡ Err e
  behind_err (Ok r) e h = absurd cc
  behind_err (Err d) e h = cc

  pub tagged_within : (reading : ℕ → List ℕ → Result (A × ℕ) CodecError)
      → ((tag : ℕ) → IsWithin (reading tag)) → IsWithin (read_tagged reading)
  tagged_within reading within [] v n h = absurd cc
  tagged_within reading within (tag ∷ bytes) v n h =
      let r = behind_ok (reading tag bytes) v n h in
      let fits = within tag bytes v r.0 r.1 in
      omega (arith, r.2)

  pub tagged_refusals : (reading : ℕ → List ℕ → Result (A × ℕ) CodecError)
      → ((tag : ℕ) → RefusesBy (reading tag)) → RefusesBy (read_tagged reading)
  tagged_refusals reading refuses [] e h = let same : EndOfBuffer ≡ e = cc in subst IsRefusal same tt
  tagged_refusals reading refuses (tag ∷ bytes) e h =
      refuses tag bytes e (behind_err (reading tag bytes) e h)

-- ---- options

abbrev none_of : (A : Type 0) → Option A
none_of A = None

module _ {A : Type 0} (reading : List ℕ → Result (A × ℕ) CodecError) where
  option_at_within : (zero_tag one_tag : Bool) (tag : ℕ) (bytes : List ℕ) (v : Option A) (n : ℕ)
      → IsWithin reading
      → cond zero_tag (Ok (none_of A, 0)) (cond one_tag (mapped Some (reading bytes)) (Err (Invalid tag)))
      ≡ Ok (v, n) → n ≤ length bytes
  option_at_within true b tag bytes v n within h =
      let is : (none_of A, 0) ≡ (v, n) = ok_is (none_of A, 0) (v, n) h in
      let used : 0 ≡ n = ap (λ (p : Option A × ℕ). p.1) is in omega arith
  option_at_within false true tag bytes v n within h = mapped_within Some reading within bytes v n h
  option_at_within false false tag bytes v n within h = absurd cc

  pub option_within : IsWithin reading → IsWithin (read_tagged (read_option reading))
  option_within within = tagged_within (read_option reading)
      (λ tag bytes v n h. option_at_within (eqb tag 0) (eqb tag 1) tag bytes v n within h)

  option_at_refusals : (zero_tag one_tag : Bool) (tag : ℕ) (bytes : List ℕ) (e : CodecError)
      → RefusesBy reading
      → cond zero_tag (Ok (none_of A, 0))
      (cond one_tag (mapped Some (reading bytes)) (Err (Invalid tag))) ≡ Err e → IsRefusal e
  option_at_refusals true b tag bytes e refuses h = absurd cc
  option_at_refusals false true tag bytes e refuses h = mapped_refusals Some reading refuses bytes e h
  option_at_refusals false false tag bytes e refuses h =
      let same : Invalid tag ≡ e = cc in subst IsRefusal same tt

  pub option_refusals : RefusesBy reading → RefusesBy (read_tagged (read_option reading))
  option_refusals refuses = tagged_refusals (read_option reading)
      (λ tag bytes e h. option_at_refusals (eqb tag 0) (eqb tag 1) tag bytes e refuses h)

  pub option_reads_back : (encoding : A → Option (List ℕ)) → ReadsBack encoding reading
      → ReadsBack (option_encoding encoding) (read_tagged (read_option reading))
  option_reads_back encoding back None w encoded rest n has read =
      let spelled : 0 ∷ [] ≡ encoded = cc in
      let here = subst (λ (es : List ℕ). read_tagged (read_option reading) (es ++ rest) ≡ Ok (w, n))
      (sym spelled) read in
      let is : (none_of A, 1) ≡ (w, n) = ok_is _ _ here in (
        sym (ap (λ (p : Option A × ℕ). p.0) is),
        sym (ap (λ (p : Option A × ℕ). p.1) is) ∙ ap length spelled,
      )
  option_reads_back encoding back (Some v) w encoded rest n has read =
      let p = joined_parts (Some (1 ∷ [])) (encoding v) encoded has in
      let tag : 1 ∷ [] ≡ p.0 = cc p.2 in
      let y = p.1 in
      let whole : 1 ∷ y ≡ encoded = ap (λ (x : List ℕ). x ++ y) tag ∙ p.4 in
      let here = subst (λ (es : List ℕ). read_tagged (read_option reading) (es ++ rest) ≡ Ok (w, n))
      (sym whole) read in
      let r = behind_ok (mapped Some (reading (y ++ rest))) w n here in
      let x = mapped_ok Some (reading (y ++ rest)) w r.0 r.1 in
      let was = back v x.0 y rest r.0 p.3 x.1 in (
        sym x.2 ∙ ap Some was.0,
        omega (arith, r.2, was.1, ap length whole),
      )

-- ---- what the methods return

-- the number of bytes of a value is at most that of all
pub layout_fits : {A : Type 0} (r : Result (A × ℕ) CodecError) (n most : ℕ)
    → ((v : A) (k : ℕ) → r ≡ Ok (v, k) → k ≤ most) → Ok n ≡ layout_of r → n ≤ most
layout_fits (Ok r) n most within h =
    let used : n ≡ r.1 = cc in
    let fits = within r.0 r.1 refl in
    omega arith
layout_fits (Err e) n most within h = absurd cc

pub gives_fits : {A : Type 0} (r : Result (A × ℕ) CodecError) (v : A) (n most : ℕ)
    → ((w : A) (k : ℕ) → r ≡ Ok (w, k) → k ≤ most) → GivesOrLacks (Ok (v, n)) r → n ≤ most
gives_fits r v n most within (inl same) = within v n (sym same)
gives_fits r v n most within (inr lacks) = absurd (let never = lacks.0 in cc)
