-- Internal.
-- Lemmas, not definitions: the steps of reading, and how a list of bytes is read. They stand here
-- since laws of impls rest on them, which may name this folder alone.
use Rattle.std.proofs.Common.{◌≡◌, ℕ, ◌^◌, ◌<◌, ◌≤◌, Bool, true, false, cond, ltb, List, ◌++◌, length, take, drop, Result, Ok, Err, refl, sym, ap, subst, ◌∙◌, append_assoc, arith, ◌⊎◌, inl, inr, ⊎_elim}
use Rattle.std.proofs.lemmas.Bool.{ltb-true, ltb-false, le-ltb}
use Rattle.std.proofs.lemmas.List.{take_at, drop_at, length-append, length-drop}
use Rattle.byteorder.specs.Endian.{big_bytes, big_number}
use Rattle.byteorder.specs.Numbers.{big_number-reads_back, length-bytes_high_first}
use Rattle.broadcast_core.specs.declared.codec.CodecError.{CodecError}
use Rattle.broadcast_core.specs.declared.codec.CodecError.TheVariants.{EndOfBuffer, InvalidLength}
use Rattle.broadcast_core.specs.declared.codec.RangeCfg.{RangeCfg}
use Rattle.broadcast_core.specs.ByteList.{◌>>=◌, contains, spelled, NoneStands, read_length, read_bytes, read_list}

-- ---- steps

-- the value of a step that did not refuse
pub bind_ok : {A B : Type 0} (r : Result A CodecError) (f : A → Result B CodecError) (y : B)
    → (r >>= f) ≡ Ok y → (x : A) × (r ≡ Ok x) × (f x ≡ Ok y)
bind_ok (Ok x) f y e = (x, refl, e)
bind_ok (Err d) f y e = absurd cc

-- a refusal is that of the first step, or of what follows its value
pub bind_err : {A B : Type 0} (r : Result A CodecError) (f : A → Result B CodecError)
    (e : CodecError) → (r >>= f) ≡ Err e → (r ≡ Err e) ⊎ ((x : A) × (r ≡ Ok x) × (f x ≡ Err e))
bind_err (Ok x) f e h = inr (x, refl, h)
bind_err (Err d) f e h = inl cc

abbrev done : {A : Type 0} → A → Result A CodecError
done x = Ok x

-- what was read is one value
pub ok_is : {A : Type 0} (x y : A) → done x ≡ done y → x ≡ y
ok_is x y e = cc

-- a test that refuses
pub guard_ok : {A : Type 0} (b : Bool) (d : CodecError) (x y : A) → cond b (Err d) (Ok x) ≡ Ok y
    → (b ≡ false) × (x ≡ y)
guard_ok true d x y e = absurd cc
guard_ok false d x y e = (refl, cc)

-- a test without which all is refused
pub chosen_ok : {A : Type 0} (b : Bool) (d : CodecError) (x : Result A CodecError) (y : A)
    → cond b x (Err d) ≡ Ok y → (b ≡ true) × (x ≡ Ok y)
chosen_ok true d x y e = (refl, e)
chosen_ok false d x y e = absurd cc

-- which refusal a test gives
pub guard_err : {A : Type 0} (b : Bool) (d e : CodecError) (x : A) → cond b (Err d) (Ok x) ≡ Err e
    → (b ≡ true) × (d ≡ e)
guard_err true d e x h = (refl, cc)
guard_err false d e x h = absurd cc

-- a refusal is that of what follows the test, or the test's own
chosen_err : {A : Type 0} (b : Bool) (d e : CodecError) (x : Result A CodecError)
    → cond b x (Err d) ≡ Err e → ((b ≡ true) × (x ≡ Err e)) ⊎ ((b ≡ false) × (d ≡ e))
chosen_err true d e x h = inl (refl, h)
chosen_err false d e x h = inr (refl, cc)

-- ---- why bytes are refused

pub list_refused : (range : RangeCfg) (bytes : List ℕ) (e : CodecError)
    → read_list range bytes ≡ Err e → NoneStands range bytes e
unfolding read_list
list_refused range bytes e h =
    let f : ℕ × List ℕ → Result (List ℕ × List ℕ) CodecError =
    λ n. cond (contains range n.0) (read_bytes n.0 n.1) (Err (InvalidLength n.0)) in
    ⊎_elim
    (λ first.
    let short = guard_err (ltb (length bytes) 4) EndOfBuffer e
    (big_number 4 bytes, drop 4 bytes) first in
    subst (NoneStands range bytes) short.1 (inl (ltb-true _ _ short.0)))
    (λ (s : (n : ℕ × List ℕ) × (read_length bytes ≡ Ok n) × (f n ≡ Err e)).
    let front =
    guard_ok (ltb (length bytes) 4) EndOfBuffer (big_number 4 bytes, drop 4 bytes) s.0 s.1 in
    let long : 4 ≤ length bytes = ltb-false _ _ front.0 in
    let n-is : big_number 4 bytes ≡ s.0.0 = ap (λ (p : ℕ × List ℕ). p.0) front.1 in
    let after-is : drop 4 bytes ≡ s.0.1 = ap (λ (p : ℕ × List ℕ). p.1) front.1 in
    ⊎_elim
    (λ inside.
    let few = guard_err (ltb (length s.0.1) s.0.0) EndOfBuffer e
    (take s.0.0 s.0.1, drop s.0.0 s.0.1) inside.1 in
    let less = ltb-true _ _ few.0 in
    subst (NoneStands range bytes) few.1 (inr (
      ap (contains range) n-is ∙ inside.0,
      omega (arith, long, n-is, less, ap length after-is, length-drop 4 bytes),
    )))
    (λ outside. subst (NoneStands range bytes) outside.1 (long, sym n-is, outside.0))
    (chosen_err (contains range s.0.0) (InvalidLength s.0.0) e (read_bytes s.0.0 s.0.1) s.2))
    (bind_err (read_length bytes) f e h)

-- ---- what is spelled so is read

number_again : (k n : ℕ) (rest : List ℕ) → n < 256 ^ k
    → cond {A = Result (ℕ × List ℕ) CodecError} (ltb (length (big_bytes k n ++ rest)) k)
    (Err EndOfBuffer)
    (Ok (big_number k (big_bytes k n ++ rest), drop k (big_bytes k n ++ rest))) ≡ Ok (n, rest)
number_again k n rest lt =
    let len = length-bytes_high_first k n in
    let long : ltb (length (big_bytes k n ++ rest)) k ≡ false =
    le-ltb _ _ (omega (arith, length-append (big_bytes k n) rest)) in
    rw (long, big_number-reads_back k n rest lt, drop_at (big_bytes k n) rest k len) refl

bytes_again : (xs rest : List ℕ) → read_bytes (length xs) (xs ++ rest) ≡ Ok (xs, rest)
bytes_again xs rest =
    let long : ltb (length (xs ++ rest)) (length xs) ≡ false =
    le-ltb _ _ (omega (arith, length-append xs rest)) in
    rw (long, take_at xs rest (length xs) refl, drop_at xs rest (length xs) refl) refl

-- the spelling of a list is refused for its length alone
pub list_again : (range : RangeCfg) (xs rest : List ℕ) → length xs < 2 ^ 32
    → read_list range (spelled xs ++ rest)
    ≡ cond (contains range (length xs)) (Ok (xs, rest)) (Err (InvalidLength (length xs)))
unfolding read_list
list_again range xs rest lt =
    let n = length xs in
    let f : ℕ × List ℕ → Result (List ℕ × List ℕ) CodecError =
    λ n. cond (contains range n.0) (read_bytes n.0 n.1) (Err (InvalidLength n.0)) in
    ap (read_list range) (append_assoc (big_bytes 4 n) xs rest)
    ∙ ap (λ (r : Result (ℕ × List ℕ) CodecError). r >>= f) (number_again 4 n (xs ++ rest) lt)
    ∙ ap (λ (r : Result (List ℕ × List ℕ) CodecError).
    cond (contains range n) r (Err (InvalidLength n))) (bytes_again xs rest)
