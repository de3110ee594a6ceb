-- What reading a whole payload rests on.
use Rattle.std.proofs.Common.{◌≡◌, ℕ, ◌-◌, ◌≤◌, eqb, true, List, [], length, Option, Some, Result, Ok, Err, refl, sym, ◌∙◌, subst, ⊎_elim, inr, arith}
use Rattle.std.proofs.lemmas.Bool.{eq-eqb}
use Rattle.std.proofs.lemmas.List.{append-nil}
use Rattle.broadcast_core.specs.declared.codec.CodecError.TheVariants.{ExtraData}
use Rattle.broadcast_core.specs.BlockLaws.{ReadsBack}
use Rattle.broadcast_core.specs.CodecLaws.{chosen_ok, ok_is}
use Rattle.broadcast_core.specs.declared.codec.CodecError.{CodecError}
use Rattle.broadcast_core.specs.Codec.{layout_of, GivesOrLacks}
use Rattle.broadcast_core.specs.Setting.{all_taken, whole}

-- where all of the bytes are taken, memory is all that the value can lack
pub whole_lacks : {M : Type 0} (read : Result (M × ℕ) CodecError) (n used : ℕ) (e : CodecError) (out : Result M CodecError) → layout_of read ≡ Ok used → n ≤ used → ((v : M) (k : ℕ) → read ≡ Ok (v, k) → k ≤ n) → GivesOrLacks (Err e) read → out ≡ Err e → GivesOrLacks out (all_taken n read)
whole_lacks (Ok r) n used e out layout all within lacks same =
    let taken : r.1 ≡ used = cc in
    let most = within r.0 r.1 refl in
    let test : eqb r.1 n ≡ true = eq-eqb r.1 n (omega arith) in
    ⊎_elim (λ given. absurd cc) (λ given. inr (cc, rw test refl)) lacks
whole_lacks (Err d) n used e out layout all within lacks same = absurd cc

-- what a whole encoding reads as is what was encoded
pub whole_reads_back : {M : Type 0} (encoding : M → Option (List ℕ)) (reading : List ℕ → Result (M × ℕ) CodecError) → ReadsBack encoding reading
    → (v w : M) (bytes : List ℕ) → encoding v ≡ Some bytes → whole reading bytes ≡ Ok w → w ≡ v
whole_reads_back {M = M} encoding reading back v w bytes written is = from (reading bytes) refl is
  where
    from : (r : Result (M × ℕ) CodecError) → reading bytes ≡ r → all_taken (length bytes) r ≡ Ok w → w ≡ v
    from (Ok r) found all =
        let one = chosen_ok (eqb r.1 (length bytes)) (ExtraData (length bytes - r.1)) (Ok r.0) w all in
        sym (ok_is r.0 w one.1) ∙ (back v r.0 bytes [] r.1 written (subst (λ (es : List ℕ). reading es ≡ Ok r) (sym (append-nil bytes)) found)).0
    from (Err e) found all = absurd cc
