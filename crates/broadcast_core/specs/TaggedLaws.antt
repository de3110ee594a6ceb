-- Internal.
-- Lemmas, not definitions: the laws of one of two blocks and of a tag, which their impls cite.
use Rattle.std.proofs.Common.{◌≡◌, ℕ, Bool, true, false, cond, eqb, List, [], ◌∷◌, ◌++◌, length, Option, Some, Result, Ok, Err, refl, sym, ap, subst, ◌∙◌, arith}
use Rattle.broadcast_core.specs.declared.codec.CodecError.{CodecError}
use Rattle.broadcast_core.specs.declared.codec.CodecError.TheVariants.{Invalid}
use Rattle.broadcast_core.specs.declared.codec.blocks.tagged.OneOf.{OneOf}
use Rattle.broadcast_core.specs.declared.codec.blocks.tagged.OneOf.TheVariants.{First, Second}
use Rattle.broadcast_core.specs.Codec.{IsRefusal}
use Rattle.broadcast_core.specs.CodecLaws.{chosen_ok, ok_is}
use Rattle.broadcast_core.specs.Blocks.{joined, mapped, read_tagged}
use Rattle.broadcast_core.specs.BlockLaws.{IsWithin, RefusesBy, ReadsBack, joined_parts, mapped_ok, mapped_within, mapped_refusals, behind_ok, tagged_within, tagged_refusals}
use Rattle.broadcast_core.specs.Tagged.{one_of_encoding, read_one_of, tag_encoding, read_tag}

module _ {A B : Type 0} (first : List ℕ → Result (A × ℕ) CodecError)
    (second : List ℕ → Result (B × ℕ) CodecError) where
  abbrev chosen : Bool → Bool → ℕ → List ℕ → Result (OneOf A B × ℕ) CodecError
  chosen is_first is_second tag bytes = cond is_first (mapped First (first bytes))
      (cond is_second (mapped Second (second bytes)) (Err (Invalid tag)))

  chosen_within : (is_first is_second : Bool) (tag : ℕ) → IsWithin first → IsWithin second
      → IsWithin (chosen is_first is_second tag)
  chosen_within true b tag one two bytes v n h = mapped_within First first one bytes v n h
  chosen_within false true tag one two bytes v n h = mapped_within Second second two bytes v n h
  chosen_within false false tag one two bytes v n h = absurd cc

  chosen_refusals : (is_first is_second : Bool) (tag : ℕ) → RefusesBy first → RefusesBy second
      → RefusesBy (chosen is_first is_second tag)
  chosen_refusals true b tag one two bytes e h = mapped_refusals First first one bytes e h
  chosen_refusals false true tag one two bytes e h = mapped_refusals Second second two bytes e h
  chosen_refusals false false tag one two bytes e h =
      let same : Invalid tag ≡ e = cc in subst IsRefusal same tt

  pub one_of_within : IsWithin first → IsWithin second
      → IsWithin (read_tagged (read_one_of first second))
  one_of_within one two = tagged_within (read_one_of first second)
      (λ tag. chosen_within (eqb tag 0) (eqb tag 1) tag one two)

  pub one_of_refusals : RefusesBy first → RefusesBy second
      → RefusesBy (read_tagged (read_one_of first second))
  one_of_refusals one two = tagged_refusals (read_one_of first second)
      (λ tag. chosen_refusals (eqb tag 0) (eqb tag 1) tag one two)

-- what an encoding behind a tag is
tagged_parts : (tag : ℕ) (enc : Option (List ℕ)) (encoded : List ℕ)
    → joined (Some (tag ∷ [])) enc ≡ Some encoded
    → (y : List ℕ) × (enc ≡ Some y) × (tag ∷ y ≡ encoded)
tagged_parts tag enc encoded has =
    let p = joined_parts (Some (tag ∷ [])) enc encoded has in
    let front : tag ∷ [] ≡ p.0 = cc p.2 in
    (p.1, p.3, ap (λ (x : List ℕ). x ++ p.1) front ∙ p.4)

module _ {A B : Type 0} (first : List ℕ → Result (A × ℕ) CodecError)
    (second : List ℕ → Result (B × ℕ) CodecError) (enc_a : A → Option (List ℕ))
    (enc_b : B → Option (List ℕ)) where
  pub one_of_reads_back : ReadsBack enc_a first → ReadsBack enc_b second
      → ReadsBack (one_of_encoding enc_a enc_b) (read_tagged (read_one_of first second))
  one_of_reads_back back_a back_b (First v) w encoded rest n has read =
      let p = tagged_parts 0 (enc_a v) encoded has in
      let here = subst (λ (es : List ℕ). read_tagged (read_one_of first second) (es ++ rest)
      ≡ Ok (w, n)) (sym p.2) read in
      let r = behind_ok (mapped First (first (p.0 ++ rest))) w n here in
      let x = mapped_ok First (first (p.0 ++ rest)) w r.0 r.1 in
      let was = back_a v x.0 p.0 rest r.0 p.1 x.1 in
      (sym x.2 ∙ ap First was.0, omega (arith, r.2, was.1, ap length p.2))
  one_of_reads_back back_a back_b (Second v) w encoded rest n has read =
      let p = tagged_parts 1 (enc_b v) encoded has in
      let here = subst (λ (es : List ℕ). read_tagged (read_one_of first second) (es ++ rest)
      ≡ Ok (w, n)) (sym p.2) read in
      let r = behind_ok (mapped Second (second (p.0 ++ rest))) w n here in
      let x = mapped_ok Second (second (p.0 ++ rest)) w r.0 r.1 in
      let was = back_b v x.0 p.0 rest r.0 p.1 x.1 in
      (sym x.2 ∙ ap Second was.0, omega (arith, r.2, was.1, ap length p.2))

-- ---- tags

abbrev tag_at : Bool → ℕ → List ℕ → Result (Unit {0} × ℕ) CodecError
tag_at is tag bytes = cond is (Ok (tt, 0)) (Err (Invalid tag))

tag_at_within : (is : Bool) (tag : ℕ) → IsWithin (tag_at is tag)
tag_at_within true tag bytes v n h =
    let same : (tt, 0) ≡ (v, n) = ok_is (tt, 0) (v, n) h in
    let used : 0 ≡ n = ap (λ (p : Unit {0} × ℕ). p.1) same in omega arith
tag_at_within false tag bytes v n h = absurd cc

tag_at_refusals : (is : Bool) (tag : ℕ) → RefusesBy (tag_at is tag)
tag_at_refusals true tag bytes e h = absurd cc
tag_at_refusals false tag bytes e h = let same : Invalid tag ≡ e = cc in subst IsRefusal same tt

pub tag_within : (k : ℕ) → IsWithin (read_tagged (read_tag k))
tag_within k = tagged_within (read_tag k) (λ tag. tag_at_within (eqb tag k) tag)

pub tag_refusals : (k : ℕ) → RefusesBy (read_tagged (read_tag k))
tag_refusals k = tagged_refusals (read_tag k) (λ tag. tag_at_refusals (eqb tag k) tag)

pub tag_reads_back : (k : ℕ) → ReadsBack (λ (v : Unit {0}). tag_encoding k) (read_tagged (read_tag k))
tag_reads_back k v w encoded rest n has read =
    let spelled : k ∷ [] ≡ encoded = cc in
    let here = subst (λ (es : List ℕ). read_tagged (read_tag k) (es ++ rest) ≡ Ok (w, n))
    (sym spelled) read in
    let r = behind_ok (read_tag k k rest) w n here in
    let x = chosen_ok (eqb k k) (Invalid k) (Ok (tt, 0)) (w, r.0) r.1 in
    let same : (tt, 0) ≡ (w, r.0) = ok_is _ _ x.1 in
    (refl, omega (arith, r.2, ap (λ (p : Unit {0} × ℕ). p.1) same, ap length spelled))
