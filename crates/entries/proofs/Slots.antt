-- A slab of chains, seen as a map from number to chain.
use Rattle.std.proofs.Common.{Bool, true, false, subst, cond, ◌≡◌, ◌<◌, ◌+◌, ℕ, zero, suc, inl, inr, List, [], ◌∷◌, Option, Some, None, refl, sym, ap, ◌∙◌, arith}
use Rattle.std.specs.Prelude.{slice_index_or, slice_set}
use Rattle.std.specs.List.{AllByRecursion, IsDistinct}
use Rattle.std.specs.Map.{lookup, set_value, keys_of}
use Rattle.std.specs.Prelude.{nat_lt}
use Rattle.std.specs.Cmp.{IsEquivalence}
use Rattle.std.specs.Ordering.{is_eq}
use Rattle.std.specs.declared.cmp.Ordering.TheVariants.{Less, Greater}
use Rattle.std.proofs.lemmas.Cmp.{eq_by_cmp_equiv, nat_cmp_total}
use Rattle.std.proofs.lemmas.Bool.{cases_eq, ne_eqb}
use Rattle.slab.specs.Slab.{Slab, get, entries, entries_from, with_value, Updates}
use Rattle.entries.specs.Overlaid.{same_number}

-- the equality of numbers
pub number_laws : IsEquivalence same_number
number_laws = eq_by_cmp_equiv nat_cmp_total

pub number_eq : (i j : ℕ) → i ≡ j → same_number i j ≡ true
number_eq i j e = subst (λ k. same_number i k ≡ true) e (number_laws.refl i)

pub number_ne : (i j : ℕ) → (i ≡ j → ⊥) → same_number i j ≡ false
number_ne i j differs = rw (ne_eqb i j differs) (neither (nat_lt i j))
  where
    neither : (b : Bool) → is_eq (cond b Less Greater) ≡ false
    neither true = refl
    neither false = refl

pub number_same : (i j : ℕ) → same_number i j ≡ true → i ≡ j
number_same i j same = elim (cases_eq i j) [
  | inl is ↦ is
  | inr differs ↦ let no : true ≡ false = sym same ∙ number_ne i j differs in absurd (cc)
]

module _ {T : Type 0} where
  -- the slots from a key on have no key below it
  later : (n key : ℕ) (slots : List (Option T)) → n < key → lookup (same_number n) (entries_from key slots) ≡ None
  later n key [] below = refl
  later n key (None ∷ rest) below = later n (key + 1) rest (omega (arith, below))
  later n key (Some v ∷ rest) below = rw (number_ne n key (λ e. omega (arith, below, e))) (later n (key + 1) rest (omega (arith, below)))

  found_from : (n key i : ℕ) (slots : List (Option T)) → n ≡ key + i → lookup (same_number n) (entries_from key slots) ≡ slice_index_or slots i None
  found_from n key i [] is = refl
  found_from n key zero (None ∷ rest) is = later n (key + 1) rest (omega (arith, is))
  found_from n key (suc i) (None ∷ rest) is = found_from n (key + 1) i rest (omega (arith, is))
  found_from n key zero (Some v ∷ rest) is = rw (number_eq n key (omega (arith, is))) refl
  found_from n key (suc i) (Some v ∷ rest) is = rw (number_ne n key (λ e. omega (arith, is, e))) (found_from n (key + 1) i rest (omega (arith, is)))

  set_from : (n key i : ℕ) (slots : List (Option T)) (old new : T) → n ≡ key + i → slice_index_or slots i None ≡ Some old
      → entries_from key (slice_set slots i (Some new)) ≡ set_value (same_number n) (entries_from key slots) new
  set_from n key i [] old new is there = absurd (cc)
  set_from n key zero (None ∷ rest) old new is there = absurd (cc)
  set_from n key (suc i) (None ∷ rest) old new is there = set_from n (key + 1) i rest old new (omega (arith, is)) there
  set_from n key zero (Some v ∷ rest) old new is there = rw (number_eq n key (omega (arith, is))) refl
  set_from n key (suc i) (Some v ∷ rest) old new is there =
      rw (number_ne n key (λ e. omega (arith, is, e))) (ap (λ (es : List (ℕ × T)). (key, v) ∷ es) (set_from n (key + 1) i rest old new (omega (arith, is)) there))

  -- what is found at a number
  pub found_slot : (s : Slab T) (n : ℕ) → lookup (same_number n) (entries s) ≡ get s n
  found_slot s n = found_from n 0 n s.slots (omega arith)

  -- a write at a number that is there
  pub set_slot : (s : Slab T) (n : ℕ) (old new : T) → get s n ≡ Some old → entries (with_value s n new) ≡ set_value (same_number n) (entries s) new
  set_slot s n old new there = set_from n 0 n s.slots old new (omega arith) there

  -- an update at a number
  pub updated_slot : (s t : Slab T) (p : ℕ) (slot : Option T) → Updates s t p slot → (q : ℕ)
      → lookup (same_number q) (entries t) ≡ cond (same_number p q) slot (lookup (same_number q) (entries s))
  updated_slot s t p slot u q = elim (cases_eq q p) [
    | inl here ↦ found_slot t q ∙ ap (get t) here ∙ u.changed ∙ sym (ap (λ b. cond b slot (lookup (same_number q) (entries s))) (number_eq p q (sym here)))
    | inr differs ↦ found_slot t q ∙ u.others q differs ∙ sym (found_slot s q) ∙ sym (ap (λ b. cond b slot (lookup (same_number q) (entries s))) (number_ne p q (λ e. differs (sym e))))
  ]

module _ {T : Type 0} where
  above : (key low : ℕ) (slots : List (Option T)) → key < low → AllByRecursion (λ y. same_number key y ≡ false) (keys_of (entries_from low slots))
  above key low [] below = tt
  above key low (None ∷ rest) below = above key (low + 1) rest (omega (arith, below))
  above key low (Some v ∷ rest) below = (number_ne key low (λ e. omega (arith, below, e)), above key (low + 1) rest (omega (arith, below)))

  distinct_from : (key : ℕ) (slots : List (Option T)) → IsDistinct same_number (keys_of (entries_from key slots))
  unfolding IsDistinct
  distinct_from key [] = tt
  distinct_from key (None ∷ rest) = distinct_from (key + 1) rest
  distinct_from key (Some v ∷ rest) = (above key (key + 1) rest (omega arith), distinct_from (key + 1) rest)

  -- no number comes twice
  pub distinct_slots : (s : Slab T) → IsDistinct same_number (keys_of (entries s))
  distinct_slots s = distinct_from 0 s.slots
