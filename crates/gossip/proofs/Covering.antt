-- What spans have, and their top.
use Rattle.std.proofs.Common.{◌≡◌, ◌≤◌, ◌<◌, ℕ, ◌+◌, true, false, Bool, List, [], ◌∷◌, length, arith, refl, suc, ◌-◌, Some, ◌⊎◌, inl, inr}
use Rattle.std.specs.Prelude.{slice_get, nat_le, nat_lt, ◌&&◌, ◌||◌}
use Rattle.std.proofs.lemmas.Bool.Decides.{nat_tests}
use Rattle.gossip.specs.declared.span.Span.{Span}
use Rattle.gossip.specs.Spans.{is_in, is_had, AreFilled, IsBefore, IsApart, IsCoverage, top_of}

or_true : (a : Bool) → (a || true) ≡ true
or_true true = refl
or_true false = refl

filled_top : (x : Span) (ys : List Span) → x.from < x.to → AreFilled ys → is_had (top_of (x ∷ ys)) (x ∷ ys) ≡ true
filled_top x [] h f = grind (arith, nat_tests)
filled_top x (y ∷ ys) h f = rw (filled_top y ys f.0 f.1) (or_true (is_in (top_of (y ∷ ys)) x))

-- the top of a coverage is had, unless it is 0
pub top_had : (most : ℕ) (xs : List Span) → IsCoverage most xs → 0 < top_of xs → is_had (top_of xs) xs ≡ true
top_had most [] cov h = absurd cov.rooted
top_had most (x ∷ []) cov h = filled_top x [] (omega (arith, cov.rooted, h)) tt
top_had most (x ∷ (y ∷ ys)) cov h = rw (filled_top y ys cov.filled.0 cov.filled.1) (or_true (is_in (top_of (y ∷ ys)) x))

-- ---- stamps in no span

pub outside : (s a b : ℕ) → s ≤ a → (nat_lt a s && nat_le s b) ≡ false
outside s a b h = grind (arith, nat_tests)

pub none_before : (s end : ℕ) (ys : List Span) → s ≤ end + 1 → IsBefore end ys → IsApart ys → is_had s ys ≡ false
none_before s end [] h b ap = refl
none_before s end (y ∷ ys) h b ap =
    let later = none_before s y.to ys (omega (arith, h, b, ap.0)) ap.1 ap.2 in
    rw (outside s y.from y.to (omega (arith, h, b)), later) refl

no_later : (s b c : ℕ) → (nat_lt b s && nat_le s c) ≡ true → s ≤ c
no_later s b c h = grind (arith, nat_tests)

-- ---- the top

pub last_is_top : (xs : List Span) (x : Span) → slice_get xs (length xs - 1) ≡ Some x → top_of xs ≡ x.to
last_is_top [] x h = absurd (let no : ⊥ = cc in no)
last_is_top (y ∷ []) x h = (let same : y ≡ x = cc in rw same refl)
last_is_top (y ∷ (z ∷ zs)) x h =
    let e : length (y ∷ (z ∷ zs)) - 1 ≡ suc (length (z ∷ zs) - 1) = omega arith in
    last_is_top (z ∷ zs) x (rw e at h)

ends_up_to : (y : Span) (ys : List Span) → IsApart (y ∷ ys) → y.to ≤ top_of (y ∷ ys)
ends_up_to y [] ap = omega arith
ends_up_to y (z ∷ zs) ap = let later = ends_up_to z zs ap.2 in omega (arith, later, ap.1, ap.2.0)

pub either : (a b : Bool) → (a || b) ≡ true → (a ≡ true) ⊎ (b ≡ true)
either true b h = inl refl
either false b h = inr h

pub had_up_to_top : (s : ℕ) (xs : List Span) → IsApart xs → is_had s xs ≡ true → s ≤ top_of xs
had_up_to_top s [] ap h = absurd (let no : ⊥ = cc in no)
had_up_to_top s (x ∷ []) ap h = elim (either (is_in s x) false h) [
  | inl here ↦ no_later s x.from x.to here
  | inr none ↦ absurd (let no : ⊥ = cc in no)
]
had_up_to_top s (x ∷ (y ∷ ys)) ap h = elim (either (is_in s x) (is_had s (y ∷ ys)) h) [
  | inl here ↦ (let end = no_later s x.from x.to here in let later = ends_up_to y ys ap.2 in omega (arith, end, later, ap.1, ap.2.0))
  | inr later ↦ had_up_to_top s (y ∷ ys) ap.2 later
]
