-- What one coverage has and another lacks, span by span.
use Rattle.std.proofs.Common.{◌≡◌, ◌≤◌, ◌<◌, ℕ, ◌+◌, true, false, Bool, List, [], ◌∷◌, arith, refl, ◌⊎◌, inl, inr, ◌∙◌, max}
use Rattle.std.specs.Prelude.{nat_le, nat_lt, ◌&&◌, ◌||◌}
use Rattle.std.proofs.lemmas.Bool.Decides.{nat_tests}
use Rattle.gossip.specs.declared.span.Span.{Span}
use Rattle.gossip.specs.Spans.{is_in, is_had, IsApart}
use Rattle.gossip.specs.Missing.{IsRunEnd, IsFirstMissing}
use Rattle.gossip.proofs.Covering.{none_before, outside, either}

beyond : (s a b : ℕ) → b < s → (nat_lt a s && nat_le s b) ≡ false
beyond s a b h = grind (arith, nat_tests)

inside : (s a b : ℕ) → a < s → s ≤ b → (nat_lt a s && nat_le s b) ≡ true
inside s a b h g = grind (arith, nat_tests)

pub starts : (s a b : ℕ) → (nat_lt a s && nat_le s b) ≡ true → a < s
starts s a b h = grind (arith, nat_tests)

pub ends : (s a b : ℕ) → (nat_lt a s && nat_le s b) ≡ true → s ≤ b
ends s a b h = grind (arith, nat_tests)

-- a stamp beyond the first span is one of the others, or of none
pub passed : (s : ℕ) (x : Span) (rest : List Span) → x.to < s → is_had s (x ∷ rest) ≡ is_had s rest
passed s x rest h = rw (beyond s x.from x.to h) refl

-- a stamp before the first span is of none
pub ahead : (s : ℕ) (x : Span) (rest : List Span) → s ≤ x.from → IsApart (x ∷ rest) → is_had s (x ∷ rest) ≡ false
ahead s x rest h ap =
    rw (outside s x.from x.to h, none_before s x.to rest (omega (arith, h, ap.0)) ap.1 ap.2) refl

-- the stamp after the first span is of none
pub just_after : (x : Span) (rest : List Span) → IsApart (x ∷ rest) → is_had (x.to + 1) (x ∷ rest) ≡ false
just_after x rest ap =
    passed (x.to + 1) x rest (omega arith) ∙ none_before (x.to + 1) x.to rest (omega arith) ap.1 ap.2

pub within : (s : ℕ) (x : Span) (rest : List Span) → x.from < s → s ≤ x.to → is_had s (x ∷ rest) ≡ true
within s x rest h g = rw (inside s x.from x.to h g) refl

module _ (at : ℕ) (spans rest : List Span) (x : Span)
    (same : (s : ℕ) → at < s → is_had s spans ≡ is_had s (x ∷ rest)) (apart : IsApart (x ∷ rest)) where
  pub goes_on : x.to ≤ at → (s : ℕ) → at < s → is_had s spans ≡ is_had s rest
  goes_on h s l = same s l ∙ passed s x rest (omega (arith, h, l))

  pub stands : at < x.from → IsRunEnd spans at at
  stands h = record {
    after = omega arith;
    run = λ s l g. absurd (let no : ⊥ = omega (arith, l, g) in no);
    ends = same (at + 1) (omega arith) ∙ ahead (at + 1) x rest (omega (arith, h)) apart;
  }

  pub runs : x.from ≤ at → at < x.to → IsRunEnd spans at x.to
  runs h g = record {
    after = omega (arith, g);
    run = λ s l k. same s l ∙ within s x rest (omega (arith, h, l)) k;
    ends = same (x.to + 1) (omega (arith, g)) ∙ just_after x rest apart;
  }

pub none_left : (at : ℕ) (spans : List Span) → ((s : ℕ) → at < s → is_had s spans ≡ is_had s []) → IsRunEnd spans at at
none_left at spans same = record {
  after = omega arith;
  run = λ s l g. absurd (let no : ⊥ = omega (arith, l, g) in no);
  ends = same (at + 1) (omega arith);
}

-- ---- what they have, span by span

abbrev pub IsLeft : List Span → List Span → List Span → ℕ → ℕ → Type 0
IsLeft had theirs left above upto = (s : ℕ) → above < s → s ≤ upto → is_had s theirs ≡ true
    → (is_had s left ≡ true) ⊎ (is_had s had ≡ true)

or_right : (a b : Bool) → b ≡ true → (a || b) ≡ true
or_right true b h = refl
or_right false b h = h

module _ (had theirs rest : List Span) (x : Span) (above upto end : ℕ) (left : IsLeft had theirs (x ∷ rest) above upto)
    (part : (s : ℕ) → is_had s (x ∷ rest) ≡ true → is_had s theirs ≡ true) (run : IsRunEnd had (max x.from above) end) where
  pub part_of : (s : ℕ) → is_had s rest ≡ true → is_had s theirs ≡ true
  part_of s h = part s (or_right (is_in s x) (is_had s rest) h)

  here : (s : ℕ) → above < s → s ≤ end → is_in s x ≡ true → is_had s had ≡ true
  here s l g h = (let from = starts s x.from x.to h in run.run s (omega (arith, l, from)) g)

  pub moves_on : (x.to ≤ end) ⊎ (upto ≤ end) → IsLeft had theirs rest above upto
  moves_on over s l g t = elim (left s l g t) [
    | inl h ↦ elim (either (is_in s x) (is_had s rest) h) [
      | inl it ↦ (let to = ends s x.from x.to it in inr (here s l (at_most over to) it))
      | inr later ↦ inl later
    ]
    | inr h ↦ inr h
  ]
    where
      at_most : (x.to ≤ end) ⊎ (upto ≤ end) → s ≤ x.to → s ≤ end
      at_most (inl a) to = omega (arith, a, to)
      at_most (inr a) to = omega (arith, a, g)

  pub finds : IsApart (x ∷ rest) → end < x.to → end < upto → IsFirstMissing had theirs above upto (end + 1)
  finds apart h g =
      let after = run.after in
      record {
        after = omega (arith, after);
        within = omega (arith, g);
        theirs_has = part (end + 1) (within (end + 1) x rest (omega (arith, after)) (omega (arith, h)));
        lacking = run.ends;
        first = λ s l k t. elim (left s l (omega (arith, g, k)) t) [
          | inl it ↦ elim (either (is_in s x) (is_had s rest) it) [
            | inl in_x ↦ here s l (omega (arith, k)) in_x
            | inr later ↦ absurd (let none = none_before s x.to rest (omega (arith, h, k)) apart.1 apart.2 in let no : ⊥ = cc in no)
          ]
          | inr it ↦ it
        ];
      }
