-- Believed.
-- Sets of stamps as lists of spans.
use Rattle.std.specs.Prelude.{◌≡◌, ◌≤◌, ◌<◌, ℕ, nat_le, nat_lt, Bool, ◌&&◌, List, [], ◌∷◌, drop, length}
use Rattle.std.specs.List.{list_any}
use Rattle.gossip.specs.declared.span.Span.{Span}

-- the stamp is one of the span: after its beginning, and no later than its end
abbrev pub is_in : ℕ → Span → Bool
is_in s span = nat_lt span.from s && nat_le s span.to

-- the stamp is one of some span
abbrev pub is_had : ℕ → List Span → Bool
is_had s spans = list_any (is_in s) spans

-- the first of the spans, if there is one, begins after this
abbrev pub IsBefore : ℕ → List Span → Type 0
IsBefore end [] = Unit {0}
IsBefore end (x ∷ xs) = end < x.from

-- no span ends before it begins, and after each there is a gap
abbrev pub IsApart : List Span → Type 0
IsApart [] = Unit {0}
IsApart (x ∷ xs) = (x.from ≤ x.to) × IsBefore x.to xs × IsApart xs

-- each span has a stamp
abbrev pub AreFilled : List Span → Type 0
AreFilled [] = Unit {0}
AreFilled (x ∷ xs) = (x.from < x.to) × AreFilled xs

-- the spans begin after this, with gaps between them, and each has a stamp
abbrev pub Follow : ℕ → List Span → Type 0
Follow end xs = IsBefore end xs × IsApart xs × AreFilled xs

-- the first span begins at zero: its end is the floor
abbrev pub IsRooted : List Span → Type 0
IsRooted [] = ⊥
IsRooted (x ∷ xs) = x.from ≡ 0

-- the floor: the end of the first span
abbrev pub floor_of : List Span → ℕ
floor_of [] = 0
floor_of (x ∷ xs) = x.to

-- the top: the end of the last span
abbrev pub top_of : List Span → ℕ
top_of [] = 0
top_of (x ∷ []) = x.to
top_of (x ∷ (y ∷ ys)) = top_of (y ∷ ys)

-- few spans with gaps between them, and all up to a floor; each span above the floor has a stamp
pub record IsCoverage (most : ℕ) (spans : List Span) : Type 0 where
  pub rooted : IsRooted spans
  pub apart : IsApart spans
  pub filled : AreFilled (drop 1 spans)
  pub few : length spans ≤ most

-- the span of no stamps
abbrev pub nothing : Span
nothing = record { from = 0; to = 0 }
