-- Believed.
-- Companies: what is taken since a digest was last taken.
use Rattle.std.specs.Prelude.{ℕ, Bool, false, ◌&&◌, ◌||◌, if◌then◌else◌, List, [], ◌∷◌, length, nat_le}
use Rattle.std.specs.List.{filter}
use Rattle.entries.specs.declared.entry.Charged.{Charged}
use Rattle.broadcast_core.specs.Content.{bytes_of, first_places, same_charged}

-- at most this many digests, and at most this many bytes
abbrev pub fits : {D : Type 0} → ℕ → ℕ → List (Charged D) → Bool
fits size budget cs = nat_le (length cs) size && nat_le (bytes_of cs) budget

module _ {D : Type 0} (same : D → D → Bool) where
  -- the takings, the newest first, up to the last one of the digest
  abbrev pub up_to : Charged D → List (Charged D) → List (Charged D)
  up_to c [] = []
  up_to c (t ∷ older) = if same_charged same c t then t ∷ [] else t ∷ up_to c older

module _ {D : Type 0} (same : D → D → Bool) where
  -- the company of a digest: the distinct digests taken since it was last taken, itself among them,
  -- each charged as when it was last taken
  abbrev pub company : Charged D → List (Charged D) → List (Charged D)
  company c takings = first_places (same_charged same) (up_to same c takings)

module _ {D : Type 0} (same : D → D → Bool) (size budget : ℕ) where
  -- whether its company has fitted at every moment since it was last taken
  abbrev pub has_stayed : Charged D → List (Charged D) → Bool
  has_stayed c [] = false
  has_stayed c (t ∷ older) = fits size budget (company same c (t ∷ older))
      && (same_charged same c t || has_stayed c older)

  -- the digests that have stayed, the newest first
  abbrev pub stayed : List (Charged D) → List (Charged D)
  stayed takings = filter (λ c. has_stayed c takings) (first_places (same_charged same) takings)
