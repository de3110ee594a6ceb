-- Lists that are cut before or after a digest comes to their front.
use Rattle.std.proofs.Common.{◌≡◌, ℕ, zero, suc, Bool, false, List, [], ◌∷◌, take, refl, ap, ◌∙◌}
use Rattle.std.specs.List.{list_any, IsDistinct}
use Rattle.std.specs.Cmp.{IsEquivalence}
use Rattle.broadcast_core.specs.Content.{among, without, first_places}
use Rattle.broadcast_core.proofs.Distinct.{by_test, or_false, among-equal, among-head, without-absent, IsDistinct-rest, IsDistinct-moved}

pub take-none : {X : Type 0} (n : ℕ) → take {A = X} n [] ≡ []
take-none zero = refl
take-none (suc n) = refl

pub take-again : {X : Type 0} (n : ℕ) (xs : List X) → take n (take n xs) ≡ take n xs
take-again zero xs = refl
take-again (suc n) [] = refl
take-again (suc n) (x ∷ xs) = ap (λ ys. x ∷ ys) (take-again n xs)

-- what is nowhere is not in front
pub none-taken : {X : Type 0} (test : X → Bool) (n : ℕ) (xs : List X) → list_any test xs ≡ false → list_any test (take n xs) ≡ false
none-taken test zero xs h = refl
none-taken test (suc n) [] h = refl
none-taken test (suc n) (x ∷ xs) h = let both = or_false (test x) (list_any test xs) h in rw both.0 (none-taken test n xs both.1)

module _ {D : Type 0} {same : D → D → Bool} (laws : IsEquivalence same) where
  -- without one element, as many of the others are seen one place further
  without-cut : (n : ℕ) (d : D) (xs : List D) → IsDistinct same xs → take n (without same d (take (suc n) xs)) ≡ take n (without same d xs)
  without-cut zero d xs k = refl
  without-cut (suc n) d [] k = refl
  without-cut (suc n) d (x ∷ xs) k = by_test (same d x)
      (λ h. let absent : among same d xs ≡ false = among-equal laws d x xs h ∙ among-head laws x xs k in
      let cut : without same d (take (suc n) xs) ≡ take (suc n) xs = without-absent laws d (take (suc n) xs) (none-taken (same d) (suc n) xs absent) in
      rw (h, cut, without-absent laws d xs absent) (take-again (suc n) xs))
      (λ h. rw h (ap (λ ys. x ∷ ys) (without-cut n d xs (IsDistinct-rest laws x xs k))))

  -- a list that is cut can be cut before a digest comes to its front
  pub take-moved : (n : ℕ) (d : D) (xs : List D) → IsDistinct same xs → take n (d ∷ without same d (take n xs)) ≡ take n (d ∷ without same d xs)
  take-moved zero d xs k = refl
  take-moved (suc n) d xs k = ap (λ ys. d ∷ ys) (without-cut n d xs k)

  -- the first places have each digest once
  pub IsDistinct-first_places : (ds : List D) → IsDistinct same (first_places same ds)
  unfolding IsDistinct
  IsDistinct-first_places [] = tt
  IsDistinct-first_places (d ∷ ds) = IsDistinct-moved laws d (first_places same ds) (IsDistinct-first_places ds)
