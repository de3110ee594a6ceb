-- The first places of a list with one more item.
use Rattle.std.proofs.Common.{◌≡◌, Bool, true, false, ◌||◌, if◌then◌else◌, List, [], ◌∷◌, ◌++◌, refl, sym, ap, ◌∙◌, append-nil}
use Rattle.std.specs.List.{list_any}
use Rattle.std.specs.Cmp.{IsEquivalence}
use Rattle.broadcast_core.specs.Content.{first_places, without}

-- by what a test answers
pub by_test : {A : Type 0} (b : Bool) → (b ≡ true → A) → (b ≡ false → A) → A
by_test true at_true at_false = at_true refl
by_test false at_true at_false = at_false refl

module _ {X : Type 0} {same : X → X → Bool} (laws : IsEquivalence same) where
  -- the item, unless the list has one like it
  abbrev pub if_new : X → List X → List X
  if_new x ys = if list_any (same x) ys then [] else x ∷ []

  without-append : (d : X) (xs ys : List X) → without same d (xs ++ ys) ≡ without same d xs ++ without same d ys
  without-append d [] ys = refl
  without-append d (x ∷ xs) ys = by_test (same d x)
      (λ t. rw t (without-append d xs ys))
      (λ t. rw t (ap (λ zs. x ∷ zs) (without-append d xs ys)))

  -- items unlike d are looked for in vain among those like it
  any-without : (d x : X) (ys : List X) → same x d ≡ false → list_any (same x) (without same d ys) ≡ list_any (same x) ys
  any-without d x [] h = refl
  any-without d x (y ∷ ys) h = by_test (same d y)
      (λ t. let unlike : same x y ≡ false = laws.symm x y ∙ sym (laws.congr d y x t) ∙ laws.symm d x ∙ h in
      rw (t, unlike) (any-without d x ys h))
      (λ t. rw t (ap (λ b. same x y || b) (any-without d x ys h)))

  without-new : (d x : X) (ys : List X)
      → without same d (if_new x ys) ≡ (if same x d || list_any (same x) (without same d ys) then [] else x ∷ [])
  without-new d x ys = by_test (same x d)
      (λ t. rw t (by_test (list_any (same x) ys) (λ u. rw u refl) (λ u. rw u (rw (laws.symm d x ∙ t) refl))))
      (λ t. rw (t, any-without d x ys t) (by_test (list_any (same x) ys) (λ u. rw u refl) (λ u. rw u (rw (laws.symm d x ∙ t) refl))))

  first_places-new : (xs : List X) (x : X) → first_places same (xs ++ x ∷ []) ≡ first_places same xs ++ if_new x (first_places same xs)
  first_places-new [] x = refl
  first_places-new (d ∷ xs) x = ap (λ zs. d ∷ zs) (ap (without same d) (first_places-new xs x)
      ∙ without-append d (first_places same xs) (if_new x (first_places same xs))
      ∙ ap (λ zs. without same d (first_places same xs) ++ zs) (without-new d x (first_places same xs)))

  -- an item at the end is dropped, if one like it stands before
  pub first_places-push : (xs : List X) (x : X) → first_places same (xs ++ x ∷ [])
      ≡ (if list_any (same x) (first_places same xs) then first_places same xs else first_places same xs ++ x ∷ [])
  first_places-push xs x = first_places-new xs x
      ∙ by_test (list_any (same x) (first_places same xs)) (λ t. rw t (append-nil (first_places same xs))) (λ t. rw t refl)
