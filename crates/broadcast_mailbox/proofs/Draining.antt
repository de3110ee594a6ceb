-- One more message at the front of a draining.
use Rattle.std.proofs.Common.{◌≡◌, Bool, true, false, List, [], ◌∷◌, Option, None, Some, refl, sym, subst, inl, inr}
use Rattle.broadcast_mailbox.specs.Overflow.{Drains}

module _ {T F : Type 0} (answers : T → Bool → Type 0) (push : F → T → Option T → F → Type 0) where
  -- nothing is left
  pub Drains-end : (all new : List T) (first : F) → all ≡ [] → new ≡ [] → Drains answers push first all [] new first
  Drains-end all new first is none =
      subst (λ (zs : List T). Drains answers push first zs [] new first) (sym is) (refl, none, refl)

  -- a message that is skipped
  pub Drains-skip : (all xs skipped new : List T) (x : T) (first last : F) → all ≡ x ∷ xs → answers x true → Drains answers push first xs skipped new last → Drains answers push first all (x ∷ skipped) new last
  Drains-skip all xs skipped new x first last is closed d =
      subst (λ (zs : List T). Drains answers push first zs (x ∷ skipped) new last) (sym is) (inl (closed, (skipped, refl, d)))

  -- a message that is pushed
  pub Drains-push : {all : List T} {first : F} (xs skipped new : List T) (x : T) (mid last : F) → all ≡ x ∷ xs → answers x false → push first x None mid → Drains answers push mid xs skipped new last → Drains answers push first all skipped new last
  Drains-push {first} xs skipped new x mid last is opened p d =
      subst (λ (zs : List T). Drains answers push first zs skipped new last) (sym is) (inr (inl (opened, (mid, p, d))))

  -- a message that is handed back
  pub Drains-back : {all : List T} {first : F} (xs new : List T) (x back : T) (last : F) → all ≡ x ∷ xs → answers x false → push first x (Some back) last → new ≡ back ∷ xs → Drains answers push first all [] new last
  Drains-back {first} xs new x back last is opened p stands =
      subst (λ (zs : List T). Drains answers push first zs [] new last) (sym is) (inr (inr (opened, refl, (back, p, stands))))
