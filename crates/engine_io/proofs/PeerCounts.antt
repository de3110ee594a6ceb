-- The counters of peers.
use Rattle.std.proofs.Common.{◌≡◌, ℕ, Bool, true, if◌then◌else◌, cond, List, [], ◌∷◌, Some, None, refl, sym, ap, ◌∙◌}
use Rattle.std.specs.List.{AllZip}
use Rattle.std.specs.Cmp.{IsEquivalence}
use Rattle.std.specs.Map.{lookup}
use Rattle.broadcast_core.proofs.Distinct.{by_test}
use Rattle.broadcast_core.proofs.Entries.{lookup-same}
use Rattle.engine_io.specs.Counters.{raised, count_of}

module _ {P : Type 0} {same : P → P → Bool} (laws : IsEquivalence same) where
  -- a peer without a counter gets one
  pub counted-first : (p k : P) (es mid fs : List (P × ℕ)) → same p k ≡ true → lookup (same p) es ≡ None → mid ≡ es
      → ((q : P) → lookup (same q) fs ≡ cond (same k q) (Some 1) (lookup (same q) mid))
      → (q : P) → count_of same q fs ≡ (if same p q then raised (count_of same q es) 1 else count_of same q es)
  counted-first p k es mid fs equal none kept at q =
      let found : lookup (same q) fs ≡ cond (same p q) (Some 1) (lookup (same q) es) =
      at q ∙ ap (λ b. cond b (Some 1) (lookup (same q) mid)) (sym (laws.congr p k q equal)) ∙ ap (λ xs. cond (same p q) (Some 1) (lookup (same q) xs)) kept in
      rw found (by_test (same p q)
      (λ t. let missing : lookup (same q) es ≡ None = lookup-same (same q) (same p) es (λ x. sym (laws.congr p q x t)) ∙ none in rw (t, missing) refl)
      (λ t. rw t refl))

  -- a map whose keys are copies, with the numbers of the keys, gives each peer its number
  pub found-copied : (is_clone : P → P → Type 0) → ((key copy : P) → is_clone key copy → same key copy ≡ true)
      → (es fs : List (P × ℕ)) → AllZip (λ e f. is_clone e.0 f.0 × (f.1 ≡ e.1)) es fs
      → (q : P) → lookup (same q) fs ≡ lookup (same q) es
  found-copied is_clone copies [] [] cloned q = refl
  found-copied is_clone copies [] (f ∷ fs) cloned q = absurd cloned
  found-copied is_clone copies (e ∷ es) [] cloned q = absurd cloned
  found-copied is_clone copies (e ∷ es) (f ∷ fs) cloned q =
      let here : same q f.0 ≡ same q e.0 = laws.symm q f.0 ∙ sym (laws.congr e.0 f.0 q (copies e.0 f.0 cloned.0.0)) ∙ laws.symm e.0 q in
      rw (here, cloned.0.1, found-copied is_clone copies es fs cloned.1 q) refl
