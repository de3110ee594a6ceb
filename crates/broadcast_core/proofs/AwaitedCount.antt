-- How many digests are awaited.
use Rattle.std.proofs.Common.{◌≡◌, suc, ◌<◌, Bool, true, false, not, ◌||◌, List, [], ◌∷◌, length, map, filter, Some, None, refl, sym, ap, ◌∙◌, arith, subst}
use Rattle.std.specs.List.{IsDistinct}
use Rattle.std.specs.Map.{lookup, keys_of}
use Rattle.std.specs.Cmp.{IsEquivalence}
use Rattle.broadcast_core.specs.Content.{Content, Same, among, without, first_places, items_at}
use Rattle.broadcast_core.specs.Waiters.{NoneEmpty}
use Rattle.broadcast_core.specs.Setting.{Setting}
use Rattle.broadcast_core.specs.Happening.{History}
use Rattle.broadcast_core.specs.HasContent.{HasContent}
use Rattle.broadcast_core.specs.Waiting.{Awaiting, with_digest, waiting, awaited}
use Rattle.broadcast_core.proofs.Lawful.{IsLawful}
use Rattle.broadcast_core.proofs.Distinct.{by_test, among-equal, among-head, IsDistinct-rest, without-absent, among-without_other}
use Rattle.broadcast_core.proofs.Cutting.{IsDistinct-first_places}
use Rattle.broadcast_core.proofs.WaitsCount.{entry_out}

module _ {D : Type 0} {same : D → D → Bool} (laws : IsEquivalence same) where
  -- taking out is taking out once, in any order
  without-again : (x d : D) (ds : List D) → same x d ≡ true → without same x (without same d ds) ≡ without same x ds
  without-again x d [] h = refl
  without-again x d (y ∷ ds) h = by_test (same d y)
      (λ t. let both : same x y ≡ true = laws.congr x d y h ∙ t in rw (t, both) (without-again x d ds h))
      (λ t. let both : same x y ≡ false = laws.congr x d y h ∙ t in rw (t, both) (ap (λ ys. y ∷ ys) (without-again x d ds h)))

  without-swap : (x d : D) (ds : List D) → without same x (without same d ds) ≡ without same d (without same x ds)
  without-swap x d [] = refl
  without-swap x d (y ∷ ds) = by_test (same d y)
      (λ t. by_test (same x y) (λ u. rw (t, u) (without-swap x d ds)) (λ u. rw (t, u) (rw t (without-swap x d ds))))
      (λ t. by_test (same x y) (λ u. rw (t, u) (without-swap x d ds)) (λ u. rw (t, u) (rw t (ap (λ ys. y ∷ ys) (without-swap x d ds)))))

  first_places-without : (x : D) (ds : List D) → first_places same (without same x ds) ≡ without same x (first_places same ds)
  first_places-without x [] = refl
  first_places-without x (d ∷ ds) = by_test (same x d)
      (λ t. rw t (first_places-without x ds ∙ sym (without-again x d (first_places same ds) t)))
      (λ t. rw t (ap (λ ys. d ∷ ys) (ap (without same d) (first_places-without x ds) ∙ without-swap d x (first_places same ds))))

  among-first_places : (x : D) (ds : List D) → among same x (first_places same ds) ≡ among same x ds
  among-first_places x [] = refl
  among-first_places x (d ∷ ds) = by_test (same x d)
      (λ t. rw t refl)
      (λ t. rw t (among-without_other laws d x (first_places same ds) (laws.symm d x ∙ t) ∙ among-first_places x ds))

  length-without : (x : D) (ds : List D) → IsDistinct same ds → among same x ds ≡ true → length ds ≡ suc (length (without same x ds))
  length-without x [] k h = absurd cc
  length-without x (d ∷ ds) k h = by_test (same x d)
      (λ t. rw (t, without-absent laws x ds (among-equal laws x d ds t ∙ among-head laws d ds k)) refl)
      (λ t. let rest : among same x ds ≡ true = sym (ap (λ b. b || among same x ds) t) ∙ h in rw t (ap suc (length-without x ds (IsDistinct-rest laws d ds k) rest)))

module _ {W D : Type 0} (same : D → D → Bool) (laws : IsEquivalence same) where
  -- the awaited digests, each once
  abbrev pub awaited_in : List (Awaiting W D) → List D
  awaited_in ws = first_places same (map (λ w. w.digest) ws)

  digests-without : (x : D) (ws : List (Awaiting W D)) → map (λ w. w.digest) (filter (λ w. not (same x w.digest)) ws) ≡ without same x (map (λ w. w.digest) ws)
  digests-without x [] = refl
  digests-without x (w ∷ ws) = by_test (same x w.digest) (λ t. rw t (digests-without x ws)) (λ t. rw t (ap (λ ys. w.digest ∷ ys) (digests-without x ws)))

  someone : (x : D) (ws : List (Awaiting W D)) → 0 < length (with_digest same x ws) → among same x (map (λ w. w.digest) ws) ≡ true
  someone x [] h = absurd (omega arith)
  someone x (w ∷ ws) h = by_test (same x w.digest) (λ t. rw t refl) (λ t. rw t (someone x ws (rw t at h)))

  lookup-absent : (d : D) (es : List (D × List W)) → among same d (keys_of es) ≡ false → lookup (same d) es ≡ None
  lookup-absent d [] h = refl
  lookup-absent d (e ∷ es) h = by_test (same d e.0)
      (λ t. absurd (let some : true ≡ false = sym (ap (λ b. b || among same d (keys_of es)) t) ∙ h in cc))
      (λ t. rw t (lookup-absent d es (sym (ap (λ b. b || among same d (keys_of es)) t) ∙ h)))

  NoneEmpty-rest : (x : D × List W) (es : List (D × List W)) → IsDistinct same (keys_of (x ∷ es)) → NoneEmpty same (x ∷ es) → NoneEmpty same es
  NoneEmpty-rest x es k some d ws h = by_test (same d x.0)
      (λ t. absurd (let none = lookup-absent d es (among-equal laws d x.0 (keys_of es) t ∙ among-head laws x.0 (keys_of es) k) in cc))
      (λ t. some d ws (rw t h))

  pub awaited-entries : (es : List (D × List W)) (ws : List (Awaiting W D)) → IsDistinct same (keys_of es) → NoneEmpty same es
      → ((d : D) → items_at same d es ≡ with_digest same d ws) → length es ≡ length (awaited_in ws)
  awaited-entries [] [] k some h = refl
  awaited-entries [] (w ∷ ws) k some h =
      let one : with_digest same w.digest (w ∷ ws) ≡ w.waiter ∷ with_digest same w.digest ws = rw (laws.refl w.digest) refl in
      let no : [] ≡ w.waiter ∷ with_digest same w.digest ws = h w.digest ∙ one in absurd cc
  awaited-entries (x ∷ es) ws k some h =
      let left : List (Awaiting W D) = filter (λ w. not (same x.0 w.digest)) ws in
      let found : lookup (same x.0) (x ∷ es) ≡ Some x.1 = rw (laws.refl x.0) refl in
      let here : items_at same x.0 (x ∷ es) ≡ x.1 = rw (laws.refl x.0) refl in
      let there : 0 < length (with_digest same x.0 ws) = subst (λ vs. 0 < length vs) (sym here ∙ h x.0) (some x.0 x.1 found) in
      let rest : length es ≡ length (awaited_in left) = awaited-entries es left (IsDistinct-rest laws x.0 (keys_of es) k) (NoneEmpty-rest x es k some)
      (λ d. entry_out same laws (λ w. true) d x es ws (among-head laws x.0 (keys_of es) k) (h d)) in
      let out : awaited_in left ≡ without same x.0 (awaited_in ws) = ap (first_places same) (digests-without x.0 ws) ∙ first_places-without laws x.0 (map (λ w. w.digest) ws) in
      ap suc (rest ∙ ap length out)
      ∙ sym (length-without laws x.0 (awaited_in ws) (IsDistinct-first_places laws (map (λ w. w.digest) ws)) (among-first_places laws x.0 (map (λ w. w.digest) ws) ∙ someone x.0 ws there))

module _ {P M D W V : Type 0} {s : Setting P M D} {same : Same P D} (is : s.same ≡ same) (lawful : IsLawful same)
    {past : History P M D W V} {core : Content P M D W} (has : HasContent s past core) where
  -- a core awaits as many digests as its history
  pub awaited-counted : IsDistinct same.digest (keys_of core.waiters) → NoneEmpty same.digest core.waiters → length core.waiters ≡ length (awaited s past)
  awaited-counted distinct some =
      let laws = subst (λ m. IsLawful m) (sym is) lawful in
      awaited-entries s.same.digest laws.digest core.waiters (waiting s past) (subst (λ m. IsDistinct m.digest (keys_of core.waiters)) (sym is) distinct)
      (subst (λ m. NoneEmpty m.digest core.waiters) (sym is) some) has.waiters
