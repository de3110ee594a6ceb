-- A cleanup by digest is a cleanup by place.
use Rattle.std.proofs.Common.{◌≡◌, ℕ, ◌+◌, ◌<◌, ◌≤◌, Bool, true, false, not, ◌==◌, if◌then◌else◌, cond, List, [], ◌∷◌, filter, refl, sym, ap, ◌∙◌, subst, arith, inl, inr}
use Rattle.std.specs.Cmp.{IsEquivalence}
use Rattle.std.proofs.lemmas.Bool.{eq-eqb, ne_eqb}
use Rattle.broadcast_core.specs.Waiters.{DropsClosed}
use Rattle.broadcast_core.proofs.Distinct.{by_test}
use Rattle.broadcast_core.specs.Waiting.{Awaiting, with_digest}
use Rattle.broadcast_core.specs.HasContent.{AnswersAs}

module _ {W D : Type 0} where
  -- no place stands twice: each is after those before it
  abbrev pub Rises : ℕ → List (Awaiting W D) → Type 0
  Rises n [] = Unit {0}
  Rises n (w ∷ ws) = (n ≤ w.place) × Rises (w.place + 1) ws

  -- a test that names another place names the rest alike
  filter-apart : (n : ℕ) (b : Bool) (test : ℕ → W → Bool) (ws : List (Awaiting W D)) (m : ℕ) → n < m → Rises m ws
      → filter (λ (w : Awaiting W D). not (if w.place == n then b else test w.place w.waiter)) ws ≡ filter (λ (w : Awaiting W D). not (test w.place w.waiter)) ws
  filter-apart n b test [] m above h = refl
  filter-apart n b test (w ∷ ws) m above h =
      let other : (w.place == n) ≡ false = ne_eqb w.place n (λ e. absurd (omega (arith, h.0))) in
      rw other (ap (λ vs. cond (not (test w.place w.waiter)) (w ∷ vs) vs) (filter-apart n b test ws (w.place + 1) (omega (arith, h.0)) h.1))

  answers-apart : (may_answer : W → Bool → Type 0) (n : ℕ) (b : Bool) (test : ℕ → W → Bool) (ws : List (Awaiting W D)) (m : ℕ) → n < m → Rises m ws
      → AnswersAs may_answer test ws → AnswersAs may_answer (λ k w. if k == n then b else test k w) ws
  answers-apart may_answer n b test [] m above h all = tt
  answers-apart may_answer n b test (w ∷ ws) m above h all =
      let other : (w.place == n) ≡ false = ne_eqb w.place n (λ e. absurd (omega (arith, h.0))) in (
        rw other all.0,
        answers-apart may_answer n b test ws (w.place + 1) (omega (arith, h.0)) h.1 all.1,
      )

module _ {W D : Type 0} (same : D → D → Bool) (may_answer : W → Bool → Type 0) where
  -- a choice of places that leaves these lists
  pub record Choice (ws : List (Awaiting W D)) (kept : D → List W) : Type 0 where
    pub test : ℕ → W → Bool
    pub left : (d : D) → kept d ≡ with_digest same d (filter (λ w. not (test w.place w.waiter)) ws)
    pub answered : AnswersAs may_answer test ws

  module _ (laws : IsEquivalence same) where
    with_digest-equal : (d e : D) (ws : List (Awaiting W D)) → same d e ≡ true → with_digest same d ws ≡ with_digest same e ws
    with_digest-equal d e [] h = refl
    with_digest-equal d e (w ∷ ws) h = rw (laws.congr d e w.digest h) (by_test (same e w.digest)
        (λ t. rw t (ap (λ vs. w.waiter ∷ vs) (with_digest-equal d e ws h)))
        (λ t. rw t (with_digest-equal d e ws h)))

    -- lists that equal digests share
    abbrev pub Shared : (D → List W) → Type 0
    Shared kept = (d e : D) → same d e ≡ true → kept d ≡ kept e

    -- the first who waits answers closed
    named : (w : Awaiting W D) (ws : List (Awaiting W D)) (kept : D → List W) → Rises (w.place + 1) ws
        → may_answer w.waiter true → Choice ws kept → Choice (w ∷ ws) kept
    named w ws kept apart says rest =
        let here : (w.place == w.place) ≡ true = eq-eqb w.place w.place refl in
        record {
          test = λ k v. if k == w.place then true else rest.test k v;
          left = λ d. rest.left d ∙ rw (here, filter-apart w.place true rest.test ws (w.place + 1) (omega arith) apart) refl;
          answered = (rw here says, answers-apart may_answer w.place true rest.test ws (w.place + 1) (omega arith) apart rest.answered);
        }

    -- or open
    passed : (w : Awaiting W D) (ws : List (Awaiting W D)) (kept : D → List W) (tail : List W) → Rises (w.place + 1) ws → Shared kept → kept w.digest ≡ w.waiter ∷ tail
        → may_answer w.waiter false → Choice ws (λ d. if same w.digest d then tail else kept d) → Choice (w ∷ ws) kept
    passed w ws kept tail apart shared is says rest =
        let here : (w.place == w.place) ≡ true = eq-eqb w.place w.place refl in
        record {
          test = λ k v. if k == w.place then false else rest.test k v;
          left = λ d. rw (here, filter-apart w.place false rest.test ws (w.place + 1) (omega arith) apart) (by_test (same w.digest d)
              (λ t. let turned : same d w.digest ≡ true = laws.symm d w.digest ∙ t in
              let more : tail ≡ with_digest same d (filter (λ v. not (rest.test v.place v.waiter)) ws) = rw t at (rest.left d) in
              rw turned (sym (shared w.digest d t) ∙ is ∙ ap (λ vs. w.waiter ∷ vs) more))
              (λ t. let turned : same d w.digest ≡ false = laws.symm d w.digest ∙ t in
              let more : kept d ≡ with_digest same d (filter (λ v. not (rest.test v.place v.waiter)) ws) = rw t at (rest.left d) in
              rw turned more));
          answered = (rw here says, answers-apart may_answer w.place false rest.test ws (w.place + 1) (omega arith) apart rest.answered);
        }

    -- what each digest's list says of the answers gives one choice of places for all digests
    pub choose : (n : ℕ) (ws : List (Awaiting W D)) (kept : D → List W) → Rises n ws → Shared kept
        → ((d : D) → DropsClosed may_answer (with_digest same d ws) (kept d)) → Choice ws kept
    choose n [] kept apart shared drops = record { test = λ k w. false; left = drops; answered = tt }
    choose n (w ∷ ws) kept apart shared drops =
        let itself : same w.digest w.digest ≡ true = laws.refl w.digest in
        let first : DropsClosed may_answer (w.waiter ∷ with_digest same w.digest ws) (kept w.digest) = rw itself at (drops w.digest) in
        elim first [
          | inl (says, more) ↦ named w ws kept apart.1 says (choose (w.place + 1) ws kept apart.1 shared (λ d. by_test (same w.digest d)
              (λ t. subst (λ vs. DropsClosed may_answer vs (kept d)) (with_digest-equal w.digest d ws t) (subst (λ vs. DropsClosed may_answer (with_digest same w.digest ws) vs) (shared w.digest d t) more))
              (λ t. let turned : same d w.digest ≡ false = laws.symm d w.digest ∙ t in rw turned at (drops d))))
          | inr (says, (tail, is, more)) ↦ passed w ws kept tail apart.1 shared is says (choose (w.place + 1) ws (λ d. if same w.digest d then tail else kept d) apart.1
              (λ d e t. rw (laws.symm w.digest d, laws.congr d e w.digest t, laws.symm e w.digest) (ap (λ vs. if same w.digest e then tail else vs) (shared d e t)))
              (λ d. by_test (same w.digest d)
              (λ t. rw t (subst (λ vs. DropsClosed may_answer vs tail) (with_digest-equal w.digest d ws t) more))
              (λ t. let turned : same d w.digest ≡ false = laws.symm d w.digest ∙ t in rw t (rw turned at (drops d)))))
        ]
