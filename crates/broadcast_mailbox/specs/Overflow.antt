-- Believed.
-- What an overflow keeps, and what draining it offers.
use Rattle.std.specs.Prelude.{◌≡◌, ℕ, ◌<◌, ◌≤◌, length, ◌⊎◌, Bool, true, false, List, [], ◌∷◌, ◌++◌}
use Rattle.std.specs.Prelude.{Option, None, Some, Result, Ok, Err}

module _ {T : Type 0} (answers : T → Bool → Type 0) where
  -- a message that answered closed is dropped, and one that answered open becomes the last; only an
  -- open one may fail, and then the messages stay as they were
  abbrev pub Handles : {E : Type 0} → List T → T → Result Unit E → List T → Type 0
  Handles old message (Ok done) new =
      (answers message true × (new ≡ old))
      ⊎ (answers message false × (new ≡ old ++ message ∷ []))
  Handles old message (Err refused) new = answers message false × (new ≡ old)

  -- from the front on, a message that answered closed is skipped, and one that answered open is
  -- offered to the push; one that is handed back stays first, and none behind it is looked at
  abbrev pub Drains :
      {F : Type 0} → (F → T → Option T → F → Type 0) → F → List T → List T → List T → F → Type 0
  Drains push first [] skipped new last = (skipped ≡ []) × (new ≡ []) × (last ≡ first)
  Drains {F} push first (x ∷ xs) skipped new last =
      (answers x true
      × ((others : List T) × (skipped ≡ x ∷ others) × Drains push first xs others new last))
      ⊎ ((answers x false
      × ((mid : F) × push first x None mid × Drains push mid xs skipped new last))
      ⊎ (answers x false × (skipped ≡ [])
      × ((back : T) × push first x (Some back) last × (new ≡ back ∷ xs))))

-- a push that appends the message to a list of fewer than `size`, and else hands it back
abbrev pub PutsWithin : {T : Type 0} → ℕ → List T → T → Option T → List T → Type 0
PutsWithin size ready message None after = (length ready < size) × (after ≡ ready ++ message ∷ [])
PutsWithin size ready message (Some back) after =
    (size ≤ length ready) × (back ≡ message) × (after ≡ ready)
