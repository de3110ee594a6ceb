-- Believed.
-- What a poll of a source gives.
use Rattle.std.specs.Prelude.{List, [], ◌∷◌, Option, None, Some, Result, Ok, Err, ⊤}
use Rattle.futures.specs.declared.task.Poll.{Poll}
use Rattle.futures.specs.declared.task.Poll.TheVariants.{Ready, Pending}

module _ {A : Type 0} where
  -- the value of a ready poll
  abbrev pub given : Poll A → List A
  given (Ready a) = a ∷ []
  given Pending = []

  -- the value, until the source ends
  abbrev pub given_some : Poll (Option A) → List A
  given_some (Ready (Some a)) = a ∷ []
  given_some (Ready None) = []
  given_some Pending = []

  -- the value, unless the source fails
  abbrev pub given_ok : {E : Type 0} → Poll (Result A E) → List A
  given_ok (Ready (Ok a)) = a ∷ []
  given_ok (Ready (Err e)) = []
  given_ok Pending = []

  -- the poll tells that the source has failed
  abbrev pub IsFailure : {E : Type 0} → Poll (Result A E) → Type 0
  IsFailure (Ready (Ok a)) = ⊥
  IsFailure (Ready (Err e)) = ⊤
  IsFailure Pending = ⊥
