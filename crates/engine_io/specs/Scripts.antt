-- Believed.
-- Sources whose polls have given results.
use Rattle.std.specs.Prelude.{◌≡◌, List, [], ◌∷◌, ◌++◌}
use Rattle.futures.specs.declared.task.Poll.{Poll}
use Rattle.futures.specs.declared.task.Poll.TheVariants.{Pending}

-- the results of all polls, and those that are still to come
pub record Scripted (A : Type 0) : Type 0 where
  pub all : List (Poll A)
  pub rest : List (Poll A)

module _ {A : Type 0} where
  -- the result of the next poll: pending once the list is over
  abbrev pub next_of : List (Poll A) → Poll A
  next_of [] = Pending
  next_of (result ∷ results) = result

  -- the results after the next poll
  abbrev pub after_next : List (Poll A) → List (Poll A)
  after_next [] = []
  after_next (result ∷ results) = results

  -- the values that results give
  abbrev pub values : {B : Type 0} → (Poll A → List B) → List (Poll A) → List B
  values given [] = []
  values given (result ∷ results) = given result ++ values given results

  -- the script has given this list: with the values still to come it makes all
  abbrev pub HasGiven : {B : Type 0} → (Poll A → List B) → Scripted A → List B → Type 0
  HasGiven given script list = list ++ values given script.rest ≡ values given script.all

  -- the next poll of the script is pending
  abbrev pub IsQuiet : Scripted A → Type 0
  IsQuiet script = next_of script.rest ≡ Pending
