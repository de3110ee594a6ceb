-- Internal.
-- The digests that were told and not yet taken.
use Rattle.std.specs.Prelude.{Bool, List}

pub record ToldOf (D : Type 0) : Type 0 where
  pub digests : List D
  -- whether one may have been told of any other digest too
  pub may_be_any : Bool
