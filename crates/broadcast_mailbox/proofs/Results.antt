-- What a result that is no error says.
use Rattle.std.proofs.Common.{◌≡◌, ◌⊎◌, Bool, true, false, cond, List, [], ◌∷◌, ◌++◌, Result, Ok, Err, is_ok, is_err}
use Rattle.broadcast_mailbox.specs.Overflow.{Handles}

-- of two values chosen by a result that is no error, the first
pub chosen-ok : {T E X : Type 0} (r : Result T E) (y a b : X) → false ≡ is_err r → y ≡ cond (is_ok r) a b → y ≡ a
chosen-ok (Ok x) y a b fine is = is
chosen-ok (Err e) y a b fine is = cc

-- a message that was handled with no error was discarded or stands last
pub handled-ok : {T E : Type 0} (answers : T → Bool → Type 0) (old : List T) (message : T) (r : Result Unit E) (new : List T) → false ≡ is_err r → Handles answers old message r new
    → (answers message true × (new ≡ old)) ⊎ (answers message false × (new ≡ old ++ message ∷ []))
handled-ok answers old message (Ok done) new fine handles = handles
handled-ok answers old message (Err e) new fine handles = cc

-- a message whose handling failed answered open, and the others are as they were
pub handled-err : {T E : Type 0} (answers : T → Bool → Type 0) (old : List T) (message : T) (r : Result Unit E) (new : List T) → true ≡ is_err r → Handles answers old message r new
    → answers message false × (new ≡ old)
handled-err answers old message (Ok done) new failed handles = cc
handled-err answers old message (Err e) new failed handles = handles
