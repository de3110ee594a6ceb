-- What a caller reads that has written a message.
use Rattle.std.proofs.Common.{◌≡◌, Result, Ok, Err, IfOk, sym, inl, inr}
use Rattle.broadcast_core.specs.declared.codec.CodecError.{CodecError}
use Rattle.broadcast_core.specs.Codec.{GivesOrLacks}

pub decodes_again : {M : Type 0} (result : Result M CodecError) (message : M) (read : Result M CodecError) → ((decoded : M) → read ≡ Ok decoded → decoded ≡ message) → GivesOrLacks result read → IfOk result (λ decoded. decoded ≡ message)
decodes_again (Ok decoded) message read law (inl given) = law decoded (sym given)
decodes_again (Ok decoded) message read law (inr lacks) = absurd (let never = lacks.0 in cc)
decodes_again (Err e) message read law given = tt
