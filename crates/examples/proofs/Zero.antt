-- Counters of zeros.
use Rattle.std.proofs.Common.{◌≡◌, Bool, refl}
use Rattle.engine_io.specs.Counters.{Counted, peer, receive, subscribe, get, number_at, zero_counters}
use Rattle.engine_io.specs.declared.metrics.Status.TheVariants.{Success, Failure, Invalid, Dropped}

module _ {P : Type 0} (same : P → P → Bool) where
  pub number-zero : (c : Counted P) → number_at same c zero_counters ≡ 0
  number-zero (peer p) = refl
  number-zero (receive Success) = refl
  number-zero (receive Failure) = refl
  number-zero (receive Invalid) = refl
  number-zero (receive Dropped) = refl
  number-zero (subscribe Success) = refl
  number-zero (subscribe Failure) = refl
  number-zero (subscribe Invalid) = refl
  number-zero (subscribe Dropped) = refl
  number-zero (get Success) = refl
  number-zero (get Failure) = refl
  number-zero (get Invalid) = refl
  number-zero (get Dropped) = refl
