-- Faults that are passed on.
use Rattle.std.proofs.Common.{◌≡◌, Result, Ok, Err, ap}
use Rattle.std.specs.Result.{IsErrAnd}

-- the fault that a `?` passes on
pub passed_on : {T E : Type 0} (r : Result T E) (fault : E) → IsErrAnd r (λ e. e ≡ fault) → r ≡ Err fault
passed_on (Ok x) fault is = absurd is
passed_on (Err e) fault is = ap Err is
