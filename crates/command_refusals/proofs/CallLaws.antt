-- What calls that may fail did.
use Rattle.std.proofs.Common.{◌≡◌, false}
use Rattle.std.specs.Prelude.{Result, Ok, Err, OnOk, is_err}

-- what a call that did not fail did
pub done_ok : {A B : Type 0} (r : Result A B) (P : Type 0) → OnOk r P → is_err r ≡ false → P
done_ok (Ok x) P h e = h
done_ok (Err x) P h e = absurd (cc e)
