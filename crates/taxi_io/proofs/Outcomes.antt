-- What holds of every outcome, and of a failure that was counted.
use Rattle.std.proofs.Common.{◌≡◌, ℕ, Result, Ok, Err, OnOk, OnErr, IfOk, IsErrOf, is_err, arith}
use Rattle.taxi_io.specs.Calls.{faults_after}
use Rattle.taxi_io.specs.Counts.{Rose}
use Rattle.taxi_io.specs.declared.trouble.Trouble.{Trouble}
use Rattle.taxi_io.specs.declared.trouble.Trouble.TheVariants as trouble

pub on_ok : {T E P : Type 0} (r : Result T E) → P → OnOk r P
on_ok (Ok x) p = p
on_ok (Err e) p = tt

pub on_err : {T E P : Type 0} (r : Result T E) → P → OnErr r P
on_err (Ok x) p = tt
on_err (Err e) p = p

pub on_err_both : {T E P : Type 0} (Q : Type 0) (r : Result T E) → P → OnErr r Q → OnErr r (P × Q)
on_err_both Q (Ok x) p q = tt
on_err_both Q (Err e) p q = (p, q)

pub if_ok : {T E : Type 0} {P : T → Type 0} (r : Result T E) → ((x : T) → P x) → IfOk r P
if_ok (Ok x) p = p x
if_ok (Err e) p = tt

-- where each error is counted, the count rose at a failure
pub failed-Rose : {T : Type 0} (r : Result T Trouble) (before now : ℕ) → now ≡ faults_after (is_err r) before → IsErrOf r trouble.Failed → Rose before now
failed-Rose (Ok x) before now e h = cc
failed-Rose (Err x) before now e h = omega arith
