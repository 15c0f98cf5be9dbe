-- What a reading gives that succeeds exactly where a test is passed, and then gives what was read.
use Rattle.std.proofs.Common.{◌≡◌, ◌↔◌, Bool, true, false, List, ℕ, Option, Some, None, refl, ap}
use Rattle.std.specs.Prelude.{IsTrue, IsSome, IfSome, if◌then◌else◌}

pub read-gives : (read : Option (List ℕ)) (text : List ℕ) (passes : Bool) → IsSome read ↔ IsTrue passes → IfSome read (λ start. start ≡ text)
    → read ≡ (if passes then Some text else None)
read-gives None text true some same = absurd (cc (some.1 refl))
read-gives None text false some same = refl
read-gives (Some start) text true some same = ap Some same
read-gives (Some start) text false some same = absurd (cc (some.0 refl))
