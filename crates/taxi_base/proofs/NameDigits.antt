-- The bytes of a name as digits in base 256: how large they are, and that a number of sixteen of them fits.
use Rattle.std.proofs.Common.{◌≡◌, ◌<◌, ◌≤◌, ◌+◌, ◌*◌, ◌^◌, ℕ, List, true, arith, add-one}
use Rattle.std.specs.Prelude.{IsTrue}
use Rattle.std.specs.List.{list_all}
use Rattle.std.proofs.lemmas.Bool.Decides.{nat_tests}
use Rattle.std.proofs.Math.Nat.{pow-le-pow_right, pow-suc}
use Rattle.taxi_base.specs.Words.{is_name, is_name_byte}

pub byte-range : (b : ℕ) → is_name_byte b ≡ true → (1 ≤ b) × (b < 256)
byte-range b e = (grind (arith, nat_tests), grind (arith, nat_tests))

pub name-bytes : (name : List ℕ) → IsTrue (is_name name) → list_all is_name_byte name ≡ true
name-bytes name e = grind (arith, nat_tests)

-- a number of at most fifteen digits has room for one more
pub digit-fits : (n place b : ℕ) → n < 256 ^ place → place < 16 → b < 256 → n * 256 + b < 2 ^ 128
digit-fits n place b low few byte =
    let short : place ≤ 15 = omega arith in
    let most : 256 ^ place ≤ 256 ^ 15 = pow-le-pow_right {n = 256} (omega arith) short in
    omega (arith, most, low)

pub digit-grows : (n place b : ℕ) → n < 256 ^ place → b < 256 → n * 256 + b < 256 ^ (place + 1)
digit-grows n place b low byte =
    let more : 256 ^ (place + 1) ≡ 256 ^ place * 256 = rw add-one (pow-suc 256 place) in
    omega (arith, more, low, byte)
