-- The digits of a number and the byte behind them, as a table has them.
use Rattle.std.proofs.Common.{◌≡◌, ℕ, zero, suc, ◌+◌, ◌*◌, ◌/◌, ◌%◌, ◌<◌, ◌≤◌, Bool, true, ◌&&◌, T, eqb, List, [], ◌∷◌, ◌++◌, length, take, drop, length-append, get_or, decimal, ◌∙◌, sym, ap, eqb→eq, refl, arith}
use Rattle.std.proofs.lemmas.List.{get_or-drop, get_or-take}
use Rattle.std.proofs.lemmas.Fmt.{decimal_step}
use Rattle.itoa.proofs.Decimal.{pair, decimal_two, decimal_pair}
use lib.Ieee.Fits.{and_l, and_r}
use Rattle.block_writer.specs.declared.digits.TheConstants.{TRIPLES}

-- the three digits of a number below 1,000, and a blank
abbrev pub triple : ℕ → List ℕ
triple t = (48 + t / 100) ∷ (48 + t / 10 % 10) ∷ (48 + t % 10) ∷ 32 ∷ []

-- whether a table goes on with the triples from a number on
abbrev are_triples : ℕ → List ℕ → Bool
are_triples n (a ∷ b ∷ c ∷ d ∷ rest) =
    ((eqb a (48 + n / 100) && eqb b (48 + n / 10 % 10)) && (eqb c (48 + n % 10) && eqb d 32)) && are_triples (n + 1) rest
are_triples n _ = true

triple_from : (k n t at : ℕ) (xs : List ℕ) → T (are_triples n xs) → t ≡ n + k → at ≡ k * 4 → at + 4 ≤ length xs → take 4 (drop at xs) ≡ triple t
triple_from k n t at [] all is place room = absurd (omega arith)
triple_from k n t at (a ∷ []) all is place room = absurd (omega arith)
triple_from k n t at (a ∷ b ∷ []) all is place room = absurd (omega arith)
triple_from k n t at (a ∷ b ∷ c ∷ []) all is place room = absurd (omega arith)
triple_from zero n t at (a ∷ b ∷ c ∷ d ∷ rest) all is place room =
    let same : t ≡ n = omega arith in
    let first : at ≡ 0 = omega arith in
    let here : T ((eqb a (48 + n / 100) && eqb b (48 + n / 10 % 10)) && (eqb c (48 + n % 10) && eqb d 32)) = and_l _ (are_triples (n + 1) rest) all in
    let two : T (eqb a (48 + n / 100) && eqb b (48 + n / 10 % 10)) = and_l _ (eqb c (48 + n % 10) && eqb d 32) here in
    let others : T (eqb c (48 + n % 10) && eqb d 32) = and_r (eqb a (48 + n / 100) && eqb b (48 + n / 10 % 10)) _ here in
    let is_a : a ≡ 48 + n / 100 = eqb→eq _ _ (and_l _ (eqb b (48 + n / 10 % 10)) two) in
    let is_b : b ≡ 48 + n / 10 % 10 = eqb→eq _ _ (and_r (eqb a (48 + n / 100)) _ two) in
    let is_c : c ≡ 48 + n % 10 = eqb→eq _ _ (and_l _ (eqb d 32) others) in
    let is_d : d ≡ 32 = eqb→eq _ _ (and_r (eqb c (48 + n % 10)) _ others) in
    rw (same, first, is_a, is_b, is_c, is_d)
triple_from (suc k) n t at (a ∷ b ∷ c ∷ d ∷ rest) all is place room =
    let behind : at ≡ suc (suc (suc (suc (k * 4)))) = omega arith in
    rw behind (triple_from k (n + 1) t (k * 4) rest (and_r _ (are_triples (n + 1) rest) all) (omega arith) refl (omega arith))

-- one byte of what four bytes of a list are
byte_of : (xs four : List ℕ) (at j : ℕ) → j < 4 → take 4 (drop at xs) ≡ four → get_or xs (at + j) 0 ≡ get_or four j 0
byte_of xs four at j low is = sym (get_or-drop at xs j 0) ∙ sym (get_or-take 4 (drop at xs) j 0 low) ∙ ap (λ (l : List ℕ). get_or l j 0) is

-- the four bytes of a number in a table of triples
triple_in : (xs : List ℕ) → T (are_triples 0 xs) → (t : ℕ) → t * 4 + 4 ≤ length xs
    → (get_or xs (t * 4) 0 ≡ 48 + t / 100) × (get_or xs (t * 4 + 1) 0 ≡ 48 + t / 10 % 10)
    × (get_or xs (t * 4 + 2) 0 ≡ 48 + t % 10) × (get_or xs (t * 4 + 3) 0 ≡ 32)
triple_in xs all t room =
    let four : take 4 (drop (t * 4) xs) ≡ triple t = triple_from t 0 t (t * 4) xs all (omega arith) refl room in
    let start : t * 4 ≡ t * 4 + 0 = omega arith in (
      ap (λ (i : ℕ). get_or xs i 0) start ∙ byte_of xs (triple t) (t * 4) 0 (omega arith) four,
      byte_of xs (triple t) (t * 4) 1 (omega arith) four,
      byte_of xs (triple t) (t * 4) 2 (omega arith) four,
      byte_of xs (triple t) (t * 4) 3 (omega arith) four,
    )

pub triple_at : (t : ℕ) → t < 1000
    → (get_or TRIPLES (t * 4) 0 ≡ 48 + t / 100) × (get_or TRIPLES (t * 4 + 1) 0 ≡ 48 + t / 10 % 10)
    × (get_or TRIPLES (t * 4 + 2) 0 ≡ 48 + t % 10) × (get_or TRIPLES (t * 4 + 3) 0 ≡ 32)
triple_at t low =
    let long : length TRIPLES ≡ 4000 = refl in
    triple_in TRIPLES tt t (omega (arith, low, long))

-- the two digits of a number below 100, behind a nought
pub pair_at : (p : ℕ) → p < 100 → (get_or TRIPLES (p * 4 + 1) 0 ≡ 48 + p / 10) × (get_or TRIPLES (p * 4 + 2) 0 ≡ 48 + p % 10)
pair_at p low =
    let t = triple_at p (omega arith) in
    let tens : p / 10 % 10 ≡ p / 10 = omega arith in
    (t.1 ∙ ap (λ (n : ℕ). 48 + n) tens, t.2)

-- a number of five digits
pub decimal_five : (n : ℕ) → 10000 ≤ n → n ≤ 99999 → decimal n ++ 32 ∷ [] ≡ pair (n / 1000) ++ triple (n % 1000)
decimal_five n lo hi =
    let a : n / 100 / 10 ≡ n / 1000 = omega arith in
    let b : n / 100 % 10 ≡ n % 1000 / 100 = omega arith in
    let c : n % 100 / 10 ≡ n % 1000 / 10 % 10 = omega arith in
    let d : n % 100 % 10 ≡ n % 1000 % 10 = omega arith in
    rw (decimal_pair n (omega arith) (omega arith), decimal_step (n / 100) (omega arith) (omega arith), a, decimal_two (n / 1000) (omega arith) (omega arith), b, c, d)

pub length_five : (n : ℕ) → 10000 ≤ n → n ≤ 99999 → length (decimal n) ≡ 5
length_five n lo hi = omega (arith, length-append (decimal n) (32 ∷ []), ap length (decimal_five n lo hi))

-- a number of three digits
abbrev pub three : ℕ → List ℕ
three t = (48 + t / 100) ∷ (48 + t / 10 % 10) ∷ (48 + t % 10) ∷ []

decimal_three : (n : ℕ) → 100 ≤ n → n < 1000 → decimal n ≡ three n
decimal_three n lo hi =
    let a : n / 10 / 10 ≡ n / 100 = omega arith in
    rw (decimal_step n (omega arith) (omega arith), decimal_two (n / 10) (omega arith) (omega arith), a)

-- a number of six digits
pub decimal_six : (n : ℕ) → 100000 ≤ n → n ≤ 999999 → decimal n ++ 32 ∷ [] ≡ three (n / 1000) ++ triple (n % 1000)
decimal_six n lo hi =
    let a : n / 100 / 10 ≡ n / 1000 = omega arith in
    let b : n / 100 % 10 ≡ n % 1000 / 100 = omega arith in
    let c : n % 100 / 10 ≡ n % 1000 / 10 % 10 = omega arith in
    let d : n % 100 % 10 ≡ n % 1000 % 10 = omega arith in
    rw (decimal_pair n (omega arith) (omega arith), decimal_step (n / 100) (omega arith) (omega arith), a, decimal_three (n / 1000) (omega arith) (omega arith), b, c, d)

pub length_six : (n : ℕ) → 100000 ≤ n → n ≤ 999999 → length (decimal n) ≡ 6
length_six n lo hi = omega (arith, length-append (decimal n) (32 ∷ []), ap length (decimal_six n lo hi))
