-- What each byte is worth, as a table has it.
use Rattle.std.proofs.Common.{◌≡◌, ◌∙◌, ℕ, zero, suc, ◌+◌, ◌-◌, ◌<◌, ◌≤◌, Bool, true, false, cond, ◌&&◌, T, eqb, eqb→eq, List, [], ◌∷◌, length, get_or, ap, arith}
use Rattle.std.specs.Char.{is_ascii_digit}
use lib.Ieee.Fits.{and_l, and_r}
use Rattle.block_reader.specs.declared.fields.TheConstants.{WORTHS}
use Rattle.block_reader.specs.Fronts.{worth}

-- whether a table goes on with what the bytes are worth from one on
abbrev are_worths : ℕ → List ℕ → Bool
are_worths n [] = true
are_worths n (value ∷ rest) = eqb value (worth n) && are_worths (n + 1) rest

worth_from : (k n byte : ℕ) (xs : List ℕ) → T (are_worths n xs) → byte ≡ n + k → k < length xs → get_or xs k 0 ≡ worth byte
worth_from k n byte [] all is room = absurd (omega (arith, room))
worth_from zero n byte (value ∷ rest) all is room =
    let same : n ≡ byte = omega (arith, is) in
    eqb→eq _ _ (and_l (eqb value (worth n)) (are_worths (n + 1) rest) all) ∙ ap worth same
worth_from (suc k) n byte (value ∷ rest) all is room =
    worth_from k (n + 1) byte rest (and_r (eqb value (worth n)) (are_worths (n + 1) rest) all) (omega (arith, is)) (omega (arith, room))

pub worth_at : (byte : ℕ) → byte < 256 → get_or WORTHS byte 0 ≡ worth byte
unfolding worth
worth_at byte low = worth_from byte 0 byte WORTHS tt (omega arith) low

-- no byte is worth more than one that is no digit
most : (b : Bool) (value : ℕ) → value ≤ 1000000 → cond b value 1000000 ≤ 1000000
most true value low = low
most false value low = omega arith

pub worth_most : (byte : ℕ) → byte < 256 → worth byte ≤ 1000000
unfolding worth
worth_most byte low = most (is_ascii_digit byte) (byte - 48) (omega (arith, low))
