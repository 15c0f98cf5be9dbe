-- A text that is written piece by piece.
use Rattle.std.proofs.Common.{◌≡◌, ℕ, List, ◌++◌}

-- all of a text but this rest has come to what was there
abbrev pub HasCome : List ℕ → List ℕ → List ℕ → List ℕ → Type 0
HasCome text old rest new = (written : List ℕ) × (text ≡ written ++ rest) × (new ≡ old ++ written)
