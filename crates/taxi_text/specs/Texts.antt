-- How a short text is stored. No public clause cites this file.
use Rattle.std.specs.Prelude.{ℕ, ◌-◌, List, ◌++◌, length, replicate}

-- the bytes, and zeros up to 64
abbrev pub with_zeros : List ℕ → List ℕ
with_zeros bytes = bytes ++ replicate (64 - length bytes) 0
