-- The numbers that are drawn, one after the other, from a first number.
use Rattle.std.specs.Prelude.{ℕ, zero, suc, ◌+◌, ◌*◌, ◌/◌, ◌%◌, ◌^◌}

-- what is kept from one draw to the next
abbrev pub next_state : ℕ → ℕ
next_state x = (6364136223846793005 * x + 1442695040888963407) % 2 ^ 64

-- the number below n that a draw gives, where it leaves x to be kept
abbrev pub drawn : ℕ → ℕ → ℕ
drawn x n = x / 2 ^ 33 % n

-- what is kept after so many draws
unfoldable pub state_after : ℕ → ℕ → ℕ
state_after number zero = number
state_after number (suc draws) = next_state (state_after number draws)

-- the draw below n that comes after so many others, of a first number
abbrev pub draw : ℕ → ℕ → ℕ → ℕ
draw number before n = drawn (state_after number (before + 1)) n
