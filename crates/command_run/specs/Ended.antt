-- Which lines have ended in the first bytes of a file, and which of its commands are answered?
use Rattle.std.specs.Prelude.{ℕ, not, nat_lt, ◌==◌, List, length, take, drop, filter, count_by, if◌then◌else◌}
use Rattle.taxi_text.specs.Lines.{lines_of, is_skipped}

-- the lines that have ended in these bytes, whatever comes behind them: each line feed ends one
abbrev pub ended_lines_of : List ℕ → List (List ℕ)
ended_lines_of bytes = take (count_by (λ b. b == 10) bytes) (lines_of bytes)

-- those that haven't: the last line, if it has a byte and no line feed
abbrev pub unended_lines_of : List ℕ → List (List ℕ)
unended_lines_of bytes = drop (count_by (λ b. b == 10) bytes) (lines_of bytes)

-- those of some lines that hold commands
abbrev pub commands_among : List (List ℕ) → List (List ℕ)
commands_among lines = filter (λ line. not (is_skipped line)) lines

-- the commands whose lines have ended in these bytes
abbrev pub ended_commands_of : List ℕ → List (List ℕ)
ended_commands_of bytes = commands_among (ended_lines_of bytes)

-- The lines of a file whose commands are answered: all of a file of so many bytes at most, and of a longer one those that have ended
-- in its first so many bytes.
abbrev pub lines_within : ℕ → List ℕ → List (List ℕ)
lines_within limit file = if nat_lt limit (length file) then ended_lines_of (take limit file) else lines_of file

-- the commands among them
abbrev pub commands_within : ℕ → List ℕ → List (List ℕ)
commands_within limit file = commands_among (lines_within limit file)
