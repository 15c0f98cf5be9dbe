-- Which line of a text ends first, and what stands behind it?
use Rattle.std.specs.Prelude.{ℕ, ◌==◌, ◌+◌, List, [], ◌∷◌, Option, Some, None, length, take, drop, position, option_map, if◌then◌else◌}
use Rattle.std.specs.Borrow.{Bor}
use Rattle.std.specs.Str.Lines.{strip_carriage_return}

-- how many bytes stand before the first line feed
abbrev pub line_end : List ℕ → Option ℕ
line_end kept = position (λ b. b == 10) kept

-- the first line, without its line feed and without one carriage return at its end; none where no line has ended
abbrev pub first_line_of : List ℕ → Option (List ℕ)
first_line_of kept = option_map (λ end. strip_carriage_return (take end kept)) (line_end kept)

abbrev pub behind_line : List ℕ → Option ℕ → List ℕ
behind_line kept None = kept
behind_line kept (Some end) = drop (end + 1) kept

-- what stands behind the first line and its line feed
abbrev pub behind_first_line : List ℕ → List ℕ
behind_first_line kept = behind_line kept (line_end kept)

-- all that is left, as a last line that has no line feed; none where nothing is left
abbrev pub last_line_of : List ℕ → Option (List ℕ)
last_line_of kept = if length kept == 0 then None else Some (strip_carriage_return kept)

-- the bytes that are lent, if any are
abbrev pub lent : Option (Bor (List ℕ)) → Option (List ℕ)
lent bytes = option_map (λ b. b.now) bytes

-- the place of the first line's end, once a piece stands behind so many bytes: the old place, or one in the piece
abbrev pub line_end_with : Option ℕ → ℕ → List ℕ → Option ℕ
line_end_with (Some end) before piece = Some end
line_end_with None before piece = option_map (λ end. before + end) (line_end piece)

-- a line, if there is one, and no more
abbrev pub only_line : Option (List ℕ) → List (List ℕ)
only_line None = []
only_line (Some line) = line ∷ []
