-- How are counts kept? No public clause cites this file.
use Rattle.std.specs.Prelude.{ℕ, ◌+◌, Bool, ◌||◌, List, bytes_eq, codes, if◌then◌else◌}
use Rattle.run_figures.specs.declared.counting.Count.{Count}
use Rattle.run_figures.specs.Counts.{count_of}

-- a kind that did not come yet
abbrev pub none_yet : List ℕ → Count
none_yet kind = count_of kind 0

-- a count, and one more where it is of the kind with these words
abbrev pub with_one : List ℕ → Count → Count
with_one words count = count_of count.kind (count.number + (if bytes_eq count.kind words then 1 else 0))

-- whether a block that begins with this word refuses a command or tells of several flights
abbrev pub tells_more : List ℕ → Bool
tells_more word = bytes_eq word (codes "refused") || (bytes_eq word (codes "batch") || bytes_eq word (codes "late"))
