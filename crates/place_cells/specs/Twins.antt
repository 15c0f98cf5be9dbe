-- Do both arcs of a segment have as many numbers?
use Rattle.std.specs.Prelude.{ℕ, ◌≡◌, ◌+◌, ◌*◌, ◌<◌, List, length}
use Rattle.place_cells.specs.Laid.{first_in}

-- the blocks of a segment's arcs are of the same length
abbrev pub AreTwins : List ℕ → Type 0
AreTwins first = (s : ℕ) → 2 * s + 2 < length first → first_in first (2 * s + 1) + first_in first (2 * s + 1) ≡ first_in first (2 * s) + first_in first (2 * s + 2)
