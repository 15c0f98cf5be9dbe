use Rattle.std.proofs.Common.{ℕ, suc, ◌+◌, ◌*◌, ◌/◌, ◌<◌, ◌≤◌, [], length, get_or}
use Rattle.taxi_base.specs.Windows.{AreApart}
use Rattle.place_cells.specs.Laid.{windows_of, first_in}
use Rattle.place_cells.proofs.numbers.CellNumbers.have_room.Given as goal

-- the arcs so far have numbers for their windows, which lie apart
abbrev pub invariant-loop-segment : goal.invariant-loop-segment
invariant-loop-segment l =
    ((a : ℕ) → a < 2 * l.segment → first_in l.self.first.items a + length (get_or (windows_of l.store) (a / 2) []) ≤ first_in l.self.first.items (suc a))
    × ((a : ℕ) → a < 2 * l.segment → AreApart 0 (get_or (windows_of l.store) (a / 2) []))
