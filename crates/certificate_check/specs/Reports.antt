-- Which block tells what is held of a segment, and which tells the flights in force?
use Rattle.std.specs.Prelude.{◌≡◌, List, map}
use Rattle.taxi_base.specs.declared.numbers.Segment.{Segment}
use Rattle.taxi_base.specs.declared.rows.HeldRow.{HeldRow}
use Rattle.taxi_base.specs.declared.answers.Flight.{Flight}
use Rattle.taxi_base.specs.Airport.{Airport}
use Rattle.taxi_base.specs.State.{State}
use Rattle.taxi_base.specs.Reports.{flight_row, AreHeldRows}
use Rattle.replies.specs.declared.block.Block.{Block}
use Rattle.replies.specs.declared.block.Block.TheVariants.{Occupancy, Timetable}

abbrev pub IsOccupancyOf : Airport → State → Segment → Block → Type 0
IsOccupancyOf airport state segment block = (rows : List HeldRow) × (block ≡ Occupancy segment rows) × AreHeldRows airport state segment rows

abbrev pub IsTimetableOf : List Flight → Block → Type 0
IsTimetableOf flights block = block ≡ Timetable (map flight_row flights)
