-- How a line is read. No public clause cites this file.
use Rattle.std.specs.Prelude.{◌≡◌, ◌≤◌, false, List, length, Option, Some, None, IsSome, Result, Ok, Err}
use Rattle.taxi_text.specs.declared.command.CommandRefused.{CommandRefused}
use Rattle.taxi_text.specs.declared.command.CommandRefused.TheVariants.{BadLine, Memory}
use Rattle.taxi_text.specs.declared.gathered.Gathered.{Gathered}

-- the answer to a reading that finds this: memory may run out where there is something
abbrev pub IsReading : {X : Type 0} → Option X → Result X CommandRefused → Type 0
IsReading found (Ok x) = found ≡ Some x
IsReading found (Err BadLine) = found ≡ None
IsReading found (Err Memory) = IsSome found

-- what was gathered of these: their number, and all of them unless memory ran out
pub record StandsFor {T : Type 0} (items : List T) (gathered : Gathered T) : Type 0 where
  pub counted : gathered.count ≡ length items
  pub few : gathered.count ≤ 256
  pub kept : gathered.lost ≡ false → gathered.items ≡ items
